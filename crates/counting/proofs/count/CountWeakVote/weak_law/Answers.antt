use Rattle.counting.proofs.CountLaw.{counting_weak}
use Rattle.counting.proofs.count.CountWeakVote.weak_law.Goals as goal

pub returns : goal.returns
returns g c = counting_weak g.V.Value.kind g.met.V.Value.lawful
