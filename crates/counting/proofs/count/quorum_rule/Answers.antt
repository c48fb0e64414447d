use Rattle.counting.proofs.CountLaw.{counting_rule}
use Rattle.counting.proofs.count.quorum_rule.Goals as goal

pub returns : goal.returns
returns g c = counting_rule g.V.Value.kind g.met.V.Value.lawful
