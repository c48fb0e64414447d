use Rattle.counting.proofs.CountLaw.{counting_orderly}
use Rattle.counting.proofs.count.CountMachine.orderly.Goals as goal

pub returns : goal.returns
returns g c = counting_orderly g.V.Value.kind
