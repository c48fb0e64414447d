use Rattle.counting.proofs.GradingLaw.{grading_orderly}
use Rattle.counting.proofs.grading.GradingMachine.orderly.Goals as goal

pub returns : goal.returns
returns g c = grading_orderly g.W.Value.Value.kind g.W.Machine.model c.orderly.ensures
