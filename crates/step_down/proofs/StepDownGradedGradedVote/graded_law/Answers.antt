use Rattle.step_down.proofs.StepDownLaw.{stepdown_graded}
use Rattle.step_down.proofs.StepDownGradedGradedVote.graded_law.Goals as goal

pub returns : goal.returns
returns g c = stepdown_graded g.F.Machine.model c.full_law.ensures
