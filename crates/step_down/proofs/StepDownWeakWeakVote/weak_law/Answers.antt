use Rattle.step_down.proofs.StepDownLaw.{stepdown_weak}
use Rattle.step_down.proofs.StepDownWeakWeakVote.weak_law.Goals as goal

pub returns : goal.returns
returns g c = stepdown_weak g.F.Machine.model c.full_law.ensures
