use Rattle.step_down.proofs.StepDownLaw.{answering_orderly}
use Rattle.step_down.proofs.StepDownMachine.orderly.Goals as goal

pub returns : goal.returns
returns g c = answering_orderly g.A.Form.form g.F.Machine.model c.orderly.ensures
