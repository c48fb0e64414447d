use Rattle.protocol.proofs.CourseLaw.{runs_exist_lem}
use Rattle.protocol.proofs.runs.runs_exist.Goals as goal

pub returns : goal.returns
returns g c = runs_exist_lem g.M.Machine.model
