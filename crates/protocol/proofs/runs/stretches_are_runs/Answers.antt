use Rattle.protocol.proofs.NestLaw.{stretches}
use Rattle.protocol.proofs.runs.stretches_are_runs.Goals as goal

pub returns : goal.returns
returns g c = stretches g.P.Machine.model g.L.Machine.model
