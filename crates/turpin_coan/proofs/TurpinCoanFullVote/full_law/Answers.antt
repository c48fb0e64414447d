use Rattle.turpin_coan.proofs.TurpinCoanLaw.{tc_full}
use Rattle.turpin_coan.proofs.TurpinCoanFullVote.full_law.Goals as goal

pub returns : goal.returns
returns g c =
    tc_full g.G.Value.Value.kind g.G.Machine.model c.orderly.ensures g.B.Machine.model
    c.orderly-2.ensures g.met.G.Value.Value.lawful c.graded_law.ensures c.full_law.ensures
