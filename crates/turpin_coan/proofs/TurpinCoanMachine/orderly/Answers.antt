use Rattle.turpin_coan.proofs.TurpinCoanLaw.{tc_orderly}
use Rattle.turpin_coan.proofs.TurpinCoanMachine.orderly.Goals as goal

pub returns : goal.returns
returns g c =
    tc_orderly g.G.Value.Value.kind g.G.Machine.model c.orderly.ensures g.B.Machine.model
    c.orderly-2.ensures
