use Rattle.phase_king.proofs.PhaseKingLaw.{king_orderly}
use Rattle.phase_king.proofs.PhaseKingMachine.orderly.Goals as goal

pub returns : goal.returns
returns g c = king_orderly g.G.Value.Value.kind g.G.Machine.model c.orderly.ensures
