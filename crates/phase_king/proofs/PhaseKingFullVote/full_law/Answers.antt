use Rattle.phase_king.proofs.PhaseKingLaw.{king_full}
use Rattle.phase_king.proofs.PhaseKingFullVote.full_law.Goals as goal

pub returns : goal.returns
returns g c =
    king_full g.G.Value.Value.kind g.G.Machine.model c.orderly.ensures
    g.met.G.Value.Value.lawful c.graded_law.ensures
