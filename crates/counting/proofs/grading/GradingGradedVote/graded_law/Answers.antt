use Rattle.counting.proofs.GradingLaw.{grading_graded}
use Rattle.counting.proofs.grading.GradingGradedVote.graded_law.Goals as goal

pub returns : goal.returns
returns g c =
    grading_graded g.W.Value.Value.kind g.W.Machine.model c.orderly.ensures
    g.met.W.Value.Value.lawful c.weak_law.ensures
