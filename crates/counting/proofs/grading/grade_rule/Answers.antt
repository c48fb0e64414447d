use Rattle.counting.proofs.GradingLaw.{grading_rule}
use Rattle.counting.proofs.grading.grade_rule.Goals as goal

pub returns : goal.returns
returns g c = grading_rule g.W.Value.Value.kind g.met.W.Value.Value.lawful g.W.Machine.model
