-- The vote that the program runs: an operating point by Turpin-Coan over grading of counting and, on the switch,
-- a phase king over grading of counting.
use Rattle.std.specs.Prelude.{Bool, List, Option}
use Rattle.protocol.specs.Kind.{Kind}
use Rattle.protocol.specs.Protocol.{Protocol}
use Rattle.counting.specs.Counting.{counting}
use Rattle.counting.specs.Grading.{grading}
use Rattle.phase_king.specs.PhaseKing.{phase_king}
use Rattle.turpin_coan.specs.TurpinCoan.{turpin_coan}
use Rattle.values.specs.declared.point.Point.{Point}
use Rattle.values.specs.PointKind.{point_kind}
use Rattle.values.specs.SwitchKind.{switch_kind}
use Rattle.demo.specs.declared.scene.Scene.{Scene}
use Rattle.demo.specs.Promise.{answers_to}

abbrev pub graded : {V : Type 0} → Kind V → Protocol V (V × Bool)
graded K = grading K (counting K)

abbrev pub settling : Protocol Point Point
settling = turpin_coan point_kind (graded point_kind) (phase_king switch_kind (graded switch_kind))

-- what the correct stations of a scene answer
abbrev pub settled_in : Scene → List (Option Point)
settled_in scene = answers_to point_kind settling scene.entries scene.forged
