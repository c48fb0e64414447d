-- Compositions by name.
use Rattle.std.specs.Prelude.{ℕ, zero, suc}
use Rattle.compositions.specs.Composition.{Over, Given, OnSwitch, Full, Graded, Composition}
use Rattle.compositions.specs.Composition.{Counting, Grading, PhaseKing, TurpinCoan, AsGraded}

-- grading of the counting vote
abbrev pub graded : (o : Over) → Composition o Graded
graded o = Grading Counting

-- phase kings one above the other, the lowest over grading of the counting vote
abbrev pub kings : (o : Over) (above : ℕ) → Composition o Full
kings o zero = PhaseKing (graded o)
kings o (suc above) = PhaseKing (AsGraded (kings o above))

-- a phase king, on the switch too, and values of any kind decided by it
abbrev pub king : (o : Over) → Composition o Full
king o = kings o 0

abbrev pub multivalued : Composition Given Full
multivalued = TurpinCoan (graded Given) (king OnSwitch)
