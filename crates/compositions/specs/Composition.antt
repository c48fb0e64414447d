-- Every composition that the rules allow: a bottom vote, or a layer on compositions that promise what it needs.
use Rattle.std.specs.Prelude.{Bool, Option}
use Rattle.protocol.specs.Kind.{Kind}
use Rattle.protocol.specs.Laws.{WeakLaw, GradedLaw, FullLaw}
use Rattle.protocol.specs.Orderly.{Orderly}
use Rattle.protocol.specs.Protocol.{Protocol}
use Rattle.values.specs.declared.switch.Switch.{Switch}
use Rattle.values.specs.SwitchKind.{switch_kind}
use Rattle.counting.specs.Counting.{counting}
use Rattle.counting.specs.Grading.{grading}
use Rattle.phase_king.specs.PhaseKing.{phase_king}
use Rattle.turpin_coan.specs.TurpinCoan.{turpin_coan}
use Rattle.step_down.specs.StepDown.{as_weak, as_graded}

-- what is voted on: values of a given kind, or the switch
pub data Over : Type 0 where
  Given : Over
  OnSwitch : Over

-- which law is promised
pub data Promise : Type 0 where
  Weak : Promise
  Graded : Promise
  Full : Promise

pub data Composition : Over → Promise → Type 0 where
  Counting : {o : Over} → Composition o Weak
  Grading : {o : Over} → Composition o Weak → Composition o Graded
  PhaseKing : {o : Over} → Composition o Graded → Composition o Full
  TurpinCoan : {o : Over} → Composition o Graded → Composition OnSwitch Full → Composition o Full
  AsWeak : {o : Over} → Composition o Full → Composition o Weak
  AsGraded : {o : Over} → Composition o Full → Composition o Graded

-- the values that are voted on, and their kind
abbrev pub Entry : Type 0 → Over → Type 0
Entry V Given = V
Entry V OnSwitch = Switch

abbrev pub kind_of : {V : Type 0} → Kind V → (o : Over) → Kind (Entry V o)
kind_of K Given = K
kind_of K OnSwitch = switch_kind

abbrev pub Answer : Promise → Type 0 → Type 0
Answer Weak V = Option V
Answer Graded V = V × Bool
Answer Full V = V

-- the protocol that a composition is
abbrev pub protocol : {V : Type 0} (K : Kind V) {o : Over} {p : Promise} → Composition o p →
    Protocol (Entry V o) (Answer p (Entry V o))
protocol K (Counting {o = o}) = counting (kind_of K o)
protocol K (Grading {o = o} w) = grading (kind_of K o) (protocol K w)
protocol K (PhaseKing {o = o} g) = phase_king (kind_of K o) (protocol K g)
protocol K (TurpinCoan {o = o} g b) = turpin_coan (kind_of K o) (protocol K g) (protocol K b)
protocol K (AsWeak f) = as_weak (protocol K f)
protocol K (AsGraded f) = as_graded (protocol K f)

-- the law that a promise stands for
abbrev pub Law : (p : Promise) {V : Type 0} → Protocol V (Answer p V) → Type 0
Law Weak P = WeakLaw P
Law Graded P = GradedLaw P
Law Full P = FullLaw P

-- every composition is orderly and keeps the law that it promises
pub record Compositions {V : Type 0} (K : Kind V) : Type 0 where
  pub orderly : {o : Over} {p : Promise} (c : Composition o p) → Orderly (protocol K c)
  pub law : {o : Over} {p : Promise} (c : Composition o p) → Law p (protocol K c)
