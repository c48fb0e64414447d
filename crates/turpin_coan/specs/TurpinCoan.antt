-- Turpin-Coan: full, over any graded vote of g rounds on a kind and any full vote of b rounds on the switch, in g + b
-- rounds. The switch vote is about whether the graded value is taken: it is begun with Go for grade 1, else with Hold.
-- The answer is the graded value if the switch vote answers Go, else rest.
use Rattle.std.specs.Prelude.{ℕ, ◌+◌, min, Bool, List, Some, None, Option}
use Rattle.protocol.specs.declared.setup.Setup.{Setup}
use Rattle.protocol.specs.Kind.{Kind, value_of}
use Rattle.protocol.specs.Protocol.{Protocol, saturated}
use Rattle.protocol.specs.Admission.{refusal, unless_refused}
use Rattle.protocol.specs.Nest.{on_answer}
use Rattle.protocol.specs.Words.{silent}
use Rattle.values.specs.declared.switch.Switch.{Switch}
use Rattle.values.specs.declared.switch.Switch.TheVariants.{Hold, Go}
use Rattle.values.specs.SwitchKind.{switch_of}
use Rattle.turpin_coan.specs.declared.TurpinCoan.{TurpinCoan}
use Rattle.turpin_coan.specs.declared.TurpinCoan.TheVariants.{Idle, Grading, Deciding, Answered}

-- what is entered into the switch vote: Go for grade 1 (true), else Hold
abbrev pub entry_for : (grade : Bool) → Switch
entry_for grade = switch_of grade

-- the word of the answer
abbrev pub decided : {V : Type 0} → Kind V → (word : ℕ) → Switch → ℕ
decided K word Go = word
decided K word Hold = K.word K.rest

module _ {V : Type 0} (K : Kind V) (G : Protocol V (V × Bool)) (B : Protocol Switch Switch) where
  abbrev pub tc_stations : ℕ
  tc_stations = min G.max_stations B.max_stations

  abbrev pub tc_faulty : ℕ
  tc_faulty = min G.max_faulty B.max_faulty

  abbrev pub tc_rounds : (n t : ℕ) → ℕ
  tc_rounds n t = saturated (G.rounds n t + B.rounds n t)

  abbrev pub tc_begun : Setup → V → TurpinCoan G.State B.State
  tc_begun s v =
      unless_refused (refusal tc_stations tc_faulty (tc_rounds s.n s.t) s) Idle (Grading s (G.begun s v))

  abbrev pub tc_heard : TurpinCoan G.State B.State → List ℕ → TurpinCoan G.State B.State
  tc_heard Idle row = Idle
  tc_heard (Grading s graded) row =
      let next = G.heard graded row in
      on_answer (G.answer next) (Grading s next)
      (λ a. Deciding (K.word a.0) (B.begun s (entry_for a.1)))
  tc_heard (Deciding word switch) row =
      let next = B.heard switch row in
      on_answer (B.answer next) (Deciding word next) (λ decision. Answered (decided K word decision))
  tc_heard (Answered word) row = Answered word

  abbrev pub tc_said : TurpinCoan G.State B.State → ℕ
  tc_said Idle = silent
  tc_said (Grading s graded) = G.said graded
  tc_said (Deciding word switch) = B.said switch
  tc_said (Answered word) = silent

  abbrev pub tc_answer : TurpinCoan G.State B.State → Option V
  tc_answer Idle = None
  tc_answer (Grading s graded) = None
  tc_answer (Deciding word switch) = None
  tc_answer (Answered word) = Some (value_of K word)

  abbrev pub turpin_coan : Protocol V V
  turpin_coan = record {
    State = TurpinCoan G.State B.State;
    max_stations = tc_stations;
    max_faulty = tc_faulty;
    rounds = tc_rounds;
    begun = tc_begun;
    heard = tc_heard;
    said = tc_said;
    answer = tc_answer;
  }

-- the protocol's state that a machine is in, where `f` and `h` tell those of the machines below
abbrev pub tc_state : {S S' T T' : Type 0} → (f : S → S') → (h : T → T') → TurpinCoan S T → TurpinCoan S' T'
tc_state f h Idle = Idle
tc_state f h (Grading s graded) = Grading s (f graded)
tc_state f h (Deciding word switch) = Deciding word (h switch)
tc_state f h (Answered word) = Answered word
