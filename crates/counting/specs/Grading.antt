-- Grading: graded, over any weak vote, of one round more. After the weak vote a station says the word of its answer,
-- or the silent word. It answers the leader of the row, with grade 1 (true) if that has at least n - t places.
use Rattle.std.specs.Prelude.{ℕ, ◌+◌, ◌-◌, Bool, List, Some, None, Option, nat_le}
use Rattle.protocol.specs.declared.setup.Setup.{Setup}
use Rattle.protocol.specs.Kind.{Kind, word_of, value_of}
use Rattle.protocol.specs.Protocol.{Protocol, saturated}
use Rattle.protocol.specs.Admission.{refusal, unless_refused}
use Rattle.protocol.specs.Nest.{on_answer}
use Rattle.protocol.specs.Words.{silent}
use Rattle.counting.specs.declared.grading.Grading.{Grading}
use Rattle.counting.specs.declared.grading.Grading.TheVariants.{Idle, Voting, Polling, Answered}
use Rattle.protocol.specs.Heard.{view}
use Rattle.counting.specs.Leader.{leader}

module _ {V : Type 0} (K : Kind V) (W : Protocol V (Option V)) where
  abbrev pub grading_rounds : (n t : ℕ) → ℕ
  grading_rounds n t = saturated (W.rounds n t + 1)

  abbrev pub grading_begun : Setup → V → Grading W.State
  grading_begun s v =
      unless_refused (refusal W.max_stations W.max_faulty (grading_rounds s.n s.t) s)
      Idle (Voting s (W.begun s v))

  -- a value with its count, graded
  abbrev pub graded : (quorum : ℕ) → V × ℕ → Grading W.State
  graded quorum best = Answered (K.word best.0) (nat_le quorum best.1)

  abbrev pub grading_heard : Grading W.State → List ℕ → Grading W.State
  grading_heard Idle row = Idle
  grading_heard (Voting s weak) row =
      let next = W.heard weak row in
      on_answer (W.answer next) (Voting s next) (λ answer. Polling s (word_of K answer))
  grading_heard (Polling s word) row = graded (s.n - s.t) (leader K (view s word row) s.n)
  grading_heard (Answered word grade) row = Answered word grade

  abbrev pub grading_said : Grading W.State → ℕ
  grading_said Idle = silent
  grading_said (Voting s weak) = W.said weak
  grading_said (Polling s word) = word
  grading_said (Answered word grade) = silent

  abbrev pub grading_answer : Grading W.State → Option (V × Bool)
  grading_answer Idle = None
  grading_answer (Voting s weak) = None
  grading_answer (Polling s word) = None
  grading_answer (Answered word grade) = Some (value_of K word, grade)

  abbrev pub grading : Protocol V (V × Bool)
  grading = record {
    State = Grading W.State;
    max_stations = W.max_stations;
    max_faulty = W.max_faulty;
    rounds = grading_rounds;
    begun = grading_begun;
    heard = grading_heard;
    said = grading_said;
    answer = grading_answer;
  }

-- the protocol's state that a machine is in, where `f` tells that of the machine below
abbrev pub grading_state : {S T : Type 0} → (f : S → T) → Grading S → Grading T
grading_state f Idle = Idle
grading_state f (Voting s weak) = Voting s (f weak)
grading_state f (Polling s word) = Polling s word
grading_state f (Answered word grade) = Answered word grade
