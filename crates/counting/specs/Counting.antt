-- The counting vote: weak, of one round. A station says its entry's word and answers the value that at least n - t
-- of the n places read as, or none.
use Rattle.std.specs.Prelude.{ℕ, ◌-◌, cond, List, Some, None, Option, nat_le}
use Rattle.protocol.specs.declared.setup.Setup.{Setup}
use Rattle.protocol.specs.Kind.{Kind}
use Rattle.protocol.specs.Protocol.{Protocol}
use Rattle.protocol.specs.Admission.{refusal, unless_refused}
use Rattle.protocol.specs.Words.{silent}
use Rattle.counting.specs.declared.count.CountState.{CountState}
use Rattle.counting.specs.declared.count.CountState.TheVariants.{Idle, Voting, Answered}
use Rattle.protocol.specs.Heard.{view}
use Rattle.counting.specs.Leader.{leader}

module _ {V : Type 0} (K : Kind V) where
  -- the word of the leader if it has the quorum, else the silent word
  abbrev pub settled : (quorum : ℕ) → V × ℕ → ℕ
  settled quorum best = cond (nat_le quorum best.1) (K.word best.0) silent

  abbrev pub count_begun : Setup → V → CountState
  count_begun s v = unless_refused (refusal 64 21 1 s) Idle (Voting s (K.word v))

  abbrev pub count_heard : CountState → List ℕ → CountState
  count_heard Idle row = Idle
  count_heard (Voting s word) row = Answered (settled (s.n - s.t) (leader K (view s word row) s.n))
  count_heard (Answered word) row = Answered word

  abbrev pub count_answer : CountState → Option (Option V)
  count_answer Idle = None
  count_answer (Voting s word) = None
  count_answer (Answered word) = Some (K.reads word)

abbrev pub count_said : CountState → ℕ
count_said Idle = silent
count_said (Voting s word) = word
count_said (Answered word) = silent

abbrev pub counting : {V : Type 0} → Kind V → Protocol V (Option V)
counting K = record {
  State = CountState;
  max_stations = 64;
  max_faulty = 21;
  rounds = λ n t. 1;
  begun = count_begun K;
  heard = count_heard K;
  said = count_said;
  answer = count_answer K;
}
