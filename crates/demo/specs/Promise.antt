-- A vote of four stations of which station 0 is faulty: what the others answer, and what is promised of that,
-- whatever they enter and whatever station 0 sends.
use Rattle.std.specs.Prelude.{◌≡◌, ℕ, ◌-◌, ◌<◌, Bool, List, [], ◌∷◌, Some, None, Option, nat_lt, slice_index, slice_index_or}
use Rattle.protocol.specs.Course.{course}
use Rattle.protocol.specs.Kind.{Kind}
use Rattle.protocol.specs.Protocol.{Protocol}
use Rattle.protocol.specs.Words.{silent}

-- stations 1, 2 and 3 are correct
abbrev pub correct : ℕ → Bool
correct j = nat_lt 0 j

-- lists of entries, answers and words begin with station 1
abbrev pub entered : {V : Type 0} → Kind V → (entries : List V) → (station : ℕ) → V
entered K entries j = slice_index_or entries (j - 1) K.rest

-- the words that the faulty station sends in a round; past the list of rounds it is silent
abbrev pub sent_in : (forged : List (List ℕ)) → (round : ℕ) → List ℕ
sent_in forged k = slice_index_or forged k (silent ∷ (silent ∷ (silent ∷ [])))

abbrev pub sent : (forged : List (List ℕ)) → (round listener : ℕ) → ℕ
sent forged k i = slice_index (sent_in forged k) (i - 1)

module _ {V : Type 0} (K : Kind V) (P : Protocol V V) (entries : List V) (forged : List (List ℕ)) where
  -- the state of station i after k rounds
  abbrev pub state_of : (k i : ℕ) → P.State
  state_of = course P 4 1 correct (entered K entries) (λ round listener sender. sent forged round listener)

  -- what it answers then
  abbrev pub answer_of : (k i : ℕ) → Option V
  answer_of k i = P.answer (state_of k i)

  abbrev pub answers_after : (k : ℕ) → List (Option V)
  answers_after k = answer_of k 1 ∷ (answer_of k 2 ∷ (answer_of k 3 ∷ []))

  -- what the three correct stations answer after the last round
  abbrev pub answers_to : List (Option V)
  answers_to = answers_after (P.rounds 4 1)

-- the full law, said of what the three correct stations entered and answered
pub record Promise {V : Type 0} (K : Kind V) (entries : List V) (answers : List (Option V)) : Type 0 where
  pub validity : (v : V) → ((i : ℕ) → i < 3 → slice_index_or entries i K.rest ≡ v) → (i : ℕ) → i < 3 →
      slice_index_or answers i None ≡ Some v
  pub agreement : (i j : ℕ) → i < 3 → j < 3 →
      (v : V) × ((slice_index_or answers i None ≡ Some v) × (slice_index_or answers j None ≡ Some v))
