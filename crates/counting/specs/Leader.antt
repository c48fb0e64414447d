-- The leader of a row: the value that most places read as, with their number.
use Rattle.std.specs.Prelude.{◌≡◌, ℕ, zero, suc, ◌<◌, ◌≤◌, Bool, true, cond, ◌&&◌, ◌||◌, ◌⊎◌, List, map, Some, None, Option, ◌==◌, nat_lt}
use Rattle.std.specs.List.{filter_map, range_with_len}
use Rattle.protocol.specs.Kind.{Kind}
use Rattle.protocol.specs.Places.{places}

-- By the laws of a kind a place reads as v exactly if it holds the word of v, so `places row (K.word v) n` is how many
-- places read as v.

module _ {V : Type 0} (K : Kind V) where
  -- of two values with their counts, whether the second beats the first: a larger count, or an equal one and less
  abbrev pub beaten : (a b : V × ℕ) → Bool
  beaten a b = nat_lt a.1 b.1 || (a.1 == b.1 && K.less b.0 a.0)

  abbrev pub ahead : (a b : V × ℕ) → V × ℕ
  ahead a b = cond (beaten a b) b a

  -- one place more, which reads as a value or as none
  abbrev pub considered : (row : ℕ → ℕ) (n : ℕ) → V × ℕ → Option V → V × ℕ
  considered row n best None = best
  considered row n best (Some v) = ahead best (v, places row (K.word v) n)

  -- which value is ahead of those that the first k of n places read as; `row j` is the word at place j
  abbrev pub leading : (row : ℕ → ℕ) (n k : ℕ) → V × ℕ
  leading row n zero = (K.rest, 0)
  leading row n (suc k) = considered row n (leading row n k) (K.reads (row k))

  abbrev pub leader : (row : ℕ → ℕ) (n : ℕ) → V × ℕ
  leader row n = leading row n n

  -- the values that the n places read as, place by place, each with its count
  abbrev pub counted : (row : ℕ → ℕ) (n : ℕ) → List (V × ℕ)
  counted row n = map (λ v. (v, places row (K.word v) n)) (filter_map (λ j. K.reads (row j)) (range_with_len 0 n))

-- what a leader is; `leader` is proved to be one, and the only one
pub record Leads {V : Type 0} (K : Kind V) (row : ℕ → ℕ) (n : ℕ) (best : V × ℕ) : Type 0 where
  -- it has as many places as it is said to have, and no value has more
  pub has_places : best.1 ≡ places row (K.word best.0) n
  pub most_places : (v : V) → places row (K.word v) n ≤ best.1
  -- of the values with as many it is the least
  pub least : (v : V) → places row (K.word v) n ≡ best.1 → (v ≡ best.0) ⊎ (K.less best.0 v ≡ true)
  -- rest with 0 if no place reads as a value
  pub none : ((j : ℕ) → j < n → K.reads (row j) ≡ None) → best ≡ (K.rest, 0)

-- nothing else leads
abbrev pub LeadsAlone : {V : Type 0} (K : Kind V) (row : ℕ → ℕ) (n : ℕ) (best : V × ℕ) → Type 0
LeadsAlone {V} K row n best = (other : V × ℕ) → Leads K row n other → other ≡ best
