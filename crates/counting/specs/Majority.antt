-- Majorities: what stands at more than half of the places.
use Rattle.std.specs.Prelude.{◌≡◌, ℕ, ◌*◌, ◌<◌, ◌≤◌, Some, None, Option}
use Rattle.protocol.specs.Kind.{Kind}
use Rattle.protocol.specs.Places.{places}

-- no other word than w stands at more than half of the n places
abbrev pub OnlyCandidate : (row : ℕ → ℕ) (n w : ℕ) → Type 0
OnlyCandidate row n w = (u : ℕ) → n < 2 * places row u n → u ≡ w

-- the value that more than half of the n places read as, with their number; none if there is no such value
abbrev pub Majority : {V : Type 0} (K : Kind V) (row : ℕ → ℕ) (n : ℕ) → Option (V × ℕ) → Type 0
Majority {V} K row n None = (v : V) → 2 * places row (K.word v) n ≤ n
Majority K row n (Some best) = (best.1 ≡ places row (K.word best.0) n) × (n < 2 * best.1)
