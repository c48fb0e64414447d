-- Words, and how a listener reads a row of them.
use Rattle.std.specs.Prelude.{ℕ, cond, List, ◌==◌, slice_index_or}

-- the word that reads as no value of any kind
abbrev pub silent : ℕ
silent = 18446744073709551615

-- the word at place j of a row, as the station `own`, which said `said` in this round, reads it:
-- its own word at its own place, silence past the row's end
abbrev pub heard_at : (own said : ℕ) → List ℕ → ℕ → ℕ
heard_at own said row j = cond (j == own) said (slice_index_or row j silent)
