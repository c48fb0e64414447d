-- Counting: how many stations pass a test, and how many places hold a word.
use Rattle.std.specs.Prelude.{ℕ, zero, suc, ◌+◌, Bool, cond, nat_eq}

-- how many of the numbers below n pass the test p
abbrev pub count : (ℕ → Bool) → ℕ → ℕ
count p zero = 0
count p (suc n) = cond (p n) 1 0 + count p n

-- how many of the first n places hold the word w, where `row j` is the word at place j
abbrev pub places : (row : ℕ → ℕ) → (w n : ℕ) → ℕ
places row w n = count (λ j. nat_eq (row j) w) n
