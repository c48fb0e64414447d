-- The numbers of the chains of one length: ascending by first station, then second, from 0.
use Rattle.std.specs.Prelude.{◌≡◌, ℕ, zero, suc, ◌<◌, cond, ◌⊎◌, List, [], ◌∷◌, length, slice_index_or}
use Rattle.std.specs.List.{AllByRecursion as Every}
use Rattle.std.specs.Str.{bytes_eq as same}
use Rattle.eig.specs.Chain.{Chain, within}

-- c followed by each of n stations that is not in it, ascending, and then the rest
abbrev pub longer : (n : ℕ) → List ℕ → (rest : List (List ℕ)) → List (List ℕ)
longer zero c rest = rest
longer (suc n) c rest = longer n c (cond (within n c) rest ((n ∷ c) ∷ rest))

abbrev pub extended : (n : ℕ) → List (List ℕ) → List (List ℕ)
extended n [] = []
extended n (c ∷ cs) = longer n c (extended n cs)

-- the chains of k out of n stations
abbrev pub chains : (n k : ℕ) → List (List ℕ)
chains n zero = [] ∷ []
chains n (suc k) = extended n (chains n k)

-- at which place of a list c stands
abbrev pub place : List ℕ → List (List ℕ) → ℕ
place c [] = 0
place c (d ∷ ds) = cond (same c d) 0 (suc (place c ds))

-- the number of a chain among those of its length
abbrev pub number : (n : ℕ) → List ℕ → ℕ
number n c = place c (chains n (length c))

-- c comes before d, which is as long: by first station, then second. A chain has its last station first.
abbrev pub Before : List ℕ → List ℕ → Type 0
Before [] d = ⊥
Before (r ∷ c) [] = ⊥
Before (r ∷ c) (s ∷ d) = Before c d ⊎ ((c ≡ d) × (r < s))

abbrev pub Ascending : List (List ℕ) → Type 0
Ascending [] = Unit {0}
Ascending (c ∷ cs) = Every (Before c) cs × Ascending cs

-- `chains n k` are the chains of k out of n stations and nothing else, each at its number, in ascending order
pub record Numbering : Type 0 where
  pub only_chains : (n k : ℕ) → Every (λ c. Chain n c × (length c ≡ k)) (chains n k)
  pub each_numbered : (n : ℕ) (c : List ℕ) → Chain n c →
      (number n c < length (chains n (length c))) × (slice_index_or (chains n (length c)) (number n c) [] ≡ c)
  pub ascending : (n k : ℕ) → Ascending (chains n k)
