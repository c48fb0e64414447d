-- Chains: lists of different stations. A chain has its last station first, so that `r ∷ c` is c followed by r.
use Rattle.std.specs.Prelude.{◌≡◌, ℕ, zero, suc, ◌*◌, ◌<◌, Bool, true, false, not, ◌&&◌, ◌||◌, List, [], ◌∷◌, ◌==◌, nat_lt}
use Rattle.protocol.specs.Places.{count}

-- whether station r is in a chain
abbrev pub within : (r : ℕ) → List ℕ → Bool
within r [] = false
within r (q ∷ c) = r == q || within r c

-- a list of different stations out of n
abbrev pub Chain : (n : ℕ) → List ℕ → Type 0
Chain n [] = Unit {0}
Chain n (r ∷ c) = (r < n) × (within r c ≡ false) × Chain n c

-- how many of the n stations are not in c and pass a test
abbrev pub others : (n : ℕ) → List ℕ → (test : ℕ → Bool) → ℕ
others n c test = count (λ r. not (within r c) && test r) n

-- how many chains are one longer than c and begin with it: one for each station that is not in it
abbrev pub longer_chains : (n : ℕ) → List ℕ → ℕ
longer_chains n c = others n c (λ r. true)

-- what c resolves to, Go being true: where it is `below` short of the longest chains, to Go if more than half of its
-- one-longer chains do; a longest one to what is held for it
abbrev pub resolved : (n : ℕ) → (held : List ℕ → Bool) → (below : ℕ) → List ℕ → Bool
resolved n held zero c = held c
resolved n held (suc below) c =
    nat_lt (longer_chains n c) (2 * others n c (λ r. resolved n held below (r ∷ c)))
