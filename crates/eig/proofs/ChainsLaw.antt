-- The enumerated chains are all chains of a length and nothing else, each at its number, in ascending order.
use Rattle.std.proofs.Common.{◌≡◌, ℕ, zero, suc, ◌<◌, Bool, true, false, cond, ◌⊎◌, List, [], ◌∷◌, length, get_or, sym, refl, ap, inl, inr, arith}
use Rattle.std.proofs.lemmas.Bool.{both_ways, cases_eq}
use Rattle.std.proofs.lemmas.Slice.Eq.{bytes_eq-Decides}
use Rattle.std.specs.List.{AllByRecursion as Every}
use Rattle.std.specs.Str.{bytes_eq as same}
use Rattle.eig.specs.Chain.{Chain, within}
use Rattle.eig.specs.Numbering.{longer, extended, chains, place, number, Before, Ascending, Numbering}

pub same_refl : (c : List ℕ) → same c c ≡ true
same_refl c = (bytes_eq-Decides c c).1 refl

pub same_true : (c d : List ℕ) → same c d ≡ true → c ≡ d
same_true c d e = (bytes_eq-Decides c d).0 e

-- c stands in a list
abbrev pub In : List ℕ → List (List ℕ) → Type 0
In c [] = ⊥
In c (d ∷ ds) = (c ≡ d) ⊎ In c ds

in_rest : (n : ℕ) (d e : List ℕ) (rest : List (List ℕ)) → In e rest → In e (longer n d rest)
in_rest zero d e rest h = h
in_rest (suc n) d e rest h = in_rest n d e (cond (within n d) rest ((n ∷ d) ∷ rest)) (go (within n d))
  where
    go : (b : Bool) → In e (cond b rest ((n ∷ d) ∷ rest))
    go true = h
    go false = inr h

in_longer : (n r : ℕ) (c : List ℕ) (rest : List (List ℕ)) → r < n → within r c ≡ false → In (r ∷ c) (longer n c rest)
in_longer zero r c rest h w = absurd (omega arith)
in_longer (suc n) r c rest h w = go (cases_eq r n) (λ p. in_longer n r c more p w)
  where
    more : List (List ℕ)
    more = cond (within n c) rest ((n ∷ c) ∷ rest)

    go : (r ≡ n) ⊎ (r ≡ n → ⊥) → (r < n → In (r ∷ c) (longer n c more)) → In (r ∷ c) (longer n c more)
    go (inl e) _ =
        let here : In (n ∷ c) more = rw (rw e at w) (inl refl) in
        in_rest n c (r ∷ c) more (rw e here)
    go (inr e) less = less (omega arith)

in_extended : (n r : ℕ) (c : List ℕ) (cs : List (List ℕ)) → r < n → within r c ≡ false → In c cs →
    In (r ∷ c) (extended n cs)
in_extended n r c [] h w i = absurd i
in_extended n r c (d ∷ ds) h w (inl e) = rw (← e) (in_longer n r c (extended n ds) h w)
in_extended n r c (d ∷ ds) h w (inr i) = in_rest n d (r ∷ c) (extended n ds) (in_extended n r c ds h w i)

pub in_chains : (n : ℕ) (c : List ℕ) → Chain n c → In c (chains n (length c))
in_chains n [] v = inl refl
in_chains n (r ∷ c) v = in_extended n r c (chains n (length c)) v.0 v.1 (in_chains n c v.2)

-- what stands in a list stands at its place
at_place : (c : List ℕ) (cs : List (List ℕ)) → In c cs →
    (place c cs < length cs) × (get_or cs (place c cs) [] ≡ c)
at_place c [] i = absurd i
at_place c (d ∷ ds) i = go (same c d) refl i (at_place c ds)
  where
    Here : ℕ → Type 0
    Here k = (k < length (d ∷ ds)) × (get_or (d ∷ ds) k [] ≡ c)

    go : (b : Bool) → same c d ≡ b → In c (d ∷ ds) →
        (In c ds → (place c ds < length ds) × (get_or ds (place c ds) [] ≡ c)) → Here (cond b 0 (suc (place c ds)))
    go true e _ _ = (omega arith, sym (same_true c d e))
    go false e (inl p) _ = absurd (both_ways (same c d) e (rw (← p) (same_refl c)))
    go false e (inr j) later = let h = later j in (let l = h.0 in omega arith, h.1)

pub each_numbered : (n : ℕ) (c : List ℕ) → Chain n c →
    (number n c < length (chains n (length c))) × (get_or (chains n (length c)) (number n c) [] ≡ c)
each_numbered n c v = at_place c (chains n (length c)) (in_chains n c v)

all_longer : (P : List ℕ → Type 0) (n : ℕ) (c : List ℕ) (rest : List (List ℕ)) →
    ((r : ℕ) → r < n → within r c ≡ false → P (r ∷ c)) → Every P rest → Every P (longer n c rest)
all_longer P zero c rest h e = e
all_longer P (suc n) c rest h e =
    all_longer P n c (cond (within n c) rest ((n ∷ c) ∷ rest)) (λ r p. h r (omega arith)) (go (within n c) refl)
  where
    go : (b : Bool) → within n c ≡ b → Every P (cond b rest ((n ∷ c) ∷ rest))
    go true w = e
    go false w = (h n (omega arith) w, e)

all_extended : (P Q : List ℕ → Type 0) (n : ℕ) (cs : List (List ℕ)) →
    ((c : List ℕ) → P c → (r : ℕ) → r < n → within r c ≡ false → Q (r ∷ c)) → Every P cs → Every Q (extended n cs)
all_extended P Q n [] h e = tt
all_extended P Q n (c ∷ cs) h e =
    all_longer Q n c (extended n cs) (h c e.0) (all_extended P Q n cs h e.1)

-- a chain of k out of n stations
abbrev pub ChainOf : (n k : ℕ) → List ℕ → Type 0
ChainOf n k c = Chain n c × (length c ≡ k)

pub only_chains : (n k : ℕ) → Every (ChainOf n k) (chains n k)
only_chains n zero = ((tt, refl), tt)
only_chains n (suc k) =
    all_extended (ChainOf n k) (ChainOf n (suc k)) n (chains n k)
    (λ c p r h w. ((h, w, p.0), ap suc p.1)) (only_chains n k)

ascends_longer : (n : ℕ) (c : List ℕ) (rest : List (List ℕ)) → ((r : ℕ) → r < n → Every (Before (r ∷ c)) rest) →
    Ascending rest → Ascending (longer n c rest)
ascends_longer zero c rest h a = a
ascends_longer (suc n) c rest h a =
    ascends_longer n c (cond (within n c) rest ((n ∷ c) ∷ rest)) (λ r p. below r p (within n c)) (here (within n c))
  where
    below : (r : ℕ) → r < n → (b : Bool) → Every (Before (r ∷ c)) (cond b rest ((n ∷ c) ∷ rest))
    below r p true = h r (omega arith)
    below r p false = (inr (refl, p), h r (omega arith))

    here : (b : Bool) → Ascending (cond b rest ((n ∷ c) ∷ rest))
    here true = a
    here false = (h n (omega arith), a)

ascends_extended : (n : ℕ) (cs : List (List ℕ)) → Ascending cs → Ascending (extended n cs)
ascends_extended n [] a = tt
ascends_extended n (c ∷ cs) a =
    ascends_longer n c (extended n cs)
    (λ r p. all_extended (Before c) (Before (r ∷ c)) n cs (λ d before s q w. inl before) a.0)
    (ascends_extended n cs a.1)

ascends : (n k : ℕ) → Ascending (chains n k)
ascends n zero = (tt, tt)
ascends n (suc k) = ascends_extended n (chains n k) (ascends n k)

pub numbering : Numbering
numbering = record { only_chains = only_chains; each_numbered = each_numbered; ascending = ascends }
