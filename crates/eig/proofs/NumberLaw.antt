-- How many chains there are, and the number of a chain by that of the chain without its last station.
use Rattle.std.proofs.Common.{◌≡◌, ℕ, zero, suc, ◌+◌, ◌-◌, ◌*◌, ◌<◌, Bool, true, false, cond, eqb, ◌⊎◌, List, [], ◌∷◌, length, sym, refl, ap, ◌∙◌, inl, inr, arith}
use Rattle.std.proofs.lemmas.Bool.{both_ways, ne_eqb, and_left, and_right, cases_eq}
use Rattle.std.specs.List.{AllByRecursion as Every}
use Rattle.std.specs.Str.{bytes_eq as same}
use Rattle.eig.specs.Chain.{Chain, within, longer_chains}
use Rattle.eig.specs.Numbering.{longer, extended, chains, place, number}
use Rattle.eig.proofs.OthersLaw.{others_chain}
use Rattle.eig.proofs.ChainsLaw.{ChainOf, In, same_refl, same_true, in_chains, only_chains}

longer_length : (n : ℕ) (c : List ℕ) (rest : List (List ℕ)) →
    length (longer n c rest) ≡ longer_chains n c + length rest
longer_length zero c rest = omega arith
longer_length (suc n) c rest =
    let ih = longer_length n c (cond (within n c) rest ((n ∷ c) ∷ rest)) in
    grind arith

extended_length : (n m : ℕ) (cs : List (List ℕ)) → Every (ChainOf n m) cs →
    length (extended n cs) ≡ length cs * (n - m)
extended_length n m [] e = omega arith
extended_length n m (c ∷ cs) e =
    let ih = extended_length n m cs e.1 in
    let here = longer_length n c (extended n cs) in
    let out = others_chain n c e.0.0 in
    let long = e.0.1 in
    let one : longer_chains n c ≡ n - m = omega arith in
    omega arith

chains_length : (n k : ℕ) → length (chains n (suc k)) ≡ length (chains n k) * (n - k)
chains_length n k = extended_length n k (chains n k) (only_chains n k)

pub chains_one : (n : ℕ) → length (chains n 1) ≡ n
chains_one n = omega (arith, chains_length n 0)

pub chains_two : (n : ℕ) → length (chains n 2) ≡ n * (n - 1)
chains_two n = chains_length n 1 ∙ ap (λ m. m * (n - 1)) (chains_one n)

-- a block of chains none of which is x
passes_by : (x : List ℕ) (n : ℕ) (d : List ℕ) (rest : List (List ℕ)) →
    ((q : ℕ) → q < n → same x (q ∷ d) ≡ false) → place x (longer n d rest) ≡ longer_chains n d + place x rest
passes_by x zero d rest h = omega arith
passes_by x (suc n) d rest h =
    let ih = passes_by x n d (cond (within n d) rest ((n ∷ d) ∷ rest)) (λ q p. h q (omega arith)) in
    let here = h n (omega arith) in
    grind arith

finds : (n r : ℕ) (c : List ℕ) (rest : List (List ℕ)) → r < n → within r c ≡ false →
    place (r ∷ c) (longer n c rest) ≡ longer_chains r c
finds zero r c rest h w = absurd (omega arith)
finds (suc n) r c rest h w = go (cases_eq r n) (λ p. finds n r c more p w)
  where
    more : List (List ℕ)
    more = cond (within n c) rest ((n ∷ c) ∷ rest)

    go : (r ≡ n) ⊎ (r ≡ n → ⊥) → (r < n → place (r ∷ c) (longer n c more) ≡ longer_chains r c) →
        place (r ∷ c) (longer n c more) ≡ longer_chains r c
    go (inl e) _ =
        let by = passes_by (r ∷ c) n c more (λ q p. and_left (eqb r q) (same c c) (ne_eqb r q (omega arith))) in
        let here : same (r ∷ c) (n ∷ c) ≡ true = rw e (same_refl (n ∷ c)) in
        let w' : within n c ≡ false = rw e at w in
        let at : longer_chains n c ≡ longer_chains r c = ap (λ m. longer_chains m c) (sym e) in
        grind arith
    go (inr e) less = less (omega arith)

place_cons : (n m r : ℕ) (c : List ℕ) (cs : List (List ℕ)) → r < n → within r c ≡ false → In c cs →
    Every (ChainOf n m) cs → place (r ∷ c) (extended n cs) ≡ place c cs * (n - m) + longer_chains r c
place_cons n m r c [] h w i e = absurd i
place_cons n m r c (d ∷ ds) h w i e = go (same c d) refl i (λ j. place_cons n m r c ds h w j e.1)
  where
    go : (b : Bool) → same c d ≡ b → In c (d ∷ ds) →
        (In c ds → place (r ∷ c) (extended n ds) ≡ place c ds * (n - m) + longer_chains r c) →
        place (r ∷ c) (longer n d (extended n ds)) ≡ cond b 0 (suc (place c ds)) * (n - m) + longer_chains r c
    go true s _ _ =
        let is : c ≡ d = same_true c d s in
        rw (← is) (finds n r c (extended n ds) h w ∙ omega arith)
    go false s (inl p) _ = absurd (both_ways (same c d) s (rw (← p) (same_refl c)))
    go false s (inr j) later =
        let by = passes_by (r ∷ c) n d (extended n ds) (λ q _. and_right (eqb r q) (same c d) s) in
        let out = others_chain n d e.0.0 in
        let long = e.0.1 in
        let one : longer_chains n d ≡ n - m = omega arith in
        let ih = later j in
        omega arith

-- before c followed by r come the blocks of the chains before c, and c followed by the stations below r
pub number_cons : (n r : ℕ) (c : List ℕ) → Chain n (r ∷ c) →
    number n (r ∷ c) ≡ number n c * (n - length c) + longer_chains r c
number_cons n r c v =
    place_cons n (length c) r c (chains n (length c)) v.0 v.1 (in_chains n c v.2) (only_chains n (length c))
