-- Counting the stations that are not in a chain.
use Rattle.std.proofs.Common.{◌≡◌, ℕ, zero, suc, ◌+◌, ◌*◌, ◌<◌, ◌≤◌, Bool, true, false, cond, not, ◌&&◌, ltb, List, [], ◌∷◌, length, refl, arith}
use Rattle.std.proofs.lemmas.Bool.{both_ways, lt-ltb, le-ltb}
use Rattle.std.proofs.lemmas.Bool.Decides.{nat_tests}
use Rattle.protocol.proofs.PlacesLaw.{count_same}
use Rattle.eig.specs.Chain.{Chain, within, others, longer_chains}

pub others_le : (n : ℕ) (c : List ℕ) (f g : ℕ → Bool) →
    ((r : ℕ) → r < n → within r c ≡ false → f r ≡ true → g r ≡ true) → others n c f ≤ others n c g
others_le zero c f g h = omega arith
others_le (suc n) c f g h =
    let ih = others_le n c f g (λ r p. h r (omega arith)) in
    let k = h n (omega arith) in
    grind arith

pub others_same : (n : ℕ) (c : List ℕ) (f g : ℕ → Bool) →
    ((r : ℕ) → r < n → within r c ≡ false → f r ≡ g r) → others n c f ≡ others n c g
others_same n c f g h = count_same (λ r. not (within r c) && f r) (λ r. not (within r c) && g r) n
    (λ r l. same (within r c) (f r) (g r) (h r l))
  where
    same : (w a b : Bool) → (w ≡ false → a ≡ b) → (not w && a) ≡ (not w && b)
    same true a b e = refl
    same false a b e = e refl

-- those that pass and those that fail
pub others_parts : (n : ℕ) (c : List ℕ) (f : ℕ → Bool) →
    others n c f + others n c (λ r. not (f r)) ≡ longer_chains n c
others_parts zero c f = refl
others_parts (suc n) c f =
    let ih = others_parts n c f in
    grind arith

-- no more than without the chain
pub others_root : (n : ℕ) (c : List ℕ) (f : ℕ → Bool) → others n c f ≤ others n [] f
others_root zero c f = omega arith
others_root (suc n) c f =
    let ih = others_root n c f in
    grind arith

pub others_all : (n : ℕ) → longer_chains n [] ≡ n
others_all zero = refl
others_all (suc n) = let ih = others_all n in omega arith

-- one station more in the chain
others_more : (n q : ℕ) (c : List ℕ) (f : ℕ → Bool) → within q c ≡ false → f q ≡ true →
    others n (q ∷ c) f + cond (ltb q n) 1 0 ≡ others n c f
others_more zero q c f w p = grind (arith, nat_tests)
others_more (suc n) q c f w p =
    let ih = others_more n q c f w p in
    grind (arith, nat_tests)

pub others_cons : (n q : ℕ) (c : List ℕ) (f : ℕ → Bool) → q < n → within q c ≡ false → f q ≡ true →
    others n (q ∷ c) f + 1 ≡ others n c f
others_cons n q c f l w p =
    let below : cond {A = ℕ} (ltb q n) 1 0 ≡ 1 = rw (lt-ltb q n l) in
    omega (arith, others_more n q c f w p)

-- a chain of k out of n stations has n - k one-longer ones
pub others_chain : (n : ℕ) (c : List ℕ) → Chain n c → longer_chains n c + length c ≡ n
others_chain n [] v = omega (arith, others_all n)
others_chain n (r ∷ c) v =
    let ih = others_chain n c v.2 in
    let one = others_cons n r c (λ q. true) v.0 v.1 refl in
    omega arith

-- where the correct stations outside a chain all pass or all fail a test, and are the majority, they decide it
pub majority : (n : ℕ) (c : List ℕ) (correct f : ℕ → Bool) (v : Bool) →
    2 * others n c (λ r. not (correct r)) < longer_chains n c →
    ((r : ℕ) → r < n → within r c ≡ false → correct r ≡ true → f r ≡ v) →
    ltb (longer_chains n c) (2 * others n c f) ≡ v
majority n c correct f true few h =
    let parts = others_parts n c correct in
    let most = others_le n c correct f h in
    lt-ltb _ _ (omega arith)
majority n c correct f false few h =
    let most = others_le n c f (λ r. not (correct r)) (λ r p w e. go r p w e (correct r) refl) in
    le-ltb _ _ (omega arith)
  where
    go : (r : ℕ) → r < n → within r c ≡ false → f r ≡ true → (b : Bool) → correct r ≡ b → not b ≡ true
    go r p w e true s = absurd (both_ways (f r) (h r p w s) e)
    go r p w e false s = refl
