-- Counting: tests that cover or exclude each other, and the places of a word.
use Rattle.std.proofs.Common.{◌≡◌, ℕ, zero, suc, ◌+◌, ◌<◌, ◌≤◌, Bool, true, false, cond, eqb, ◌⊎◌, sym, refl, ap, ◌∙◌, inl, inr, ⊎_elim, arith}
use mathlib.Core.Bool.{false≢true}
use Rattle.std.proofs.lemmas.Bool.{cases_Bool, eqb-true, eq-eqb, cases_eq, cases_lt}
use Rattle.protocol.specs.Places.{count, places}

-- each number that passes p passes q or r
pub count_cover : (p q r : ℕ → Bool) (n : ℕ) →
    ((j : ℕ) → j < n → p j ≡ true → (q j ≡ true) ⊎ (r j ≡ true)) → count p n ≤ count q n + count r n
count_cover p q r zero h = omega arith
count_cover p q r (suc n) h =
    step (p n) (q n) (r n) (h n (omega arith)) (count_cover p q r n (λ j l. h j (omega arith)))
  where
    step : (a b c : Bool) → (a ≡ true → (b ≡ true) ⊎ (c ≡ true)) → count p n ≤ count q n + count r n →
        cond a 1 0 + count p n ≤ (cond b 1 0 + count q n) + (cond c 1 0 + count r n)
    step false b c g m = omega arith
    step true true c g m = omega arith
    step true false true g m = omega arith
    step true false false g m = ⊎_elim (λ e. absurd (false≢true e)) (λ e. absurd (false≢true e)) (g refl)

-- no number passes both
pub count_apart : (p q : ℕ → Bool) (n : ℕ) →
    ((j : ℕ) → j < n → p j ≡ true → q j ≡ true → ⊥) → count p n + count q n ≤ n
count_apart p q zero h = omega arith
count_apart p q (suc n) h =
    step (p n) (q n) (h n (omega arith)) (count_apart p q n (λ j l. h j (omega arith)))
  where
    step : (a b : Bool) → (a ≡ true → b ≡ true → ⊥) → count p n + count q n ≤ n →
        (cond a 1 0 + count p n) + (cond b 1 0 + count q n) ≤ suc n
    step false false g m = omega arith
    step false true g m = omega arith
    step true false g m = omega arith
    step true true g m = absurd (g refl refl)

-- each number passes one of the two
pub count_whole : (p q : ℕ → Bool) (n : ℕ) →
    ((j : ℕ) → j < n → (p j ≡ true) ⊎ (q j ≡ true)) → n ≤ count p n + count q n
count_whole p q zero h = omega arith
count_whole p q (suc n) h =
    step (p n) (q n) (h n (omega arith)) (count_whole p q n (λ j l. h j (omega arith)))
  where
    step : (a b : Bool) → (a ≡ true) ⊎ (b ≡ true) → n ≤ count p n + count q n →
        suc n ≤ (cond a 1 0 + count p n) + (cond b 1 0 + count q n)
    step false false g m = ⊎_elim (λ e. absurd (false≢true e)) (λ e. absurd (false≢true e)) g
    step false true g m = omega arith
    step true false g m = omega arith
    step true true g m = omega arith

pub count_same : (p q : ℕ → Bool) (n : ℕ) → ((j : ℕ) → j < n → p j ≡ q j) → count p n ≡ count q n
count_same p q zero h = refl
count_same p q (suc n) h =
    rw (h n (omega arith)) (ap (λ x. cond (q n) 1 0 + x) (count_same p q n (λ j l. h j (omega arith))))

-- one number passes, or none does
pub some_or_none : (p : ℕ → Bool) (n : ℕ) →
    ((j : ℕ) × (j < n) × (p j ≡ true)) ⊎ ((j : ℕ) → j < n → p j ≡ false)
some_or_none p zero = inr (λ j l. absurd (omega arith))
some_or_none p (suc n) = ⊎_elim
    (λ e. inl (n, omega arith, e))
    (λ e. ⊎_elim
    (λ f. inl (f.0, (let l = f.1 in omega arith), f.2))
    (λ f. inr (λ j l. ⊎_elim (λ d. rw d e) (λ d. f j (omega arith)) (cases_eq j n)))
    (some_or_none p n))
    (cases_Bool (p n))

pub count_none : (p : ℕ → Bool) (n : ℕ) → ((j : ℕ) → j < n → p j ≡ false) → count p n ≡ 0
count_none p zero h = refl
count_none p (suc n) h = rw (h n (omega arith)) (omega (arith, count_none p n (λ j l. h j (omega arith))))

-- the first m of n all pass
pub count_first : (p : ℕ → Bool) (m n : ℕ) → m ≤ n → ((j : ℕ) → j < m → p j ≡ true) → m ≤ count p n
count_first p m zero l all = omega arith
count_first p m (suc n) l all = ⊎_elim
    (λ (h : m < suc n). let r = count_first p m n (omega arith) all in omega arith)
    (λ (h : suc n ≤ m).
    let r = count_first p n n (omega arith) (λ j k. all j (omega arith)) in
    rw (all n (omega arith)) (omega arith))
    (cases_lt m (suc n))

-- rows that are alike at the first n places
pub places_same : (row row' : ℕ → ℕ) (w n : ℕ) → ((j : ℕ) → j < n → row j ≡ row' j) →
    places row w n ≡ places row' w n
places_same row row' w n h = count_same (λ j. eqb (row j) w) (λ j. eqb (row' j) w) n (λ j l. ap (λ x. eqb x w) (h j l))

-- two words share n places
pub rivals : (row : ℕ → ℕ) (v w n : ℕ) → (v ≡ w → ⊥) → places row v n + places row w n ≤ n
rivals row v w n d =
    count_apart (λ j. eqb (row j) v) (λ j. eqb (row j) w) n
    (λ j l p q. d (sym (eqb-true (row j) v p) ∙ eqb-true (row j) w q))

-- a word that is counted stands somewhere
pub place_of : (row : ℕ → ℕ) (w n : ℕ) → 0 < places row w n → (j : ℕ) × (j < n) × (row j ≡ w)
place_of row w n h = ⊎_elim
    (λ f. (f.0, f.1, eqb-true (row f.0) w f.2))
    (λ f. absurd (omega (arith, count_none (λ j. eqb (row j) w) n f)))
    (some_or_none (λ j. eqb (row j) w) n)

-- and a word that stands somewhere is counted
pub place_counts : (row : ℕ → ℕ) (w n j : ℕ) → j < n → row j ≡ w → 0 < places row w n
place_counts row w zero j l e = absurd (omega arith)
place_counts row w (suc n) j l e = ⊎_elim
    (λ d. rw (eq-eqb (row n) w (ap row (sym d) ∙ e)) (omega arith))
    (λ d. let h = place_counts row w n j (omega arith) e in omega arith)
    (cases_eq j n)
