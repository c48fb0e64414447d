-- One exchange of words: what correct listeners' counts have in common.
use Rattle.std.proofs.Common.{◌≡◌, ℕ, suc, ◌+◌, ◌<◌, ◌≤◌, Bool, true, not, ◌&&◌, eqb, ◌⊎◌, sym, ◌∙◌, inl, inr, ⊎_elim, arith}
use Rattle.std.proofs.lemmas.Bool.{cases_Bool, cases_lt, eqb-true, eq-eqb, not_from_false, and_parts, and_from}
use Rattle.protocol.specs.Places.{count, places}
use Rattle.protocol.proofs.PlacesLaw.{count_whole, count_cover, count_none, count_first, some_or_none}

-- one of the first t + 1 stations is correct
pub correct_among : (correct : ℕ → Bool) (n t : ℕ) → t < n → count (λ j. not (correct j)) n ≤ t →
    (j : ℕ) × (j < suc t) × (correct j ≡ true)
correct_among correct n t l few = ⊎_elim
    (λ f. f)
    (λ f. absurd (
    let all = count_first (λ j. not (correct j)) (suc t) n l (λ j m. not_from_false (correct j) (f j m)) in
    omega arith))
    (some_or_none correct (suc t))

-- each correct listener reads at each correct place what that station said
module _ (n t : ℕ) (correct : ℕ → Bool) (few : count (λ j. not (correct j)) n ≤ t) (said : ℕ → ℕ) (view : ℕ → ℕ → ℕ)
    (exact : (i j : ℕ) → (i < n) × (correct i ≡ true) → (j < n) × (correct j ≡ true) → view i j ≡ said j) where
  -- what all correct stations said has n - t places
  pub quorum : (w : ℕ) → ((j : ℕ) → (j < n) × (correct j ≡ true) → said j ≡ w) → (i : ℕ) →
      (i < n) × (correct i ≡ true) → n ≤ places (view i) w n + t
  quorum w all i c = omega (arith, count_whole (λ j. eqb (view i j) w) (λ j. not (correct j)) n either)
    where
      either : (j : ℕ) → j < n → (eqb (view i j) w ≡ true) ⊎ (not (correct j) ≡ true)
      either j m = ⊎_elim
          (λ e. inl (eq-eqb (view i j) w (exact i j c (m, e) ∙ all j (m, e))))
          (λ e. inr (not_from_false (correct j) e))
          (cases_Bool (correct j))

  -- two correct listeners' counts of one word differ by t at most
  pub carried : (w i k : ℕ) → (i < n) × (correct i ≡ true) → (k < n) × (correct k ≡ true) →
      places (view i) w n ≤ places (view k) w n + t
  carried w i k c d =
      omega (arith, count_cover (λ j. eqb (view i j) w) (λ j. eqb (view k j) w) (λ j. not (correct j)) n either)
    where
      either : (j : ℕ) → j < n → eqb (view i j) w ≡ true → (eqb (view k j) w ≡ true) ⊎ (not (correct j) ≡ true)
      either j m e = ⊎_elim
          (λ g. inl (eq-eqb (view k j) w (exact k j d (m, g) ∙ (sym (exact i j c (m, g)) ∙ eqb-true (view i j) w e))))
          (λ g. inr (not_from_false (correct j) g))
          (cases_Bool (correct j))

  -- whether a station is correct and said w
  abbrev tells : (w j : ℕ) → Bool
  tells w j = correct j && eqb (said j) w

  -- a word has no more places than correct stations that said it, and t
  heard_from : (w i : ℕ) → (i < n) × (correct i ≡ true) → places (view i) w n ≤ count (tells w) n + t
  heard_from w i c = omega (arith, count_cover (λ j. eqb (view i j) w) (tells w) (λ j. not (correct j)) n either)
    where
      either : (j : ℕ) → j < n → eqb (view i j) w ≡ true → (tells w j ≡ true) ⊎ (not (correct j) ≡ true)
      either j m e = ⊎_elim
          (λ g. inl (and_from _ _ g (eq-eqb (said j) w (sym (exact i j c (m, g)) ∙ eqb-true (view i j) w e))))
          (λ g. inr (not_from_false (correct j) g))
          (cases_Bool (correct j))

  -- what has more than t places some correct station said
  pub backed : (w i : ℕ) → (i < n) × (correct i ≡ true) → t < places (view i) w n →
      (j : ℕ) × ((j < n) × (correct j ≡ true)) × (said j ≡ w)
  backed w i c more = ⊎_elim
      (λ f. let p = and_parts _ _ f.2 in (f.0, (f.1, p.0), eqb-true (said f.0) w p.1))
      (λ f. absurd (omega (arith, heard_from w i c, count_none (tells w) n f)))
      (some_or_none (tells w) n)

  -- what no correct station said has t places at most
  pub minority : (w : ℕ) → ((j : ℕ) → (j < n) × (correct j ≡ true) → said j ≡ w → ⊥) → (i : ℕ) →
      (i < n) × (correct i ≡ true) → places (view i) w n ≤ t
  minority w none i c = ⊎_elim
      (λ (l : t < places (view i) w n). let f = backed w i c l in absurd (none f.0 f.1 f.2))
      (λ (l : places (view i) w n ≤ t). l)
      (cases_lt t (places (view i) w n))
