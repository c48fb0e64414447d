-- Of tests in ascending order the first that applies has the lowest number.
use Rattle.std.proofs.Common.{◌≡◌, ℕ, ◌≤◌, Bool, true, false, cond, ◌&&◌, leb, [], ◌∷◌, Some, None, sym, ap, ◌∙◌, inl, inr, ⊎_elim, arith}
use Rattle.std.proofs.lemmas.Bool.{and_parts, leb-true, both_ways, cases_Bool}
use Rattle.protocol.specs.declared.refusal.Refusal.{Refusal}
use Rattle.protocol.specs.Refusals.{number, Tests, first_refusal, Applies, LowestRefusal}

-- all numbers are m at least
abbrev pub all_from : (m : ℕ) → Tests → Bool
all_from m [] = true
all_from m (x ∷ xs) = leb m (number x.1) && all_from m xs

abbrev pub ascending : Tests → Bool
ascending [] = true
ascending (x ∷ xs) = all_from (number x.1) xs && ascending xs

from_applies : (m : ℕ) (xs : Tests) → all_from m xs ≡ true → (q : Refusal) → Applies xs q → m ≤ number q
from_applies m [] h q a = absurd a
from_applies m (x ∷ xs) h q a =
    let p = and_parts (leb m (number x.1)) (all_from m xs) h in
    let l = leb-true m (number x.1) p.0 in
    ⊎_elim (λ e. rw e.1 at l) (from_applies m xs p.1 q) a

module _ (x : Bool × Refusal) (xs : Tests) where
  -- the first test says yes
  here : x.0 ≡ true → all_from (number x.1) xs ≡ true → LowestRefusal (x ∷ xs)
  here e up = record {
    applies = λ r f. inl (e, is r f);
    lowest = λ r q f a. rw (← is r f) (⊎_elim
        (λ g. rw g.1 (omega arith)) (from_applies (number x.1) xs up q) a);
    none = λ f. let g = given in absurd (grind arith);
  }
    where
      given : first_refusal (x ∷ xs) ≡ Some x.1
      given = ap (λ b. cond b (Some x.1) (first_refusal xs)) e

      is : (r : Refusal) → first_refusal (x ∷ xs) ≡ Some r → x.1 ≡ r
      is r f = let g = given in cc

  -- it says no
  later : x.0 ≡ false → LowestRefusal xs → LowestRefusal (x ∷ xs)
  later e h = record {
    applies = λ r f. inr (h.applies r (sym given ∙ f));
    lowest = λ r q f a. h.lowest r q (sym given ∙ f) (tail q a);
    none = λ f q a. h.none (sym given ∙ f) q (tail q a);
  }
    where
      given : first_refusal (x ∷ xs) ≡ first_refusal xs
      given = ap (λ b. cond b (Some x.1) (first_refusal xs)) e

      tail : (q : Refusal) → Applies (x ∷ xs) q → Applies xs q
      tail q a = ⊎_elim (λ g. absurd (both_ways x.0 e g.0)) (λ g. g) a

pub first_lowest : (xs : Tests) → ascending xs ≡ true → LowestRefusal xs
first_lowest [] up = record {
  applies = λ r e. absurd (grind arith);
  lowest = λ r q e a. absurd a;
  none = λ e q a. a;
}
first_lowest (x ∷ xs) up =
    let p = and_parts (all_from (number x.1) xs) (ascending xs) up in
    ⊎_elim (λ e. here x xs e p.0) (λ e. later x xs e (first_lowest xs p.1)) (cases_Bool x.0)

-- all tests say no
abbrev pub AllNo : Tests → Type 0
AllNo [] = Unit {0}
AllNo (x ∷ xs) = (x.0 ≡ false) × AllNo xs

pub none_applies : (xs : Tests) → first_refusal xs ≡ None → AllNo xs
none_applies [] e = tt
none_applies (x ∷ xs) e = ⊎_elim
    (λ t.
    let g : first_refusal (x ∷ xs) ≡ Some x.1 = ap (λ b. cond b (Some x.1) (first_refusal xs)) t in
    absurd (grind arith))
    (λ t. (t, none_applies xs (sym (ap (λ b. cond b (Some x.1) (first_refusal xs)) t) ∙ e)))
    (cases_Bool x.0)
