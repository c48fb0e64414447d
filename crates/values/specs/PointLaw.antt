-- Operating points are a lawful kind of value.
use Rattle.std.specs.Prelude.{◌≡◌, ℕ, ◌*◌, ◌/◌, ◌%◌, ◌≤◌, Bool, true, false, cond, [], ◌∷◌, ℤ, pos, negsuc, ◌-ℤ◌, Some, Ok, ◌≢◌, ◌&&◌, nat_le, nat_eq, unsigned_abs, refl}
use Rattle.std.proofs.Common.{ap, sym, ◌∙◌, ⊎_elim, arith}
use mathlib.Core.HLevel.{is_prop→PathP, ×_prop}
use Rattle.std.proofs.Math.Bridge.{le_prop}
use Rattle.std.specs.Int.Signed.{non_neg}
use Rattle.std.proofs.lemmas.Int.{ints}
use Rattle.std.proofs.lemmas.Bool.{leb-true, le-leb}
use Rattle.std.proofs.lemmas.Bool.Decides.{nat_tests, Decides-and}
use Rattle.std.specs.Result.{result_ok}
use Rattle.std.specs.Bool.{Decides, one_answer}
use Rattle.std.specs.Cmp.{IsTotalOrder, Equal-is, unsigned_Decides, signed_Decides}
use Rattle.std.proofs.lemmas.Map.Lookups.{exact_bytes}
use Rattle.std.specs.declared.cmp.Ordering.TheVariants.{Equal}
use Rattle.std.specs.Ordering.{int_eq, is_lt, is_eq}
use Rattle.std.proofs.lemmas.Cmp.{on_total, nat_list_cmp_total, tied_itself}
use Rattle.protocol.specs.Kind.{Lawful}
use Rattle.values.specs.declared.point.Point.{Point}
use Rattle.values.specs.Lexical.{lex_less}
use Rattle.values.specs.LexicalLaw.{lex_irreflexive, lex_transitive, lex_total, lex_compares}
use Rattle.values.specs.Limits.{max_pressure, max_speed, Limits}
use Rattle.values.specs.PointKind.{made, new_point, point_word, point_reads, rest_point, point_key, point_cmp, point_kind}

-- a point is its pressure and its speed
pub same_point : (p q : Point) → p.pressure ≡ q.pressure → p.speed ≡ q.speed → p ≡ q
same_point p q e f = λ i. record {
  pressure = e i;
  speed = f i;
  limits = is_prop→PathP (λ j. Limits (e j) (f j)) (λ j. ×_prop le_prop le_prop) p.limits q.limits i;
}

-- a point's own numbers make that point
pub new_point_lem : (a : ℕ) (s : ℤ) (p : Point) → p.pressure ≡ a → p.speed ≡ s → Ok p ≡ new_point a s
new_point_lem a s p e f =
    go (nat_le a max_pressure) (nat_le (unsigned_abs s) max_speed)
    (leb-true a max_pressure) (leb-true (unsigned_abs s) max_speed)
    (rw (← e) (le-leb p.pressure max_pressure p.limits.0))
    (rw (← f) (le-leb (unsigned_abs p.speed) max_speed p.limits.1))
  where
    go : (x y : Bool) (h : x ≡ true → a ≤ max_pressure) (k : y ≡ true → unsigned_abs s ≤ max_speed) →
        x ≡ true → y ≡ true → Ok p ≡ made a s x y h k
    go true true h k t u = ap Ok (same_point p (record { pressure = a; speed = s; limits = (h refl, k refl) }) e f)
    go true false h k t u = cc
    go false y h k t u = cc

-- and a point has the numbers that it was made of
pub made_of : (a : ℕ) (s : ℤ) (p : Point) → result_ok (new_point a s) ≡ Some p → (a ≡ p.pressure) × (s ≡ p.speed)
made_of a s p e =
    go (nat_le a max_pressure) (nat_le (unsigned_abs s) max_speed)
    (leb-true a max_pressure) (leb-true (unsigned_abs s) max_speed) e
  where
    go : (x y : Bool) (h : x ≡ true → a ≤ max_pressure) (k : y ≡ true → unsigned_abs s ≤ max_speed) →
        result_ok (made a s x y h k) ≡ Some p → (a ≡ p.pressure) × (s ≡ p.speed)
    go true true h k t = (cc, cc)
    go true false h k t = cc
    go false y h k t = cc

word_high : (p : Point) → p.pressure ≡ point_word p / 65536
word_high p = omega (arith, ints)

word_low : (p : Point) → p.speed ≡ pos (point_word p % 65536) -ℤ pos 6000
word_low p = omega (arith, ints)

pub read_point : (w : ℕ) (p : Point) → p.pressure ≡ w / 65536 → p.speed ≡ pos (w % 65536) -ℤ pos 6000 →
    Some p ≡ point_reads w
read_point w p e f = ap result_ok (new_point_lem (w / 65536) (pos (w % 65536) -ℤ pos 6000) p e f)

reads_word : (p : Point) → point_reads (point_word p) ≡ Some p
reads_word p = sym (read_point (point_word p) p (word_high p) (word_low p))

word_reads : (w : ℕ) (p : Point) → point_reads w ≡ Some p → w ≡ point_word p
word_reads w p e =
    let h = made_of (w / 65536) (pos (w % 65536) -ℤ pos 6000) p e in omega (arith, ints)

-- the size and the sign make the speed
same_speed : (s t : ℤ) → unsigned_abs s ≡ unsigned_abs t →
    ◌≡◌ {A = ℕ} (cond (non_neg s) 1 0) (cond (non_neg t) 1 0) → s ≡ t
same_speed (pos a) (pos b) e f = cc
same_speed (pos a) (negsuc b) e f = cc
same_speed (negsuc a) (pos b) e f = cc
same_speed (negsuc a) (negsuc b) e f = cc

same_from_key : (p q : Point) → point_key p ≡ point_key q → p ≡ q
same_from_key p q e = same_point p q (cc) (same_speed p.speed q.speed (cc) (cc))

-- nothing is below the key of rest, and nothing else has that key
rest_below : (a b c d : ℕ) → d ≤ 1 → (b ≡ 0 → c ≡ 0 → d ≢ 1) → (c ≡ 0 → d ≡ 1) →
    lex_less (point_key rest_point) (a ∷ (b ∷ (c ∷ (d ∷ [])))) ≡ true
rest_below a b c d small n z = grind (arith, nat_tests)

sign_small : (s : ℤ) → cond (non_neg s) 1 0 ≤ 1
sign_small (pos n) = omega arith
sign_small (negsuc n) = omega arith

sign_zero : (s : ℤ) → unsigned_abs s ≡ 0 → ◌≡◌ {A = ℕ} (cond (non_neg s) 1 0) 1
sign_zero (pos n) e = refl
sign_zero (negsuc n) e = cc

rest_least : (p : Point) → (p ≢ rest_point) → lex_less (point_key rest_point) (point_key p) ≡ true
rest_least p n =
    rest_below (p.pressure * unsigned_abs p.speed) p.pressure (unsigned_abs p.speed) (cond (non_neg p.speed) 1 0)
    (sign_small p.speed)
    (λ b c d. n (same_point p rest_point b (same_speed p.speed (pos 0) c d)))
    (sign_zero p.speed)

-- the order of points, and that it tells every two apart
pub point_total : IsTotalOrder point_cmp
point_total = on_total point_key nat_list_cmp_total

-- Rust's `<` on points is the order of the kind
pub point_less : (p q : Point) → is_lt (point_cmp p q) ≡ point_kind.less p q
point_less p q = lex_compares (point_key p) (point_key q) refl

same_by_order : (p q : Point) → point_cmp p q ≡ Equal → p ≡ q
same_by_order p q e = same_from_key p q (exact_bytes _ _ e)

-- two points are the same if `==` holds, which looks at both numbers, and if neither is less
fields_decide : (p q : Point) → Decides (nat_eq p.pressure q.pressure && int_eq p.speed q.speed) (p ≡ q)
fields_decide p q =
    let d = Decides-and _ _ (unsigned_Decides p.pressure q.pressure) (signed_Decides p.speed q.speed) in
    (λ e. let h = d.0 e in same_point p q h.0 h.1, λ e. d.1 (ap (λ r. r.pressure) e, ap (λ r. r.speed) e))

order_decides : (p q : Point) → Decides (is_eq (point_cmp p q)) (p ≡ q)
order_decides p q = (
  λ e. same_by_order p q ((Equal-is (point_cmp p q)).0 e),
  λ e. ap is_eq (ap (point_cmp p) (sym e) ∙ tied_itself point_total p),
)

pub point_ties : (p q : Point) → (nat_eq p.pressure q.pressure && int_eq p.speed q.speed) ≡ is_eq (point_cmp p q)
point_ties p q = one_answer {P = p ≡ q} _ _ (fields_decide p q) (order_decides p q)

pub points_lawful : Lawful point_kind
points_lawful = record {
  reads_word = reads_word;
  word_reads = word_reads;
  silence = refl;
  total = λ p q n. ⊎_elim
      (λ e. absurd (n (same_from_key p q e))) (λ h. h) (lex_total (point_key p) (point_key q) refl);
  irreflexive = λ p. lex_irreflexive (point_key p);
  transitive = λ p q r. lex_transitive (point_key p) (point_key q) (point_key r);
  rest_least = rest_least;
}
