-- Operating points as a kind of value.
use Rattle.std.specs.Prelude.{◌≡◌, ℕ, ◌+◌, ◌*◌, ◌/◌, ◌%◌, ◌≤◌, Bool, true, false, cond, List, [], ◌∷◌, ℤ, pos, ◌+ℤ◌, ◌-ℤ◌, Ok, Err, Option, Result, nat_le, unsigned_abs, refl}
use Rattle.std.specs.Int.Signed.{non_neg}
use Rattle.std.specs.Result.{result_ok}
use Rattle.std.specs.declared.cmp.Ordering.{Ordering}
use Rattle.std.specs.Ordering.{nat_cmp, on}
use Rattle.std.specs.Cmp.Lexicographic.{slice_cmp}
use Rattle.std.proofs.lemmas.Bool.{leb-true}
use Rattle.protocol.specs.Kind.{Kind}
use Rattle.protocol.specs.declared.refusal.Refusal.{Refusal}
use Rattle.protocol.specs.declared.refusal.Refusal.TheVariants.{Pressure, Speed}
use Rattle.values.specs.Lexical.{lex_less}
use Rattle.values.specs.Limits.{max_pressure, max_speed}
use Rattle.values.specs.declared.point.Point.{Point}

-- the point of this pressure and speed where both tests say that they fit
abbrev pub made : (pressure : ℕ) (speed : ℤ) (a b : Bool) →
    (a ≡ true → pressure ≤ max_pressure) → (b ≡ true → unsigned_abs speed ≤ max_speed) → Result Point Refusal
made p s true true h k = Ok (record { pressure = p; speed = s; limits = (h refl, k refl) })
made p s true false h k = Err Speed
made p s false b h k = Err Pressure

-- what making a point answers: a bad pressure comes before a bad speed
abbrev pub new_point : (pressure : ℕ) (speed : ℤ) → Result Point Refusal
new_point p s =
    made p s (nat_le p max_pressure) (nat_le (unsigned_abs s) max_speed)
    (leb-true p max_pressure) (leb-true (unsigned_abs s) max_speed)

abbrev pub point_word : Point → ℕ
point_word p = p.pressure * 65536 + unsigned_abs (p.speed +ℤ pos 6000)

-- the point that has this word, if there is one
abbrev pub point_reads : ℕ → Option Point
point_reads w = result_ok (new_point (w / 65536) (pos (w % 65536) -ℤ pos 6000))

abbrev pub rest_point : Point
rest_point = record {
  pressure = 0;
  speed = pos 0;
  limits = (leb-true 0 max_pressure refl, leb-true 0 max_speed refl);
}

-- what decides which of two points is less, the first first: the load, the pressure, the speed without its sign,
-- and at last the sign, the negative one being less
abbrev pub point_key : Point → List ℕ
point_key p =
    let size = unsigned_abs p.speed in
    (p.pressure * size) ∷ (p.pressure ∷ (size ∷ (cond (non_neg p.speed) 1 0 ∷ [])))

abbrev pub point_kind : Kind Point
point_kind = record {
  word = point_word;
  reads = point_reads;
  less = λ p q. lex_less (point_key p) (point_key q);
  rest = rest_point;
}

-- the same order as one comparison, which is how Rust has it
abbrev pub point_cmp : Point → Point → Ordering
point_cmp = on point_key (slice_cmp nat_cmp)
