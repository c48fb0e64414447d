-- What the three votes promise of every run.
use Rattle.std.specs.Prelude.{◌≡◌, ℕ, Bool, true, ◌⊎◌, Some, None, Option}
use Rattle.protocol.specs.Protocol.{Protocol}
use Rattle.protocol.specs.Run.{Run, Correct, Unanimous, answered}

-- if all correct entries are v, all correct stations answer v;
-- if a correct station answers v, every correct one answers v or none
pub record WeakLaw {V : Type 0} (P : Protocol V (Option V)) : Type 0 where
  pub validity : (n t : ℕ) (R : Run P n t) (v : V) → Unanimous R v → (i : ℕ) → Correct R i →
      answered R i ≡ Some (Some v)
  pub consistency : (n t : ℕ) (R : Run P n t) (v : V) (i j : ℕ) → Correct R i → Correct R j →
      answered R i ≡ Some (Some v) → (answered R j ≡ Some (Some v)) ⊎ (answered R j ≡ Some None)

-- if all correct entries are v, all correct stations answer v with grade 1 (true);
-- if a correct station answers v with grade 1, all correct stations answer v
pub record GradedLaw {V : Type 0} (P : Protocol V (V × Bool)) : Type 0 where
  pub validity : (n t : ℕ) (R : Run P n t) (v : V) → Unanimous R v → (i : ℕ) → Correct R i →
      answered R i ≡ Some (v, true)
  pub consistency : (n t : ℕ) (R : Run P n t) (v : V) (i j : ℕ) → Correct R i → Correct R j →
      answered R i ≡ Some (v, true) → (g : Bool) × (answered R j ≡ Some (v, g))

-- if all correct entries are v, all correct stations answer v; all correct stations answer the same value
pub record FullLaw {V : Type 0} (P : Protocol V V) : Type 0 where
  pub validity : (n t : ℕ) (R : Run P n t) (v : V) → Unanimous R v → (i : ℕ) → Correct R i →
      answered R i ≡ Some v
  pub agreement : (n t : ℕ) (R : Run P n t) (i j : ℕ) → Correct R i → Correct R j →
      (v : V) × ((answered R i ≡ Some v) × (answered R j ≡ Some v))
