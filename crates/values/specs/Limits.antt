-- The limits of an operating point.
use Rattle.std.specs.Prelude.{ℕ, ◌≤◌, ℤ, unsigned_abs}

-- the largest pressure, in tenths of a bar
abbrev pub max_pressure : ℕ
max_pressure = 7000

-- the largest speed in either direction, in rpm
abbrev pub max_speed : ℕ
max_speed = 6000

abbrev pub Limits : (pressure : ℕ) (speed : ℤ) → Type 0
Limits pressure speed = (pressure ≤ max_pressure) × (unsigned_abs speed ≤ max_speed)
