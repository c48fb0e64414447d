-- What the values print.
use Rattle.std.specs.Prelude.{ℕ, ◌/◌, ◌%◌, ◌&&◌, ◌==◌, if◌then◌else◌, List, ◌++◌, ℤ, codes, decimal, unsigned_abs}
use Rattle.std.specs.Int.Signed.{non_neg}
use Rattle.values.specs.declared.point.Point.{Point}
use Rattle.values.specs.declared.switch.Switch.{Switch}
use Rattle.values.specs.declared.switch.Switch.TheVariants.{Hold, Go}

abbrev pub switch_text : Switch → List ℕ
switch_text Hold = codes "hold"
switch_text Go = codes "go"

-- which way the shaft turns
abbrev pub turning : ℤ → List ℕ
turning speed = if non_neg speed then codes "clockwise" else codes "anticlockwise"

-- in bar, with the tenths behind a dot
abbrev pub pressure_text : ℕ → List ℕ
pressure_text pressure = decimal (pressure / 10) ++ (codes "." ++ decimal (pressure % 10))

abbrev pub point_text : Point → List ℕ
point_text p =
    if p.pressure == 0 && unsigned_abs p.speed == 0 then codes "rest"
    else pressure_text p.pressure ++
    (codes " bar at " ++ (decimal (unsigned_abs p.speed) ++ (codes " rpm " ++ turning p.speed)))
