use Rattle.std.proofs.Common.{sym, refl, arith}
use Rattle.std.proofs.lemmas.Int.{ints}
use Rattle.values.specs.PointLaw.{new_point_lem}
use Rattle.values.proofs.point.Point.within.Goals as goal

pub returns : goal.returns
returns c = sym (new_point_lem c.args.pressure c.args.speed _ refl (omega (arith, ints)))
