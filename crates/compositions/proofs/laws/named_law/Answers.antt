use Rattle.std.proofs.Common.{rules}
use Rattle.compositions.proofs.SameLaw.{same_law}
use Rattle.compositions.proofs.laws.named_law.Goals as goal

pub returns : goal.returns
returns g c = let same = g.met.M.NamedComposition.same in record { same = same; law = same_law same (search rules) }
