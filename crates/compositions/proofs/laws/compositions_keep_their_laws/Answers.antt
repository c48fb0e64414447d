use Rattle.compositions.proofs.CompositionLaw.{compositions}
use Rattle.compositions.proofs.laws.compositions_keep_their_laws.Goals as goal

pub returns : goal.returns
returns g c = compositions g.V.Value.kind c.lawful_kind.ensures c.lawful_kind-2.ensures
