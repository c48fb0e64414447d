use Rattle.eig.proofs.ChainsLaw.{numbering}
use Rattle.eig.proofs.chains_are_numbered.Goals as goal

pub returns : goal.returns
returns c = numbering
