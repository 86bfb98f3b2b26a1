use Rattle.tree.proofs.Ways.{sides_is}
use Rattle.tree.proofs.descent.Siblings.new.Goals as goal

pub returns-clause-sides : goal.returns-clause-sides
returns-clause-sides c = sides_is
