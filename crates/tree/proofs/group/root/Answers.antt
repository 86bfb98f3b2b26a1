use Rattle.tree.proofs.Roots.{root_law}
use Rattle.tree.proofs.group.root.Goals as goal

pub returns-in-empty-clause-parted : goal.returns-in-empty-clause-parted
returns-in-empty-clause-parted g c = root_law g.J.Joining.joined

pub returns-in_default-clause-parted : goal.returns-in_default-clause-parted
returns-in_default-clause-parted g c = root_law g.J.Joining.joined
