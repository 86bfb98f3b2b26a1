use Rattle.tree.proofs.Paths.{path_law, shape_law}
use Rattle.tree.proofs.group.path.Goals as goal

pub returns-then-place-nodes-clause-leads : goal.returns-then-place-nodes-clause-leads
returns-then-place-nodes-clause-leads g c = path_law g.J.Joining.joined

pub returns-then-place-nodes-clause-shaped : goal.returns-then-place-nodes-clause-shaped
returns-then-place-nodes-clause-shaped g c = shape_law g.J.Joining.joined

pub returns-then-links-count-clause-leads : goal.returns-then-links-count-clause-leads
returns-then-links-count-clause-leads g c = path_law g.J.Joining.joined

pub returns-then-links-count-clause-shaped : goal.returns-then-links-count-clause-shaped
returns-then-links-count-clause-shaped g c = shape_law g.J.Joining.joined

pub returns-clause-leads : goal.returns-clause-leads
returns-clause-leads g c = path_law g.J.Joining.joined

pub returns-clause-shaped : goal.returns-clause-shaped
returns-clause-shaped g c = shape_law g.J.Joining.joined
