use Rattle.tree.specs.Answers.{path_over}
use Rattle.tree.specs.Trees.{path}
use Rattle.std.proofs.Common.{length}
use Rattle.tree.proofs.Ways.{Writing, link_over}
use Rattle.tree.proofs.group.write_path.Given as goal

abbrev pub invariant-loop-at : goal.invariant-loop-at
invariant-loop-at g l =
    Writing (link_over g.J.Joining.joined l.nodes) (length l.nodes) l.at-iterator l.links
    (path_over (path g.J.Joining.joined l.nodes l.place) l.fn.links)
