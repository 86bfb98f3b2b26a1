use Rattle.std.proofs.Common.{◌+◌}
use Rattle.calendar.specs.Published.{published}
use Rattle.tree.specs.Answers.{path_over}
use Rattle.tree.specs.Trees.{path}
use Rattle.tree.proofs.Ways.{Writing, link_over}
use Rattle.calendar.proofs.path.write_path.Given as goal

abbrev pub invariant-loop-at : goal.invariant-loop-at
invariant-loop-at g l =
    let row = g.R.Row.row l.row in
    Writing (link_over g.J.Joining.joined row) (l.publication + 1) l.at-iterator l.links
    (path_over (path g.J.Joining.joined (published l.publication row) l.second) l.fn.links)
