use Rattle.std.proofs.Common.{◌≡◌, drop}
use Rattle.tree.specs.Trees.{followed}
use Rattle.tree.proofs.following.follow.Given as goal

abbrev pub invariant-loop-link : goal.invariant-loop-link
invariant-loop-link g l = followed g.J.Joining.joined l.reached (drop l.link-index l.links) ≡ followed g.J.Joining.joined l.start l.links
