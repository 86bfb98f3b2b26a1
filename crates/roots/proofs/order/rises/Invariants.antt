use Rattle.std.proofs.Common.{◌≡◌, map, drop}
use Rattle.roots.specs.Entries.{rising}
use Rattle.roots.proofs.order.rises.Given as goal

abbrev pub invariant-loop-item : goal.invariant-loop-item
invariant-loop-item g l =
    rising l.low (drop l.item-index (map g.T.Dated.dated l.items))
    ≡ rising 0 (map g.T.Dated.dated l.items)
