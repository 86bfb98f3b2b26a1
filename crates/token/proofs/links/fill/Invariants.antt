use Rattle.std.proofs.Common.{◌≡◌, map, take}
use Rattle.tree.specs.Answers.{over}
use Rattle.layout.specs.Parts.{link_of}
use Rattle.token.proofs.links.fill.Given as goal

-- the first links are written
abbrev pub invariant-loop-k : goal.invariant-loop-k
invariant-loop-k l = l.out ≡ over (map link_of (take l.k (take l.count l.raws))) l.initial.out
