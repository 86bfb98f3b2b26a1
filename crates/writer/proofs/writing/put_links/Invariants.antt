use Rattle.std.proofs.Common.{◌≡◌, take}
use Rattle.tree.specs.Answers.{over}
use Rattle.layout.specs.Content.{links_bytes}
use Rattle.writer.proofs.writing.put_links.Given as goal

-- the first links are written
abbrev pub invariant-loop-k : goal.invariant-loop-k
invariant-loop-k l = l.out ≡ over (links_bytes (take l.k l.links)) l.initial.out
