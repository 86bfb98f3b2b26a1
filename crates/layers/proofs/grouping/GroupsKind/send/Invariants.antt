use Rattle.std.proofs.Common.{◌≡◌, ◌≤◌, length}
use Rattle.std.specs.Slice.Iter.{chunks_rest, chunks_size}
use Rattle.layers.proofs.Eights.{RootsSoFar}
use Rattle.layers.proofs.grouping.GroupsKind.send.Given as goal

abbrev pub invariant-loop-part : goal.invariant-loop-part
invariant-loop-part g l = record {
  can : (goal.iterator-loop-part g).can_next l.part-iterator;
  ends : (goal.iterator-loop-part g).is_finite l.part-iterator;
  size : chunks_size l.part-iterator ≡ 8;
  short : length l.list ≤ 256;
  so : RootsSoFar g.P.Digester.Hash.digested l.list l.roots.items (chunks_rest l.part-iterator);
}
