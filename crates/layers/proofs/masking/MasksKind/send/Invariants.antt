use Rattle.std.proofs.Common.{◌≡◌, ◌≤◌, ◌++◌, length, drop}
use Rattle.layers.specs.Masking.{masked_from, masked}
use Rattle.layers.proofs.masking.MasksKind.send.Given as goal

abbrev pub invariant-loop-place : goal.invariant-loop-place
invariant-loop-place g l = record {
  counted : length l.hidden.items ≡ l.place;
  short : length l.list ≤ 256;
  so : l.hidden.items ++ masked_from g.P.Digester.Hash.digested l.self.seed l.second l.place (drop l.place l.list) ≡ masked g.P.Digester.Hash.digested l.self.seed l.second l.list;
}
