-- The table of nine digests, computed.
use Rattle.std.proofs.Common.{refl}
use Rattle.tree.specs.Split.{doubled, split}
use Rattle.tree.specs.Trees.{grown, tree}
use Rattle.layers.specs.Table.{NineTable}

pub nine_table : NineTable
unfolding split doubled tree grown
nine_table digested a b c d e f g h i = refl
