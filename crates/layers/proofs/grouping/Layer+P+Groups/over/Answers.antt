use Rattle.layers.proofs.Eights.{grouping_lowers}
use Rattle.layers.proofs.grouping.Layer+P+Groups.over.Goals as goal

pub fresh-requires : goal.fresh-requires
fresh-requires g c = record { lowers = λ digested second. grouping_lowers digested }
