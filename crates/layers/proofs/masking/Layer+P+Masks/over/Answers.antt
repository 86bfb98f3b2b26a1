use Rattle.layers.proofs.UnderMasks.{masking_lowers}
use Rattle.layers.proofs.masking.Layer+P+Masks.over.Goals as goal

pub fresh-requires : goal.fresh-requires
fresh-requires g c = record { lowers = λ digested second. masking_lowers digested _ second }
