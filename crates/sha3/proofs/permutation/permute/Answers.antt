use Rattle.std.proofs.Common.{rules, ◌∙◌}
use Rattle.std.proofs.lemmas.Iterator.{YieldsList-from_slice}
use Rattle.std.proofs.lemmas.Iterator.Consumers.{fold_from_yields_List, YieldsList-from_copied}
use Rattle.sha3.specs.Keccak.{constants, packed, unpacked}
use Rattle.sha3.proofs.Steps.{step, rounds_all}
use Rattle.sha3.proofs.permutation.permute.Goals as goal

pub returns : goal.returns
unfolding constants packed unpacked
returns c =
    fold_from_yields_List _ step c.args.a c.fold.result c.fold.ensures.ran (YieldsList-from_copied (YieldsList-from_slice constants (cc))) (λ a x b q k. search rules)
    ∙ rounds_all c.args.a
