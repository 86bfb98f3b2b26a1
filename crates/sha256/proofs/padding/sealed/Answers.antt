use Rattle.std.proofs.Common.{◌∙◌}
use Rattle.sha256.specs.Words.{eight_bytes}
use Rattle.sha256.proofs.Ends.{part_is}
use Rattle.sha256.proofs.padding.sealed.Goals as goal

pub returns : goal.returns
returns c =
    part_is c.args.last c.copy_from_slice.new.self (eight_bytes c.args.bits) c.args.end c.requires.0
    (c.copy_from_slice.ensures.after ∙ c.to_be_bytes.ensures)
