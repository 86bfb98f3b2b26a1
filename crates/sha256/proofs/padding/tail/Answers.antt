use Rattle.std.proofs.Common.{◌∙◌}
use Rattle.sha256.proofs.Ends.{tail_is}
use Rattle.sha256.proofs.padding.tail.Goals as goal

pub returns : goal.returns
returns c =
    c.sealed.ensures
    ∙ tail_is c.args.message.now c.as_chunks.result.1.now c.marked.result c.blocks-2.result c.as_chunks.ensures.back
    c.blocks-2.ensures.count c.marked.ensures
