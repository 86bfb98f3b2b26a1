use Rattle.std.proofs.Common.{◌∙◌, arith}
use Rattle.writer.proofs.Linked.{written_more, written_all}
use Rattle.writer.proofs.writing.put_links.Goals as goal

pub loop-k-preserved : goal.loop-k-preserved
loop-k-preserved c =
    written_more c.args.links.now c.loop-k.k c.args.out.now c.loop-k.invariant c.loop-k-test.true c.index-links-k.result c.index-links-k.is
    (c.copy_from_slice.ensures.after ∙ c.raw.ensures) _ (omega arith)

pub returns : goal.returns
returns c = c.loop-k.invariant ∙ written_all c.args.links.now c.loop-k.k c.args.out.now (omega arith) (omega (arith, c.requires))
