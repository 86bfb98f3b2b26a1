use Rattle.std.proofs.Common.{◌≡◌, length, ◌/◌, ◌∙◌, arith, length-set}
use Rattle.sha256.specs.Sha256.{schedule, next_word}
use Rattle.sha256.specs.Words.{σ0, σ1}
use Rattle.sha256.proofs.Steps.{word_read, block_more, schedule_more}
use Rattle.sha256.proofs.compression.schedule.Goals as goal

pub loop-t-preserved : goal.loop-t-preserved
loop-t-preserved c = (
  length-set c.loop-t.w c.loop-t.t c.from_be_bytes.result ∙ c.loop-t.invariant.0,
  block_more c.args.block.now c.loop-t.w c.loop-t.t c.from_be_bytes.result (omega arith) c.loop-t.invariant.1
      (c.from_be_bytes.ensures ∙ rw c.as_chunks.ensures.front (word_read c.args.block.now _ (length c.args.block.now / 4) c.loop-t.t (omega arith))),
)

pub loop-t-2-init : goal.loop-t-2-init
unfolding schedule
loop-t-2-init c =
    let all : c.loop-t.t ≡ 16 = omega arith in
    (c.loop-t.invariant.0, rw all at c.loop-t.invariant.1)

pub loop-t-2-preserved : goal.loop-t-2-preserved
unfolding next_word σ0 σ1
loop-t-2-preserved c = (
  length-set c.loop-t-2.w c.loop-t-2.t _ ∙ c.loop-t-2.invariant.0,
  schedule_more c.args.block.now c.loop-t-2.w c.loop-t-2.t _ (omega arith) (omega arith) c.loop-t-2.invariant.1 (cc),
)
