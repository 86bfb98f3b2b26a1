use Rattle.std.proofs.Common.{◌≡◌, ◌≢◌, ◌/◌, ◌<◌, length, inl, inr, sym, ◌∙◌, ap₂, arith, length-set, below_more}
use lib.Bits.{bit_xor}
use Rattle.std.proofs.lemmas.Bool.{cases_lt}
use Rattle.std.proofs.lemmas.List.{ext_get_or, get_or-set_same, get_or-set_other}
use Rattle.sha3.specs.Sha3.{word, mixed}
use Rattle.sha3.proofs.Filled.{unwritten_more}
use Rattle.sha3.proofs.Words.{word_read, length_mixed, mixed_at, mixed_past}
use Rattle.sha3.proofs.sponge.mix.Goals as goal

pub loop-i-preserved : goal.loop-i-preserved
loop-i-preserved c =
    let b = c.loop-i.a in
    let i = c.loop-i.i in
    let block = c.args.block.now in
    let room : i < length b = omega arith in
    let read : c.from_le_bytes.result ≡ word block i =
    c.from_le_bytes.ensures ∙ rw c.as_chunks.ensures.front (word_read block _ (length block / 8) i (omega arith) (omega arith)) in (
      length-set b i _ ∙ c.loop-i.invariant.0,
      below_more _ _
          (λ k h. let other : k ≢ i = omega arith in get_or-set_other b i k _ 0 other ∙ c.loop-i.invariant.1 k h)
          (get_or-set_same b i _ 0 room ∙ ap₂ bit_xor (c.loop-i.invariant.2 i (omega arith)) read),
      unwritten_more c.args.a b i _ c.loop-i.invariant.2,
    )

pub returns : goal.returns
returns c =
    let a = c.args.a in
    let block = c.args.block.now in
    ext_get_or 0 c.loop-i.a (mixed a block) (c.loop-i.invariant.0 ∙ sym (length_mixed a block))
    (λ k h.
    let small : k < 25 = omega (arith, c.loop-i.invariant.0) in
    elim (cases_lt k c.loop-i.i) [
      | inl low ↦ c.loop-i.invariant.1 k low ∙ sym (mixed_at a block k small)
      | inr high ↦ c.loop-i.invariant.2 k high ∙ sym (mixed_past a block k (omega arith) (omega arith) small)
    ])
