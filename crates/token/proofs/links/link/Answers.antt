use Rattle.std.proofs.Common.{◌≡◌, List, ℕ, take, drop, sym, ◌∙◌, ap₂, take-take, arith}
use Rattle.digest.specs.declared.value.Digest.{Digest}
use Rattle.tree.specs.declared.link.Side.{Side}
use Rattle.tree.specs.declared.link.Link.{Link}
use Rattle.wire.proofs.Digests.{digest_is}
use Rattle.token.proofs.links.link.Goals as goal

same_front : (ys : List ℕ) → take 32 (take 32 ys) ≡ take 32 ys
same_front ys = take-take 32 32 ys (omega arith)

made : (s : Side) (d : Digest) → Link Digest
made s d = record { side = s; sibling = d }

pub returns : goal.returns
unfolding made
returns c =
    let raw : List ℕ = c.args.raw.now in
    let first = rw c.unwrap-sibling.ensures at c.first_chunk.ensures.cases in
    ap₂ made c.side.ensures (sym (digest_is c.from.result (drop 1 raw) (c.from.ensures ∙ first.same ∙ same_front (drop 1 raw))))
