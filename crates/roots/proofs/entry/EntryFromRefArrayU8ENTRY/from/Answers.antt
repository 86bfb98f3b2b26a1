use Rattle.std.proofs.Common.{◌≡◌, ℕ, List, take, drop, sym, ◌∙◌, ap₂, take-take, arith}
use Rattle.digest.specs.declared.value.Digest.{Digest}
use Rattle.wire.proofs.Digests.{digest_is}
use Rattle.roots.specs.declared.entry.Entry.{Entry}
use Rattle.roots.proofs.entry.EntryFromRefArrayU8ENTRY.from.Goals as goal

made : ℕ → Digest → Entry
made second root = record { second = second; root = root }

pub returns : goal.returns
unfolding made
returns c =
    let raw : List ℕ = c.args.raw.now in
    let first = rw c.unwrap-root.ensures at c.first_chunk.ensures.cases in
    let bytes : c.from.result.bytes ≡ take 32 (drop 4 raw) = c.from.ensures ∙ first.same ∙ take-take 32 32 (drop 4 raw) (omega arith) in
    ap₂ made c.second.ensures (sym (digest_is c.from.result (drop 4 raw) bytes))
