use Rattle.std.proofs.Common.{◌≡◌, List, ℕ, ◌/◌, length, take, rules, ap, ◌∙◌, arith}
use Rattle.std.specs.List.{fold}
use Rattle.std.specs.Simd.{first_chunks}
use Rattle.std.proofs.lemmas.Iterator.{YieldsList-from_slice}
use Rattle.std.proofs.lemmas.Iterator.Consumers.{fold_from_yields_List}
use Rattle.sha256.specs.declared.state.State.{State}
use Rattle.sha256.specs.Sha256.{sha256_bytes, state_bytes, initial, compressed}
use Rattle.sha256.proofs.Absorbing.{all_is}
use Rattle.sha256.proofs.hash.hashed.Goals as goal

pub returns : goal.returns
unfolding sha256_bytes
returns c =
    let m = c.args.message.now in
    let last = c.tail-last.result in
    let b = c.blocks-count.result in
    let state = c.fold-state.result in
    let whole : state ≡ fold compressed initial c.as_chunks.result.0.now =
    fold_from_yields_List _ compressed initial state c.fold-state.ensures.ran (YieldsList-from_slice c.as_chunks.result.0.now c.iter.ensures.rest) (λ a x b q k. search rules) in
    let ends : c.fold.result ≡ fold compressed state (take b c.as_chunks-2.result.0.now) =
    fold_from_yields_List _ compressed state c.fold.result c.fold.ensures.ran (YieldsList-from_slice (take b c.as_chunks-2.result.0.now) c.iter-2.ensures.rest) (λ a x b q k. search rules) in
    c.bytes.ensures
    ∙ ap state_bytes
    (ends ∙ ap (λ (l : List (List ℕ)). fold compressed state (take b l)) c.as_chunks-2.ensures.front
    ∙ ap (λ (z : State). fold compressed z (take b (first_chunks 64 (length last / 64) last))) (whole ∙ ap (fold compressed initial) c.as_chunks.ensures.front)
    ∙ all_is m last b (length last / 64) c.blocks-count.ensures.count (omega arith) c.tail-last.ensures)
