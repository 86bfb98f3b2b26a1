use Rattle.std.proofs.Common.{◌≡◌, List, ℕ, ◌/◌, length, rules, ap, ◌∙◌}
use Rattle.std.specs.List.{fold}
use Rattle.std.specs.Simd.{first_chunks}
use Rattle.std.proofs.lemmas.Iterator.{YieldsList-from_slice}
use Rattle.std.proofs.lemmas.Iterator.Consumers.{fold_from_yields_List}
use Rattle.sha256.specs.Keyed.{keyed_round}
use Rattle.sha256.specs.Sha256.{compressed, sums, round, rounds}
use Rattle.sha256.proofs.Keys.{eights_are}
use Rattle.sha256.proofs.compression.compress.Goals as goal

pub returns : goal.returns
unfolding compressed
returns c =
    let s = c.args.state in
    let W = c.schedule.result in
    let X = c.with_constants-keys.result in
    let eights = c.as_chunks.result.0.now in
    let folded : c.fold.result ≡ fold (fold keyed_round) s eights =
    fold_from_yields_List _ (fold keyed_round) s c.fold.result c.fold.ensures.ran (YieldsList-from_slice eights c.iter.ensures.rest) (λ a x b q k. search rules) in
    let cut : eights ≡ first_chunks 8 (length X / 8) X = c.as_chunks.ensures.front in
    c.added.ensures
    ∙ ap (sums s)
    (folded ∙ ap (fold (fold keyed_round) s) cut
    ∙ ap (λ (Y : List ℕ). fold (fold keyed_round) s (first_chunks 8 (length Y / 8) Y)) c.with_constants-keys.ensures
    ∙ eights_are W s
    ∙ ap (λ (V : List ℕ). rounds (round V) s 0 64) c.schedule.ensures)
