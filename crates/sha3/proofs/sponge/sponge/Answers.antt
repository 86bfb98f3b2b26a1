use Rattle.std.proofs.Common.{◌≡◌, List, ℕ, replicate, rules, ap, ◌∙◌}
use Rattle.std.specs.List.{fold}
use Rattle.std.proofs.lemmas.Iterator.{YieldsList-from_slice}
use Rattle.std.proofs.lemmas.Iterator.Consumers.{fold_from_yields_List}
use Rattle.sha3.specs.Sha3.{absorb}
use Rattle.sha3.proofs.Absorbed.{soaked_is}
use Rattle.sha3.proofs.Padding.{padded_whole}
use Rattle.sha3.proofs.sponge.sponge.Goals as goal

pub returns-clause-state : goal.returns-clause-state
returns-clause-state c =
    let start : List ℕ = replicate 25 0 in
    let cut = c.as_chunks.result.0.now in
    let folded : c.fold-a.result ≡ fold absorb start cut =
    fold_from_yields_List _ absorb start c.fold-a.result c.fold-a.ensures.ran (YieldsList-from_slice cut c.iter.ensures.rest) (λ a x b q k. search rules) in
    c.absorb.ensures
    ∙ ap (λ (s : List ℕ). absorb s c.last_block.result) (folded ∙ ap (fold absorb start) c.as_chunks.ensures.front)
    ∙ soaked_is c.args.message.now c.as_chunks.result.1.now c.last_block.result c.as_chunks.ensures.back c.last_block.ensures

pub returns-clause-whole : goal.returns-clause-whole
returns-clause-whole c = padded_whole c.args.message.now
