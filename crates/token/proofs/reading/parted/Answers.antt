use Rattle.std.proofs.Common.{◌≡◌, ℕ, List, take, drop, ap, ◌∙◌}
use Rattle.std.proofs.lemmas.List.{take_rest}
use Rattle.wire.proofs.Numbers.{told_is}
use Rattle.layout.specs.Parts.{Parts, links_in, round_count}
use Rattle.layout.proofs.Links.{links_are}
use Rattle.token.proofs.reading.parted.Goals as goal

-- parts that are equal one by one
made : (whole : List ℕ) {r₁ r₂ : List ℕ} {s₁ s₂ p₁ p₂ : ℕ} {a₁ a₂ c₁ c₂ : List (List ℕ)} → r₁ ≡ r₂ → s₁ ≡ s₂ → p₁ ≡ p₂ → a₁ ≡ a₂ → c₁ ≡ c₂
    → ◌≡◌ {A = Parts} (record { whole = whole; recorded = r₁; second = s₁; publication = p₁; round = a₁; calendar = c₁ })
    (record { whole = whole; recorded = r₂; second = s₂; publication = p₂; round = a₂; calendar = c₂ })
made whole r s p a c = cc

pub returns : goal.returns
returns c =
    let bytes : List ℕ = c.args.bytes.now in
    let links : c.as_chunks.result.0.now ≡ links_in bytes =
    c.as_chunks.ensures.front ∙ links_are bytes _ c.requires.0 c.requires.1 (take_rest bytes 48) in
    let first = rw c.unwrap-recorded.ensures at c.first_chunk.ensures.cases in
    made bytes
    (first.same ∙ ap (take 32) (take_rest bytes 6))
    (told_is bytes 38 c.number_at.ensures c.unwrap.ensures)
    (told_is bytes 42 c.number_at-2.ensures c.unwrap-2.ensures)
    (c.split_at.ensures.front ∙ ap (take (round_count bytes)) links)
    (c.split_at.ensures.back ∙ ap (drop (round_count bytes)) links)
