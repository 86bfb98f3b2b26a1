-- The blocks that the program takes are those of the padded message.
use Rattle.std.proofs.Common.{◌≡◌, ℕ, ◌+◌, ◌-◌, ◌*◌, ◌/◌, ◌≤◌, List, ◌++◌, length, take, replicate, sym, ap, ◌∙◌, arith}
use Rattle.std.specs.List.{fold}
use Rattle.std.specs.Simd.{first_chunks}
use Rattle.std.proofs.lemmas.List.{length-append, length-drop, length-replicate}
use Rattle.digest.specs.Blocks.{absorbed}
use Rattle.sha256.specs.declared.state.State.{State}
use Rattle.sha256.specs.Words.{eight_bytes}
use Rattle.sha256.specs.Sha256.{zeros, padding, padded, initial, compressed, final}
use Rattle.sha256.specs.Tail.{tail_blocks, tail}
use Rattle.digest.proofs.Chunks.{take-first_chunks, absorbed_add, absorbed_front, chunks_absorbed}
use Rattle.sha256.proofs.Ends.{tail_sized}

length_padded : (message : List ℕ) → length (padded message) ≡ length message + 9 + zeros (length message)
unfolding padded padding
length_padded message =
    let z = zeros (length message) in
    let eight = eight_bytes (8 * length message) in
    let ends : length (replicate {A = ℕ} z 0 ++ eight) ≡ z + 8 = simp (length-append, length-replicate) in
    length-append message (padding (length message)) ∙ omega (arith, ends)

pub block_count : (message : List ℕ) → length (padded message) / 64 ≡ length message / 64 + tail_blocks (length message)
block_count message = omega (arith, length_padded message, tail_sized (length message))

-- the whole blocks of the message
whole_is : (message : List ℕ)
    → fold compressed initial (first_chunks 64 (length message / 64) message) ≡ absorbed compressed initial 64 (padded message) (length message / 64)
unfolding padded
whole_is message =
    let n = length message in
    chunks_absorbed compressed initial 64 (n / 64) message
    ∙ sym (absorbed_front compressed initial 64 (n / 64) message (padding n) (omega arith))

-- all blocks: b of the n chunks of the end, behind those
pub all_is : (message last : List ℕ) (b n : ℕ) → b ≡ tail_blocks (length message) → b ≤ n
    → last ≡ tail message ++ replicate (128 - 64 * tail_blocks (length message)) 0
    → fold compressed (fold compressed initial (first_chunks 64 (length message / 64) message)) (take b (first_chunks 64 n last))
    ≡ final message
all_is message last b n eb room el =
    let k = length message / 64 in
    let s = absorbed compressed initial 64 (padded message) k in
    let size : length (tail message) ≡ 64 * b =
    length-drop (k * 64) (padded message) ∙ omega (arith, eb, length_padded message, tail_sized (length message)) in
    let count : k + b ≡ length (padded message) / 64 = omega (arith, eb, block_count message) in
    ap (λ (z : State). fold compressed z (take b (first_chunks 64 n last))) (whole_is message)
    ∙ ap (fold compressed s) (take-first_chunks 64 b n last room)
    ∙ chunks_absorbed compressed s 64 b last
    ∙ ap (λ (l : List ℕ). absorbed compressed s 64 l b) el
    ∙ absorbed_front compressed s 64 b (tail message) (replicate (128 - 64 * tail_blocks (length message)) 0) (omega arith)
    ∙ absorbed_add compressed initial 64 k b (padded message)
    ∙ ap (absorbed compressed initial 64 (padded message)) count
