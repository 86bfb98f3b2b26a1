-- The sponge takes in the blocks of the padded message.
use Rattle.std.proofs.Common.{◌≡◌, ℕ, ◌+◌, ◌*◌, ◌/◌, List, ◌++◌, length, drop, replicate, sym, ap, ◌∙◌, arith}
use Rattle.std.specs.List.{fold}
use Rattle.std.specs.Simd.{first_chunks}
use Rattle.digest.specs.Blocks.{block}
use Rattle.digest.proofs.Blocks.{absorbed_more}
use Rattle.sha3.specs.Sha3.{padding, padded, absorb, sponge, blocks, soaked}
use Rattle.digest.proofs.Chunks.{absorbed_front, chunks_absorbed}
use Rattle.sha3.proofs.Padding.{last_is}

-- one block more
pub sponge_more : (message : List ℕ) (n : ℕ)
    → sponge message (n + 1) ≡ absorb (sponge message n) (block 136 (padded message) n)
unfolding sponge
sponge_more message n = absorbed_more absorb (replicate 25 0) 136 (padded message) n

-- the whole blocks of the message
whole_is : (message : List ℕ)
    → fold absorb (replicate 25 0) (first_chunks 136 (length message / 136) message) ≡ sponge message (length message / 136)
unfolding sponge padded
whole_is message =
    let n : ℕ = length message / 136 in
    chunks_absorbed absorb (replicate 25 0) 136 n message
    ∙ sym (absorbed_front absorb (replicate 25 0) 136 n message (padding (length message)) (omega arith))

-- the last block, which is made of what is left
pub absorbed_last : (message rest : List ℕ) → rest ≡ drop (length message / 136 * 136) message
    → absorb (sponge message (length message / 136)) (rest ++ padding (length rest))
    ≡ sponge message (length message / 136 + 1)
absorbed_last message rest e =
    let n : ℕ = length message / 136 in
    ap (λ left. absorb (sponge message n) (left ++ padding (length left))) e
    ∙ (ap (absorb (sponge message n)) (sym (last_is message)) ∙ sym (sponge_more message n))

-- the whole blocks of the message, and then the last block
pub soaked_is : (message rest last : List ℕ) → rest ≡ drop (length message / 136 * 136) message → last ≡ rest ++ padding (length rest)
    → absorb (fold absorb (replicate 25 0) (first_chunks 136 (length message / 136) message)) last ≡ soaked message
unfolding soaked blocks
soaked_is message rest last er el =
    ap (λ (s : List ℕ). absorb s last) (whole_is message)
    ∙ ap (absorb (sponge message (length message / 136))) el
    ∙ absorbed_last message rest er
