-- The padding: how the last block is made, and that it is the padded message's last block.
use Rattle.std.proofs.Common.{◌≡◌, ℕ, suc, ◌+◌, ◌-◌, ◌*◌, ◌/◌, ◌%◌, ◌<◌, ◌≤◌, List, ◌∷◌, ◌++◌, length, get_or, drop, set, replicate, refl, ap, ◌∙◌, ap₂, arith}
use lib.Bits.{bit_or}
use Rattle.std.proofs.lemmas.List.{get_or-append_right, set-append_right, length-append, length-set, length-drop, length-replicate, drop-replicate, take_all}
use Rattle.digest.specs.Blocks.{block}
use Rattle.digest.proofs.Blocks.{block_back}
use Rattle.sha3.specs.Sha3.{gap, opened, padding, padded, blocks}

pub length_padding : (n : ℕ) → length (padding n) ≡ gap n + 1
unfolding padding opened
length_padding n =
    let zeros : length {A = ℕ} (replicate (gap n) 0) ≡ gap n = length-replicate {A = ℕ} (gap n) 0 in
    omega (arith, length-set (opened n) (gap n) (bit_or (get_or (opened n) (gap n) 0) 0x80))

-- the padding depends on what is left of the message alone
pub padding_same : (m n : ℕ) → m % 136 ≡ n % 136 → padding m ≡ padding n
unfolding padding opened gap
padding_same m n e =
    ap (λ r. set (0x06 ∷ replicate (135 - r) 0) (135 - r) (bit_or (get_or (0x06 ∷ replicate (135 - r) 0) (135 - r) 0) 0x80)) e

-- the padded message is whole blocks
pub padded_whole : (message : List ℕ) → length (padded message) ≡ blocks message * 136
unfolding padded blocks gap
padded_whole message = omega (arith, length-append message (padding (length message)), length_padding (length message))

-- the first byte of the padding, over zeros
pub opened_set : (rest : List ℕ) → length rest < 136
    → set (rest ++ replicate (136 - length rest) 0) (length rest) 0x06 ≡ rest ++ opened (length rest)
unfolding opened gap
opened_set rest h =
    let n : ℕ = length rest in
    let k : ℕ = 135 - n % 136 in
    let more : 136 - n ≡ suc k = omega arith in
    let first : n - n ≡ 0 = omega arith in
    set-append_right rest (replicate (136 - n) 0) n n 0x06 refl (omega arith)
    ∙ (ap (λ (m : ℕ). rest ++ set (replicate m 0) (n - n) 0x06) more ∙ ap (λ (j : ℕ). rest ++ set (0 ∷ replicate k 0) j 0x06) first)

-- the last byte of the padding
pub padding_set : (rest : List ℕ) → length rest < 136
    → set (rest ++ opened (length rest)) 135 (bit_or (get_or (rest ++ opened (length rest)) 135 0) 0x80) ≡ rest ++ padding (length rest)
unfolding padding gap
padding_set rest h =
    let n : ℕ = length rest in
    let last : 135 - n ≡ gap n = omega arith in
    set-append_right rest (opened n) n 135 (bit_or (get_or (rest ++ opened n) 135 0) 0x80) refl (omega arith)
    ∙ (ap (λ (v : ℕ). rest ++ set (opened n) (135 - n) (bit_or v 0x80)) (get_or-append_right rest (opened n) n 135 0 refl (omega arith))
    ∙ ap (λ (j : ℕ). rest ++ set (opened n) j (bit_or (get_or (opened n) j 0) 0x80)) last)

-- the last block, as it is made from a copy of what is left of the message, and zeros
pub last_from : (rest copy zeros : List ℕ) → length rest < 136 → copy ≡ rest → zeros ≡ replicate (136 - length rest) 0
    → let xs : List ℕ = copy ++ zeros in
    set (set xs (length rest) 0x06) 135 (bit_or (get_or (set xs (length rest) 0x06) 135 0) 0x80) ≡ rest ++ padding (length rest)
last_from rest copy zeros h e f =
    let n : ℕ = length rest in
    ap (λ ys. set (set ys n 0x06) 135 (bit_or (get_or (set ys n 0x06) 135 0) 0x80)) (ap₂ ◌++◌ e f)
    ∙ (ap (λ ys. set ys 135 (bit_or (get_or ys 135 0) 0x80)) (opened_set rest h) ∙ padding_set rest h)

-- the same, where the zeros are those that the copy leaves of a block
pub last_made : (rest copy : List ℕ) → length rest < 136 → copy ≡ rest
    → let xs : List ℕ = copy ++ drop (length rest) (replicate 136 0) in
    set (set xs (length rest) 0x06) 135 (bit_or (get_or (set xs (length rest) 0x06) 135 0) 0x80) ≡ rest ++ padding (length rest)
last_made rest copy h e = last_from rest copy (drop (length rest) (replicate 136 0)) h e (drop-replicate (length rest) 136 0)

-- the padded message's last block
pub last_is : (message : List ℕ)
    → block 136 (padded message) (length message / 136)
    ≡ drop (length message / 136 * 136) message ++ padding (length (drop (length message / 136 * 136) message))
unfolding padded gap
last_is message =
    let n : ℕ = length message in
    let at : ℕ = n / 136 * 136 in
    let rest : List ℕ = drop at message in
    let left : length rest ≡ n - at = length-drop at message in
    let whole : length (rest ++ padding n) ≤ 136 = omega (arith, length-append rest (padding n), length_padding n) in
    block_back 136 message (padding n) (n / 136) (omega arith)
    ∙ (take_all 136 (rest ++ padding n) whole ∙ ap (λ ys. rest ++ ys) (padding_same n (length rest) (omega arith)))
