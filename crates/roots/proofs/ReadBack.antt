-- What is read prints as the bytes that it was read from.
use Rattle.std.proofs.Common.{◌≡◌, ℕ, zero, suc, ◌+◌, ◌*◌, ◌≤◌, not, eqb, ltb, List, ◌∷◌, ◌++◌, length, get_or, take, drop, None, sym, ap, ◌∙◌, ap₂, arith}
use Rattle.std.specs.List.{flat_map}
use Rattle.std.specs.Simd.{first_chunks}
use Rattle.std.proofs.lemmas.List.{take_all, take-append-drop, drop_more, length-take-le, length-drop, nil_from_length}
use Rattle.std.proofs.lemmas.Bool.{ltb-false, eqb-true, not-false, and_parts, or_parts}
use Rattle.wire.specs.Bytes.{Bytes, pair_at, digest_of}
use Rattle.wire.proofs.Firsts.{none_held, unless_ok}
use Rattle.wire.proofs.Parts.{bytes_drop, bytes_take, length_chunked}
use Rattle.wire.proofs.Digests.{digest_bytes}
use Rattle.wire.proofs.Numbers.{number_written}
use Rattle.roots.specs.declared.fault.ListFault.TheVariants.{Short, Mark, Version, Hash, Size}
use Rattle.roots.specs.Entries.{entry_of, entry_bytes, listed}
use Rattle.roots.specs.Laws.{ReadsBack}
use Rattle.roots.specs.Reading.{most, marked, count_in, list_entries, misfit, list_fault, list_layout}
use Rattle.roots.proofs.Faulted.{Headed}
use Rattle.roots.proofs.Listed.{length_listed}

-- an entry that is read prints as its bytes
entry_printed : (raw : List ℕ) → length raw ≡ 36 → Bytes raw → entry_bytes (entry_of raw) ≡ raw
entry_printed raw size fits =
    let rest = length-drop 4 raw in
    let root : (digest_of (drop 4 raw)).bytes ≡ drop 4 raw =
    digest_bytes (drop 4 raw) (bytes_drop 4 raw fits) (omega arith) ∙ take_all 32 (drop 4 raw) (omega arith) in
    ap₂ (λ (x y : List ℕ). x ++ y) (number_written raw 0 fits (omega arith)) root ∙ take-append-drop 4 raw

entries_printed : (k : ℕ) (xs : List ℕ) → length xs ≡ 36 * k → Bytes xs → flat_map entry_bytes (listed (first_chunks 36 k xs)) ≡ xs
entries_printed zero xs size fits = sym (nil_from_length xs (omega arith))
entries_printed (suc k) xs size fits =
    let first = entry_printed (take 36 xs) (length-take-le 36 xs (omega arith)) (bytes_take 36 xs (omega arith) fits) in
    let later = entries_printed k (drop 36 xs) (omega (arith, length-drop 36 xs)) (bytes_drop 36 xs fits) in
    ap₂ (λ (x y : List ℕ). x ++ y) first later ∙ take-append-drop 36 xs

-- the items of the head one by one
eight : (xs : List ℕ) → 8 ≤ length xs
    → xs ≡ get_or xs 0 0 ∷ get_or xs 1 0 ∷ get_or xs 2 0 ∷ get_or xs 3 0 ∷ get_or xs 4 0 ∷ get_or xs 5 0 ∷ get_or xs 6 0 ∷ get_or xs 7 0 ∷ drop 8 xs
eight xs h =
    let d₀ = drop_more xs 0 0 (omega arith) in
    let d₁ = drop_more xs 1 0 (omega arith) in
    let d₂ = drop_more xs 2 0 (omega arith) in
    let d₃ = drop_more xs 3 0 (omega arith) in
    let d₄ = drop_more xs 4 0 (omega arith) in
    let d₅ = drop_more xs 5 0 (omega arith) in
    let d₆ = drop_more xs 6 0 (omega arith) in
    let d₇ = drop_more xs 7 0 (omega arith) in
    cc

-- what the tests tell of a list that passes them
headed : (number : ℕ) (bytes : List ℕ) → list_fault number bytes ≡ None → Headed number bytes
headed number bytes e =
    let t₀ = none_held _ (ltb (length bytes) 8) Short e in
    let t₁ = none_held _ (not (marked bytes)) Mark t₀.1 in
    let t₂ = none_held _ (not (eqb (pair_at bytes 3) 1)) Version t₁.1 in
    let t₃ = none_held _ (not (eqb (get_or bytes 5 0) number)) Hash t₂.1 in
    let t₄ = none_held _ (misfit bytes) Size t₃.1 in
    let mark = and_parts (eqb (get_or bytes 0 0) 72) _ (not-false (marked bytes) t₁.0) in
    let mark' = and_parts (eqb (get_or bytes 1 0) 67) _ mark.1 in
    let fit = or_parts (ltb most (count_in bytes)) _ t₄.0 in
    record {
      long = ltb-false (length bytes) 8 t₀.0;
      mark_0 = eqb-true (get_or bytes 0 0) 72 mark.0;
      mark_1 = eqb-true (get_or bytes 1 0) 67 mark'.0;
      mark_2 = eqb-true (get_or bytes 2 0) 80 mark'.1;
      version = eqb-true (pair_at bytes 3) 1 (not-false _ t₂.0);
      hash = eqb-true (get_or bytes 5 0) number (not-false _ t₃.0);
      few = ltb-false most (count_in bytes) fit.0;
      size = eqb-true (length bytes) (8 + 36 * count_in bytes) (not-false _ fit.1);
    }

same_head : {a b c d e f g h a' b' c' d' e' f' g' h' : ℕ} {xs ys : List ℕ} → a ≡ a' → b ≡ b' → c ≡ c' → d ≡ d' → e ≡ e' → f ≡ f' → g ≡ g' → h ≡ h'
    → xs ≡ ys → a ∷ b ∷ c ∷ d ∷ e ∷ f ∷ g ∷ h ∷ xs ≡ a' ∷ b' ∷ c' ∷ d' ∷ e' ∷ f' ∷ g' ∷ h' ∷ ys
same_head p₀ p₁ p₂ p₃ p₄ p₅ p₆ p₇ p₈ = cc

printed_again : (number : ℕ) (bytes : List ℕ) → Bytes bytes → Headed number bytes → list_layout number (list_entries bytes) ≡ bytes
printed_again number bytes fits head =
    let count = length_listed (first_chunks 36 (count_in bytes) (drop 8 bytes)) ∙ length_chunked 36 (count_in bytes) (drop 8 bytes) in
    let size = head.size in
    let low = fits 7 (omega arith) in
    let high = fits 6 (omega arith) in
    let version = head.version in
    let entries = entries_printed (count_in bytes) (drop 8 bytes) (omega (arith, length-drop 8 bytes)) (bytes_drop 8 bytes fits) in
    same_head (sym head.mark_0) (sym head.mark_1) (sym head.mark_2) (omega arith) (omega arith) (sym head.hash) (omega arith) (omega arith) entries
    ∙ sym (eight bytes head.long)

pub reads_back : ReadsBack
reads_back number bytes entries fits e =
    let told = unless_ok (list_fault number bytes) (list_entries bytes) entries e in
    ap (list_layout number) (sym told.1) ∙ printed_again number bytes fits (headed number bytes told.0)
