-- A printed list, as it is written entry by entry.
use Rattle.std.proofs.Common.{◌≡◌, ℕ, suc, ◌+◌, ◌*◌, ◌<◌, ◌≤◌, List, [], ◌∷◌, ◌++◌, length, get_or, take, drop, sym, refl, ap, ◌∙◌, ap₂, arith}
use borrow.Rule.Slice.PartMut.{put_mid}
use Rattle.std.specs.List.{flat_map}
use Rattle.std.proofs.lemmas.List.{length-append, flat_map_more, take_more, take_all, length-take-le}
use Rattle.std.proofs.lemmas.Slice.{drop-append-drop}
use Rattle.digest.specs.Messages.{two_bytes}
use Rattle.tree.specs.Answers.{over}
use Rattle.wire.proofs.Written.{over_put}
use Rattle.roots.specs.declared.entry.Entry.{Entry}
use Rattle.roots.specs.Entries.{entry_bytes}
use Rattle.roots.specs.Reading.{list_layout}

-- the head, and the first n entries
abbrev pub printed : ℕ → List Entry → ℕ → List ℕ
printed number entries n = 72 ∷ 67 ∷ 80 ∷ 0 ∷ 1 ∷ number ∷ two_bytes (length entries) ++ flat_map entry_bytes (take n entries)

pub length_entry : (entry : Entry) → length (entry_bytes entry) ≡ 36
length_entry entry = ap (λ n. suc (suc (suc (suc n)))) entry.root.whole

pub length_entries : (entries : List Entry) → length (flat_map entry_bytes entries) ≡ 36 * length entries
length_entries [] = refl
length_entries (entry ∷ later) =
    length-append (entry_bytes entry) (flat_map entry_bytes later) ∙ omega (arith, length_entry entry, length_entries later)

pub length_layout : (number : ℕ) (entries : List Entry) → length (list_layout number entries) ≡ 8 + 36 * length entries
length_layout number entries = omega (arith, length_entries entries)

module _ (number : ℕ) (entries : List Entry) (n : ℕ) where
  pub length_printed : n ≤ length entries → length (printed number entries n) ≡ 8 + 36 * n
  length_printed h = omega (arith, length_entries (take n entries), length-take-le n entries h)

  pub printed_all : length entries ≤ n → printed number entries n ≡ list_layout number entries
  printed_all h = ap (λ es. 72 ∷ 67 ∷ 80 ∷ 0 ∷ 1 ∷ number ∷ two_bytes (length entries) ++ flat_map entry_bytes es) (take_all n entries h)

  pub printed_more : n < length entries → (entry : Entry) → entry ≡ get_or entries n entry
      → printed number entries n ++ entry_bytes entry ≡ printed number entries (n + 1)
  printed_more h entry is =
      let head = 72 ∷ 67 ∷ 80 ∷ 0 ∷ 1 ∷ number ∷ two_bytes (length entries) in
      flat_map_more entry_bytes head (take n entries) entry
      ∙ ap (λ es. head ++ flat_map entry_bytes es) (ap (λ x. take n entries ++ x ∷ []) is ∙ sym (take_more entries n entry h))

  -- one entry more over the front of a buffer
  pub over_more : (old out part : List ℕ) → out ≡ over (printed number entries n) old → n < length entries
      → (entry : Entry) → entry ≡ get_or entries n entry → part ≡ entry_bytes entry → (k : ℕ) → k ≡ 36
      → put_mid (8 + 36 * n) k out part ≡ over (printed number entries (n + 1)) old
  over_more old out part before h entry is written k size =
      ap₂ (put_mid (8 + 36 * n) k) before written
      ∙ over_put (printed number entries n) (entry_bytes entry) old (8 + 36 * n) k (sym (length_printed (omega arith))) (size ∙ sym (length_entry entry))
      ∙ ap (λ front. over front old) (printed_more h entry is)

  -- the head written again is the head
  pub over_head : (old head : List ℕ) → length head ≡ 8 → length entries ≤ n → over (printed number entries n) (head ++ drop 8 old) ≡ over (list_layout number entries) old
  over_head old head size h =
      let front = list_layout number entries in
      ap (λ xs. over xs (head ++ drop 8 old)) (printed_all h)
      ∙ ap (λ xs. front ++ xs) (drop-append-drop 8 old head (length front) (omega (arith, length_layout number entries)) size)
