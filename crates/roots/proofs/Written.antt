-- A printed list is read as the list that was printed, and what is read prints as the bytes that it was read from.
use Rattle.std.proofs.Common.{◌≡◌, ℕ, ◌+◌, ◌^◌, ◌<◌, ◌≤◌, true, ltb, List, [], ◌∷◌, length, Ok, sym, refl, ap, ◌∙◌, ap₂, arith}
use Rattle.std.specs.List.{flat_map}
use Rattle.std.specs.Simd.{first_chunks}
use Rattle.std.proofs.lemmas.List.{take_at, drop_at, take_all}
use Rattle.std.proofs.lemmas.Bool.{ltb-false, not-false}
use Rattle.wire.proofs.Firsts.{none_held, unless_ok}
use Rattle.wire.proofs.Digests.{digest_is}
use Rattle.wire.proofs.Numbers.{number_read}
use Rattle.roots.specs.declared.entry.Entry.{Entry}
use Rattle.roots.specs.declared.fault.PrintRefusal.TheVariants.{Count, Seconds}
use Rattle.roots.specs.Entries.{entry_of, entry_bytes, listed, seconds_of, rising}
use Rattle.roots.specs.Laws.{WrittenLaw}
use Rattle.roots.specs.Reading.{most, count_in, list_entries, unordered, list_answer, list_layout}
use Rattle.roots.specs.Printing.{printed_length, print_refusal}
use Rattle.roots.proofs.Rises.{rising_parts}
use Rattle.roots.proofs.Faulted.{Headed, read}
use Rattle.roots.proofs.Printed.{length_entry, length_layout}

-- an entry's bytes are read as the entry
entry_read : (entry : Entry) → entry.second < 2 ^ 32 → entry_of (entry_bytes entry) ≡ entry
entry_read entry h =
    ap₂ (λ s r. record { second = s; root = r }) (number_read [] entry.root.bytes entry.second 0 refl h)
    (digest_is entry.root entry.root.bytes (sym (take_all 32 entry.root.bytes (omega (arith, entry.root.whole)))))

entries_read : (low : ℕ) (entries : List Entry) → rising low (seconds_of entries) ≡ true
    → listed (first_chunks 36 (length entries) (flat_map entry_bytes entries)) ≡ entries
entries_read low [] e = refl
entries_read low (entry ∷ later) e =
    let p = rising_parts low entry.second (seconds_of later) e in
    let front = entry_bytes entry in
    let back = flat_map entry_bytes later in
    ap₂ (λ x xs. entry_of x ∷ listed (first_chunks 36 (length later) xs)) (take_at front back 36 (length_entry entry)) (drop_at front back 36 (length_entry entry))
    ∙ ap₂ (λ x xs. x ∷ xs) (entry_read entry (omega (arith, p.1))) (entries_read (entry.second + 1) later p.2)

module _ (number : ℕ) (entries : List Entry) (few : length entries ≤ most) (ordered : rising 0 (seconds_of entries) ≡ true) where
  counted : count_in (list_layout number entries) ≡ length entries
  counted = omega arith

  layout_read : list_answer number (list_layout number entries) ≡ Ok entries
  layout_read =
      let bytes : List ℕ = list_layout number entries in
      let size = length_layout number entries in
      let count = counted in
      let head : Headed number bytes =
      record {
        long = omega (arith, size);
        mark_0 = refl;
        mark_1 = refl;
        mark_2 = refl;
        version = refl;
        hash = refl;
        few = omega (arith, count);
        size = omega (arith, size, count);
      } in
      let same : list_entries bytes ≡ entries =
      ap (λ n. listed (first_chunks 36 n (flat_map entry_bytes entries))) count ∙ entries_read 0 entries ordered in
      read number bytes head (ap (λ es. rising 0 (seconds_of es)) same ∙ ordered) ∙ ap Ok same

pub written_law : WrittenLaw
written_law number entries room count e =
    let told = unless_ok (print_refusal entries room) (printed_length entries) count e in
    let p = none_held _ (ltb most (length entries)) Count told.0 in
    let q = none_held _ (unordered entries) Seconds p.1 in
    let few = ltb-false most (length entries) p.0 in
    let ordered = not-false (rising 0 (seconds_of entries)) q.0 in
    (length_layout number entries ∙ told.1, layout_read number entries few ordered)
