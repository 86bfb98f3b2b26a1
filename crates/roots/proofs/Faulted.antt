-- The tests of a printed list, passed one after another.
use Rattle.std.proofs.Common.{◌≡◌, ℕ, ◌+◌, ◌-◌, ◌*◌, ◌/◌, ◌≤◌, true, false, not, List, [], ◌∷◌, length, get_or, take, drop, Ok, Err, ap, ◌∙◌, ap₂, arith}
use Rattle.std.specs.Simd.{first_chunks}
use Rattle.std.proofs.lemmas.List.{take_rest, length-drop}
use Rattle.std.proofs.lemmas.Bool.{le-ltb, eq-eqb, or_from, and_from}
use Rattle.wire.specs.Bytes.{pair_at}
use Rattle.wire.specs.Faults.{when, first, unless}
use Rattle.wire.proofs.Firsts.{passed, stopped}
use Rattle.roots.specs.declared.fault.ListFault.TheVariants.{Short, Mark, Version, Hash, Size, Seconds}
use Rattle.roots.specs.Entries.{rising, seconds_of, listed}
use Rattle.roots.specs.Reading.{most, count_in, list_entries, unordered, list_fault, list_answer}

-- what a list has that passes all tests but that of its seconds
pub record Headed (number : ℕ) (bytes : List ℕ) : Type 0 where
  pub long : 8 ≤ length bytes
  pub mark_0 : get_or bytes 0 0 ≡ 72
  pub mark_1 : get_or bytes 1 0 ≡ 67
  pub mark_2 : get_or bytes 2 0 ≡ 80
  pub version : pair_at bytes 3 ≡ 1
  pub hash : get_or bytes 5 0 ≡ number
  pub few : count_in bytes ≤ most
  pub size : length bytes ≡ 8 + 36 * count_in bytes

module _ (number : ℕ) (bytes : List ℕ) (head : Headed number bytes) where
  past_head : list_fault number bytes ≡ first (when (unordered (list_entries bytes)) Seconds ∷ [])
  past_head =
      passed _ _ Short (le-ltb (length bytes) 8 head.long)
      ∙ passed _ _ Mark (ap not (and_from _ _ (eq-eqb (get_or bytes 0 0) 72 head.mark_0)
      (and_from _ _ (eq-eqb (get_or bytes 1 0) 67 head.mark_1) (eq-eqb (get_or bytes 2 0) 80 head.mark_2))))
      ∙ passed _ _ Version (ap not (eq-eqb (pair_at bytes 3) 1 head.version))
      ∙ passed _ _ Hash (ap not (eq-eqb (get_or bytes 5 0) number head.hash))
      ∙ passed _ _ Size (or_from _ _ (le-ltb most (count_in bytes) head.few)
      (ap not (eq-eqb (length bytes) (8 + 36 * count_in bytes) head.size)))

  pub not_rising : rising 0 (seconds_of (list_entries bytes)) ≡ false → list_answer number bytes ≡ Err Seconds
  not_rising e = ap (λ o. unless o (list_entries bytes)) (past_head ∙ stopped _ _ Seconds (ap not e))

  pub read : rising 0 (seconds_of (list_entries bytes)) ≡ true → list_answer number bytes ≡ Ok (list_entries bytes)
  read e = ap (λ o. unless o (list_entries bytes)) (past_head ∙ passed _ _ Seconds (ap not e))

  -- the chunks behind the head
  pub chunks_are : (raws : List (List ℕ))
      → raws ≡ first_chunks 36 (length (take (length bytes - 8) (drop 8 bytes)) / 36) (take (length bytes - 8) (drop 8 bytes))
      → listed raws ≡ list_entries bytes
  chunks_are raws e =
      let rest = take_rest bytes 8 in
      let count : length (take (length bytes - 8) (drop 8 bytes)) / 36 ≡ count_in bytes =
      ap (λ xs. length xs / 36) rest ∙ omega (arith, length-drop 8 bytes, head.size) in
      ap listed (e ∙ ap₂ (first_chunks 36) count rest)
