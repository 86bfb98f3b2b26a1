-- Each answer, by what it is given for.
use Rattle.std.proofs.Common.{◌≡◌, ℕ, ◌<◌, ◌≤◌, List, [], length, get_or, Some, None, Ok, Err, arith}
use Rattle.std.proofs.lemmas.Bool.Decides.{nat_tests}
use Rattle.digest.specs.declared.value.Digest.{Digest}
use Rattle.pile.specs.declared.refusal.CommitRefusal.TheVariants.{TooMany, Full}
use Rattle.pile.specs.declared.refusal.WayRefusal.{WayRefusal}
use Rattle.pile.specs.declared.refusal.WayRefusal.TheVariants.{Absent, Short}
use Rattle.pile.specs.Meaning.{Meaning}
use Rattle.pile.specs.Answers.{commit_answer, told, way_length, way_answer}

module _ (m : Meaning) (items : List Digest) where
  pub too_many : m.most < length items → commit_answer m items ≡ Err TooMany
  too_many h = grind (arith, nat_tests)

  pub full : length items ≤ m.most → m.span ≤ length m.row → commit_answer m items ≡ Err Full
  full h k = grind (arith, nat_tests)

  pub served : length items ≤ m.most → length m.row < m.span → commit_answer m items ≡ Ok tt
  served h k = grind (arith, nat_tests)

module _ (m : Meaning) (place : ℕ) where
  pub length_there : place < length m.round → way_length m place ≡ Some (told (length (get_or m.ways place [])))
  length_there h = grind (arith, nat_tests)

  pub length_absent : length m.round ≤ place → way_length m place ≡ None
  length_absent h = grind (arith, nat_tests)

  pub way_absent : (room : ℕ) → length m.round ≤ place → way_answer m place room ≡ Err Absent
  way_absent room h = grind (arith, nat_tests)

  pub way_short : (room : ℕ) → place < length m.round → room < length (get_or m.ways place []) → way_answer m place room ≡ Err Short
  way_short room h k = grind (arith, nat_tests)

  pub way_fits : (room : ℕ) → place < length m.round → length (get_or m.ways place []) ≤ room
      → way_answer m place room ≡ Ok (length (get_or m.ways place []))
  way_fits room h k = grind (arith, nat_tests)

  -- what an answer tells of the place and the room
  pub way_ok : (room count : ℕ) → way_answer m place room ≡ Ok count
      → (place < length m.round) × (length (get_or m.ways place []) ≤ room) × (count ≡ length (get_or m.ways place []))
  way_ok room count e = (grind (arith, nat_tests), grind (arith, nat_tests), grind (arith, nat_tests))

  pub way_err : (room : ℕ) (refusal : WayRefusal) → place < length m.round → way_answer m place room ≡ Err refusal
      → (refusal ≡ Short) × (room < length (get_or m.ways place []))
  way_err room refusal h e = (grind (arith, nat_tests), grind (arith, nat_tests))
