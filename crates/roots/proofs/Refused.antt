-- The writer's tests, one after another.
use Rattle.std.proofs.Common.{◌≡◌, ℕ, ◌<◌, ◌≤◌, true, false, not, ltb, List, [], ◌∷◌, length, Some, None, ap, ◌∙◌}
use Rattle.std.proofs.lemmas.Bool.{lt-ltb, le-ltb}
use Rattle.wire.specs.Faults.{when, first}
use Rattle.wire.proofs.Firsts.{passed, stopped}
use Rattle.roots.specs.declared.entry.Entry.{Entry}
use Rattle.roots.specs.declared.fault.PrintRefusal.TheVariants.{Count, Seconds, Short}
use Rattle.roots.specs.Entries.{rising, seconds_of}
use Rattle.roots.specs.Reading.{most, unordered}
use Rattle.roots.specs.Printing.{printed_length, print_refusal}

module _ (entries : List Entry) (room : ℕ) where
  pub too_many : most < length entries → print_refusal entries room ≡ Some Count
  too_many h = stopped _ _ Count (lt-ltb most (length entries) h)

  module _ (few : length entries ≤ most) where
    past_count : print_refusal entries room ≡ first (when (unordered entries) Seconds ∷ when (ltb room (printed_length entries)) Short ∷ [])
    past_count = passed _ _ Count (le-ltb most (length entries) few)

    pub not_rising : rising 0 (seconds_of entries) ≡ false → print_refusal entries room ≡ Some Seconds
    not_rising e = past_count ∙ stopped _ _ Seconds (ap not e)

    module _ (ordered : rising 0 (seconds_of entries) ≡ true) where
      past_seconds : print_refusal entries room ≡ first (when (ltb room (printed_length entries)) Short ∷ [])
      past_seconds = past_count ∙ passed _ _ Seconds (ap not ordered)

      pub too_short : room < printed_length entries → print_refusal entries room ≡ Some Short
      too_short h = past_seconds ∙ stopped _ _ Short (lt-ltb room (printed_length entries) h)

      pub served : printed_length entries ≤ room → print_refusal entries room ≡ None
      served h = past_seconds ∙ passed _ _ Short (le-ltb room (printed_length entries) h)

-- the tests in their order
pub ruleset tests = (too_many, not_rising, too_short, served)
