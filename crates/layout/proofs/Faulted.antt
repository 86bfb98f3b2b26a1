-- The tests of a reader, gone through in their order.
use Rattle.std.proofs.Common.{◌≡◌, ℕ, ◌^◌, ◌<◌, ◌≤◌, true, false, not, eqb, ltb, leb, List, [], ◌∷◌, length, get_or, Some, None, Option, ap, ◌∙◌, inl, inr}
use Rattle.std.specs.Option.{option_map}
use Rattle.std.proofs.lemmas.Bool.{cases_Bool, and_parts, and_from, eqb-true, eq-eqb, ne_eqb, lt-ltb, le-ltb, le-leb, lt-leb}
use Rattle.wire.specs.Bytes.{pair_at, number_at}
use Rattle.wire.specs.Faults.{when, first}
use Rattle.wire.proofs.Firsts.{passed, stopped}
use Rattle.layout.specs.declared.fault.Fault.{Fault}
use Rattle.layout.specs.declared.fault.Fault.TheVariants.{Short, Mark, Version, Hash, RoundCount, CalendarCount, Length, Side, Publication, Second}
use Rattle.layout.specs.Faults.{marked, length_told, bad_side, tests_behind, token_fault, Headed}
use Rattle.layout.specs.Parts.{round_count, calendar_count, links_in}

marked_by : (bytes : List ℕ) → get_or bytes 0 0 ≡ 72 → get_or bytes 1 0 ≡ 67 → get_or bytes 2 0 ≡ 84 → marked bytes ≡ true
marked_by bytes h c t = and_from _ _ (eq-eqb _ _ h) (and_from _ _ (eq-eqb _ _ c) (eq-eqb _ _ t))

pub unmarked : (bytes : List ℕ) → (get_or bytes 0 0 ≡ 72 → get_or bytes 1 0 ≡ 67 → get_or bytes 2 0 ≡ 84 → ⊥) → marked bytes ≡ false
unmarked bytes no-mark =
    elim (cases_Bool (marked bytes)) [
      | inl e ↦
          let parts = and_parts _ _ e in
          let rest = and_parts _ _ parts.1 in
          absurd (no-mark (eqb-true _ _ parts.0) (eqb-true _ _ rest.0) (eqb-true _ _ rest.1))
      | inr e ↦ e
    ]

module _ (number : ℕ) (bytes : List ℕ) where
  -- the tests that are left, from the last one on
  abbrev lengths : List (Option Fault)
  lengths = when (not (eqb (length bytes) (length_told bytes))) (Length (length bytes)) ∷ tests_behind bytes

  abbrev calendars : List (Option Fault)
  calendars = when (ltb 31 (calendar_count bytes)) CalendarCount ∷ lengths

  abbrev rounds : List (Option Fault)
  rounds = when (ltb 64 (round_count bytes)) RoundCount ∷ calendars

  abbrev hashes : List (Option Fault)
  hashes = when (not (eqb (get_or bytes 5 0) number)) Hash ∷ rounds

  abbrev versions : List (Option Fault)
  versions = when (not (eqb (pair_at bytes 3) 1)) Version ∷ hashes

  abbrev marks : List (Option Fault)
  marks = when (not (marked bytes)) Mark ∷ versions

  pub at_short : length bytes < 48 → token_fault number bytes ≡ Some (Short (length bytes))
  unfolding token_fault
  at_short h = stopped marks _ _ (lt-ltb (length bytes) 48 h)

  module _ (long : 48 ≤ length bytes) where
    past_short : token_fault number bytes ≡ first marks
    unfolding token_fault
    past_short = passed marks _ _ (le-ltb (length bytes) 48 long)

    pub at_mark : marked bytes ≡ false → token_fault number bytes ≡ Some Mark
    at_mark e = past_short ∙ stopped versions (not (marked bytes)) _ (ap not e)

    module _ (h : get_or bytes 0 0 ≡ 72) (c : get_or bytes 1 0 ≡ 67) (t : get_or bytes 2 0 ≡ 84) where
      past_mark : token_fault number bytes ≡ first versions
      past_mark = past_short ∙ passed versions (not (marked bytes)) _ (ap not (marked_by bytes h c t))

      pub at_version : (pair_at bytes 3 ≡ 1 → ⊥) → token_fault number bytes ≡ Some Version
      at_version ne = past_mark ∙ stopped hashes (not (eqb (pair_at bytes 3) 1)) _ (ap not (ne_eqb _ _ ne))

      module _ (version : pair_at bytes 3 ≡ 1) where
        past_version : token_fault number bytes ≡ first hashes
        past_version = past_mark ∙ passed hashes (not (eqb (pair_at bytes 3) 1)) _ (ap not (eq-eqb _ _ version))

        pub at_hash : (get_or bytes 5 0 ≡ number → ⊥) → token_fault number bytes ≡ Some Hash
        at_hash ne = past_version ∙ stopped rounds (not (eqb (get_or bytes 5 0) number)) _ (ap not (ne_eqb _ _ ne))

        module _ (hash : get_or bytes 5 0 ≡ number) where
          past_hash : token_fault number bytes ≡ first rounds
          past_hash = past_version ∙ passed rounds (not (eqb (get_or bytes 5 0) number)) _ (ap not (eq-eqb _ _ hash))

          pub at_round : 64 < round_count bytes → token_fault number bytes ≡ Some RoundCount
          at_round h = past_hash ∙ stopped calendars _ _ (lt-ltb 64 (round_count bytes) h)

          module _ (round : round_count bytes ≤ 64) where
            past_round : token_fault number bytes ≡ first calendars
            past_round = past_hash ∙ passed calendars _ _ (le-ltb 64 (round_count bytes) round)

            pub at_calendar : 31 < calendar_count bytes → token_fault number bytes ≡ Some CalendarCount
            at_calendar h = past_round ∙ stopped lengths _ _ (lt-ltb 31 (calendar_count bytes) h)

            module _ (calendar : calendar_count bytes ≤ 31) where
              past_calendar : token_fault number bytes ≡ first lengths
              past_calendar = past_round ∙ passed lengths _ _ (le-ltb 31 (calendar_count bytes) calendar)

              pub at_length : (length bytes ≡ length_told bytes → ⊥) → token_fault number bytes ≡ Some (Length (length bytes))
              at_length ne = past_calendar ∙ stopped (tests_behind bytes) (not (eqb (length bytes) (length_told bytes))) _ (ap not (ne_eqb _ _ ne))

              pub past_length : length bytes ≡ length_told bytes → Headed number bytes
              past_length e =
                  record {
                    long = long;
                    round_short = round;
                    calendar_short = calendar;
                    size = e;
                    rest = past_calendar ∙ passed (tests_behind bytes) (not (eqb (length bytes) (length_told bytes))) _ (ap not (eq-eqb _ _ e));
                  }

  abbrev seconds : List (Option Fault)
  seconds = when (ltb (number_at bytes 42) (number_at bytes 38)) Second ∷ []

  abbrev publications : List (Option Fault)
  publications = when (leb (2 ^ 31) (number_at bytes 42)) Publication ∷ seconds

  module _ (head : token_fault number bytes ≡ first (tests_behind bytes)) where
    pub at_side : (place : ℕ) → bad_side 48 (links_in bytes) ≡ Some place → token_fault number bytes ≡ Some (Side place)
    at_side place e = head ∙ ap (λ side. first (option_map Side side ∷ publications)) e

    module _ (good : bad_side 48 (links_in bytes) ≡ None) where
      past_side : token_fault number bytes ≡ first publications
      past_side = head ∙ ap (λ side. first (option_map Side side ∷ publications)) good

      pub at_publication : 2 ^ 31 ≤ number_at bytes 42 → token_fault number bytes ≡ Some Publication
      at_publication h = past_side ∙ stopped seconds _ _ (le-leb (2 ^ 31) (number_at bytes 42) h)

      module _ (early : number_at bytes 42 < 2 ^ 31) where
        past_publication : token_fault number bytes ≡ first seconds
        past_publication = past_side ∙ passed seconds _ _ (lt-leb (2 ^ 31) (number_at bytes 42) early)

        pub at_second : number_at bytes 42 < number_at bytes 38 → token_fault number bytes ≡ Some Second
        at_second h = past_publication ∙ stopped [] _ _ (lt-ltb (number_at bytes 42) (number_at bytes 38) h)

        pub past_all : number_at bytes 38 ≤ number_at bytes 42 → token_fault number bytes ≡ None
        past_all h = past_publication ∙ passed [] _ _ (le-ltb (number_at bytes 42) (number_at bytes 38) h)

-- the tests of the head
pub ruleset head_tests = (at_short, at_mark, at_version, at_hash, at_round, at_calendar, at_length, past_length)
