-- What is read is whole, and no token is longer than the longest.
use Rattle.std.proofs.Common.{◌≡◌, ℕ, ◌+◌, List, map, length, take, drop, ◌∙◌, subst, arith}
use Rattle.std.proofs.lemmas.List.{length-map, length-take-le, length-drop}
use Rattle.layout.specs.Content.{Whole}
use Rattle.layout.specs.Faults.{token_fault}
use Rattle.layout.specs.Laws.{LongestLaw}
use Rattle.layout.specs.Parts.{round_count, calendar_count, links_in, link_of, parts_of, content}
use Rattle.layout.proofs.Clean.{Clean, clean}
use Rattle.wire.proofs.Firsts.{unless_ok}
use Rattle.wire.proofs.Parts.{length_chunked}

module _ (bytes : List ℕ) where
  pub length_in : length (links_in bytes) ≡ round_count bytes + calendar_count bytes
  length_in = length_chunked 33 (round_count bytes + calendar_count bytes) (drop 48 bytes)

  pub length_round : length (map link_of (take (round_count bytes) (links_in bytes))) ≡ round_count bytes
  length_round =
      length-map (take (round_count bytes) (links_in bytes)) link_of
      ∙ length-take-le (round_count bytes) (links_in bytes) (omega (arith, length_in))

  pub length_calendar : length (map link_of (drop (round_count bytes) (links_in bytes))) ≡ calendar_count bytes
  length_calendar =
      length-map (drop (round_count bytes) (links_in bytes)) link_of
      ∙ length-drop (round_count bytes) (links_in bytes)
      ∙ omega (arith, length_in)

  pub whole : (number : ℕ) → Clean number bytes → Whole (content (parts_of bytes))
  whole number c =
      record {
        round_short = omega (arith, length_round, c.head.round_short);
        calendar_short = omega (arith, length_calendar, c.head.calendar_short);
        early = c.early;
        covered = c.covered;
      }

pub longest_law : LongestLaw
longest_law number bytes t e =
    let ok = unless_ok (token_fault number bytes) (content (parts_of bytes)) t e in
    let c = clean number bytes ok.0 in
    (subst Whole ok.1 (whole bytes number c), omega (arith, c.head.size, c.head.round_short, c.head.calendar_short))
