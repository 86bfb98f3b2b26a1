-- What a token says, and the bytes that say it.
use Rattle.std.specs.Prelude.{ℕ, ◌+◌, ◌*◌, ◌^◌, ◌<◌, ◌≤◌, List, ◌∷◌, ◌++◌, length, codes}
use Rattle.std.specs.List.{flat_map}
use Rattle.digest.specs.declared.value.Digest.{Digest}
use Rattle.digest.specs.Messages.{two_bytes, four_bytes}
use Rattle.tree.specs.declared.link.Link.{Link}
use Rattle.tree.specs.Sides.{side_number}

pub record Content : Type 0 where
  -- the digest of the record that is stamped
  pub recorded : Digest
  -- the second in which it entered the calendar
  pub second : ℕ
  -- the publication under whose root that second stands
  pub publication : ℕ
  -- the path from the record's leaf to the second's digest
  pub round : List (Link Digest)
  -- the path from the second's digest to the publication's root
  pub calendar : List (Link Digest)

-- what a token can say: at most 64 round links and 31 calendar links, and a second of its publication's, which is below 2 ^ 31
pub record Whole (t : Content) : Type 0 where
  pub round_short : length t.round ≤ 64
  pub calendar_short : length t.calendar ≤ 31
  pub early : t.publication < 2 ^ 31
  pub covered : t.second ≤ t.publication

-- a link: its side, and the sibling's 32 bytes
abbrev pub link_bytes : Link Digest → List ℕ
link_bytes link = side_number link.side ∷ link.sibling.bytes

abbrev pub links_bytes : List (Link Digest) → List ℕ
links_bytes links = flat_map link_bytes links

-- how many bytes a token takes
abbrev pub token_length : Content → ℕ
token_length t = 48 + 33 * (length t.round + length t.calendar)

-- mark, version, hash number, record digest, second, publication, the two counts, and the links, round links first
unfoldable pub layout : ℕ → Content → List ℕ
layout number t =
    codes "HCT" ++ (two_bytes 1 ++ (number ∷ (t.recorded.bytes ++ (four_bytes t.second ++ (four_bytes t.publication
    ++ (length t.round ∷ length t.calendar ∷ (links_bytes t.round ++ links_bytes t.calendar)))))))
