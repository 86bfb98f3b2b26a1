-- The parts of a token, by their places among its bytes.
use Rattle.std.specs.Prelude.{ℕ, ◌+◌, cond, List, map, take, drop, ◌==◌, slice_index}
use Rattle.std.specs.Simd.{first_chunks}
use Rattle.digest.specs.declared.value.Digest.{Digest}
use Rattle.tree.specs.declared.link.Link.{Link}
use Rattle.tree.specs.declared.link.Side.{Side}
use Rattle.tree.specs.declared.link.Side.TheVariants.{Right, Left}
use Rattle.wire.specs.Bytes.{number_at, digest_of}
use Rattle.layout.specs.Content.{Content}

-- what a reader lends: parts of the token's bytes, links as 33 bytes each, and the numbers
pub record Parts : Type 0 where
  pub whole : List ℕ
  pub recorded : List ℕ
  pub second : ℕ
  pub publication : ℕ
  pub round : List (List ℕ)
  pub calendar : List (List ℕ)

abbrev pub round_count : List ℕ → ℕ
round_count bytes = slice_index bytes 46

abbrev pub calendar_count : List ℕ → ℕ
calendar_count bytes = slice_index bytes 47

-- all links, 33 bytes each from place 48 on
abbrev pub links_in : List ℕ → List (List ℕ)
links_in bytes = first_chunks 33 (round_count bytes + calendar_count bytes) (drop 48 bytes)

abbrev pub parts_of : List ℕ → Parts
parts_of bytes =
    record {
      whole = bytes;
      recorded = take 32 (drop 6 bytes);
      second = number_at bytes 38;
      publication = number_at bytes 42;
      round = take (round_count bytes) (links_in bytes);
      calendar = drop (round_count bytes) (links_in bytes);
    }

-- side 0 has the sibling on the right
abbrev pub side_of : ℕ → Side
side_of number = cond (number == 0) Right Left

-- the link in 33 bytes
abbrev pub link_of : List ℕ → Link Digest
link_of raw = record { side = side_of (slice_index raw 0); sibling = digest_of (drop 1 raw) }

-- what the parts say
abbrev pub content : Parts → Content
content p =
    record {
      recorded = digest_of p.recorded;
      second = p.second;
      publication = p.publication;
      round = map link_of p.round;
      calendar = map link_of p.calendar;
    }
