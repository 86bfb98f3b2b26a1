-- Every token that is written reads back as it was.
use Rattle.std.proofs.Common.{◌≡◌, ℕ, ◌+◌, List, [], ◌∷◌, ◌++◌, map, length, get_or, take, drop, None, sym, refl, ap, ◌∙◌, ap₂, arith}
use Rattle.std.specs.Simd.{first_chunks}
use Rattle.std.proofs.lemmas.Grind.{flat_map-append}
use Rattle.std.proofs.lemmas.List.{append_assoc, take_at, drop_at, take_all, take-map, drop-map, length-append, get_or_at}
use Rattle.digest.specs.declared.value.Digest.{Digest}
use Rattle.digest.specs.Messages.{four_bytes}
use Rattle.tree.specs.declared.link.Link.{Link}
use Rattle.wire.specs.Bytes.{number_at, digest_of}
use Rattle.wire.proofs.Digests.{digest_is}
use Rattle.wire.proofs.Numbers.{number_read}
use Rattle.layout.specs.Content.{Content, Whole, token_length, link_bytes, links_bytes, layout}
use Rattle.layout.specs.Faults.{bad_side, token_fault, Headed}
use Rattle.wire.specs.Faults.{unless}
use Rattle.layout.specs.Laws.{WrittenLaw}
use Rattle.layout.specs.Parts.{round_count, calendar_count, links_in, link_of, parts_of, content}
use Rattle.layout.proofs.Faulted.{past_length, past_all}
use Rattle.layout.proofs.Links.{length_links}
use Rattle.layout.proofs.LinkBytes.{chunked_links, links_read, sides_good}

-- contents that are equal one by one
same_content : {d₁ d₂ : Digest} {s₁ s₂ p₁ p₂ : ℕ} {a₁ a₂ c₁ c₂ : List (Link Digest)} → d₁ ≡ d₂ → s₁ ≡ s₂ → p₁ ≡ p₂ → a₁ ≡ a₂ → c₁ ≡ c₂
    → ◌≡◌ {A = Content} (record { recorded = d₁; second = s₁; publication = p₁; round = a₁; calendar = c₁ })
    (record { recorded = d₂; second = s₂; publication = p₂; round = a₂; calendar = c₂ })
same_content d s p a c = cc

-- links in their bytes read as they were
read_of : {raws : List (List ℕ)} {links : List (Link Digest)} → raws ≡ map link_bytes links → map link_of raws ≡ links
read_of e = ap (map link_of) e ∙ links_read _

module _ (number : ℕ) (t : Content) where
  -- the token's bytes up to the second, the publication, the counts, and the links
  abbrev head_38 : List ℕ
  head_38 = 72 ∷ 67 ∷ 84 ∷ 0 ∷ 1 ∷ number ∷ t.recorded.bytes

  abbrev head_42 : List ℕ
  head_42 = head_38 ++ four_bytes t.second

  abbrev head_46 : List ℕ
  head_46 = head_42 ++ four_bytes t.publication

  abbrev links : List ℕ
  links = links_bytes t.round ++ links_bytes t.calendar

  abbrev counts : List ℕ
  counts = length t.round ∷ length t.calendar ∷ links

  long_38 : length head_38 ≡ 38
  long_38 = omega (arith, t.recorded.whole)

  long_42 : length head_42 ≡ 42
  long_42 = length-append head_38 (four_bytes t.second) ∙ omega (arith, long_38)

  long_46 : length head_46 ≡ 46
  long_46 = length-append head_42 (four_bytes t.publication) ∙ omega (arith, long_42)

  at_38 : layout number t ≡ head_38 ++ (four_bytes t.second ++ (four_bytes t.publication ++ counts))
  unfolding layout
  at_38 = refl

  at_42 : layout number t ≡ head_42 ++ (four_bytes t.publication ++ counts)
  at_42 = at_38 ∙ sym (append_assoc head_38 (four_bytes t.second) (four_bytes t.publication ++ counts))

  at_46 : layout number t ≡ head_46 ++ counts
  at_46 = at_42 ∙ sym (append_assoc head_42 (four_bytes t.publication) counts)

  at_47 : layout number t ≡ (head_46 ++ length t.round ∷ []) ++ (length t.calendar ∷ links)
  at_47 = at_46 ∙ sym (append_assoc head_46 (length t.round ∷ []) (length t.calendar ∷ links))

  at_48 : layout number t ≡ (head_46 ++ length t.round ∷ length t.calendar ∷ []) ++ links
  at_48 = at_46 ∙ sym (append_assoc head_46 (length t.round ∷ length t.calendar ∷ []) links)

  long_48 : length (head_46 ++ length t.round ∷ length t.calendar ∷ []) ≡ 48
  long_48 = length-append head_46 (length t.round ∷ length t.calendar ∷ []) ∙ omega (arith, long_46)

  pub length_layout : length (layout number t) ≡ token_length t
  length_layout =
      ap length at_48
      ∙ (length-append (head_46 ++ length t.round ∷ length t.calendar ∷ []) links
      ∙ omega (arith, long_48, length-append (links_bytes t.round) (links_bytes t.calendar), length_links t.round, length_links t.calendar))

  round_is : round_count (layout number t) ≡ length t.round
  round_is = ap (λ xs. get_or xs 46 0) at_46 ∙ get_or_at head_46 (length t.round) (length t.calendar ∷ links) 0 46 long_46

  calendar_is : calendar_count (layout number t) ≡ length t.calendar
  calendar_is =
      ap (λ xs. get_or xs 47 0) at_47
      ∙ get_or_at (head_46 ++ length t.round ∷ []) (length t.calendar) links 0 47
      (length-append head_46 (length t.round ∷ []) ∙ omega (arith, long_46))

  links_are : links_in (layout number t) ≡ map link_bytes (t.round ++ t.calendar)
  links_are =
      let all : List (Link Digest) = t.round ++ t.calendar in
      let count : round_count (layout number t) + calendar_count (layout number t) ≡ length all =
      omega (arith, round_is, calendar_is, length-append t.round t.calendar) in
      let rest : drop 48 (layout number t) ≡ links_bytes all =
      ap (drop 48) at_48
      ∙ (drop_at (head_46 ++ length t.round ∷ length t.calendar ∷ []) links 48 long_48 ∙ sym (flat_map-append link_bytes t.round t.calendar)) in
      ap₂ (λ n xs. first_chunks 33 n xs) count rest ∙ chunked_links all (length all) refl

  round_read : map link_of (take (round_count (layout number t)) (links_in (layout number t))) ≡ t.round
  round_read =
      let n : ℕ = length t.round in
      read_of (ap₂ (λ k xs. take k xs) round_is links_are
      ∙ (take-map link_bytes n (t.round ++ t.calendar) ∙ ap (map link_bytes) (take_at t.round t.calendar n refl)))

  calendar_read : map link_of (drop (round_count (layout number t)) (links_in (layout number t))) ≡ t.calendar
  calendar_read =
      let n : ℕ = length t.round in
      read_of (ap₂ (λ k xs. drop k xs) round_is links_are
      ∙ (drop-map link_bytes n (t.round ++ t.calendar) ∙ ap (map link_bytes) (drop_at t.round t.calendar n refl)))

  recorded_read : digest_of (take 32 (drop 6 (layout number t))) ≡ t.recorded
  recorded_read =
      let d : Digest = t.recorded in
      let rest : List ℕ = four_bytes t.second ++ (four_bytes t.publication ++ counts) in
      let part : take 32 (drop 6 (layout number t)) ≡ d.bytes = ap (λ xs. take 32 (drop 6 xs)) at_38 ∙ take_at d.bytes rest 32 d.whole in
      digest_is d (take 32 (drop 6 (layout number t)))
      (sym (ap (take 32) part ∙ take_all 32 d.bytes (omega (arith, d.whole))))

  module _ (w : Whole t) where
    second_read : number_at (layout number t) 38 ≡ t.second
    second_read =
        ap (λ xs. number_at xs 38) at_38
        ∙ number_read head_38 (four_bytes t.publication ++ counts) t.second 38 long_38 (omega (arith, w.early, w.covered))

    publication_read : number_at (layout number t) 42 ≡ t.publication
    publication_read =
        ap (λ xs. number_at xs 42) at_42 ∙ number_read head_42 counts t.publication 42 long_42 (omega (arith, w.early))

    headed : Headed number (layout number t)
    unfolding layout
    headed =
        past_length number (layout number t) (omega (arith, length_layout)) refl refl refl refl refl
        (omega (arith, round_is, w.round_short)) (omega (arith, calendar_is, w.calendar_short))
        (length_layout ∙ omega (arith, round_is, calendar_is))

    no_fault : token_fault number (layout number t) ≡ None
    no_fault =
        past_all number (layout number t) headed.rest (ap (bad_side 48) links_are ∙ sides_good (t.round ++ t.calendar) 48)
        (omega (arith, publication_read, w.early)) (omega (arith, second_read, publication_read, w.covered))

    content_read : content (parts_of (layout number t)) ≡ t
    content_read = same_content recorded_read second_read publication_read round_read calendar_read

pub written_law : WrittenLaw
written_law number t w = ap₂ unless (no_fault number t w) (content_read number t w)
