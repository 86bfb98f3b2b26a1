-- The parts of a token, written one behind another, are its layout.
use Rattle.std.proofs.Common.{◌≡◌, ℕ, ◌+◌, ◌*◌, List, [], ◌∷◌, ◌++◌, length, drop, sym, refl, ap, ◌∙◌, ap₂, arith}
use borrow.Rule.Slice.PartMut.{put_mid}
use Rattle.std.proofs.lemmas.List.{append_assoc, length-append}
use Rattle.digest.specs.Messages.{four_bytes}
use Rattle.tree.specs.Answers.{over}
use Rattle.wire.proofs.Written.{over_put}
use Rattle.layout.specs.Content.{Content, links_bytes, layout}
use Rattle.layout.proofs.Links.{length_links}

module _ (number : ℕ) (t : Content) where
  abbrev mark : List ℕ
  mark = 72 ∷ 67 ∷ 84 ∷ 0 ∷ 1 ∷ number ∷ []

  abbrev to_digest : List ℕ
  to_digest = mark ++ t.recorded.bytes

  abbrev to_second : List ℕ
  to_second = to_digest ++ four_bytes t.second

  abbrev to_publication : List ℕ
  to_publication = to_second ++ four_bytes t.publication

  abbrev to_counts : List ℕ
  to_counts = to_publication ++ (length t.round ∷ length t.calendar ∷ [])

  abbrev to_round : List ℕ
  to_round = to_counts ++ links_bytes t.round

  whole : to_round ++ links_bytes t.calendar ≡ layout number t
  unfolding layout
  whole = simp append_assoc

  at_38 : 38 ≡ length to_digest
  at_38 = omega (arith, t.recorded.whole)

  at_42 : 42 ≡ length to_second
  at_42 = omega (arith, at_38, length-append to_digest (four_bytes t.second))

  at_46 : 46 ≡ length to_publication
  at_46 = omega (arith, at_42, length-append to_second (four_bytes t.publication))

  at_48 : 48 ≡ length to_counts
  at_48 = omega (arith, at_46, length-append to_publication (length t.round ∷ length t.calendar ∷ []))

  at_calendar : 48 + 33 * length t.round ≡ length to_round
  at_calendar = omega (arith, at_48, length-append to_counts (links_bytes t.round), length_links t.round)

  module _ (old : List ℕ) {a b c d e r k : List ℕ} (is_mark : a ≡ mark) (is_digest : b ≡ t.recorded.bytes) (is_second : c ≡ four_bytes t.second)
      (is_publication : d ≡ four_bytes t.publication) (is_counts : e ≡ length t.round ∷ length t.calendar ∷ [])
      (is_round : r ≡ links_bytes t.round) (is_calendar : k ≡ links_bytes t.calendar) where
    second_down : put_mid 38 4 (put_mid 6 32 (a ++ drop 6 old) b) c ≡ over to_second old
    second_down =
        ap₂ (put_mid 38 4)
        (ap₂ (put_mid 6 32) (ap (λ xs. xs ++ drop 6 old) is_mark) is_digest ∙ over_put mark t.recorded.bytes old 6 32 refl (sym t.recorded.whole)) is_second
        ∙ over_put to_digest (four_bytes t.second) old 38 4 at_38 refl

    counts_down : put_mid 46 2 (put_mid 42 4 (put_mid 38 4 (put_mid 6 32 (a ++ drop 6 old) b) c) d) e ≡ over to_counts old
    counts_down =
        ap₂ (put_mid 46 2) (ap₂ (put_mid 42 4) second_down is_publication ∙ over_put to_second (four_bytes t.publication) old 42 4 at_42 refl) is_counts
        ∙ over_put to_publication (length t.round ∷ length t.calendar ∷ []) old 46 2 at_46 refl

    pub laid_out : (m n : ℕ) → m ≡ 33 * length t.round → n ≡ 33 * length t.calendar
        → put_mid (48 + 33 * length t.round) n (put_mid 48 m (put_mid 46 2 (put_mid 42 4 (put_mid 38 4 (put_mid 6 32 (a ++ drop 6 old) b) c) d) e) r) k
        ≡ over (layout number t) old
    laid_out m n hm hn =
        ap₂ (put_mid (48 + 33 * length t.round) n)
        (ap₂ (put_mid 48 m) counts_down is_round ∙ over_put to_counts (links_bytes t.round) old 48 m at_48 (hm ∙ sym (length_links t.round))) is_calendar
        ∙ over_put to_round (links_bytes t.calendar) old (48 + 33 * length t.round) n at_calendar (hn ∙ sym (length_links t.calendar))
        ∙ ap (λ xs. over xs old) whole
