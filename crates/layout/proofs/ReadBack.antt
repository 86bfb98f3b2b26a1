-- Bytes that read write back as they were.
use Rattle.std.proofs.Common.{◌≡◌, ℕ, ◌+◌, ◌≤◌, List, [], ◌∷◌, ◌++◌, map, length, get_or, take, drop, sym, refl, ap, ◌∙◌, ap₂, arith}
use Rattle.std.proofs.lemmas.Grind.{flat_map-append}
use Rattle.std.proofs.lemmas.List.{take-append-drop, drop-drop, drop_more, length-drop, length-take-le, map-append, take_all}
use Rattle.std.proofs.lemmas.Bool.{and_parts, eqb-true}
use Rattle.digest.specs.Messages.{four_bytes}
use Rattle.wire.specs.Bytes.{Bytes, number_at, digest_of}
use Rattle.wire.proofs.Digests.{digest_bytes}
use Rattle.wire.proofs.Numbers.{number_written}
use Rattle.layout.specs.Content.{link_bytes, links_bytes, layout}
use Rattle.layout.specs.Faults.{token_fault}
use Rattle.layout.specs.Laws.{ReadLaw}
use Rattle.layout.specs.Parts.{round_count, calendar_count, links_in, link_of, parts_of, content}
use Rattle.layout.proofs.Clean.{Clean, clean}
use Rattle.wire.proofs.Firsts.{unless_ok}
use Rattle.layout.proofs.LinkBytes.{links_written}
use Rattle.wire.proofs.Parts.{bytes_drop, bytes_take}
use Rattle.layout.proofs.Longest.{length_round, length_calendar}

-- a list from a place on is its next items, and the list from behind them on
cut : (n k m : ℕ) (xs : List ℕ) → n + k ≡ m → take k (drop n xs) ++ drop m xs ≡ drop n xs
cut n k m xs e =
    ap (λ (j : ℕ). take k (drop n xs) ++ drop j xs) (sym e)
    ∙ (ap (λ ys. take k (drop n xs) ++ ys) (sym (drop-drop k n xs)) ∙ take-append-drop k (drop n xs))

-- the first six items
six : (xs : List ℕ) → 6 ≤ length xs
    → get_or xs 0 0 ∷ get_or xs 1 0 ∷ get_or xs 2 0 ∷ get_or xs 3 0 ∷ get_or xs 4 0 ∷ get_or xs 5 0 ∷ drop 6 xs ≡ xs
six (a ∷ b ∷ c ∷ d ∷ e ∷ f ∷ xs) h = refl
six [] h = absurd (omega arith)
six (a ∷ []) h = absurd (omega arith)
six (a ∷ b ∷ []) h = absurd (omega arith)
six (a ∷ b ∷ c ∷ []) h = absurd (omega arith)
six (a ∷ b ∷ c ∷ d ∷ []) h = absurd (omega arith)
six (a ∷ b ∷ c ∷ d ∷ e ∷ []) h = absurd (omega arith)

module _ (number : ℕ) (bytes : List ℕ) (c : Clean number bytes) (fits : Bytes bytes) where
  -- the links, behind byte 48
  links : links_bytes (map link_of (take (round_count bytes) (links_in bytes))) ++ links_bytes (map link_of (drop (round_count bytes) (links_in bytes)))
      ≡ drop 48 bytes
  links =
      let a : ℕ = round_count bytes in
      let front : List (List ℕ) = take a (links_in bytes) in
      let back : List (List ℕ) = drop a (links_in bytes) in
      sym (flat_map-append link_bytes (map link_of front) (map link_of back))
      ∙ (ap links_bytes (sym (map-append link_of front back) ∙ ap (map link_of) (take-append-drop a (links_in bytes)))
      ∙ links_written (a + calendar_count bytes) (drop 48 bytes) 48 (bytes_drop 48 bytes fits)
      (length-drop 48 bytes ∙ omega (arith, c.head.size)) c.sides)

  counts : round_count bytes ∷ calendar_count bytes ∷ drop 48 bytes ≡ drop 46 bytes
  counts =
      sym (drop_more bytes 46 0 (omega (arith, c.head.long)) ∙ ap (λ ys. round_count bytes ∷ ys) (drop_more bytes 47 0 (omega (arith, c.head.long))))

  publication : four_bytes (number_at bytes 42) ++ drop 46 bytes ≡ drop 42 bytes
  publication =
      ap (λ ys. ys ++ drop 46 bytes) (number_written bytes 42 fits (omega (arith, c.head.long))) ∙ cut 42 4 46 bytes refl

  second : four_bytes (number_at bytes 38) ++ drop 42 bytes ≡ drop 38 bytes
  second = ap (λ ys. ys ++ drop 42 bytes) (number_written bytes 38 fits (omega (arith, c.head.long))) ∙ cut 38 4 42 bytes refl

  recorded : (digest_of (take 32 (drop 6 bytes))).bytes ++ drop 38 bytes ≡ drop 6 bytes
  recorded =
      let part : List ℕ = take 32 (drop 6 bytes) in
      let room : 32 ≤ length (drop 6 bytes) = omega (arith, length-drop 6 bytes, c.head.long) in
      let size : length part ≡ 32 = length-take-le 32 (drop 6 bytes) room in
      ap (λ ys. ys ++ drop 38 bytes)
      (digest_bytes part (bytes_take 32 (drop 6 bytes) room (bytes_drop 6 bytes fits)) (omega arith) ∙ take_all 32 part (omega arith))
      ∙ cut 6 32 38 bytes refl

  -- mark, version and hash number
  front : 72 ∷ 67 ∷ 84 ∷ 0 ∷ 1 ∷ number ∷ drop 6 bytes ≡ bytes
  front =
      let mark = and_parts _ _ c.mark in
      let rest = and_parts _ _ mark.1 in
      let b₀ : 72 ≡ get_or bytes 0 0 = sym (eqb-true (get_or bytes 0 0) 72 mark.0) in
      let b₁ : 67 ≡ get_or bytes 1 0 = sym (eqb-true (get_or bytes 1 0) 67 rest.0) in
      let b₂ : 84 ≡ get_or bytes 2 0 = sym (eqb-true (get_or bytes 2 0) 84 rest.1) in
      let b₃ : 0 ≡ get_or bytes 3 0 = omega (arith, c.version) in
      let b₄ : 1 ≡ get_or bytes 4 0 = omega (arith, c.version) in
      ap₂ (λ x y. x ∷ y ∷ 84 ∷ 0 ∷ 1 ∷ number ∷ drop 6 bytes) b₀ b₁
      ∙ (ap₂ (λ x y. get_or bytes 0 0 ∷ get_or bytes 1 0 ∷ x ∷ y ∷ 1 ∷ number ∷ drop 6 bytes) b₂ b₃
      ∙ (ap₂ (λ x y. get_or bytes 0 0 ∷ get_or bytes 1 0 ∷ get_or bytes 2 0 ∷ get_or bytes 3 0 ∷ x ∷ y ∷ drop 6 bytes) b₄ (sym c.hash)
      ∙ six bytes (omega (arith, c.head.long))))

  pub read_back : layout number (content (parts_of bytes)) ≡ bytes
  unfolding layout
  read_back =
      ap₂ (λ m n. 72 ∷ 67 ∷ 84 ∷ 0 ∷ 1 ∷ number ∷ ((digest_of (take 32 (drop 6 bytes))).bytes ++ (four_bytes (number_at bytes 38) ++ (four_bytes (number_at bytes 42)
      ++ (m ∷ n ∷ (links_bytes (map link_of (take (round_count bytes) (links_in bytes))) ++ links_bytes (map link_of (drop (round_count bytes) (links_in bytes)))))))))
      (length_round bytes) (length_calendar bytes)
      ∙ (ap (λ ys. 72 ∷ 67 ∷ 84 ∷ 0 ∷ 1 ∷ number ∷ ((digest_of (take 32 (drop 6 bytes))).bytes ++ (four_bytes (number_at bytes 38) ++ (four_bytes (number_at bytes 42) ++ ys))))
      (ap (λ ys. round_count bytes ∷ calendar_count bytes ∷ ys) links ∙ counts)
      ∙ (ap (λ ys. 72 ∷ 67 ∷ 84 ∷ 0 ∷ 1 ∷ number ∷ ((digest_of (take 32 (drop 6 bytes))).bytes ++ (four_bytes (number_at bytes 38) ++ ys))) publication
      ∙ (ap (λ ys. 72 ∷ 67 ∷ 84 ∷ 0 ∷ 1 ∷ number ∷ ((digest_of (take 32 (drop 6 bytes))).bytes ++ ys)) second
      ∙ (ap (λ ys. 72 ∷ 67 ∷ 84 ∷ 0 ∷ 1 ∷ number ∷ ys) recorded ∙ front))))

pub read_law : ReadLaw
read_law number bytes t fits e =
    let ok = unless_ok (token_fault number bytes) (content (parts_of bytes)) t e in
    ap (layout number) (sym ok.1) ∙ read_back number bytes (clean number bytes ok.0) fits
