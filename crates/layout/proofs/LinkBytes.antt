-- Links written and read again, and read and written again.
use Rattle.std.proofs.Common.{◌≡◌, ℕ, zero, suc, ◌+◌, ◌*◌, ◌≤◌, false, ltb, List, [], ◌∷◌, ◌++◌, map, length, get_or, take, drop, Some, None, sym, refl, ap, ◌∙◌, ap₂, inl, inr, arith}
use Rattle.std.specs.Simd.{first_chunks}
use Rattle.std.proofs.lemmas.List.{drop_more, take_all, take_at, drop_at, length-drop, length-take-le, take-append-drop}
use Rattle.std.proofs.lemmas.Bool.{cases_Bool, cond-true, ltb-false, cond-false}
use Rattle.digest.specs.declared.value.Digest.{Digest}
use Rattle.tree.specs.declared.link.Link.{Link}
use Rattle.tree.specs.declared.link.Side.{Side}
use Rattle.tree.specs.declared.link.Side.TheVariants.{Right, Left}
use Rattle.tree.specs.Sides.{side_number}
use Rattle.wire.specs.Bytes.{Bytes, digest_of}
use Rattle.wire.proofs.Digests.{digest_is, digest_bytes}
use Rattle.wire.proofs.Parts.{bytes_drop, bytes_take}
use Rattle.layout.specs.Content.{link_bytes, links_bytes}
use Rattle.layout.specs.Parts.{side_of, link_of}
use Rattle.layout.specs.Faults.{bad_side}

length_link : (link : Link Digest) → length (link_bytes link) ≡ 33
length_link link = omega (arith, link.sibling.whole)

-- a side's number tells the side, and a number up to 1 is its side's
side_read : (side : Side) → side_of (side_number side) ≡ side
side_read Right = refl
side_read Left = refl

side_written : (n : ℕ) → n ≤ 1 → side_number (side_of n) ≡ n
side_written zero h = refl
side_written (suc zero) h = refl
side_written (suc (suc n)) h = absurd (omega arith)

made : (s : Side) (d : Digest) → Link Digest
made s d = record { side = s; sibling = d }

link_read : (link : Link Digest) → link_of (link_bytes link) ≡ link
unfolding made
link_read link =
    let d : Digest = link.sibling in
    ap₂ made (side_read link.side) (digest_is d d.bytes (sym (take_all 32 d.bytes (omega (arith, d.whole)))))

pub links_read : (links : List (Link Digest)) → map link_of (map link_bytes links) ≡ links
links_read [] = refl
links_read (link ∷ links) = ap₂ (λ x xs. x ∷ xs) (link_read link) (links_read links)

-- written links, cut into 33 bytes each
pub chunked_links : (links : List (Link Digest)) (n : ℕ) → n ≡ length links → first_chunks 33 n (links_bytes links) ≡ map link_bytes links
chunked_links [] n e = ap (λ (k : ℕ). first_chunks 33 k []) e
chunked_links (link ∷ links) n e =
    ap (λ (k : ℕ). first_chunks 33 k (links_bytes (link ∷ links))) e
    ∙ ap₂ (λ x xs. x ∷ xs) (take_at (link_bytes link) (links_bytes links) 33 (length_link link))
    (ap (first_chunks 33 (length links)) (drop_at (link_bytes link) (links_bytes links) 33 (length_link link)) ∙ chunked_links links (length links) refl)

-- their sides are good
side_low : (side : Side) → ltb 1 (side_number side) ≡ false
side_low Right = refl
side_low Left = refl

pub sides_good : (links : List (Link Digest)) (place : ℕ) → bad_side place (map link_bytes links) ≡ None
sides_good [] place = refl
sides_good (link ∷ links) place = cond-false _ _ _ (side_low link.side) ∙ sides_good links (place + 33)

-- 33 bytes with a good side write back as they were
link_written : (raw : List ℕ) → Bytes raw → length raw ≡ 33 → get_or raw 0 0 ≤ 1 → link_bytes (link_of raw) ≡ raw
link_written raw fits size side =
    let rest : List ℕ = drop 1 raw in
    let short : length rest ≡ 32 = length-drop 1 raw ∙ omega arith in
    let sibling : (digest_of rest).bytes ≡ rest = digest_bytes rest (bytes_drop 1 raw fits) (omega arith) ∙ take_all 32 rest (omega arith) in
    ap₂ (λ x xs. x ∷ xs) (side_written (get_or raw 0 0) side) sibling ∙ sym (drop_more raw 0 0 (omega arith))

first_side : (raw : List ℕ) (raws : List (List ℕ)) (place : ℕ) → bad_side place (raw ∷ raws) ≡ None
    → (get_or raw 0 0 ≤ 1) × (bad_side (place + 33) raws ≡ None)
first_side raw raws place e =
    elim (cases_Bool (ltb 1 (get_or raw 0 0))) [
      | inl bad ↦
          let found = cond-true (ltb 1 (get_or raw 0 0)) (Some place) (bad_side (place + 33) raws) bad in
          let z : ◌≡◌ {A = ℕ} 0 1 = cc in absurd (omega arith)
      | inr good ↦
          (ltb-false 1 (get_or raw 0 0) good, sym (cond-false (ltb 1 (get_or raw 0 0)) (Some place) (bad_side (place + 33) raws) good) ∙ e)
    ]

-- links that are read write back as they were
pub links_written : (n : ℕ) (xs : List ℕ) (place : ℕ) → Bytes xs → length xs ≡ 33 * n → bad_side place (first_chunks 33 n xs) ≡ None
    → links_bytes (map link_of (first_chunks 33 n xs)) ≡ xs
links_written zero [] place fits size good = refl
links_written zero (x ∷ xs) place fits size good = absurd (omega arith)
links_written (suc n) xs place fits size good =
    let room : 33 ≤ length xs = omega arith in
    let parts = first_side (take 33 xs) (first_chunks 33 n (drop 33 xs)) place good in
    ap₂ (λ ys zs. ys ++ zs)
    (link_written (take 33 xs) (bytes_take 33 xs room fits) (length-take-le 33 xs room) parts.0)
    (links_written n (drop 33 xs) (place + 33) (bytes_drop 33 xs fits) (length-drop 33 xs ∙ omega arith) parts.1)
    ∙ take-append-drop 33 xs
