-- The links among a token's bytes.
use Rattle.std.proofs.Common.{◌≡◌, ℕ, ◌+◌, ◌*◌, ◌/◌, ◌≤◌, List, [], ◌∷◌, length, drop, refl, ap, ◌∙◌, ap₂, arith}
use Rattle.std.specs.Simd.{first_chunks}
use Rattle.std.proofs.lemmas.List.{length-append, length-drop}
use Rattle.digest.specs.declared.value.Digest.{Digest}
use Rattle.tree.specs.declared.link.Link.{Link}
use Rattle.layout.specs.Content.{link_bytes, links_bytes}
use Rattle.layout.specs.Faults.{length_told}
use Rattle.layout.specs.Parts.{round_count, calendar_count, links_in}

-- the links of bytes that have the length their counts ask for
pub links_are : (bytes rest : List ℕ) → 48 ≤ length bytes → length bytes ≡ length_told bytes → rest ≡ drop 48 bytes
    → first_chunks 33 (length rest / 33) rest ≡ links_in bytes
links_are bytes rest h size is =
    let count : length rest / 33 ≡ round_count bytes + calendar_count bytes = omega (arith, ap length is, length-drop 48 bytes) in
    ap₂ (λ n xs. first_chunks 33 n xs) count is

-- links take 33 bytes each
pub length_links : (links : List (Link Digest)) → length (links_bytes links) ≡ 33 * length links
length_links [] = refl
length_links (link ∷ links) =
    length-append (link_bytes link) (links_bytes links) ∙ omega (arith, link.sibling.whole, length_links links)
