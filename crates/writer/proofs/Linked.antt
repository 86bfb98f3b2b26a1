-- Links written as bytes, one after another.
use Rattle.std.proofs.Common.{◌≡◌, ℕ, ◌+◌, ◌*◌, ◌<◌, ◌≤◌, List, [], ◌∷◌, ◌++◌, length, get_or, take, sym, ap, ◌∙◌, ap₂, arith}
use borrow.Rule.Slice.PartMut.{put_mid}
use Rattle.std.proofs.lemmas.List.{append-nil, drop_all, flat_map_more, length-take-le, take_all, take_more}
use Rattle.digest.specs.declared.value.Digest.{Digest}
use Rattle.tree.specs.declared.link.Link.{Link}
use Rattle.tree.specs.Answers.{over}
use Rattle.wire.proofs.Written.{over_put}
use Rattle.layout.specs.Content.{link_bytes, links_bytes}
use Rattle.layout.proofs.Links.{length_links}

module _ (links : List (Link Digest)) (i : ℕ) (old : List ℕ) where
  -- one link more behind those that are written
  pub written_more : {out part : List ℕ} → out ≡ over (links_bytes (take i links)) old → i < length links
      → (link : Link Digest) → link ≡ get_or links i link → part ≡ link_bytes link → (n : ℕ) → n ≡ 33
      → put_mid (33 * i) n out part ≡ over (links_bytes (take (i + 1) links)) old
  written_more before h link is written n size =
      ap₂ (put_mid (33 * i) n) before written
      ∙ over_put (links_bytes (take i links)) (link_bytes link) old (33 * i) n
      (omega (arith, length_links (take i links), length-take-le i links (omega arith))) (omega (arith, size, link.sibling.whole))
      ∙ ap (λ xs. over xs old) (flat_map_more link_bytes [] (take i links) link
      ∙ ap links_bytes (ap (λ x. take i links ++ x ∷ []) is ∙ sym (take_more links i link h)))

  -- all of them fill a buffer of their size
  pub written_all : length links ≤ i → length old ≡ 33 * length links → over (links_bytes (take i links)) old ≡ links_bytes links
  written_all h room =
      ap (λ ls. over (links_bytes ls) old) (take_all i links h)
      ∙ ap (λ rest. links_bytes links ++ rest) (drop_all (length (links_bytes links)) old (omega (arith, room, length_links links)))
      ∙ append-nil (links_bytes links)
