-- Links written into a list of records, one after another.
use Rattle.std.proofs.Common.{◌≡◌, ℕ, ◌+◌, ◌<◌, List, [], ◌∷◌, ◌++◌, map, length, get_or, take, set, sym, ap, ◌∙◌, arith}
use Rattle.std.proofs.lemmas.List.{map_more, length-map, length-take-le}
use Rattle.digest.specs.declared.value.Digest.{Digest}
use Rattle.tree.specs.declared.link.Link.{Link}
use Rattle.tree.specs.Answers.{over}
use Rattle.tree.proofs.Written.{over_push}
use Rattle.layout.specs.Parts.{link_of}

-- one record more at the front of a list of records
pub filled_more : (raws : List (List ℕ)) (old out : List (Link Digest)) (k : ℕ) (d : List ℕ) (link : Link Digest) → k < length raws → k < length old
    → link ≡ link_of (get_or raws k d) → out ≡ over (map link_of (take k raws)) old → set out k link ≡ over (map link_of (take (k + 1) raws)) old
filled_more raws old out k d link h room is before =
    ap (λ xs. set xs k link) before
    ∙ (over_push (map link_of (take k raws)) old link k (omega (arith, length-map (take k raws) link_of, length-take-le k raws (omega arith))) room
    ∙ ap (λ xs. over xs old) (ap (λ x. map link_of (take k raws) ++ x ∷ []) is ∙ sym (map_more link_of raws k d h)))
