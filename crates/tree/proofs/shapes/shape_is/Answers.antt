use Rattle.std.proofs.Common.{◌≡◌, ℕ, List, length, take, drop, replicate, sym, ap, ◌∙◌, arith}
use Rattle.std.proofs.lemmas.List.{take_at, length-take-le}
use Rattle.tree.specs.declared.link.Side.{Side}
use Rattle.tree.specs.declared.link.Side.TheVariants.{Right}
use Rattle.tree.specs.Trees.{shape}
use Rattle.tree.proofs.ShapeLaws.{shape_short}
use Rattle.tree.proofs.shapes.shape_is.Goals as goal

pub write_shape-count-requires : goal.write_shape-count-requires
write_shape-count-requires c = shape_short 32 c.args.n c.args.place c.requires

pub slice_bounds-same-end : goal.slice_bounds-same-end
slice_bounds-same-end c = let short = shape_short 32 c.args.n c.args.place c.requires in
    sym (length-take-le c.write_shape-count.result c.write_shape-count.new.out (omega arith))

pub returns : goal.returns
returns c =
    let own : List Side = c.write_shape-count.new.out in
    let count : ℕ = c.write_shape-count.result in
    let s : List Side = shape c.args.n c.args.place in
    let front : take count own ≡ s =
    ap (take count) c.write_shape-count.ensures.sides ∙ take_at s (drop (length s) (replicate 32 Right)) count (sym c.write_shape-count.ensures.count) in
    (λ t. c.same.ensures.0 t ∙ front, λ e. c.same.ensures.1 (e ∙ sym front))
