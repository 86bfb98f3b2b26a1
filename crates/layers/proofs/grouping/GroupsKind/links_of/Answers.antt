use Rattle.std.proofs.Common.{◌≡◌, ℕ, ◌/◌, ◌%◌, ◌<◌, List, length, arith}
use Rattle.digest.specs.declared.value.Digest.{Digest}
use Rattle.tree.specs.Trees.{shape}
use Rattle.layers.specs.Grouping.{group, grouping}
use Rattle.layers.proofs.Layers.{front_is}
use Rattle.layers.proofs.Eights.{path_length, shape_three}
use Rattle.layers.proofs.grouping.GroupsKind.links_of.Goals as goal

sides : (items lent part : List Digest) (place n : ℕ) → lent ≡ items → part ≡ group lent (place / 8) → n ≡ length (shape (length part) (place % 8))
    → n ≡ length (shape (length (group items (place / 8))) (place % 8))
sides items lent part place n e f is = cc

pub overflow_cast-result : goal.overflow_cast-result
overflow_cast-result c =
    let same = sides c.args.list.now.items c.deref.result.now c.group_of.result.now c.args.place c.sides_of.result c.deref.ensures.0 c.group_of.ensures c.sides_of.ensures in
    omega (arith, same, shape_three c.args.list.now.items c.args.place)

pub returns : goal.returns
returns c =
    let items : List Digest = c.args.list.now.items in
    let place : ℕ = c.args.place in
    let inside : place < length items = omega (arith, c.len.ensures.value) in
    let same = sides items c.deref.result.now c.group_of.result.now place c.sides_of.result c.deref.ensures.0 c.group_of.ensures c.sides_of.ensures in
    λ digested second.
    grind (arith, same, shape_three items place, path_length digested items place inside, front_is (grouping digested) items place inside)
