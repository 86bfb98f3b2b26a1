use Rattle.std.proofs.Common.{[], ◌∷◌, ap, sym, refl, arith}
use Rattle.tree.specs.Answers.{over}
use Rattle.tree.proofs.Ways.{writing_none, writing_more, writing_all, sides_is}
use Rattle.tree.proofs.shapes.write_shape.Goals as goal

pub loop-at-init : goal.loop-at-init
loop-at-init c =
    writing_none _ c.args.n c.args.place
    c.into_iter-at-iterator.ensures.into_iter_gives c.zip-at-items.ensures.first c.rev.ensures.source c.zip-at-items.ensures.second c.new.ensures.way
    c.sides_of-count.ensures (rw c.sides_of-count.ensures c.requires) (λ d. ap (λ sides. over sides c.args.out.now) (sym (sides_is c.args.n c.args.place)))

pub loop-at-preserved : goal.loop-at-preserved
loop-at-preserved c = writing_more c.loop-at.invariant _ c.in-Some.sibling c.next.new.self c.in-Some.ensures.steps c.in-Some.sibling.side (λ d. refl)

pub returns-clause-sides : goal.returns-clause-sides
returns-clause-sides c = writing_all c.loop-at.invariant c.in-None.ensures.steps (0 ∷ []) (omega arith)
