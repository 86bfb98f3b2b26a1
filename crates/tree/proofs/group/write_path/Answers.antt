use Rattle.std.proofs.Common.{length, ap, sym, arith}
use Rattle.tree.specs.Answers.{path_over}
use Rattle.tree.specs.Trees.{path}
use Rattle.tree.proofs.Ways.{writing_none, writing_next, writing_more, writing_all, path_upward, link_is}
use Rattle.tree.proofs.group.write_path.Goals as goal

pub loop-at-init : goal.loop-at-init
loop-at-init g c =
    writing_none _ (length c.args.nodes.now) c.args.place
    c.into_iter-at-iterator.ensures.into_iter_gives c.zip-at-items.ensures.first c.rev.ensures.source c.zip-at-items.ensures.second c.new.ensures.way
    c.requires.room.0 c.requires.room.1
    (λ d. sym (ap (λ p. path_over p c.args.links.now) (path_upward g.J.Joining.joined c.args.nodes.now c.args.place d c.requires.there)))

pub link_to-requires : goal.link_to-requires
link_to-requires g c = writing_next c.loop-at.invariant _ c.in-Some.sibling c.next.new.self c.in-Some.ensures.steps

pub loop-at-preserved : goal.loop-at-preserved
loop-at-preserved g c =
    let next = writing_next c.loop-at.invariant _ c.in-Some.sibling c.next.new.self c.in-Some.ensures.steps in
    writing_more {final = path_over (path g.J.Joining.joined c.args.nodes.now c.args.place) c.args.links.now} c.loop-at.invariant _ c.in-Some.sibling c.next.new.self c.in-Some.ensures.steps _
    (λ d. link_is g.J.Joining.joined c.args.nodes.now d c.in-Some.sibling c.link_to.result next.0 next.1 c.link_to.ensures.side c.link_to.ensures.below)

pub returns : goal.returns
returns g c = writing_all c.loop-at.invariant c.in-None.ensures.steps c.args.nodes.now (omega (arith, c.requires.there))
