use Rattle.std.proofs.Common.{ℕ, ◌+◌, ap, sym, ◌∙◌, arith}
use Rattle.tree.specs.Answers.{path_over}
use Rattle.tree.specs.Trees.{path}
use Rattle.tree.proofs.Ways.{writing_none, writing_next, writing_more, writing_all, path_is_upward, link_is}
use Rattle.calendar.proofs.Rows.{published_there, root_same}
use Rattle.calendar.proofs.path.write_path.Goals as goal

pub loop-at-init : goal.loop-at-init
loop-at-init g c =
    let join = g.J.Joining.joined in
    let row = g.R.Row.row c.args.row.now in
    let p : ℕ = c.args.publication in
    let second : ℕ = c.args.second in
    let closed = published_there p row c.requires.there.2 c.requires.there.1 in
    writing_none _ (p + 1) second
    c.into_iter-at-iterator.ensures.into_iter_gives c.zip-at-items.ensures.first c.rev.ensures.source c.zip-at-items.ensures.second c.new-siblings.ensures.way
    c.requires.room.0 c.requires.room.1
    (λ d. sym (ap (λ p. path_over p c.args.links.now) (ap (λ xs. path join xs second) closed ∙ path_is_upward join row (p + 1) second d (omega (arith, c.requires.there.0)) (omega (arith, c.requires.there.2)))))

pub link_to-requires : goal.link_to-requires
link_to-requires g c =
    let next = writing_next c.loop-at.invariant _ c.in-Some.sibling c.next.new.self c.in-Some.ensures.steps in
    (omega (arith, next.0), omega (arith, next.1, c.requires.there.1), omega (arith, next.1, c.requires.there.2))

pub loop-at-preserved : goal.loop-at-preserved
loop-at-preserved g c =
    let join = g.J.Joining.joined in
    let row = g.R.Row.row c.args.row.now in
    let sibling = c.in-Some.sibling in
    let next = writing_next c.loop-at.invariant _ sibling c.next.new.self c.in-Some.ensures.steps in
    writing_more c.loop-at.invariant _ sibling c.next.new.self c.in-Some.ensures.steps _
    (λ d. link_is join row d sibling c.link_to.result next.0 (omega (arith, next.1, c.requires.there.2)) c.link_to.ensures.side
    (root_same join row _ sibling.low sibling.end c.link_to.ensures.below (omega (arith, next.0, next.1)) (omega (arith, next.0, next.1))))

pub returns : goal.returns
returns g c = writing_all c.loop-at.invariant c.in-None.ensures.steps (g.R.Row.row c.args.row.now) (omega (arith, c.requires.there.2))
