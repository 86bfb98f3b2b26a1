use Rattle.std.proofs.Common.{sym, ◌∙◌, ⊎_elim, arith}
use Rattle.roots.proofs.Rises.{goes_on, stops_below, stops_beyond, ends}
use Rattle.roots.proofs.order.rises.Goals as goal

pub returns-then-second-low : goal.returns-then-second-low
returns-then-second-low g c =
    let items = c.args.items.now in
    let item = c.item-item.result in
    ⊎_elim
    (λ below. sym (stops_below g.T.Dated.dated items c.loop-item.item-index c.loop-item.low item c.second-second.result
    c.loop-item-test.true c.item-item.is c.second-second.ensures below) ∙ c.loop-item.invariant)
    (λ beyond. sym (stops_beyond g.T.Dated.dated items c.loop-item.item-index c.loop-item.low item c.second-second.result
    c.loop-item-test.true c.item-item.is c.second-second.ensures beyond.1) ∙ c.loop-item.invariant)
    c.then-second-low.either

pub loop-item-preserved : goal.loop-item-preserved
loop-item-preserved g c =
    goes_on g.T.Dated.dated c.args.items.now c.loop-item.item-index c.loop-item.low c.item-item.result c.second-second.result
    c.loop-item-test.true c.item-item.is c.second-second.ensures (omega arith) (omega arith)
    ∙ c.loop-item.invariant

pub returns : goal.returns
returns g c =
    sym (ends g.T.Dated.dated c.args.items.now c.loop-item.item-index c.loop-item.low c.loop-item-test.false)
    ∙ c.loop-item.invariant
