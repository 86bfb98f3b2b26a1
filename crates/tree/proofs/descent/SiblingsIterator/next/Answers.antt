use Rattle.std.proofs.Common.{◌+◌, ◌<◌, length, ap, arith, rules}
use Rattle.tree.specs.Trees.{siblings}
use Rattle.tree.proofs.Ways.{siblings_none, siblings_left, siblings_right, sibling_same}
use Rattle.tree.proofs.descent.SiblingsIterator.next.Goals as goal

pub returns-in_err-middle-clause-steps : goal.returns-in_err-middle-clause-steps
returns-in_err-middle-clause-steps c =
    let way = c.args.self.now in
    let none = siblings_none way.low way.end way.place (c.in_err-middle.ensures.none) in
    rw c.from_residual.ensures (none, none)

pub returns-then-self-middle-clause-steps : goal.returns-then-self-middle-clause-steps
returns-then-self-middle-clause-steps c =
    let way = c.args.self.now in
    let parts = c.in_ok-middle.ensures.parts in
    sibling_same (way.low + c.in_ok-middle.field-0) way.end
    (siblings_left way.low c.in_ok-middle.field-0 way.end way.place parts.0 parts.1 c.if-self-middle.true) (omega (arith, parts)) (omega (arith, parts))

pub returns-then-self-middle-clause-goes : goal.returns-then-self-middle-clause-goes
returns-then-self-middle-clause-goes c =
    let way = c.args.self.now in
    let parts = c.in_ok-middle.ensures.parts in
    let less : length (siblings way.low (way.low + c.in_ok-middle.field-0) way.place) < length (siblings way.low way.end way.place) =
    omega (arith, ap length (siblings_left way.low c.in_ok-middle.field-0 way.end way.place parts.0 parts.1 c.if-self-middle.true)) in
    search rules

pub returns-else-self-middle-clause-steps : goal.returns-else-self-middle-clause-steps
returns-else-self-middle-clause-steps c =
    let way = c.args.self.now in
    let parts = c.in_ok-middle.ensures.parts in
    sibling_same way.low (way.low + c.in_ok-middle.field-0)
    (siblings_right way.low c.in_ok-middle.field-0 way.end way.place parts.0 parts.1 c.if-self-middle.false) (omega (arith, parts)) (omega (arith, parts))

pub returns-else-self-middle-clause-goes : goal.returns-else-self-middle-clause-goes
returns-else-self-middle-clause-goes c =
    let way = c.args.self.now in
    let parts = c.in_ok-middle.ensures.parts in
    let less : length (siblings (way.low + c.in_ok-middle.field-0) way.end way.place) < length (siblings way.low way.end way.place) =
    omega (arith, ap length (siblings_right way.low c.in_ok-middle.field-0 way.end way.place parts.0 parts.1 c.if-self-middle.false)) in
    search rules
