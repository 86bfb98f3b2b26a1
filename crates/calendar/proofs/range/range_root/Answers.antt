use Rattle.std.proofs.Common.{ℕ, sym, subst, arith}
use Rattle.std.proofs.lemmas.List.Edits.{length-between}
use Rattle.std.specs.List.{between}
use Rattle.calendar.specs.Forests.{Holds}
use Rattle.calendar.proofs.Sizes.{forest_size}
use Rattle.calendar.proofs.Rows.{nth_none, nth_some, range_more, range_first}
use Rattle.calendar.proofs.range.range_root.Goals as goal

pub planted-forest-requires : goal.planted-forest-requires
planted-forest-requires g c = forest_size g.row.J-Node g.met.J.Node.Small.small

pub returns-in_err-at : goal.returns-in_err-at
returns-in_err-at g c =
    record {
      there = λ h. absurd (omega (arith, nth_none (g.R.Row.row c.args.row.now) c.args.low c.in_err-at.ensures));
      short = λ _. c.from_residual.ensures;
    }

pub loop-place-init : goal.loop-place-init
loop-place-init g c =
    let row = g.R.Row.row c.args.row.now in
    let first = c.in_ok-at.field-0 in
    let at = c.in_ok-at.ensures in (
      subst (Holds g.J.Joining.joined c.planted-forest.result) (sym (range_first row c.args.low first at)) c.planted-forest.ensures,
      omega (arith, (nth_some row c.args.low first at).0),
    )

pub returns-in_err-at-2 : goal.returns-in_err-at-2
returns-in_err-at-2 g c =
    record {
      there = λ h. absurd (omega (arith, nth_none (g.R.Row.row c.args.row.now) c.loop-place.place c.in_err-at-2.ensures));
      short = λ _. c.from_residual-in_err-at-2.ensures;
    }

pub feed-requires : goal.feed-requires
feed-requires g c =
    let row = g.R.Row.row c.args.row.now in
    let read = between c.args.low c.loop-place.place row in
    let holds = c.loop-place.invariant.0 in (
      forest_size g.row.J-Node g.met.J.Node.Small.small,
      ((read, holds), omega (arith, holds.2, length-between row c.args.low c.loop-place.place c.loop-place.invariant.1)),
    )

pub loop-place-preserved : goal.loop-place-preserved
loop-place-preserved g c =
    let row = g.R.Row.row c.args.row.now in
    let place : ℕ = c.loop-place.place in
    let at = c.in_ok-at-2.ensures in (
      subst (Holds g.J.Joining.joined c.feed.new.self)
          (sym (range_more row c.args.low place c.in_ok-at-2.field-0 (omega arith) at))
          (c.feed.ensures (between c.args.low place row) c.loop-place.invariant.0),
      omega (arith, (nth_some row place c.in_ok-at-2.field-0 at).0),
    )

pub whole-requires : goal.whole-requires
whole-requires g c =
    (forest_size g.row.J-Node g.met.J.Node.Small.small, (between c.args.low c.loop-place.place (g.R.Row.row c.args.row.now), c.loop-place.invariant.0))
