use Rattle.std.proofs.Common.{arith}
use Rattle.std.proofs.lemmas.List.Edits.{length-between}
use Rattle.std.specs.List.{between}
use Rattle.calendar.proofs.Rows.{some_root}
use Rattle.calendar.proofs.path.link_to.Goals as goal

pub unwrap-requires : goal.unwrap-requires
unwrap-requires g c =
    let row = g.R.Row.row c.args.row.now in
    let s = c.args.sibling in
    some_root g.J.Joining.joined (between s.low s.end row) c.range_root.result (omega (arith, length-between row s.low s.end c.requires.2, c.requires.0))
    (c.range_root.ensures.there c.requires.2)
