use Rattle.std.proofs.Common.{ℕ, length, sym, ap, ◌∙◌, inl, inr, arith}
use Rattle.std.proofs.lemmas.Bool.{cases_lt}
use Rattle.tree.specs.Trees.{root}
use Rattle.calendar.proofs.Rows.{published_there, published_short}
use Rattle.calendar.proofs.range.calendar_root.Goals as goal

pub returns : goal.returns
returns g c =
    let join = g.J.Joining.joined in
    let row = g.R.Row.row c.args.row.now in
    let p : ℕ = c.args.publication in
    elim (cases_lt p (length row)) [
      | inl there ↦ sym (c.range_root.ensures.there (omega arith)) ∙ ap (root join) (sym (published_there p row there (omega arith)))
      | inr past ↦ c.range_root.ensures.short (omega arith) ∙ ap (root join) (sym (published_short p row past))
    ]
