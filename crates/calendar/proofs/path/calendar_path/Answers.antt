use Rattle.std.proofs.Common.{◌≡◌, ℕ, ◌<◌, ok_or, Option, Some, None, Err, length, ap, sym, ◌∙◌, arith}
use Rattle.std.proofs.lemmas.Result.{err_from_is_err_and}
use Rattle.calendar.proofs.PathAnswers.{row_short, links_short, links_enough}
use Rattle.calendar.proofs.Rows.{nth_none, nth_some}
use Rattle.calendar.proofs.path.calendar_path.Goals as goal

-- the error of `ok_or`
given : {A E : Type 0} (o : Option A) (e f : E) → Err f ≡ ok_or o e → f ≡ e
given None e f is = cc
given (Some x) e f is = let z : ◌≡◌ {A = ℕ} 0 1 = cc in absurd (omega arith)

pub returns-in_err-ok_or-clause-answer : goal.returns-in_err-ok_or-clause-answer
returns-in_err-ok_or-clause-answer g c =
    let p : ℕ = c.args.publication in
    let row = g.R.Row.row c.args.row.now in
    let r = err_from_is_err_and c.from_residual.result c.from_residual.ensures.1 in
    r.1 ∙ (ap Err (r.2 ∙ given c.at.result _ _ c.in_err-ok_or.ensures.value)
    ∙ row_short p c.args.second (length c.args.links.now) row (nth_none row p (sym c.in_err-ok_or.ensures.ok_part ∙ c.at.ensures)))

pub returns-then-links-count-clause-answer : goal.returns-then-links-count-clause-answer
returns-then-links-count-clause-answer g c =
    let p : ℕ = c.args.publication in
    let row = g.R.Row.row c.args.row.now in
    let there : p < length row = (nth_some row p c.in_ok-ok_or.field-0 (sym c.in_ok-ok_or.ensures.ok_part ∙ c.at.ensures)).0 in
    links_short p c.args.second (length c.args.links.now) row there (omega arith) (omega arith) c.sides_of-count.result
    c.sides_of-count.ensures c.if-links-count.true

pub returns-clause-answer : goal.returns-clause-answer
returns-clause-answer g c =
    let p : ℕ = c.args.publication in
    let row = g.R.Row.row c.args.row.now in
    let there : p < length row = (nth_some row p c.in_ok-ok_or.field-0 (sym c.in_ok-ok_or.ensures.ok_part ∙ c.at.ensures)).0 in
    links_enough p c.args.second (length c.args.links.now) row there (omega arith) (omega arith) c.sides_of-count.result
    c.sides_of-count.ensures c.if-links-count.false
