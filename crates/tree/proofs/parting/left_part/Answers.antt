use Rattle.std.proofs.Common.{◌≡◌, ℕ, ◌*◌, ◌%◌, ◌^◌, ltb, Some, ap, sym, ◌∙◌, arith}
use Rattle.std.proofs.lemmas.Bool.{cond-true, lt-ltb}
use Rattle.tree.specs.Split.{split}
use Rattle.tree.proofs.Splits.{split_splits, split_law, top_bit}
use Rattle.tree.proofs.parting.left_part.Goals as goal

pub returns-in_err-last-clause-law : goal.returns-in_err-last-clause-law
returns-in_err-last-clause-law c = split_law

pub returns-in_err-checked_ilog2-clause-law : goal.returns-in_err-checked_ilog2-clause-law
returns-in_err-checked_ilog2-clause-law c = split_law

pub returns : goal.returns
returns c =
    let n : ℕ = c.args.n in
    let j : ℕ = c.in_ok-checked_ilog2.field-0 in
    let top = c.in_ok-checked_ilog2.ensures in
    let is : 1 * 2 ^ j % 2 ^ 64 ≡ split n = top_bit n j (omega arith) (omega arith) (omega arith) (omega arith) in
    let s = split_splits n (omega arith) in
    record {
      value = ap Some is ∙ sym (cond-true (ltb 1 n) _ _ (lt-ltb 1 n (omega arith)));
      parts = (omega arith, is, omega (arith, is, s.1, s.2), omega (arith, is, s.1));
      none = tt;
      law = split_law;
    }
