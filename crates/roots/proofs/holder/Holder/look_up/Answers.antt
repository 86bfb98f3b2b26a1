use Rattle.std.proofs.Common.{Some, sym, ap, ◌∙◌, arith}
use Rattle.roots.proofs.Listed.{length_listed}
use Rattle.roots.proofs.Narrowed.{few, gone, more, above, below, met}
use Rattle.roots.proofs.Found.{found_law}
use Rattle.roots.proofs.holder.Holder.look_up.Goals as goal

pub overflow_add-looks : goal.overflow_add-looks
overflow_add-looks g c =
    let low = few _ _ _ _ _ c.loop-low.invariant (omega arith) in omega (arith, low)

pub returns-then-entry-second : goal.returns-then-entry-second
returns-then-entry-second g c =
    let raws = c.args.self.now.list.entries.now in
    let here = ap (λ entry. entry.second) c.from-entry.ensures in
    record {
      root =
          ap (λ entry. Some entry.root) c.from-entry.ensures
          ∙ sym (met raws _ _ _ _ c.loop-low.invariant (omega arith) c.args.self.now.ordered _ _ here (omega arith) (omega arith) c.if-entry-second.true);
      looks = omega (arith, length_listed raws, more raws _ _ _ _ c.loop-low.invariant (omega arith));
      law = found_law;
    }

pub loop-low-preserved-then-entry-second-2 : goal.loop-low-preserved-then-entry-second-2
loop-low-preserved-then-entry-second-2 g c =
    let here = ap (λ entry. entry.second) c.from-entry.ensures in
    above _ _ _ _ _ c.loop-low.invariant (omega arith) c.args.self.now.ordered _ _ here (omega arith) (omega arith) c.if-entry-second-2.true (omega arith)

pub loop-low-preserved : goal.loop-low-preserved
loop-low-preserved g c =
    let here = ap (λ entry. entry.second) c.from-entry.ensures in
    below _ _ _ _ _ c.loop-low.invariant (omega arith) c.args.self.now.ordered _ _ here (omega arith) (omega arith) (omega arith) (omega arith)

pub returns : goal.returns
returns g c =
    let raws = c.args.self.now.list.entries.now in
    record {
      root = sym (gone raws _ _ _ _ c.loop-low.invariant (omega arith));
      looks = omega (arith, length_listed raws, c.loop-low.invariant.looked);
      law = found_law;
    }
