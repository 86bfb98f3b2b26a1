use Rattle.std.proofs.Common.{◌≡◌, ℕ, List, [], ◌∷◌, ◌++◌, length, get_or, drop, sym, ap, ◌∙◌, arith}
use Rattle.roots.specs.Entries.{entry_bytes}
use Rattle.roots.proofs.Printed.{printed, over_more, over_head}
use Rattle.roots.proofs.printing.write_list.Goals as goal

pub loop-place-preserved : goal.loop-place-preserved
loop-place-preserved c =
    let old : List ℕ = c.copy_from_slice.new.self ++ drop 8 c.args.out.now in
    let is : c.copy_from_slice-in-loop-place.new.self ≡ entry_bytes c.index-entries-place.result =
    c.copy_from_slice-in-loop-place.ensures.after ∙ c.from.ensures in
    over_more c.args.number c.args.entries.now c.loop-place.place old c.loop-place.out c.copy_from_slice-in-loop-place.new.self
    c.loop-place.invariant c.loop-place-test.true c.index-entries-place.result c.index-entries-place.is is _ (omega arith)

pub loop-place-init : goal.loop-place-init
loop-place-init c =
    let rest : List ℕ = drop 8 c.args.out.now in
    let head : List ℕ = printed c.args.number c.args.entries.now 0 in
    let is : c.copy_from_slice.new.self ≡ head =
    c.copy_from_slice.ensures.after
    ∙ ap (λ xs. 72 ∷ 67 ∷ 80 ∷ 0 ∷ 1 ∷ c.args.number ∷ get_or xs 0 0 ∷ get_or xs 1 0 ∷ []) c.to_be_bytes.ensures in
    ap (λ h. h ++ rest) is ∙ ap (λ h. head ++ drop 8 (h ++ rest)) (sym is)

pub returns : goal.returns
returns c =
    c.loop-place.invariant
    ∙ over_head c.args.number c.args.entries.now c.loop-place.place c.args.out.now c.copy_from_slice.new.self
    (ap length c.copy_from_slice.ensures.after) c.loop-place-test.false
