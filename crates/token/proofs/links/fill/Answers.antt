use Rattle.std.proofs.Common.{ℕ, List, [], map, take, sym, ap, ◌∙◌, arith}
use Rattle.std.proofs.lemmas.List.{take-map, take_all, length-take-le}
use Rattle.tree.specs.Answers.{over}
use Rattle.layout.specs.Parts.{link_of}
use Rattle.token.proofs.Linked.{filled_more}
use Rattle.token.proofs.links.fill.Goals as goal

pub loop-k-preserved : goal.loop-k-preserved
loop-k-preserved c =
    let raws : List (List ℕ) = c.args.raws.now in
    filled_more (take c.min-count.result raws) c.args.out.now c.loop-k.out c.loop-k.k [] c.link.result (omega arith)
    (omega (arith, length-take-le c.min-count.result raws (omega arith)))
    c.link.ensures c.loop-k.invariant

pub returns-clause-links : goal.returns-clause-links
returns-clause-links c =
    let raws : List (List ℕ) = c.args.raws.now in
    c.loop-k.invariant
    ∙ ap (λ xs. over xs c.args.out.now) (ap (map link_of) (take_all c.loop-k.k (take c.min-count.result raws) (omega arith)) ∙ sym (take-map link_of c.min-count.result raws))
