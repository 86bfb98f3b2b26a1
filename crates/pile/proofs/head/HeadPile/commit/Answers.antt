use Rattle.std.proofs.Common.{◌≡◌, List, Ok, sym, subst, arith}
use Rattle.std.proofs.lemmas.Grind.{common_steps}
use Rattle.digest.specs.declared.value.Digest.{Digest}
use Rattle.pile.specs.Meaning.{Meaning, EmptyLaw}
use Rattle.pile.specs.Answers.{committed}
use Rattle.pile.specs.Head.{head_meaning, head_seal}
use Rattle.pile.proofs.Heads.{head_empty}
use Rattle.pile.proofs.head.HeadPile.commit.Goals as goal

pub returns-clause-empty : goal.returns-clause-empty
returns-clause-empty g c =
    let p = c.args.self.now.records in
    let items : List Digest = c.args.list.now in
    let digested = g.D.Hash.digested in
    let m : Meaning = head_meaning p.lent.now p.held p.filled in
    let last = c.enter.new.self in
    let entered = c.enter.ensures in
    let after : head_meaning last.lent.now last.held last.filled ≡ committed m items (head_seal digested items) (Ok tt) = grind (arith, common_steps) in
    λ _. subst (EmptyLaw digested) (sym after) (head_empty digested m items)
