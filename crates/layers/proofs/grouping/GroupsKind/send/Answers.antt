use Rattle.std.proofs.Common.{◌≡◌, ℕ, min, List, [], ◌∷◌, ◌++◌, length, sym, ap, ◌∙◌, subst, arith, rules}
use Rattle.std.specs.Slice.Iter.{chunks_rest}
use Rattle.std.proofs.lemmas.Grind.{common_steps}
use Rattle.digest.specs.declared.value.Digest.{Digest}
use Rattle.pile.specs.Meaning.{Meaning}
use Rattle.pile.specs.Answers.{commit_answer, committed}
use Rattle.layers.specs.Grouping.{group_root, group_roots}
use Rattle.layers.proofs.Eights.{RootsSoFar, roots_more, roots_all}
use Rattle.layers.proofs.grouping.GroupsKind.send.Goals as goal

pub loop-part-preserved : goal.loop-part-preserved
loop-part-preserved g c =
    let digested = g.P.Digester.Hash.digested in
    let items : List Digest = c.args.list.now in
    let roots : List Digest = c.loop-part.roots.items in
    let rest : List Digest = chunks_rest c.loop-part.part-iterator in
    let left : List Digest = chunks_rest c.next.new.self in
    let far = c.loop-part.invariant in
    let steps = c.in-Some.ensures.steps in
    let root : c.group_root.result ≡ group_root digested c.in-Some.part.now = search (rules, common_steps) in
    let size = steps.1.1 ∙ ap (λ (n : ℕ). min n (length rest)) far.size in
    record {
      can = omega (arith, steps.0, far.size);
      ends = tt;
      size = steps.0 ∙ far.size;
      short = far.short;
      so =
          subst (λ xs. RootsSoFar digested items xs left) (sym (c.push.ensures.items ∙ ap (λ x. roots ++ x ∷ []) root))
          (roots_more digested items roots rest c.in-Some.part.now left far.so steps.1.0 size steps.1.2);
    }

pub returns : goal.returns
returns g c =
    let digested = g.P.Digester.Hash.digested in
    let items : List Digest = c.args.list.now in
    let m : Meaning = g.P.Pile.meaning c.args.below.now in
    let seal = g.P.Pile.seal c.args.below.now in
    let far = c.loop-part.invariant in
    let none : length (chunks_rest c.loop-part.part-iterator) ≡ 0 = grind (arith, common_steps, c.in-None.ensures.steps) in
    let down : c.deref.result.now ≡ group_roots digested items = c.deref.ensures.0 ∙ roots_all digested items c.loop-part.roots.items (chunks_rest c.loop-part.part-iterator) far.so none in
    record {
      outcome = c.commit.ensures.outcome ∙ ap (commit_answer m) down;
      after = c.commit.ensures.after ∙ ap (λ xs. committed m xs (seal xs) c.commit.result) down;
      law = c.commit.ensures.law;
      empty = c.commit.ensures.empty;
    }
