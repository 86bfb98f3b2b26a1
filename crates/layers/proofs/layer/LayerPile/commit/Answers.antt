use Rattle.std.proofs.Common.{◌≡◌, ℕ, List, Ok, sym, ap, ◌∙◌, subst, arith, rules}
use Rattle.digest.specs.declared.value.Digest.{Digest}
use Rattle.pile.specs.Meaning.{Meaning, Law, EmptyLaw}
use Rattle.pile.specs.Answers.{committed}
use Rattle.pile.proofs.Answered.{served}
use Rattle.layers.specs.Layered.{layered_meaning, layered_seal}
use Rattle.layers.proofs.Layers.{layered_after, layered_law, layered_empty}
use Rattle.layers.proofs.layer.LayerPile.commit.Goals as goal

pub returns : goal.returns
returns g c =
    let digested = g.P.Digester.Hash.digested in
    let p = c.args.self.now in
    let second : ℕ = c.seconds-second.result in
    let w = g.K.Kind.lowering p.kind digested second in
    let laws = p.lowers digested second in
    let items : List Digest = c.args.list.now in
    let m : Meaning = g.P.Pile.meaning p.below in
    let before = g.K.Kind.lowering p.kind digested p.second in
    let seal = g.P.Pile.seal p.below in
    let next : Meaning = g.P.Pile.meaning c.send.new.below in
    let below : next ≡ committed m (w.lowered items) (seal (w.lowered items)) (Ok tt) =
    c.send.ensures.after ∙ ap (committed m (w.lowered items) (seal (w.lowered items))) c.in_ok-send.was in
    let same : c.keep.new.list.items ≡ items = search rules in
    let kept = ap (λ xs. layered_meaning w xs next) same in
    let round : next.round ≡ w.lowered items = ap (λ (x : Meaning). x.round) below in
    record {
      outcome = sym (served (layered_meaning before p.list.items m) items (omega arith) (omega arith));
      after =
          kept
          ∙ (ap (layered_meaning w items) below
          ∙ (layered_after laws (p.lowers digested p.second) m items (seal (w.lowered items)) p.list.items
          ∙ ap
          (λ s.
          let v = g.K.Kind.lowering p.kind digested s in
          committed (layered_meaning before p.list.items m) items (layered_seal v items (seal (v.lowered items))) (Ok tt))
          c.seconds-second.ensures.value));
      law = λ _. subst (Law digested) (sym kept) (layered_law laws next items round (c.send.ensures.law c.in_ok-send.was));
      empty = λ _. subst (EmptyLaw digested) (sym kept) (layered_empty laws next items round (c.send.ensures.empty c.in_ok-send.was));
    }
