use Rattle.std.proofs.Common.{◌≡◌, ℕ, length, ap, ◌∙◌, arith}
use Rattle.std.specs.Option.{option_map}
use Rattle.std.specs.Result.{result_ok}
use Rattle.pile.specs.Meaning.{Meaning, Way}
use Rattle.layers.specs.Behind.{behind_answer, behind_written}
use Rattle.layers.proofs.Ways.{same_answer, same_written}
use Rattle.layers.proofs.Layers.{front_there, layered_over}
use Rattle.layers.proofs.layer.LayerPile.way.Goals as goal

pub returns : goal.returns
returns g c =
    let digested = g.P.Digester.Hash.digested in
    let p = c.args.self.now in
    let place : ℕ = c.args.place in
    let links : Way = c.args.links.now in
    let w = g.K.Kind.lowering p.kind digested p.second in
    let laws = p.lowers digested p.second in
    let m : Meaning = g.P.Pile.meaning p.below in
    let some = c.ok_or.ensures.ok_part ∙ ap result_ok c.in_ok-front.was in
    let there = front_there w p.list.items place (option_map (λ v. v.items) c.front.result) c.front.ensures c.in_ok-front.front.items (ap (option_map (λ v. v.items)) some) in
    let over = layered_over laws p.list.items m place there.0 in
    let spot : c.spot.result ≡ w.spot place = grind (arith, c.spot.ensures, laws.spots place) in
    let front : c.deref.result.now ≡ w.front p.list.items place = c.deref.ensures.0 ∙ there.1 in
    let answer = c.behind.ensures.outcome
    ∙ (ap (λ ws. behind_answer m ws (c.spot.result) (length links)) front
    ∙ ap (λ s. behind_answer m (w.front p.list.items place) s (length links)) spot) in
    record {
      outcome = answer ∙ same_answer over (length links);
      after =
          c.behind.ensures.after
          ∙ (ap (λ ws. behind_written m ws (c.spot.result) links c.behind.result) front
          ∙ (ap (λ s. behind_written m (w.front p.list.items place) s links c.behind.result) spot
          ∙ same_written over links c.behind.result answer));
    }
