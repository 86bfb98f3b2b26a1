use Rattle.std.proofs.Common.{◌≡◌, ℕ, ◌+◌, min, length, Some, sym, ap, ◌∙◌, arith}
use Rattle.std.proofs.lemmas.List.{length-take}
use Rattle.pile.specs.Meaning.{Meaning}
use Rattle.pile.specs.Answers.{way_length}
use Rattle.pile.proofs.Answered.{length_absent}
use Rattle.layers.specs.Layered.{layered_meaning}
use Rattle.layers.proofs.Ways.{longer}
use Rattle.layers.proofs.Layers.{links_there, links_absent, layered_over}
use Rattle.layers.proofs.layer.LayerPile.way_length.Goals as goal

pub returns : goal.returns
returns g c =
    let digested = g.P.Digester.Hash.digested in
    let p = c.args.self.now in
    let place : ℕ = c.args.place in
    let w = g.K.Kind.lowering p.kind digested p.second in
    let laws = p.lowers digested p.second in
    let m : Meaning = g.P.Pile.meaning p.below in
    let own : ℕ = c.in_ok-own.own in
    let there = links_there w p.list.items place c.links_of.result (c.links_of.ensures digested p.second) own c.in_ok-own.was in
    let spot : c.spot.result ≡ w.spot place = grind (arith, c.spot.ensures, laws.spots place) in
    let rest : way_length m (w.spot place) ≡ Some c.in_ok-rest.rest =
    ap (way_length m) (sym spot) ∙ (sym c.way_length.ensures ∙ c.in_ok-rest.was) in
    let sum : c.saturating_add.result ≡ min (c.in_ok-rest.rest + length (w.front p.list.items place)) 255 = omega (arith, c.saturating_add.ensures, there.1) in
    ap Some sum
    ∙ sym (longer (layered_over laws p.list.items m place there.0) c.in_ok-rest.rest rest)

pub returns-in_err-own : goal.returns-in_err-own
returns-in_err-own g c =
    let p = c.args.self.now in
    let w = g.K.Kind.lowering p.kind g.P.Digester.Hash.digested p.second in
    let m : Meaning = g.P.Pile.meaning p.below in
    let past = links_absent w p.list.items c.args.place c.links_of.result (c.links_of.ensures _ _) c.in_err-own.was in
    let size = length-take (w.covered (length m.round)) p.list.items in
    c.from_residual.ensures ∙ sym (length_absent (layered_meaning w p.list.items m) c.args.place (omega (arith, past, size)))
