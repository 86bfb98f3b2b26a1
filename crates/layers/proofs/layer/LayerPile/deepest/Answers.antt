use Rattle.layers.proofs.Layers.{layered_short}
use Rattle.layers.proofs.layer.LayerPile.deepest.Goals as goal

pub returns-clause-short : goal.returns-clause-short
returns-clause-short g c =
    let p = c.args.self.now in
    layered_short (p.lowers g.P.Digester.Hash.digested p.second) _ _ _ c.deepest.ensures.short
