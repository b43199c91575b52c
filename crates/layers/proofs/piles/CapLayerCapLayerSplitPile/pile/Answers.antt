use Rattle.layers.proofs.Piling.{piled}
use Rattle.layers.proofs.piles.CapLayerCapLayerSplitPile.pile.Goals as goal

pub returns : goal.returns
returns g c =
    simp (c.new-2.ensures, c.new-capped.ensures, c.new.ensures)
    (piled c.args.upper c.args.lower (g.P.Register.means c.args.first) (g.Q.Register.means c.args.second))
