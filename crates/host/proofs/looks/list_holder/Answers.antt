use Rattle.host.proofs.Growing.{below_none, below_more}
use Rattle.host.proofs.looks.list_holder.Goals as goal

pub loop-asset-init : goal.loop-asset-init
loop-asset-init g c = below_none _ _

pub loop-asset-preserved : goal.loop-asset-preserved
loop-asset-preserved g c = below_more _ _ _ _ _ c.loop-asset.invariant c.in_ok-list_account.ensures
