use Rattle.host.proofs.Growing.{below_none, below_more}
use Rattle.host.proofs.looks.list_accounts.Goals as goal

pub loop-holder-init : goal.loop-holder-init
loop-holder-init g c = below_none _ _

pub loop-holder-preserved : goal.loop-holder-preserved
loop-holder-preserved g c = below_more _ _ _ _ _ c.loop-holder.invariant c.in_ok-list_holder.ensures
