use Rattle.register.proofs.Proved.{refused-changes-nothing, deposits-add, withdrawals-take, totals-kept, reading-shows, totals-bounded}
use Rattle.register.proofs.uses.movement_laws.Goals as goal

pub returns : goal.returns
returns c = record {
  refused = refused-changes-nothing;
  deposits = deposits-add;
  withdrawals = withdrawals-take;
  kept = totals-kept;
  shows = reading-shows;
  bounded = totals-bounded;
}
