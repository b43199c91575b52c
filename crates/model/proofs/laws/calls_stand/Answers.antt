use Rattle.model.proofs.laws.calls_stand.Goals as goal
use Rattle.model.proofs.Checked.{every-call-is-decided, refusals-alter-nothing}
use Rattle.model.proofs.Numbered.{numbers-in-order, never-36}
use Rattle.model.proofs.Reasons.{refusals-are-true}
use Rattle.model.proofs.Telling.{answers-tell}
use Rattle.model.proofs.Making.{made-floors-are-sound}

pub returns : goal.returns
returns c = record {
  made = made-floors-are-sound;
  decided = every-call-is-decided;
  unaltered = refusals-alter-nothing;
  reasons = refusals-are-true;
  told = answers-tell;
  numbers = numbers-in-order;
  never = never-36;
}
