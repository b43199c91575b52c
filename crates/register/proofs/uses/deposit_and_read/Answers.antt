use Rattle.std.proofs.Common.{ap, ◌∙◌}
use Rattle.register.specs.Books.{Book}
use Rattle.register.specs.Moves.{reading}
use Rattle.register.proofs.Chains.{read_back}
use Rattle.register.proofs.uses.deposit_and_read.Goals as goal

pub returns : goal.returns
returns g c =
    let after = c.in_ok-deposit.ensures.after in
    record {
      answer = c.read.ensures ∙ ap (λ (b : Book). reading b c.args.holder c.args.asset) after
          ∙ read_back (g.R.Register.means c.args.register.now) c.args.holder c.args.asset c.args.amount c.in_ok-deposit.field-0 c.in_ok-deposit.ensures.answer;
      after = after;
    }
