use Rattle.std.proofs.Common.{Option, sym, ap, ◌∙◌}
use Rattle.register.specs.declared.faults.RegisterFault.{RegisterFault}
use Rattle.register.specs.Books.{Book}
use Rattle.register.specs.Moves.{Release, refusal, after_move, granted}
use Rattle.register.proofs.Chains.{released, never_back}
use Rattle.register.proofs.uses.block_and_release.Goals as goal

pub unreachable-requires : goal.unreachable-requires
unreachable-requires g c =
    let s = c.in_ok-slip.slip in
    let back = released (g.R.Register.means c.args.register.now) c.args.holder c.args.asset c.args.amount s c.in_ok-slip.ensures.answer in
    let after = c.in_ok-slip.ensures.after in
    never_back _ s _ (ap (λ (b : Book). refusal b (Release s.holder s.asset s.amount)) after ∙ back.granted) c.in-Err.ensures.answer

pub returns : goal.returns
returns g c =
    let s = c.in_ok-slip.slip in
    let back = released (g.R.Register.means c.args.register.now) c.args.holder c.args.asset c.args.amount s c.in_ok-slip.ensures.answer in
    record {
      answer = ap (λ (r : Option RegisterFault). granted r tt) (sym back.blocked);
      same = c.release.ensures.after ∙ ap (λ (b : Book). after_move b (Release s.holder s.asset s.amount)) c.in_ok-slip.ensures.after ∙ back.same;
    }
