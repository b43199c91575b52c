use Rattle.std.proofs.Common.{Bool, sym, refl, ap, ◌∙◌}
use Rattle.std.proofs.lemmas.Bool.{cond-true}
use Rattle.model.specs.declared.faults.FloorRefusal.TheVariants.{WrongSession}
use Rattle.model.specs.Checks.{must}
use Rattle.floor.specs.Floors.{seen}
use Rattle.floor.specs.Replies.{unless}
use Rattle.floor.proofs.Passing.{allowed-met}
use Rattle.floor.proofs.Ending.{void-granted}
use Rattle.floor.proofs.state.State.end.Goals as goal

pub void_books-requires : goal.void_books-requires
void_books-requires g c =
    let f = c.args.self.now in
    record { eight = c.args.self.now.desk.eight; granted = void-granted (g.M.MarketRule.means f.rule).step (seen g.R.Register.means f) c.requires }

pub returns : goal.returns
returns g c =
    let a = c.args in
    let w = seen g.R.Register.means a.self.now in
    let ok = allowed-met w.session a.event _ c.in_ok-session.ensures in
    let v = c.void_books.ensures in
    record {
      answer = sym (ap (λ (b : Bool). unless (must b WrongSession) tt) ok.0);
      leaves = record { world = (λ i. record { book = v.book i; session = ok.1 i; listing = w.listing; given = w.given; sheets = v.sheets i }) ∙ sym (cond-true _ _ _ ok.0); rule = refl };
    }
