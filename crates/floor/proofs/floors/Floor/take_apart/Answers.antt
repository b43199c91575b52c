use Rattle.std.proofs.Common.{refl, ap, ◌∙◌}
use Rattle.register.specs.Books.{Book}
use Rattle.floor.specs.Desks.{world_of}
use Rattle.floor.proofs.Ending.{void-granted, void-blocked}
use Rattle.floor.proofs.floors.Floor.take_apart.Goals as goal

pub void_books-requires : goal.void_books-requires
void_books-requires g c =
    let f = c.args.self.state in
    record { eight = f.desk.eight; granted = void-granted (g.M.MarketRule.means f.rule).step (world_of (g.R.Register.means f.register) f.desk) c.args.self.sound }

pub returns : goal.returns
returns g c =
    let f = c.args.self.state in
    let w = world_of (g.R.Register.means f.register) f.desk in
    record {
      register = c.void_books.ensures.book;
      released = λ o h a i j. ap (λ (b : Book). b.blocked h a) c.void_books.ensures.book ∙ void-blocked (g.M.MarketRule.means f.rule).step w c.args.self.sound o h a i j;
      rule = refl;
    }
