use Rattle.std.proofs.Common.{◌≡◌, ℕ, length, take, ap, ◌∙◌, subst}
use Rattle.rules.specs.Rules.{Rule}
use Rattle.model.specs.World.{World, made}
use Rattle.floor.specs.Floors.{seen}
use Rattle.floor.specs.Lists.{recorded, Ran}
use Rattle.floor.proofs.Listed.{ran-lawful, run-lawful, as_many}
use Rattle.floor.proofs.runner.run.Goals as goal

pub returns : goal.returns
returns g c =
    let a = c.args in
    let k = g.R.Register.means in
    let m = g.M.MarketRule.means in
    let n = c.new-floor in
    let e = c.resume.ensures in
    let r : m n.result.state.rule ≡ m a.rule = ap m n.ensures.rule in
    let w : seen k n.result.state ≡ made (k a.register) = n.ensures.world in
    let cs : take c.resume.result a.calls.now ≡ take (length a.answers.now) a.calls.now = ap (λ (i : ℕ). take i a.calls.now) e.made ∙ as_many a.calls.now (length a.answers.now) in
    let ran = subst (λ z. Ran (m a.rule) (made (k a.register)) z (seen k c.resume.new.floor.state) a.answers.now c.resume.new.answers a.tape.now c.resume.new.tape) cs
    (subst (λ (v : World). Ran (m a.rule) v (take c.resume.result a.calls.now) (seen k c.resume.new.floor.state) a.answers.now c.resume.new.answers a.tape.now c.resume.new.tape) w
    (subst (λ (z : Rule). Ran z (seen k n.result.state) (take c.resume.result a.calls.now) (seen k c.resume.new.floor.state) a.answers.now c.resume.new.answers a.tape.now c.resume.new.tape) r e.ran)) in
    record {
      ran = ran;
      rule = e.rule ∙ n.ensures.rule;
      law = λ q. run-lawful (m a.rule) (k a.register) (seen k c.resume.new.floor.state) (recorded (take (length a.answers.now) a.calls.now) c.resume.new.answers c.resume.new.tape) q (g.met.R.Register.bounded a.register)
          (λ y t. ran-lawful (m a.rule) (g.met.M.MarketRule.lawful a.rule) (made (k a.register)) (seen k c.resume.new.floor.state) (take (length a.answers.now) a.calls.now) a.answers.now c.resume.new.answers a.tape.now c.resume.new.tape y ran t);
    }
