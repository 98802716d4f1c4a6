use Rattle.std.proofs.Common.{◌≤◌, ◌-◌, ap, sym, ◌∙◌, arith, length, take}
use Rattle.std.proofs.lemmas.List.{length-take, take-take, take_all}
use Rattle.sort_check.proofs.scope.Scope.forget_to.Goals as goal

pub loop-self-preserved : goal.loop-self-preserved
loop-self-preserved c =
    let force = c.loop-self.self.force in
    let left : c.args.commands ≤ length force.items - 1 = omega (arith, c.loop-self-test.true, c.len.ensures, force.ok.0) in
    record {
      rest = ap (take c.args.commands) c.forget.ensures.rest ∙ take-take c.args.commands (length force.items - 1) force.items left ∙ c.loop-self.invariant.rest;
      known = λ theory s k. c.forget.ensures.known theory s (c.loop-self.invariant.known theory s k);
      marks = c.forget.ensures.marks ∙ c.loop-self.invariant.marks;
    }

pub loop-self-smaller : goal.loop-self-smaller
loop-self-smaller c =
    let force = c.loop-self.self.force in
    omega (arith, ap length c.forget.ensures.rest, length-take (length force.items - 1) force.items, c.loop-self-test.true, c.len.ensures, force.ok.0)

pub returns : goal.returns
returns c =
    let force = c.loop-self.self.force in
    let few : length force.items ≤ c.args.commands = omega (arith, c.loop-self-test.false, c.len.ensures, force.ok.0) in
    record {
      rest = sym (take_all c.args.commands force.items few) ∙ c.loop-self.invariant.rest;
      known = c.loop-self.invariant.known;
      marks = c.loop-self.invariant.marks;
    }
