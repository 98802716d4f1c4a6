use Rattle.std.proofs.Common.{◌≡◌, ◌≤◌, ◌-◌, ◌++◌, ◌∙◌, length, drop, ap, refl, arith}
use Rattle.root_rewriting.specs.Walk.{enters}
use Rattle.root_rewriting.proofs.Steps.{enters_more, enters_none}
use Rattle.root_rewriting.proofs.walk.push_all.Goals as goal

pub loop-left-init : goal.loop-left-init
loop-left-init c = (omega arith, enters_none c.args.stack.now.items c.args.stack.now.items c.args.parts.now (length c.args.parts.now) refl refl)

pub loop-left-preserved : goal.loop-left-preserved
loop-left-preserved c =
    let n = c.loop-left.left in
    let within : n ≤ length c.args.parts.now = c.loop-left.invariant.0 in
    let some = c.loop-left-test.true in
    (omega arith, enters_more c.args.stack.now.items c.loop-left.stack.items c.push.new.self.items c.args.parts.now n (n - 1) (omega arith) within c.loop-left.invariant.1 c.in_ok-push.ensures.items)

pub returns : goal.returns
returns c =
    let none : c.loop-left.left ≡ 0 = omega (arith, c.loop-left-test.false) in
    c.loop-left.invariant.1 ∙ ap (λ n. c.args.stack.now.items ++ enters (drop n c.args.parts.now)) none
