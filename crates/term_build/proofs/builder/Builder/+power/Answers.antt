use Rattle.std.proofs.Common.{ℕ, arith, subst, sym}
use Rattle.std.specs.Prelude.{Result}
use Rattle.term_build.specs.Steps.{tree_of}
use Rattle.term_build.specs.declared.stop.Stop.{Stop}
use Rattle.term_build.proofs.Emits.{err_is}
use Rattle.term_build.proofs.Powers.{Powers, power_even, power_odd, power_once, root_below, root_stops, square_below, square_stops, both_below, below_is}
use Rattle.term_build.proofs.builder.Builder.+power.Goals as goal

pub returns-then-times-eq1-clause-does : goal.returns-then-times-eq1-clause-does
returns-then-times-eq1-clause-does t c = power_once c.args.self.now c.args.factor c.args.times c.requires.node c.if-times-eq1.true

pub returns-in_err-root-clause-does : goal.returns-in_err-root-clause-does
returns-in_err-root-clause-does t c =
    subst (λ (r : Result ℕ Stop). Powers c.args.self.now c.power.new.self (tree_of c.args.self.now c.args.factor) c.args.times r) (sym (err_is c.from_residual.result c.in_err-root.field-0.0 c.from_residual.ensures))
    (root_stops c.args.self.now c.power.new.self (tree_of c.args.self.now c.args.factor) c.args.times c.in_err-root.field-0.0 c.if-times-eq1.false c.in_err-root.ensures.does)

pub make-requires-clause-after : goal.make-requires-clause-after
make-requires-clause-after t c = below_is c.in_ok-root.root _ (root_below c.args.self.now c.power.new.self (tree_of c.args.self.now c.args.factor) c.args.times c.in_ok-root.root c.requires.some c.if-times-eq1.false c.in_ok-root.ensures.does)

pub returns-in_err-square-clause-does : goal.returns-in_err-square-clause-does
returns-in_err-square-clause-does t c =
    subst (λ (r : Result ℕ Stop). Powers c.args.self.now c.make.new.self (tree_of c.args.self.now c.args.factor) c.args.times r) (sym (err_is c.from_residual-in_err-square.result c.in_err-square.field-0.0 c.from_residual-in_err-square.ensures))
    (square_stops c.args.self.now c.power.new.self c.make.new.self (tree_of c.args.self.now c.args.factor) c.args.times c.in_ok-root.root c.in_err-square.field-0.0 c.if-times-eq1.false c.in_ok-root.ensures.does c.in_err-square.ensures.does)

pub returns-then-times-eq0-clause-does : goal.returns-then-times-eq0-clause-does
returns-then-times-eq0-clause-does t c = power_even c.args.self.now c.power.new.self c.make.new.self (tree_of c.args.self.now c.args.factor) c.args.times c.in_ok-root.root c.in_ok-square.square
    c.if-times-eq1.false c.if-times-eq0.true c.in_ok-root.ensures.does c.in_ok-square.ensures.does

pub make-requires-2-clause-after : goal.make-requires-2-clause-after
make-requires-2-clause-after t c =
    let h = square_below c.args.self.now c.power.new.self c.make.new.self (tree_of c.args.self.now c.args.factor) c.args.times c.in_ok-root.root c.in_ok-square.square c.requires.some c.if-times-eq1.false c.in_ok-root.ensures.does c.in_ok-square.ensures.does in
    both_below c.args.factor c.in_ok-square.square _ (omega (arith, c.requires.node, h.1)) h.0

pub returns-clause-does : goal.returns-clause-does
returns-clause-does t c = power_odd c.args.self.now c.power.new.self c.make.new.self c.make-2.new.self c.args.factor c.args.times c.in_ok-root.root c.in_ok-square.square c.make-2.result
    c.requires.node c.if-times-eq1.false c.if-times-eq0.false c.in_ok-root.ensures.does c.in_ok-square.ensures.does c.make-2.ensures.does
