use Rattle.smt_sexp.specs.Views.{place_of}
use Rattle.std.proofs.Common.{subst, sym, arith, Result, ℕ}
use Rattle.script_forms.specs.Terms.{negate_tree, subtract_tree, term}
use Rattle.script_forms.specs.Work.{ending, subtract_events}
use Rattle.term_build.specs.Steps.{tree_of, Emits, IsTreeOf}
use Rattle.term_build.specs.declared.stop.Stop.{Stop}
use Rattle.term_build.proofs.Emits.{subtract_done, subtract_stopped, grown, more_nodes, tree_below, err_is}
use Rattle.term_build.proofs.builder.Builder.subtract.Goals as goal

pub returns-in_err-opposite-clause-does : goal.returns-in_err-opposite-clause-does
returns-in_err-opposite-clause-does c = let t = tree_of c.args.self.now c.args.a in let u = tree_of c.args.self.now c.args.b in let at = place_of c.args.at in
    subst (λ (r : Result ℕ Stop). Emits c.args.self.now c.negate.new.self (subtract_events at t u) r (IsTreeOf c.negate.new.self (subtract_tree at t u)))
    (sym (err_is c.from_residual.result c.in_err-opposite.field-0.0 c.from_residual.ensures))
    (subtract_stopped c.args.self.now c.negate.new.self at c.args.a c.args.b c.in_err-opposite.field-0.0 (c.in_err-opposite.ensures.does))

pub add-requires-clause-first : goal.add-requires-clause-first
add-requires-clause-first c = omega (arith, more_nodes c.args.self.now c.negate.new.self (let u = term (negate_tree (tree_of c.args.self.now c.args.b)) in grown (IsTreeOf c.negate.new.self u) c.args.self.now c.negate.new.self (ending u) c.in_ok-opposite.opposite c.in_ok-opposite.ensures.does), c.requires.first)

pub add-requires-clause-second : goal.add-requires-clause-second
add-requires-clause-second c = let t = c.in_ok-opposite.ensures.does.1 in tree_below c.negate.new.self t.0 c.in_ok-opposite.opposite t.2

pub returns-clause-does : goal.returns-clause-does
returns-clause-does c = subtract_done c.args.self.now c.negate.new.self c.add.new.self (place_of c.args.at) c.args.a c.args.b c.in_ok-opposite.opposite c.add.result c.requires.first c.in_ok-opposite.ensures.does c.add.ensures.does
