use Rattle.smt_sexp.specs.Views.{place_of}
use Rattle.std.proofs.Common.{subst, sym, arith, Result, ℕ}
use Rattle.dyadic.specs.Views.{fraction_of_frac}
use Rattle.poly_graph.specs.Term.{constant}
use Rattle.script_forms.specs.Terms.{divide_tree}
use Rattle.script_forms.specs.Work.{divide_events}
use Rattle.term_build.specs.Steps.{tree_of, Emits, IsTreeOf}
use Rattle.term_build.specs.declared.stop.Stop.{Stop}
use Rattle.term_build.proofs.Emits.{divide_done, divide_stopped, made_grows, more_nodes, tree_below, err_is}
use Rattle.term_build.proofs.builder.Builder.divide.Goals as goal

pub returns-in_err-factor-clause-does : goal.returns-in_err-factor-clause-does
returns-in_err-factor-clause-does c = let t = tree_of c.args.self.now c.args.a in let u = tree_of c.args.self.now c.args.b in let at = place_of c.args.at in
    subst (λ (r : Result ℕ Stop). Emits c.args.self.now c.make.new.self (divide_events at t u) r (IsTreeOf c.make.new.self (divide_tree at t u)))
    (sym (err_is c.from_residual.result c.in_err-factor.field-0.0 c.from_residual.ensures))
    (divide_stopped c.args.self.now c.make.new.self at c.args.a c.args.b (fraction_of_frac c.in-Some.q) (fraction_of_frac c.in-Some-inverse.inverse) c.in_err-factor.field-0.0
    c.in-Some.ensures c.in-Some-inverse.ensures (c.in_err-factor.ensures.does))

pub multiply-requires-clause-first : goal.multiply-requires-clause-first
multiply-requires-clause-first c = omega (arith, more_nodes c.args.self.now c.make.new.self (made_grows c.args.self.now c.make.new.self (constant (fraction_of_frac c.in-Some-inverse.inverse)) c.in_ok-factor.factor c.in_ok-factor.ensures.does), c.requires.first)

pub multiply-requires-clause-second : goal.multiply-requires-clause-second
multiply-requires-clause-second c = tree_below c.make.new.self (constant (fraction_of_frac c.in-Some-inverse.inverse)) c.in_ok-factor.factor c.in_ok-factor.ensures.does.1

pub returns-clause-does : goal.returns-clause-does
returns-clause-does c = divide_done c.args.self.now c.make.new.self c.multiply.new.self (place_of c.args.at) c.args.a c.args.b c.in_ok-factor.factor (fraction_of_frac c.in-Some.q) (fraction_of_frac c.in-Some-inverse.inverse) c.multiply.result
    c.in-Some.ensures c.in-Some-inverse.ensures c.requires.first c.in_ok-factor.ensures.does c.multiply.ensures.does
