use Rattle.std.proofs.Common.{subst, sym, refl, Result, ℕ}
use Rattle.poly_graph.specs.Form.{atom_is}
use Rattle.poly_graph.specs.Views.{kind_of}
use Rattle.smt_sexp.specs.Views.{place_of}
use Rattle.script_forms.specs.Atoms.{atom_of}
use Rattle.script_forms.specs.Terms.{comparison_tree}
use Rattle.script_forms.specs.Work.{form_events}
use Rattle.term_build.specs.Built.{stand_of}
use Rattle.term_build.specs.Sketch.{IsAtomForm, comparison_of}
use Rattle.term_build.specs.Steps.{Emits}
use Rattle.term_build.specs.declared.stop.Stop.{Stop}
use Rattle.term_build.proofs.Compares.{compare_done, compare_stopped, term_there}
use Rattle.term_build.proofs.Emits.{err_is}
use Rattle.term_build.proofs.builder.Builder.compare.Goals as goal

pub returns-in_err-term-clause-does : goal.returns-in_err-term-clause-does
returns-in_err-term-clause-does c = let x = comparison_of (stand_of c.args.self.now).trees (place_of c.args.at) c.args.left c.args.right (kind_of c.args.kind) in
    subst (λ (r : Result ℕ Stop). Emits c.args.self.now c.comparison_term.new.self (form_events (atom_is x)) r (IsAtomForm c.comparison_term.new.self (atom_of x)))
    (sym (err_is c.from_residual.result c.in_err-term.field-0.0 c.from_residual.ensures))
    (compare_stopped c.args.self.now c.comparison_term.new.self x c.in_err-term.field-0.0 (c.in_err-term.ensures.does))

pub atom_form-requires : goal.atom_form-requires
atom_form-requires c = let x = comparison_of (stand_of c.args.self.now).trees (place_of c.args.at) c.args.left c.args.right (kind_of c.args.kind) in
    term_there c.comparison_term.new.self (comparison_tree x) c.in_ok-term.term c.in_ok-term.ensures.does.1

pub returns-clause-does : goal.returns-clause-does
returns-clause-does c = let x = comparison_of (stand_of c.args.self.now).trees (place_of c.args.at) c.args.left c.args.right (kind_of c.args.kind) in
    compare_done c.args.self.now c.comparison_term.new.self c.atom_form.new.self x (kind_of c.args.kind) c.in_ok-term.term c.atom_form.result refl c.in_ok-term.ensures.does c.atom_form.ensures.does
