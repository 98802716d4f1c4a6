use Rattle.std.proofs.Common.{subst, sym, Result, ℕ, [], ◌∷◌}
use Rattle.poly_graph.specs.Form.{atom_is}
use Rattle.poly_graph.specs.Views.{kind_of}
use Rattle.script_forms.specs.Work.{asked, formed}
use Rattle.term_build.specs.Built.{stand_of, full_atom}
use Rattle.term_build.specs.Sketch.{IsAtomForm}
use Rattle.term_build.specs.Steps.{Emits}
use Rattle.term_build.specs.declared.stop.Stop.{Stop}
use Rattle.term_build.proofs.Compares.{atom_form_done, atom_form_stopped}
use Rattle.term_build.proofs.Emits.{err_is}
use Rattle.term_build.proofs.builder.Builder.atom_form.Goals as goal

pub returns-in_err-atom-clause-does : goal.returns-in_err-atom-clause-does
returns-in_err-atom-clause-does c = let a = full_atom (stand_of c.args.self.now).trees (c.args.term, kind_of c.args.kind) in
    subst (λ (r : Result ℕ Stop). Emits c.args.self.now c.ask.new.self (asked a ∷ formed (atom_is a) ∷ []) r (IsAtomForm c.ask.new.self a))
    (sym (err_is c.from_residual.result c.in_err-atom.field-0.0 c.from_residual.ensures))
    (atom_form_stopped c.args.self.now c.ask.new.self a c.in_err-atom.field-0.0 (c.in_err-atom.ensures.does))

pub returns-clause-does : goal.returns-clause-does
returns-clause-does c = let a = full_atom (stand_of c.args.self.now).trees (c.args.term, kind_of c.args.kind) in
    atom_form_done c.args.self.now c.ask.new.self c.form.new.self a c.in_ok-atom.atom c.form.result c.in_ok-atom.ensures.does c.form.ensures.does

pub form-requires-clause-fits : goal.form-requires-clause-fits
form-requires-clause-fits c = c.in_ok-atom.ensures.does.1.0
