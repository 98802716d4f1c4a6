use Rattle.poly_graph.specs.FormViews.{form_node_of}
use Rattle.term_build.proofs.Forms.{kept_form, seen_form}
use Rattle.term_build.proofs.builder.Builder.form.Goals as goal

pub invariant_of-self : goal.invariant_of-self
invariant_of-self c = kept_form _ _ c.intern-made.new.self (form_node_of c.args.node) c.intern-made.result c.self.view_is c.self.invariant c.requires.after c.requires.fits c.forms_are_shared.ensures c.intern-made.ensures

pub returns-clause-does : goal.returns-clause-does
returns-clause-does c =
    seen_form _ _ c.intern-made.new.self (form_node_of c.args.node) c.intern-made.result c.limited.result c.self.view_is c.limited.ensures c.self.invariant c.requires.after c.requires.fits c.forms_are_shared.ensures c.intern-made.ensures
