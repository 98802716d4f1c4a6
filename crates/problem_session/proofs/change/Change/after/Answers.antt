use Rattle.std.proofs.Common.{sym, ◌∙◌, subst}
use Rattle.poly_graph.specs.ProblemViews.{IsWhole}
use Rattle.problem_session.proofs.Changed.{after_same}
use Rattle.problem_session.proofs.change.Change.after.Goals as goal

pub new-requires : goal.new-requires
new-requires c = subst IsWhole (sym (after_same c.args.self.now c.args.graph.now c.in_ok-graph.graph c.deref.result.now c.args.atoms.now c.in_ok-all.all.items c.extend_from_slice.new.self.items c.deref-3.result.now c.args.forms.now c.in_ok-forms.forms c.deref-2.result.now c.deref-4.result.now c.in_ok-axes.axes.items
    c.in_ok-axes.ensures.items c.deref-4.ensures.value c.in_ok-graph.ensures c.deref.ensures.value c.in_ok-extend_from_slice.ensures.items c.in_ok-all.ensures.items c.deref-3.ensures.value c.in_ok-forms.ensures c.deref-2.ensures.value)) c.requires.whole

pub returns : goal.returns
returns c = c.new.ensures ∙ after_same c.args.self.now c.args.graph.now c.in_ok-graph.graph c.deref.result.now c.args.atoms.now c.in_ok-all.all.items c.extend_from_slice.new.self.items c.deref-3.result.now c.args.forms.now c.in_ok-forms.forms c.deref-2.result.now c.deref-4.result.now c.in_ok-axes.axes.items
    c.in_ok-axes.ensures.items c.deref-4.ensures.value c.in_ok-graph.ensures c.deref.ensures.value c.in_ok-extend_from_slice.ensures.items c.in_ok-all.ensures.items c.deref-3.ensures.value c.in_ok-forms.ensures c.deref-2.ensures.value
