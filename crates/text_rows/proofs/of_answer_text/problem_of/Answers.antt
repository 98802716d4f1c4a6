use Rattle.std.proofs.Common.{List, [], sym, subst}
use Rattle.poly_graph.specs.FormGraph.{FormNode}
use Rattle.poly_graph.specs.Term.{Node}
use Rattle.poly_graph.specs.ProblemViews.{IsWhole, parts_of}
use Rattle.poly_graph.specs.declared.node.Atom.{Atom}
use Rattle.text_rows.proofs.TriedAnswerText.{whole}
use Rattle.text_rows.proofs.of_answer_text.problem_of.Goals as goal

pub new-requires-3 : goal.new-requires-3
new-requires-3 c =
    subst (λ (nodes : List Node). IsWhole (parts_of c.args.axes.items nodes c.new-2.result.items c.into_graph.result c.in_ok-root.root)) (sym c.new.ensures)
    (subst (λ (atoms : List Atom). IsWhole (parts_of c.args.axes.items [] atoms c.into_graph.result c.in_ok-root.root)) (sym c.new-2.ensures.items)
    (subst (λ (forms : List FormNode). IsWhole (parts_of c.args.axes.items [] [] forms c.in_ok-root.root)) (sym c.into_graph.ensures)
    (whole c.args.axes.items _ c.intern.new.self c.in_ok-root.root c.requires c.new-forms.ensures c.in_ok-root.ensures)))
