-- Whether the conjuncts of a form's node are marked yes, from those of its children.
use Rattle.std.specs.Prelude.{List, Bool, true}
use Rattle.std.specs.List.{list_all}
use Rattle.poly_graph.specs.FormGraph.{FormNode, atom_node, all_node}
use Rattle.poly_graph.specs.Marks.{Mark, is_yes, mark_at}
use Rattle.cover_model.specs.State.{State}
use Rattle.cover_model.specs.Honest.{all_in_yes, conjuncts}
use Rattle.poly_graph.specs.ProblemViews.{Parts, problem_of}
use Rattle.form_truth.specs.Truth.{is_true}

abbrev pub node_in_yes : List Mark → List Bool → FormNode → Bool
node_in_yes marks truths (atom_node j) = is_yes (mark_at marks j)
node_in_yes marks truths (all_node ks) = list_all (is_true truths) ks
node_in_yes marks truths n = true

-- each atom that the form's root reaches through conjunctions alone is marked yes
abbrev pub conjuncts_are_in_yes : Parts → State → Bool
conjuncts_are_in_yes p S = all_in_yes S (conjuncts (problem_of p).form)
