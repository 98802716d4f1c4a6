use Rattle.std.proofs.Common.{sym, ◌∙◌, subst, List, ◌≡◌}
use Rattle.std.specs.List.{AllZip}
use Rattle.poly_graph.specs.ProblemViews.{axis_of, parts_of, IsWhole}
use Rattle.poly_graph.specs.declared.axis.Axis.{Axis}
use Rattle.poly_graph.specs.contracts.axis.AxisClone.TheImpl as axis_clone
use Rattle.poly_graph.proofs.Clones.{map_clones, axis_clone_is, same_parts}
use Rattle.poly_graph.proofs.problem.Problem.try_clone.Goals as goal

-- the clone has equal parts
equal : (c : goal.In_ok-forms) → parts_of c.in_ok-axes.axes.items c.in_ok-graph.graph c.in_ok-atoms.atoms.items c.in_ok-forms.forms c.self.inside.root ≡ parts_of c.self.inside.axes.items c.self.inside.graph c.self.inside.atoms.items c.self.inside.forms c.self.inside.root
equal c = same_parts _ _ _ _ _ _ _ _ c.self.inside.root
    (map_clones axis_of (axis_clone.ghosts).is_clone c.self.inside.axes.items c.in_ok-axes.axes.items axis_clone_is
    (subst (λ (as' : List Axis). AllZip (axis_clone.ghosts).is_clone as' c.in_ok-axes.axes.items) c.deref.ensures.value c.in_ok-axes.ensures.items))
    c.in_ok-graph.ensures (c.in_ok-atoms.ensures.items ∙ c.deref-2.ensures.value) c.in_ok-forms.ensures

pub invariant_of-result : goal.invariant_of-result
invariant_of-result c = subst IsWhole (sym (equal c)) c.self.invariant

pub returns : goal.returns
returns c = equal c ∙ c.self.view_is
