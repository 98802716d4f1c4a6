-- Problems without atoms, whose axes lie between 0 and 1, are whole.
use Rattle.std.proofs.Common.{◌≡◌, inl, inr, ℕ, zero, suc, List, [], ◌∷◌, ◌++◌, length, map, refl, sym, ap, subst, ◌∙◌, arith, Some, slice_get, All}
use Rattle.std.proofs.lemmas.Option.{none-some}
use Rattle.std.proofs.lemmas.List.Elements.{All-map}
use Rattle.poly_graph.specs.declared.axis.Axis.{Axis}
use Rattle.poly_graph.specs.FormGraph.{FormNode, yes_node, FormInterned}
use Rattle.poly_graph.specs.Problem as problems
use Rattle.poly_graph.specs.Problem.{IsDeclared}
use Rattle.poly_graph.specs.ProblemViews.{Parts, IsWhole, axis_of, declared_of}
use Rattle.text_rows.specs.TriedAnswerText.{from_nought_to_one}

abbrev told : List Axis → List FormNode → ℕ → Parts
told axes forms root = record { axes = map axis_of axes; nodes = []; atoms = []; forms = forms; root = root }

is_declared : IsDeclared from_nought_to_one
unfolding Rattle.dyadic.specs.Fraction.at_most
is_declared = ((omega arith, inr refl), (omega arith, inr refl))

one : (axes : List Axis) → All (λ (a : Axis). declared_of a.declared ≡ from_nought_to_one) axes → IsWhole (told axes (yes_node ∷ []) 0)
one axes h = record {
  problem = record {
    bounds = All-map (λ (a : problems.Axis). IsDeclared a.declared) axis_of axes (λ i d within. subst IsDeclared (sym (h i d within)) is_declared);
    ordered = refl;
    nodes = λ k d h. absurd (omega (arith, h));
    atoms = λ k d h. absurd (omega (arith, h));
    form = tt;
  };
  root = omega arith;
}

nothing_there : (k : ℕ) → slice_get [] k ≡ Some yes_node → ⊥
nothing_there zero h = none-some yes_node h
nothing_there (suc k) h = none-some yes_node h

-- the first node of a form that had none is its root
pub whole : (axes : List Axis) (old new : List FormNode) (k : ℕ) → All (λ (a : Axis). declared_of a.declared ≡ from_nought_to_one) axes
    → old ≡ [] → FormInterned old new yes_node k → IsWhole (told axes new k)
whole axes old new k h e f = elim f.1 [
  | inl same ↦ absurd (nothing_there k (subst (λ (ns : List FormNode). slice_get ns k ≡ Some yes_node) (same ∙ e) f.0))
  | inr added ↦ subst (λ (n : ℕ). IsWhole (told axes new n)) (sym (added.1 ∙ ap length e))
      (subst (λ (ns : List FormNode). IsWhole (told axes ns 0)) (sym (added.0 ∙ ap (λ (xs : List FormNode). xs ++ (yes_node ∷ [])) e)) (one axes h))
]
