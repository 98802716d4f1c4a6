-- A problem without axes and atoms, whose form is true.
use Rattle.std.proofs.Common.{◌≡◌, inl, inr, ℕ, zero, suc, List, [], ◌∷◌, ◌++◌, length, refl, sym, ap, subst, ◌∙◌, arith, Some, slice_get}
use Rattle.std.proofs.lemmas.Option.{none-some}
use Rattle.poly_graph.specs.FormGraph.{FormNode, yes_node, FormInterned}
use Rattle.poly_graph.specs.ProblemViews.{Parts, IsWhole}

abbrev small : List FormNode → ℕ → Parts
small forms root = record { axes = []; nodes = []; atoms = []; forms = forms; root = root }

one : IsWhole (small (yes_node ∷ []) 0)
one = record {
  problem = record {
    bounds = λ k d h. absurd (omega (arith, h));
    ordered = refl;
    nodes = λ k d h. absurd (omega (arith, h));
    atoms = λ k d h. absurd (omega (arith, h));
    form = tt;
  };
  root = omega arith;
}

nothing_there : (k : ℕ) → slice_get [] k ≡ Some yes_node → ⊥
nothing_there zero h = none-some yes_node h
nothing_there (suc k) h = none-some yes_node h

-- the first node of a form that had none is its root
pub smallest : (old new : List FormNode) (k : ℕ) → old ≡ [] → FormInterned old new yes_node k → IsWhole (small new k)
smallest old new k e f = elim f.1 [
  | inl same ↦ absurd (nothing_there k (subst (λ (ns : List FormNode). slice_get ns k ≡ Some yes_node) (same ∙ e) f.0))
  | inr added ↦ subst (λ (n : ℕ). IsWhole (small new n)) (sym (added.1 ∙ ap length e)) (subst (λ (ns : List FormNode). IsWhole (small ns 0)) (sym (added.0 ∙ ap (λ (xs : List FormNode). xs ++ (yes_node ∷ [])) e)) one)
]
