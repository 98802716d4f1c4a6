-- A problem without axes and atoms, whose form is false: it is whole.
use Rattle.std.proofs.Common.{◌≡◌, inl, inr, ℕ, zero, suc, List, [], ◌∷◌, ◌++◌, length, refl, sym, ap, subst, ◌∙◌, arith, Some, slice_get}
use Rattle.std.proofs.lemmas.Option.{none-some}
use Rattle.poly_graph.specs.FormGraph.{FormNode, no_node, FormInterned}
use Rattle.poly_graph.specs.ProblemViews.{Parts, IsWhole}

abbrev small : List FormNode → ℕ → Parts
small forms root = record { axes = []; nodes = []; atoms = []; forms = forms; root = root }

one : IsWhole (small (no_node ∷ []) 0)
one = record {
  problem = record {
    bounds = λ k d h. absurd (omega (arith, h));
    ordered = refl;
    nodes = λ k d h. absurd (omega (arith, h));
    atoms = λ k d h. absurd (omega (arith, h));
    form = tt;
  };
  root = omega arith;
}

nothing-there : (k : ℕ) → slice_get [] k ≡ Some no_node → ⊥
nothing-there zero h = none-some no_node h
nothing-there (suc k) h = none-some no_node h

-- the first node of a form that had none is its root
pub tiny : (old new : List FormNode) (k : ℕ) → old ≡ [] → FormInterned old new no_node k → IsWhole (small new k)
tiny old new k e f = elim f.1 [
  | inl same ↦ absurd (nothing-there k (subst (λ (ns : List FormNode). slice_get ns k ≡ Some no_node) (same ∙ e) f.0))
  | inr added ↦ subst (λ (n : ℕ). IsWhole (small new n)) (sym (added.1 ∙ ap length e)) (subst (λ (ns : List FormNode). IsWhole (small ns 0)) (sym (added.0 ∙ ap (λ (xs : List FormNode). xs ++ (no_node ∷ [])) e)) one)
]
