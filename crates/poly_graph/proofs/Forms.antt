-- A form that is true stays true where its atoms and Bool values become true.
use Rattle.std.proofs.Common.{ℕ, Bool, ◌&&◌, IsTrue, refl, ap₂, inl, inr}
use Rattle.dyadic.proofs.Equal.{both_true}
use Rattle.poly_graph.specs.Form.{Form, Forms, yes_form, no_form, atom_is, bool_is, all_form, any_form, no_forms, more_forms, form_truth, all_truth, any_truth}
use Rattle.poly_graph.proofs.Bools.{either_true, or_first, or_second}

module _ (a b : ℕ → Bool) (c d : ℕ → Bool → Bool) (f : (j : ℕ) → IsTrue (a j) → IsTrue (b j)) (g : (i : ℕ) (v : Bool) → IsTrue (c i v) → IsTrue (d i v)) where
  mutual
    pub rises : (φ : Form ℕ) → IsTrue (form_truth a c φ) → IsTrue (form_truth b d φ)
    rises yes_form h = refl
    rises no_form h = h
    rises (atom_is j) h = f j h
    rises (bool_is i v) h = g i v h
    rises (all_form φs) h = all_rises φs h
    rises (any_form φs) h = any_rises φs h

    all_rises : (φs : Forms ℕ) → IsTrue (all_truth a c φs) → IsTrue (all_truth b d φs)
    all_rises no_forms h = refl
    all_rises (more_forms φ φs) h = let e = both_true (form_truth a c φ) (all_truth a c φs) h in ap₂ (λ x y. x && y) (rises φ e.0) (all_rises φs e.1)

    any_rises : (φs : Forms ℕ) → IsTrue (any_truth a c φs) → IsTrue (any_truth b d φs)
    any_rises no_forms h = h
    any_rises (more_forms φ φs) h = elim (either_true (form_truth a c φ) (any_truth a c φs) h) [
      | inl e ↦ or_first (form_truth b d φ) (any_truth b d φs) (rises φ e)
      | inr e ↦ or_second (form_truth b d φ) (any_truth b d φs) (any_rises φs e)
    ]
