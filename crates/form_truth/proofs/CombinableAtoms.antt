-- Atoms that may be combined, place by place.
use Rattle.std.proofs.Common.{◌≡◌, ℕ, ◌+◌, ◌<◌, List, ◌∷◌, length, drop, Bool, true, false, ◌&&◌, ◌||◌, nat_lt, ap, sym, ◌∙◌}
use Rattle.std.specs.Prelude.{slice_index_or}
use Rattle.std.proofs.lemmas.List.{drop_more}
use Rattle.dyadic.specs.declared.dy.Dy.{Dy}
use Rattle.poly_graph.specs.Problem.{Problem}
use Rattle.cover_model.specs.State.{State, in_yes}
use Rattle.cover_model.specs.Rules.{are_combinable, in_no_one_sided}
use Rattle.cover_model.specs.Views.{multipliers_of}

abbrev Pair : Type 0
Pair = ℕ × Dy

module _ (p : Problem) (S : State) (xs : List Pair) (k : ℕ) (x : Pair) (h : k < length xs) (e : x ≡ slice_index_or xs k x) where
  abbrev pub is_combinable : Bool
  is_combinable = nat_lt x.0 (length p.atoms) && (in_yes S x.0 || in_no_one_sided p S x.0)

  here : are_combinable p S (multipliers_of (drop k xs)) ≡ (is_combinable && are_combinable p S (multipliers_of (drop (k + 1) xs)))
  here = ap (λ (ys : List Pair). are_combinable p S (multipliers_of ys)) (drop_more xs k x h ∙ ap (λ (y : Pair). y ∷ drop (k + 1) xs) (sym e))

  pub combinable_fails : is_combinable ≡ false → are_combinable p S (multipliers_of (drop k xs)) ≡ false
  combinable_fails q = here ∙ ap (λ (t : Bool). t && are_combinable p S (multipliers_of (drop (k + 1) xs))) q

  pub combinable_next : is_combinable ≡ true → are_combinable p S (multipliers_of (drop k xs)) ≡ are_combinable p S (multipliers_of (drop (k + 1) xs))
  combinable_next q = here ∙ ap (λ (t : Bool). t && are_combinable p S (multipliers_of (drop (k + 1) xs))) q
