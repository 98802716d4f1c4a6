-- Where nothing is left to halve and the form is not shown, some atom is stuck.
use Rattle.std.proofs.Common.{◌≡◌, ◌⊎◌, inl, inr, ℕ, suc, zero, ◌<◌, List, [], ◌∷◌, length, Bool, true, false, not, ◌&&◌, IsTrue, refl, sym, arith, subst, true≢false}
use Rattle.dyadic.specs.Point.{Sort}
use Rattle.dyadic.proofs.Equal.{both_true, both_pass}
use Rattle.interval_model.proofs.Isotone.{within_trans}
use Rattle.poly_graph.specs.Form.{Form, Forms, yes_form, no_form, atom_is, bool_is, all_form, any_form, no_forms, more_forms, form_truth, all_truth, any_truth}
use Rattle.interval_model.specs.Space.{real_domain, bool_domain, Space, is_upright, middle}
use Rattle.cover_model.specs.Space.{IsGridSpace, range}
use Rattle.poly_graph.specs.Problem.{Problem, IsProblem, IsForm, AreForms, sorts_of_problem, atom_at, term_of}
use Rattle.cover_model.specs.State.{State, Loosenings, margin_of, delta_of, in_no, misses, atom_enclosure, may_atom, may, domain_allows, sure_at, domain_is, sure}
use Rattle.cover_model.specs.Rules.{is_stuck_atom}
use Rattle.cover_model.specs.Honest.{is_small_domain, is_small, none_below}
use Rattle.cover_model.specs.Laws.{SomeAtomIsStuck}
use Rattle.poly_graph.proofs.Bools.{not_both, decided, either_true, or_first, or_second}
use Rattle.poly_graph.proofs.Graphs.{terms_are}
use Rattle.cover_model.proofs.Isotone.{enclosure_isotone}
use Rattle.cover_model.proofs.Middle.{middle_lies_within}

-- a form that names atoms below n stays true where these become true
module _ (sorts : List Sort) (n : ℕ) (a b : ℕ → Bool) (c d : ℕ → Bool → Bool) (f : (j : ℕ) → j < n → IsTrue (a j) → IsTrue (b j)) (g : (i : ℕ) (v : Bool) → IsTrue (c i v) → IsTrue (d i v)) where
  mutual
    rises-below : (φ : Form ℕ) → IsForm sorts n φ → IsTrue (form_truth a c φ) → IsTrue (form_truth b d φ)
    rises-below yes_form i h = refl
    rises-below no_form i h = h
    rises-below (atom_is j) i h = f j i h
    rises-below (bool_is axis v) i h = g axis v h
    rises-below (all_form φs) i h = all-rise φs i h
    rises-below (any_form φs) i h = any-rise φs i h

    all-rise : (φs : Forms ℕ) → AreForms sorts n φs → IsTrue (all_truth a c φs) → IsTrue (all_truth b d φs)
    all-rise no_forms i h = refl
    all-rise (more_forms φ φs) i h = let e = both_true (form_truth a c φ) (all_truth a c φs) h in both_pass (form_truth b d φ) (all_truth b d φs) (rises-below φ i.0 e.0) (all-rise φs i.1 e.1)

    any-rise : (φs : Forms ℕ) → AreForms sorts n φs → IsTrue (any_truth a c φs) → IsTrue (any_truth b d φs)
    any-rise no_forms i h = h
    any-rise (more_forms φ φs) i h = elim (either_true (form_truth a c φ) (any_truth a c φs) h) [
      | inl e ↦ or_first (form_truth b d φ) (any_truth b d φs) (rises-below φ i.0 e)
      | inr e ↦ or_second (form_truth b d φ) (any_truth b d φs) (any-rise φs i.1 e)
    ]

-- the value that is left to a decided Bool axis is the only one at the middle
decided-there : (w : ℕ) (space : Space) → IsTrue (is_small w space) → (axis : ℕ) (v : Bool) → IsTrue (domain_allows space axis v) → IsTrue (domain_is (middle space) axis v)
decided-there w [] h axis v e = absurd (true≢false (sym e))
decided-there w (d ∷ space) h (suc axis) v e = decided-there w space (both_true (is_small_domain w d) (is_small w space) h).1 axis v e
decided-there w (real_domain l u ∷ space) h zero v e = absurd (true≢false (sym e))
decided-there w (bool_domain true false ∷ space) h zero false e = refl
decided-there w (bool_domain false true ∷ space) h zero true e = refl
decided-there w (bool_domain true false ∷ space) h zero true e = absurd (true≢false (sym e))
decided-there w (bool_domain false true ∷ space) h zero false e = absurd (true≢false (sym e))
decided-there w (bool_domain false false ∷ space) h zero true e = absurd (true≢false (sym e))
decided-there w (bool_domain false false ∷ space) h zero false e = absurd (true≢false (sym e))
decided-there w (bool_domain true true ∷ space) h zero v e = absurd (true≢false (sym (both_true false (is_small w space) h).0))

module _ (p : Problem) (g : IsProblem p) (s : Loosenings) (S : State) where
  first-or-none : (k : ℕ) → ((j : ℕ) × (j < k) × IsTrue (is_stuck_atom p s S j) × IsTrue (none_below p s S j)) ⊎ IsTrue (none_below p s S k)
  first-or-none zero = inr refl
  first-or-none (suc k) = elim (first-or-none k) [
    | inl x ↦ inl (x.0, (let l = x.1 in omega arith), x.2, x.3)
    | inr h ↦ elim (decided (is_stuck_atom p s S k)) [
      | inl e ↦ inl (k, omega arith, e, h)
      | inr e ↦ inr (both_pass (not (is_stuck_atom p s S k)) (none_below p s S k) e h)
    ]
  ]

  not-stuck : (k j : ℕ) → IsTrue (none_below p s S k) → j < k → IsTrue (not (is_stuck_atom p s S j))
  not-stuck zero j h l = absurd (omega arith)
  not-stuck (suc k) j h l = elim (cases j k l) [
    | inl e ↦ subst (λ (i : ℕ). IsTrue (not (is_stuck_atom p s S i))) (sym e) (both_true (not (is_stuck_atom p s S k)) (none_below p s S k) h).0
    | inr m ↦ not-stuck k j (both_true (not (is_stuck_atom p s S k)) (none_below p s S k) h).1 m
  ]
    where
      cases : (j k : ℕ) → j < suc k → (j ≡ k) ⊎ (j < k)
      cases j k l = grind arith

  surely : (x y z : Bool) → IsTrue (not (x && y && not z)) → IsTrue (x && y) → IsTrue z
  surely true true true n h = refl
  surely true true false n h = n
  surely true false z n h = absurd (true≢false (sym h))
  surely false y z n h = absurd (true≢false (sym h))

  none-stuck : (w : ℕ) → IsGridSpace S.space → IsTrue (is_upright S.space) → IsTrue (may p s S) → IsTrue (is_small w S.space) → IsTrue (none_below p s S (length p.atoms)) → IsTrue (sure p s (middle S.space))
  none-stuck w grid u m small none = let mid = middle_lies_within S.space grid u in
      rises-below (sorts_of_problem p) (length p.atoms) (may_atom p s S) (sure_at p (delta_of s) (middle S.space)) (domain_allows S.space) (domain_is (middle S.space))
      (λ j l h. within_trans (atom_enclosure p (middle S.space) j) (atom_enclosure p S.space j) (range (delta_of s) (atom_at p j).1)
      (enclosure_isotone (sorts_of_problem p) (middle S.space) S.space mid.1 mid.0 (term_of p j) (terms_are (sorts_of_problem p) p.nodes g.nodes (atom_at p j).0))
      (surely (not (in_no S j)) (not (misses p (margin_of s) S.space j)) (sure_at p (delta_of s) S.space j) (not-stuck (length p.atoms) j none l) h))
      (decided-there w S.space small) p.form g.form m

pub some_atom_is_stuck : SomeAtomIsStuck
some_atom_is_stuck p g s S w grid u shown small = elim (first-or-none p g s S (length p.atoms)) [
  | inl x ↦ x
  | inr none ↦ let e = both_true (may p s S) (not (sure p s (middle S.space))) shown in absurd (not_both (sure p s (middle S.space)) (none-stuck p g s S w grid u e.0 small none) e.1)
]
