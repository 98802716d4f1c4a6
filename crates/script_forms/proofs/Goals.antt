-- The goal of a script is an atom's term: it stands among the atoms, and has the goal's value at each point.
use Rattle.std.proofs.Common.{◌≡◌, ℕ, ◌<◌, List, [], ◌∷◌, ◌++◌, map, length, Bool, true, false, cond, codes, Option, Some, None, refl, ap, sym, subst, slice_index_or, true≢false}
use Rattle.std.specs.List.{AllByRecursion}
use Rattle.dyadic.specs.Fraction.{Fraction, zero_fraction}
use Rattle.dyadic.specs.Point.{Sort, Coordinate, IsPoint}
use Rattle.script_model.specs.Sexp.{Place}
use Rattle.script_model.specs.Reading.{literal_value, disjunction, at_most_op, truth, value, Names, unknown, meaning}
use Rattle.script_model.specs.Meaning.{Value, real, bool, either as either_value, loosened, coordinate_value}
use Rattle.script_model.specs.Script.{Command, declare, define, claim, minimize, check, ineffective, goal_claim, defined, claims, goals, first_of, fraction_in, sorts_of}
use Rattle.script_model.specs.Declared.{numbered}
use Rattle.script_model.proofs.Related.{Each}
use Rattle.poly_graph.specs.Term.{Term, le, Atom, term_value}
use Rattle.poly_graph.specs.Form.{form_atoms, forms_atoms, form_map, forms_map}
use Rattle.poly_graph.specs.Problem.{Problem, no_atom, full_atom, sorts_of_problem}
use Rattle.script_forms.specs.Terms.{Unfolded, term, formula, refused, either}
use Rattle.script_forms.specs.Unfolded.{as_tree, truth_of, forms_of, operation_tree}
use Rattle.script_forms.specs.Atoms.{constant_tree, atom_of, atoms_in_place, already, same_atom, number_in, script_atoms, only_term, goal_term, numbered_goal, goal_atom}
use Rattle.script_forms.specs.ProblemOf.{IsProblemOf}
use Rattle.script_forms.specs.Laws.{IsGoalAt}
use Rattle.script_forms.proofs.Lowest.{same_at_most}
use Rattle.script_forms.proofs.Means.{Means, Num}
use Rattle.script_forms.proofs.Whole.{goals_mean}
use Rattle.script_forms.proofs.Numbered.{same_atom_is, already_later, already_end, all_found, leads, number_below}
use Rattle.script_forms.proofs.Box.{problem_sorts}

-- ---- the goal's atom stands among those of the assertions

already-right : (a : Atom) (xs ys : List Atom) → already a ys ≡ true → already a (xs ++ ys) ≡ true
already-right a [] ys h = h
already-right a (x ∷ xs) ys h = either-way (same_atom a x) (already a (xs ++ ys)) (already-right a xs ys h)
  where
    either-way : (t b : Bool) → b ≡ true → cond t true b ≡ true
    either-way true b h = refl
    either-way false b h = h

-- the assertion that a goal stands for asks for the atom of its term
goal-asks : (at : Place) (t : Term) (u : Unfolded) → u ≡ term t →
    already (t, le) (form_atoms (form_map atom_of (truth_of (operation_tree at disjunction
    (operation_tree at at_most_op (u ∷ as_tree.literal at (literal_value (codes "0") []) ∷ []) ∷ operation_tree at truth [] ∷ []))))) ≡ true
goal-asks at t u e = rw e (already_end (t, le) [])

abbrev some-or : {A : Type 0} → A → Option A → A
some-or a (Some b) = b
some-or a None = a

is-term : (u : Unfolded) (t : Term) → only_term (Some u) ≡ Some t → u ≡ term t
is-term (term x) t e = ap (λ o. term (some-or x o)) e
is-term (formula f g) t e = cc
is-term (refused x) t e = cc
is-term (either c d a b) t e = cc

abbrev AtomsOf : List Unfolded → List Atom
AtomsOf us = forms_atoms (forms_map atom_of (forms_of truth_of us))

goal-asked : (names : Names Unfolded) (vs : List Unfolded) (script : List Command) (t : Term) → only_term (first_of (goals as_tree names vs script)) ≡ Some t →
    already (t, le) (AtomsOf (claims as_tree names vs script)) ≡ true
goal-asked names vs [] t e = cc
goal-asked names [] (declare at x sort ∷ rest) t e = goal-asked ((x, value (as_tree.nothing at (unknown x))) ∷ names) [] rest t e
goal-asked names (v ∷ vs) (declare at x sort ∷ rest) t e = goal-asked ((x, value v) ∷ names) vs rest t e
goal-asked names vs (define at f params sort body ∷ rest) t e = goal-asked ((f, defined as_tree names params body) ∷ names) vs rest t e
goal-asked names vs (claim at f ∷ rest) t e =
    already-right (t, le) (form_atoms (form_map atom_of (truth_of (meaning as_tree names f)))) (AtomsOf (claims as_tree names vs rest)) (goal-asked names vs rest t e)
goal-asked names vs (minimize at f ∷ rest) t e =
    already_later (t, le) (form_atoms (form_map atom_of (truth_of (meaning as_tree names (goal_claim at f))))) (AtomsOf (claims as_tree names vs rest))
    (goal-asks at t (meaning as_tree names f) (is-term (meaning as_tree names f) t e))
goal-asked names vs (check at ∷ rest) t e = goal-asked names vs rest t e
goal-asked names vs (ineffective at ∷ rest) t e = goal-asked names vs rest t e

-- what is so of all atoms of a list is so of one that stands there
of-one : (P : Atom → Type 0) (a : Atom) (xs : List Atom) → already a xs ≡ true → AllByRecursion P xs → P a
of-one P a [] h k = absurd (true≢false (sym h))
of-one P a (x ∷ xs) h k = go (same_atom a x) refl h (λ l. of-one P a xs l k.1)
  where
    go : (b : Bool) → same_atom a x ≡ b → cond b true (already a xs) ≡ true → (already a xs ≡ true → P a) → P a
    go true e h f = subst P (sym (same_atom_is a x e)) k.0
    go false e h f = f h

goal-there : (script : List Command) (t : Term) → goal_term script ≡ Some t → already (t, le) (script_atoms script) ≡ true
goal-there script t e = of-one (λ a. already a (script_atoms script) ≡ true) (t, le) (form_atoms (atoms_in_place script))
    (goal-asked [] (numbered constant_tree 0 (sorts_of script)) script t e) (all_found [] (form_atoms (atoms_in_place script)))

numbered-goal : (atoms : List Atom) (o : Option Term) (g : ℕ) → numbered_goal atoms o ≡ Some g → (t : Term) × (o ≡ Some t) × (number_in atoms (t, le) ≡ g)
numbered-goal atoms None g e = cc
numbered-goal atoms (Some t) g e = (t, refl, ap (some-or 0) e)

-- ---- the goal's value

goal-means : (m : Fraction) (point : List Coordinate) (vs : List Value) (us : List Unfolded) (t : Term) → Each (Means m point) vs us → only_term (first_of us) ≡ Some t →
    (q : Fraction) × (fraction_in (first_of vs) ≡ Some q) × Num m point q t
goal-means m point [] [] t h e = cc
goal-means m point (real q ∷ vs) (term x ∷ us) t h e = (q, refl, subst (Num m point q) (ap (some-or x) e) h.0)
goal-means m point (bool p ∷ vs) (term x ∷ us) t h e = elim h.0 [ ]
goal-means m point (either_value p v w ∷ vs) (term x ∷ us) t h e = elim h.0 [ ]
goal-means m point (v ∷ vs) (formula f g ∷ us) t h e = cc
goal-means m point (v ∷ vs) (refused x ∷ us) t h e = cc
goal-means m point (v ∷ vs) (either c d a b ∷ us) t h e = cc
goal-means m point [] (u ∷ us) t h e = elim h [ ]
goal-means m point (v ∷ vs) [] t h e = elim h [ ]

value-of : (script : List Command) (point : List Coordinate) (t : Term) → IsPoint (sorts_of script) point → goal_term script ≡ Some t → IsGoalAt script point t
value-of script point t p e =
    let h = goal-means zero_fraction point (goals (loosened zero_fraction) [] (map coordinate_value point) script) (goals as_tree [] (numbered constant_tree 0 (sorts_of script)) script) t
    (goals_mean zero_fraction point script p) e in
    let k = same_at_most h.0 (term_value point t) h.2.equal in (h.0, h.1, h.2.one, h.2.other, k.0, k.1)

-- ---- the laws

pub goal_is_atom : (script : List Command) (g : ℕ) → goal_atom script ≡ Some g →
    (g < length (script_atoms script)) × ((point : List Coordinate) → IsPoint (sorts_of script) point → IsGoalAt script point (slice_index_or (script_atoms script) g no_atom).0)
goal_is_atom script g e =
    let h = numbered-goal (script_atoms script) (goal_term script) g e in
    let k = goal-there script h.0 h.1 in (
      subst (λ (n : ℕ). n < length (script_atoms script)) h.2 (number_below (h.0, le) (script_atoms script) k),
      λ point p. subst (λ (n : ℕ). IsGoalAt script point (slice_index_or (script_atoms script) n no_atom).0) h.2
          (subst (λ (a : Atom). IsGoalAt script point a.0) (sym (leads (h.0, le) (script_atoms script) k)) (value-of script point h.0 p h.1)),
    )

pub goal_of_problem : (bound : Option ℕ) (script : List Command) (p : Problem) → IsProblemOf bound script p → (g : ℕ) → goal_atom script ≡ Some g →
    (g < length p.atoms) × ((point : List Coordinate) → IsPoint (sorts_of_problem p) point → IsGoalAt script point (full_atom p g).0)
goal_of_problem bound script p i g e =
    let h = goal_is_atom script g e in
    let b : g < length p.atoms = subst (λ (n : ℕ). g < n) (sym i.count) h.0 in (
      b,
      λ point r. subst (λ (a : Atom). IsGoalAt script point a.0) (sym (i.atoms g b)) (h.1 point (subst (λ (s : List Sort). IsPoint s point) (problem_sorts bound script p i) r)),
    )
