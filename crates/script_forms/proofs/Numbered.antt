-- Atoms by number: the numbered form means what the script means.
use Rattle.std.proofs.Common.{◌≡◌, ℕ, suc, zero, ◌<◌, List, [], ◌∷◌, ◌++◌, length, Bool, true, false, ◌&&◌, ◌||◌, cond, IsTrue, None, refl, ap, ap₂, sym, ◌∙◌, arith, mul-pos, slice_index_or, true≢false, ℤ, pos, negsuc, nat_eq, eq-eqb}
use Rattle.std.specs.List.{AllByRecursion}
use Rattle.dyadic.specs.Fraction.{Fraction, IsFraction, negated, sum_of, product_of}
use Rattle.dyadic.specs.Point.{Sort, real_sort, bool_sort, Coordinate, at_fraction, at_bool, IsPoint}
use Rattle.script_model.specs.Script.{Command, Satisfies, sorts_of}
use Rattle.poly_graph.specs.Term.{Term, constant, Atom, Kind, le, ge, eq, atom_holds, term_value, coordinate}
use Rattle.poly_graph.specs.Form.{Form, Forms, yes_form, no_form, atom_is, bool_is, all_form, any_form, no_forms, more_forms, form_truth, all_truth, any_truth, form_map, forms_map, form_atoms, forms_atoms}
use Rattle.poly_graph.specs.Problem.{no_atom, bool_holds, HasSort, IsTerm}
use Rattle.script_forms.specs.Terms.{same_term, same_fraction, same_sign}
use Rattle.script_forms.specs.Atoms.{same_kind, same_atom, already, firsts, number_in, atom_of, atoms_in_place, script_atoms, script_form, whole_form, form_holds, unfolding_fault}
use Rattle.script_forms.proofs.Forms.{holds, comparison_holds}
use Rattle.script_forms.proofs.Means.{same_term_is, both_true, atom_of_holds}
use Rattle.script_forms.proofs.Whole.{form_means, comparisons_have}
use Rattle.script_forms.proofs.Good.{comparisons_good}

module _ {A B : Type 0} (f : A → B) (g : B → Bool) (g' : A → Bool) (bools : ℕ → Bool → Bool) where
  abbrev Agree : A → Type 0
  Agree a = g (f a) ≡ g' a

  split_left : (xs ys : List A) → AllByRecursion Agree (xs ++ ys) → AllByRecursion Agree xs
  split_left [] ys h = tt
  split_left (x ∷ xs) ys h = (h.0, split_left xs ys h.1)

  split_right : (xs ys : List A) → AllByRecursion Agree (xs ++ ys) → AllByRecursion Agree ys
  split_right [] ys h = h
  split_right (x ∷ xs) ys h = split_right xs ys h.1

  mutual
    pub mapped : (φ : Form A) → AllByRecursion Agree (form_atoms φ) → form_truth g bools (form_map f φ) ≡ form_truth g' bools φ
    mapped yes_form h = refl
    mapped no_form h = refl
    mapped (atom_is a) h = h.0
    mapped (bool_is axis v) h = refl
    mapped (all_form φs) h = all_mapped φs h
    mapped (any_form φs) h = any_mapped φs h

    all_mapped : (φs : Forms A) → AllByRecursion Agree (forms_atoms φs) → all_truth g bools (forms_map f φs) ≡ all_truth g' bools φs
    all_mapped no_forms h = refl
    all_mapped (more_forms φ φs) h = ap₂ (λ x y. x && y) (mapped φ (split_left (form_atoms φ) (forms_atoms φs) h)) (all_mapped φs (split_right (form_atoms φ) (forms_atoms φs) h))

    any_mapped : (φs : Forms A) → AllByRecursion Agree (forms_atoms φs) → any_truth g bools (forms_map f φs) ≡ any_truth g' bools φs
    any_mapped no_forms h = refl
    any_mapped (more_forms φ φs) h = ap₂ (λ x y. x || y) (mapped φ (split_left (form_atoms φ) (forms_atoms φs) h)) (any_mapped φs (split_right (form_atoms φ) (forms_atoms φs) h))

-- ---- the number of an atom leads to it

same_kind_is : (k l : Kind) → same_kind k l ≡ true → k ≡ l
same_kind_is le le h = refl
same_kind_is ge ge h = refl
same_kind_is eq eq h = refl
same_kind_is _ _ h = absurd (true≢false (sym h))

pub same_atom_is : (a b : Atom) → same_atom a b ≡ true → a ≡ b
same_atom_is a b h = let e = both_true (same_term a.0 b.0) (same_kind a.1 b.1) h in
    λ i. (same_term_is a.0 b.0 e.0 i, same_kind_is a.1 b.1 e.1 i)

leads-step : (a b : Atom) (rest : List Atom) (t : Bool) → same_atom a b ≡ t → cond t true (already a rest) ≡ true →
    (already a rest ≡ true → slice_index_or rest (number_in rest a) no_atom ≡ a) → slice_index_or (b ∷ rest) (cond t 0 (suc (number_in rest a))) no_atom ≡ a
leads-step a b rest true e h f = sym (same_atom_is a b e)
leads-step a b rest false e h f = f h

pub leads : (a : Atom) (atoms : List Atom) → already a atoms ≡ true → slice_index_or atoms (number_in atoms a) no_atom ≡ a
leads a [] h = absurd (true≢false (sym h))
leads a (b ∷ rest) h = leads-step a b rest (same_atom a b) refl h (leads a rest)

-- ---- each atom of the form has a number

same_self : (z : ℤ) → same_sign z z ≡ true
same_self (pos n) = refl
same_self (negsuc n) = refl

and_both : (x y : Bool) → x ≡ true → y ≡ true → x && y ≡ true
and_both x y h k = ap₂ (λ a b. a && b) h k

fraction_self : (q : Fraction) → same_fraction q q ≡ true
fraction_self q = and_both _ (same_sign q.num q.num) (and_both _ (nat_eq q.den q.den) (eq-eqb _ _ refl) (eq-eqb _ _ refl)) (same_self q.num)

pub term_self : (t : Term) → same_term t t ≡ true
term_self (constant q) = fraction_self q
term_self (Term.variable i) = eq-eqb i i refl
term_self (Term.negate t) = term_self t
term_self (Term.add t u) = and_both _ _ (term_self t) (term_self u)
term_self (Term.multiply t u) = and_both _ _ (term_self t) (term_self u)
term_self (Term.square t) = term_self t

kind_self : (k : Kind) → same_kind k k ≡ true
kind_self le = refl
kind_self ge = refl
kind_self eq = refl

pub atom_self : (a : Atom) → same_atom a a ≡ true
atom_self a = and_both _ _ (term_self a.0) (kind_self a.1)

or-later : (t x y : Bool) → (x ≡ true → y ≡ true) → cond t true x ≡ true → cond t true y ≡ true
or-later true x y f k = refl
or-later false x y f k = f k

pub already_later : (a : Atom) (xs ys : List Atom) → already a xs ≡ true → already a (xs ++ ys) ≡ true
already_later a [] ys h = absurd (true≢false (sym h))
already_later a (b ∷ xs) ys h = or-later (same_atom a b) (already a xs) (already a (xs ++ ys)) (already_later a xs ys) h

at-end : (t x : Bool) → x ≡ true → cond t true x ≡ true
at-end true x h = refl
at-end false x h = h

pub already_end : (a : Atom) (xs : List Atom) → already a (xs ++ (a ∷ [])) ≡ true
already_end a [] = ap (λ t. cond t true false) (atom_self a)
already_end a (b ∷ xs) = at-end (same_atom a b) (already a (xs ++ (a ∷ []))) (already_end a xs)

-- what is kept with a new atom
kept : (a x : Atom) (seen : List Atom) (t : Bool) → already a seen ≡ true → already a (cond t seen (seen ++ (x ∷ []))) ≡ true
kept a x seen true h = h
kept a x seen false h = already_later a seen (x ∷ []) h

new : (x : Atom) (seen : List Atom) (t : Bool) → already x seen ≡ t → already x (cond t seen (seen ++ (x ∷ []))) ≡ true
new x seen true e = e
new x seen false e = already_end x seen

stays : (a : Atom) (seen xs : List Atom) → already a seen ≡ true → already a (firsts seen xs) ≡ true
stays a seen [] h = h
stays a seen (x ∷ xs) h = stays a (cond (already x seen) seen (seen ++ (x ∷ []))) xs (kept a x seen (already x seen) h)

pub all_found : (seen xs : List Atom) → AllByRecursion (λ a. already a (firsts seen xs) ≡ true) xs
all_found seen [] = tt
all_found seen (x ∷ xs) = let next : List Atom = cond (already x seen) seen (seen ++ (x ∷ [])) in
    (stays x next xs (new x seen (already x seen) refl), all_found next xs)

each : {X : Type 0} {P Q : X → Type 0} → ((x : X) → P x → Q x) → (xs : List X) → AllByRecursion P xs → AllByRecursion Q xs
each f [] h = tt
each f (x ∷ xs) h = (f x h.0, each f xs h.1)

-- ---- values of good terms are fractions

coordinate-fraction : (sorts : List Sort) (point : List Coordinate) (axis : ℕ) → IsPoint sorts point → HasSort real_sort sorts axis → IsFraction (coordinate point axis)
coordinate-fraction (real_sort ∷ sorts) (at_fraction q ∷ point) zero p h = p.0
coordinate-fraction (real_sort ∷ sorts) (at_fraction q ∷ point) (suc axis) p h = coordinate-fraction sorts point axis p.1 h
coordinate-fraction (bool_sort ∷ sorts) (at_bool b ∷ point) (suc axis) p h = coordinate-fraction sorts point axis p h
coordinate-fraction (bool_sort ∷ sorts) (at_bool b ∷ point) zero p h = elim h [ ]
coordinate-fraction (real_sort ∷ sorts) (at_bool b ∷ point) axis p h = elim p [ ]
coordinate-fraction (bool_sort ∷ sorts) (at_fraction q ∷ point) axis p h = elim p [ ]
coordinate-fraction (real_sort ∷ sorts) [] axis p h = elim p [ ]
coordinate-fraction (bool_sort ∷ sorts) [] axis p h = elim p [ ]
coordinate-fraction [] point axis p h = elim h [ ]

pub value_is_fraction : (sorts : List Sort) (point : List Coordinate) → IsPoint sorts point → (t : Term) → IsTerm sorts t → IsFraction (term_value point t)
unfolding negated sum_of product_of
value_is_fraction sorts point p (constant q) h = h
value_is_fraction sorts point p (Term.variable axis) h = coordinate-fraction sorts point axis p h
value_is_fraction sorts point p (Term.negate t) h = value_is_fraction sorts point p t h
value_is_fraction sorts point p (Term.add t u) h = mul-pos (value_is_fraction sorts point p t h.0) (value_is_fraction sorts point p u h.1)
value_is_fraction sorts point p (Term.multiply t u) h = mul-pos (value_is_fraction sorts point p t h.0) (value_is_fraction sorts point p u h.1)
value_is_fraction sorts point p (Term.square t) h = mul-pos (value_is_fraction sorts point p t h) (value_is_fraction sorts point p t h)

-- ---- the form with its atoms in place

both : {X : Type 0} {P Q S : X → Type 0} → ((x : X) → P x → Q x → S x) → (xs : List X) → AllByRecursion P xs → AllByRecursion Q xs → AllByRecursion S xs
both f [] h k = tt
both f (x ∷ xs) h k = (f x h.0 k.0, both f xs h.1 k.1)

pub atoms_hold : (script : List Command) → unfolding_fault script ≡ None → (m : Fraction) (point : List Coordinate) → IsPoint (sorts_of script) point →
    form_truth (atom_holds m point) (bool_holds point) (atoms_in_place script) ≡ holds m point (whole_form script)
atoms_hold script e m point p = mapped atom_of (atom_holds m point) (comparison_holds m point) (bool_holds point) (whole_form script)
    (both (λ c g t. atom_of_holds m point c (value_is_fraction (sorts_of script) point p c.left g.0) (value_is_fraction (sorts_of script) point p c.right g.1) t)
    (form_atoms (whole_form script)) (comparisons_good script) (comparisons_have script e))

-- where a list of atoms has each atom of the script under its number, the numbered form read by it is the form with its atoms in place
pub form_numbered : (script : List Command) (m : Fraction) (point : List Coordinate) (read : ℕ → Atom) →
    ((a : Atom) → already a (script_atoms script) ≡ true → read (number_in (script_atoms script) a) ≡ a) →
    form_truth (λ j. atom_holds m point (read j)) (bool_holds point) (script_form script) ≡ form_truth (atom_holds m point) (bool_holds point) (atoms_in_place script)
form_numbered script m point read r =
    mapped (number_in (script_atoms script)) (λ j. atom_holds m point (read j)) (atom_holds m point) (bool_holds point) (atoms_in_place script)
    (each (λ a h. ap (λ (b : Atom). atom_holds m point b) (r a h)) (form_atoms (atoms_in_place script)) (all_found [] (form_atoms (atoms_in_place script))))

-- the number of an atom that is there is below their count
number-step-first : (b x : Bool) (n k : ℕ) → cond b true x ≡ true → (x ≡ true → n < k) → cond b 0 (suc n) < suc k
number-step-first true x n k h f = omega arith
number-step-first false x n k h f = omega (arith, f h)

pub number_below : (a : Atom) (atoms : List Atom) → already a atoms ≡ true → number_in atoms a < length atoms
number_below a [] h = absurd (true≢false (sym h))
number_below a (b ∷ rest) h = number-step-first (same_atom a b) (already a rest) (number_in rest a) (length rest) h (number_below a rest)

abbrev pub Both : Type 0 → Type 0 → Type 0
Both X Y = (X → Y) × (Y → X)

-- the numbered form of a script, read by a list of its atoms, means what the script means
pub read_means : (script : List Command) → unfolding_fault script ≡ None → (m : Fraction) (point : List Coordinate) → IsPoint (sorts_of script) point → (read : ℕ → Atom) →
    ((a : Atom) → already a (script_atoms script) ≡ true → read (number_in (script_atoms script) a) ≡ a) →
    Both (IsTrue (form_truth (λ j. atom_holds m point (read j)) (bool_holds point) (script_form script))) (Satisfies m point script)
read_means script e m point p read r =
    let h = form_means script e m point p in let n = form_numbered script m point read r ∙ atoms_hold script e m point p in
    (λ x. h.0 (sym n ∙ x), λ x. n ∙ h.1 x)

pub script_means : (script : List Command) → unfolding_fault script ≡ None → (m : Fraction) (point : List Coordinate) → IsPoint (sorts_of script) point →
    Both (IsTrue (form_holds m point (script_atoms script) (script_form script))) (Satisfies m point script)
script_means script e m point p = read_means script e m point p (λ j. slice_index_or (script_atoms script) j no_atom) (λ a h. leads a (script_atoms script) h)
