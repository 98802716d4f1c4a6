-- A lemma outlasts what is asked besides.
use Rattle.std.proofs.Common.{◌≡◌, ℕ, suc, zero, ◌<◌, List, [], ◌∷◌, ◌++◌, length, Bool, ◌&&◌, ◌||◌, not, IsTrue, refl, ap, ap₂, sym, ◌∙◌, subst, arith, true≢false, take, slice_index_or, replicate, length-append}
use Rattle.dyadic.specs.Fraction.{zero_fraction, negated, sum_of, product_of}
use Rattle.dyadic.specs.Point.{Sort, real_sort, bool_sort, Coordinate, at_fraction, at_bool, IsPoint}
use Rattle.dyadic.specs.Rounding.{exact}
use Rattle.dyadic.proofs.Equal.{both_true}
use Rattle.interval_model.specs.Space.{Space, in_domain, in_space}
use Rattle.poly_graph.specs.Form.{Form, Forms, yes_form, no_form, atom_is, bool_is, all_form, any_form, no_forms, more_forms, form_truth, all_truth, any_truth}
use Rattle.poly_graph.specs.Marks.{Mark, unmarked, is_yes, is_no, mark_at}
use Rattle.poly_graph.specs.Problem.{Problem, IsProblem, Axis, HasSort, IsTerm, IsForm, AreForms, sorts_of_axes, sorts_of_problem, atom_at, no_place, term_of, full_atom, bool_holds}
use Rattle.poly_graph.specs.Term.{Term, constant, variable, negate, add, multiply, square, Kind, Atom, Node, node_term, terms_after, graph_terms, coordinate, term_value, in_range, atom_holds}
use Rattle.poly_graph.proofs.Graphs.{term_at, terms_are, length_terms}
use Rattle.cover_model.specs.State.{State, Loosenings, margin_of, IsPointOf, MeetsForm, IsLemma}
use Rattle.cover_model.specs.Fits.{FitsAxes, FitsProblem}
use Rattle.cover_model.specs.Carried.{GoesOnFrom, carried, forms_then}

-- ---- the first coordinates of a point

point-begins : (ss more : List Sort) (point : List Coordinate) → IsPoint (ss ++ more) point → IsPoint ss (take (length ss) point)
point-begins [] more point h = tt
point-begins (real_sort ∷ ss) more [] h = elim h [ ]
point-begins (real_sort ∷ ss) more (at_bool b ∷ point) h = elim h [ ]
point-begins (bool_sort ∷ ss) more [] h = elim h [ ]
point-begins (bool_sort ∷ ss) more (at_fraction q ∷ point) h = elim h [ ]
point-begins (real_sort ∷ ss) more (at_fraction q ∷ point) h = (h.0, point-begins ss more point h.1)
point-begins (bool_sort ∷ ss) more (at_bool b ∷ point) h = point-begins ss more point h

inside-begins : (space more : Space) (point : List Coordinate) → IsTrue (in_space (space ++ more) point) → IsTrue (in_space space (take (length space) point))
inside-begins [] more point h = refl
inside-begins (d ∷ space) more [] h = absurd (true≢false (sym h))
inside-begins (d ∷ space) more (c ∷ point) h = let e = both_true (in_domain d c) (in_space (space ++ more) point) h in ap₂ (λ a b. a && b) e.0 (inside-begins space more point e.1)

coordinate-begins : (ss : List Sort) (axis : ℕ) → HasSort real_sort ss axis → (point : List Coordinate) → coordinate point axis ≡ coordinate (take (length ss) point) axis
coordinate-begins [] axis h point = elim h [ ]
coordinate-begins (s ∷ ss) axis h [] = refl
coordinate-begins (s ∷ ss) zero h (at_fraction q ∷ point) = refl
coordinate-begins (s ∷ ss) zero h (at_bool b ∷ point) = refl
coordinate-begins (real_sort ∷ ss) (suc axis) h (at_fraction q ∷ point) = coordinate-begins ss axis h point
coordinate-begins (real_sort ∷ ss) (suc axis) h (at_bool b ∷ point) = coordinate-begins ss axis h point
coordinate-begins (bool_sort ∷ ss) (suc axis) h (at_fraction q ∷ point) = coordinate-begins ss axis h point
coordinate-begins (bool_sort ∷ ss) (suc axis) h (at_bool b ∷ point) = coordinate-begins ss axis h point

bool-begins : (ss : List Sort) (axis : ℕ) (v : Bool) → HasSort bool_sort ss axis → (point : List Coordinate) → bool_holds point axis v ≡ bool_holds (take (length ss) point) axis v
bool-begins [] axis v h point = elim h [ ]
bool-begins (s ∷ ss) axis v h [] = refl
bool-begins (s ∷ ss) zero v h (at_fraction q ∷ point) = refl
bool-begins (s ∷ ss) zero v h (at_bool b ∷ point) = refl
bool-begins (real_sort ∷ ss) (suc axis) v h (at_fraction q ∷ point) = bool-begins ss axis v h point
bool-begins (real_sort ∷ ss) (suc axis) v h (at_bool b ∷ point) = bool-begins ss axis v h point
bool-begins (bool_sort ∷ ss) (suc axis) v h (at_fraction q ∷ point) = bool-begins ss axis v h point
bool-begins (bool_sort ∷ ss) (suc axis) v h (at_bool b ∷ point) = bool-begins ss axis v h point

value-begins : (ss : List Sort) (t : Term) → IsTerm ss t → (point : List Coordinate) → term_value point t ≡ term_value (take (length ss) point) t
value-begins ss (constant q) h point = refl
value-begins ss (variable axis) h point = coordinate-begins ss axis h point
value-begins ss (negate t) h point = ap negated (value-begins ss t h point)
value-begins ss (add t u) h point = ap₂ sum_of (value-begins ss t h.0 point) (value-begins ss u h.1 point)
value-begins ss (multiply t u) h point = ap₂ product_of (value-begins ss t h.0 point) (value-begins ss u h.1 point)
value-begins ss (square t) h point = ap₂ product_of (value-begins ss t h point) (value-begins ss t h point)

-- ---- the first nodes, atoms and marks

terms-split : (ns more : List Node) (done : List Term) → terms_after done (ns ++ more) ≡ terms_after (terms_after done ns) more
terms-split [] more done = refl
terms-split (n ∷ ns) more done = terms-split ns more (done ++ (node_term done n ∷ []))

at-append : {A : Type 0} (xs ys : List A) (x : A) (k : ℕ) → k < length xs → slice_index_or (xs ++ ys) k x ≡ slice_index_or xs k x
at-append [] ys x k h = absurd (omega arith)
at-append (a ∷ xs) ys x zero h = refl
at-append (a ∷ xs) ys x (suc k) h = at-append xs ys x k (omega arith)

terms-stay : (ns : List Node) (done : List Term) (k : ℕ) → k < length done → term_at (terms_after done ns) k ≡ term_at done k
terms-stay [] done k h = refl
terms-stay (n ∷ ns) done k h =
    terms-stay ns (done ++ (node_term done n ∷ [])) k (let l = length-append done (node_term done n ∷ []) in omega (arith, l, h)) ∙ at-append done (node_term done n ∷ []) (constant zero_fraction) k h

terms-begin : (ns more : List Node) (k : ℕ) → k < length ns → term_at (graph_terms (ns ++ more)) k ≡ term_at (graph_terms ns) k
terms-begin ns more k h = ap (λ (ts : List Term). term_at ts k) (terms-split ns more []) ∙ terms-stay more (graph_terms ns) k (omega (arith, length_terms ns, h))

no-yes : (marks : List Mark) (n j : ℕ) → IsTrue (is_yes (mark_at marks j)) → IsTrue (is_yes (mark_at (marks ++ replicate n unmarked) j))
no-yes [] n j h = absurd (true≢false (sym h))
no-yes (m ∷ marks) n zero h = h
no-yes (m ∷ marks) n (suc j) h = no-yes marks n j h

no-no : (marks : List Mark) (n j : ℕ) → IsTrue (is_no (mark_at marks j)) → IsTrue (is_no (mark_at (marks ++ replicate n unmarked) j))
no-no [] n j h = absurd (true≢false (sym h))
no-no (m ∷ marks) n zero h = h
no-no (m ∷ marks) n (suc j) h = no-no marks n j h

yes-there : (marks : List Mark) (j : ℕ) → IsTrue (is_yes (mark_at marks j)) → j < length marks
yes-there [] j h = absurd (true≢false (sym h))
yes-there (m ∷ marks) zero h = omega arith
yes-there (m ∷ marks) (suc j) h = let l = yes-there marks j h in omega (arith, l)

no-there : (marks : List Mark) (j : ℕ) → IsTrue (is_no (mark_at marks j)) → j < length marks
no-there [] j h = absurd (true≢false (sym h))
no-there (m ∷ marks) zero h = omega arith
no-there (m ∷ marks) (suc j) h = let l = no-there marks j h in omega (arith, l)

-- ---- forms over atoms and Bool values that agree where the form names them

module _ (sorts : List Sort) (n : ℕ) (a b : ℕ → Bool) (c d : ℕ → Bool → Bool) (f : (j : ℕ) → j < n → a j ≡ b j) (g : (i : ℕ) (v : Bool) → HasSort bool_sort sorts i → c i v ≡ d i v) where
  mutual
    same-truth : (φ : Form ℕ) → IsForm sorts n φ → form_truth a c φ ≡ form_truth b d φ
    same-truth yes_form i = refl
    same-truth no_form i = refl
    same-truth (atom_is j) i = f j i
    same-truth (bool_is axis v) i = g axis v i
    same-truth (all_form φs) i = all-same φs i
    same-truth (any_form φs) i = any-same φs i

    all-same : (φs : Forms ℕ) → AreForms sorts n φs → all_truth a c φs ≡ all_truth b d φs
    all-same no_forms i = refl
    all-same (more_forms φ φs) i = ap₂ (λ x y. x && y) (same-truth φ i.0) (all-same φs i.1)

    any-same : (φs : Forms ℕ) → AreForms sorts n φs → any_truth a c φs ≡ any_truth b d φs
    any-same no_forms i = refl
    any-same (more_forms φ φs) i = ap₂ (λ x y. x || y) (same-truth φ i.0) (any-same φs i.1)

first-parts : (a : ℕ → Bool) (c : ℕ → Bool → Bool) (fs gs : Forms ℕ) → IsTrue (all_truth a c (forms_then fs gs)) → IsTrue (all_truth a c fs)
first-parts a c no_forms gs h = refl
first-parts a c (more_forms f fs) gs h =
    let e = both_true (form_truth a c f) (all_truth a c (forms_then fs gs)) h in ap₂ (λ x y. x && y) e.0 (first-parts a c fs gs e.1)

-- ---- the law

axes-fit : (axes : List Axis) (space : Space) → FitsAxes axes space → length space ≡ length (sorts_of_axes axes)
axes-fit [] (d ∷ space) h = elim h [ ]
axes-fit (a ∷ axes) [] h = elim h [ ]
axes-fit [] [] h = refl
axes-fit (a ∷ axes) (d ∷ space) h = ap suc (axes-fit axes space h.1)

module _ (p q : Problem) (is_p : IsProblem p) (on : GoesOnFrom p q) where
  abbrev sorts : List Sort
  sorts = sorts_of_problem p

  abbrev begun : List Coordinate → List Coordinate
  begun point = take (length sorts) point

  atom-stays : (j : ℕ) → j < length p.atoms → full_atom q j ≡ full_atom p j
  atom-stays j h =
      let place : atom_at q j ≡ atom_at p j = ap (λ (xs : List (ℕ × Kind)). slice_index_or xs j no_place) on.atoms ∙ at-append p.atoms on.new_atoms no_place j h in
      let there : (atom_at p j).0 < length p.nodes = is_p.atoms j no_place h in
      let term : term_of q j ≡ term_of p j =
      ap (λ (k : ℕ). term_at (graph_terms q.nodes) k) (ap (λ (x : ℕ × Kind). x.0) place) ∙ ap (λ (ns : List Node). term_at (graph_terms ns) (atom_at p j).0) on.nodes
      ∙ terms-begin p.nodes on.new_nodes (atom_at p j).0 there in
      ap₂ (λ (t : Term) (k : Kind). (t, k)) term (ap (λ (x : ℕ × Kind). x.1) place)

  holds-begun : (m : _) (point : List Coordinate) (j : ℕ) → j < length p.atoms → atom_holds m point (full_atom q j) ≡ atom_holds m (begun point) (full_atom p j)
  holds-begun m point j h =
      ap (λ (x : Atom). atom_holds m point x) (atom-stays j h)
      ∙ ap (λ v. in_range m (atom_at p j).1 v) (value-begins sorts (term_of p j) (terms_are sorts p.nodes is_p.nodes (atom_at p j).0) point)

  parts-fit : AreForms sorts (length p.atoms) on.parts
  parts-fit = subst (λ (φ : Form ℕ). IsForm sorts (length p.atoms) φ) on.form is_p.form

  meets-begun : (s : Loosenings) (point : List Coordinate) → MeetsForm q s point → MeetsForm p s (begun point)
  meets-begun s point h =
      let m = exact (margin_of s) in
      let later : ℕ → Bool = λ j. atom_holds m point (full_atom q j) in
      let here : ℕ → Bool = λ j. atom_holds m (begun point) (full_atom p j) in
      let all : IsTrue (all_truth later (bool_holds point) (forms_then on.parts on.new_parts)) = subst (λ (φ : Form ℕ). IsTrue (form_truth later (bool_holds point) φ)) on.later_form h in
      let firsts : IsTrue (all_truth later (bool_holds point) on.parts) = first-parts later (bool_holds point) on.parts on.new_parts all in
      let agree = all-same sorts (length p.atoms) later here (bool_holds point) (bool_holds (begun point)) (λ j l. holds-begun m point j l) (λ i v k. bool-begins sorts i v k point) on.parts parts-fit in
      subst (λ (φ : Form ℕ). IsTrue (form_truth here (bool_holds (begun point)) φ)) (sym on.form) (sym agree ∙ firsts)

  point-begun : (s : Loosenings) (L : State) → FitsProblem p L → (point : List Coordinate) → IsPointOf q s (carried q L) point → IsPointOf p s L (begun point)
  point-begun s L fits point h =
      let count : length L.space ≡ length sorts = axes-fit p.axes L.space fits.axes in
      record {
        sorted = point-begins sorts on.new_sorts point (subst (λ (ss : List Sort). IsPoint ss point) on.sorts h.sorted);
        inside = subst (λ (n : ℕ). IsTrue (in_space L.space (take n point))) count (inside-begins L.space _ point h.inside);
        yes = λ j y. let l = yes-there L.marks j y in sym (holds-begun (exact (margin_of s)) point j (omega (arith, l, fits.marks))) ∙ h.yes j (no-yes L.marks _ j y);
        no = λ j n. let l = no-there L.marks j n in ap not (sym (holds-begun (exact (margin_of s)) point j (omega (arith, l, fits.marks)))) ∙ h.no j (no-no L.marks _ j n);
      }

pub carried_lemma_holds : (p q : Problem) → IsProblem p → GoesOnFrom p q → (s : Loosenings) (L : State) → FitsProblem p L → IsLemma p s L → IsLemma q s (carried q L)
carried_lemma_holds p q is_p on s L fits h point inside meets =
    h (begun p q is_p on point) (point-begun p q is_p on s L fits point inside) (meets-begun p q is_p on s point meets)
