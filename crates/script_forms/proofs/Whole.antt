-- The form of a script, with its comparisons in place, means what the script means.
use Rattle.std.proofs.Common.{◌≡◌, ℕ, suc, ◌+◌, List, [], ◌∷◌, ◌++◌, map, Bool, true, false, not, ◌&&◌, cond, IsTrue, Option, Some, None, refl, ap, sym, ◌∙◌, arith, zero-add, true≢false}
use Rattle.std.specs.List.{AllByRecursion}
use Rattle.dyadic.specs.Fraction.{Fraction}
use Rattle.dyadic.specs.Point.{Sort, real_sort, bool_sort, Coordinate, at_fraction, at_bool, IsPoint}
use Rattle.script_model.specs.Meaning.{Value, real, bool, either as either_value, pair_of, loosened, coordinate_value}
use Rattle.script_model.specs.Script.{Command, claims, goals, Holds, Satisfies, sorts_of}
use Rattle.script_model.specs.Declared.{numbered}
use Rattle.script_model.proofs.Related.{Each, claims_alike, goals_alike}
use Rattle.poly_graph.specs.Term.{coordinate}
use Rattle.poly_graph.specs.Form.{form_atoms, forms_atoms}
use Rattle.poly_graph.specs.Problem.{bool_holds}
use Rattle.script_forms.specs.Terms.{Comparison, Unfolded, term, formula, refused, either, Fault}
use Rattle.script_forms.specs.Unfolded.{as_tree, truth_of, forms_of}
use Rattle.script_forms.specs.Atoms.{constant_tree, trees, whole_form, unfolding_fault, tree_fault, trees_fault, or_next, comparison_fault, comparisons_fault}
use Rattle.dyadic.proofs.Equal.{≈_refl}
use Rattle.script_forms.proofs.Forms.{holds, all_hold}
use Rattle.script_forms.proofs.Means.{Means}
use Rattle.script_forms.proofs.Meaning.{respects}

-- neither of two has a fault
no_fault : (x y : Option Fault) → or_next x y ≡ None → (x ≡ None) × (y ≡ None)
no_fault None y h = (refl, h)
no_fault (Some x) y h = cc

module _ (m : Fraction) (whole : List Coordinate) where
  -- rest is what stands from axis n on
  record From (n : ℕ) (rest : List Coordinate) : Type 0 where
    fractions : (k : ℕ) → coordinate whole (n + k) ≡ coordinate rest k
    truths : (k : ℕ) (v : Bool) → bool_holds whole (n + k) v ≡ bool_holds rest k v

  next : (n : ℕ) (c : Coordinate) (rest : List Coordinate) → From n (c ∷ rest) → From (suc n) rest
  next n (at_fraction q) rest h = record {
    fractions = λ k. ap (λ (i : ℕ). coordinate whole i) (omega arith) ∙ h.fractions (suc k);
    truths = λ k v. ap (λ (i : ℕ). bool_holds whole i v) (omega arith) ∙ h.truths (suc k) v;
  }
  next n (at_bool b) rest h = record {
    fractions = λ k. ap (λ (i : ℕ). coordinate whole i) (omega arith) ∙ h.fractions (suc k);
    truths = λ k v. ap (λ (i : ℕ). bool_holds whole i v) (omega arith) ∙ h.truths (suc k) v;
  }

  at-fraction : (n : ℕ) (q : Fraction) (rest : List Coordinate) → From n (at_fraction q ∷ rest) → coordinate whole n ≡ q
  at-fraction n q rest h = ap (λ (i : ℕ). coordinate whole i) (omega arith) ∙ h.fractions 0

  at-bool : (n : ℕ) (b : Bool) (rest : List Coordinate) → From n (at_bool b ∷ rest) → (v : Bool) → bool_holds whole n v ≡ cond v b (not b)
  at-bool n b rest h v = ap (λ (i : ℕ). bool_holds whole i v) (omega arith) ∙ h.truths 0 v

  constants-alike : (n : ℕ) (sorts : List Sort) (rest : List Coordinate) → From n rest → IsPoint sorts rest →
      Each (Means m whole) (map coordinate_value rest) (numbered constant_tree n sorts)
  constants-alike n [] [] h p = tt
  constants-alike n (real_sort ∷ sorts) (at_fraction q ∷ rest) h p = (
    let e = at-fraction n q rest h in record { one = p.0; other = rw e p.0; equal = rw e (≈_refl q) },
    constants-alike (suc n) sorts rest (next n (at_fraction q) rest h) p.1,
  )
  constants-alike n (bool_sort ∷ sorts) (at_bool b ∷ rest) h p = (
    record { pos = at-bool n b rest h true; neg = at-bool n b rest h false },
    constants-alike (suc n) sorts rest (next n (at_bool b) rest h) p,
  )
  constants-alike n (real_sort ∷ sorts) [] h p = elim p [ ]
  constants-alike n (bool_sort ∷ sorts) [] h p = elim p [ ]
  constants-alike n [] (c ∷ rest) h p = elim p [ ]
  constants-alike n (real_sort ∷ sorts) (at_bool b ∷ rest) h p = elim p [ ]
  constants-alike n (bool_sort ∷ sorts) (at_fraction q ∷ rest) h p = elim p [ ]

  from-start : From 0 whole
  from-start = record {
    fractions = λ k. ap (λ (i : ℕ). coordinate whole i) (zero-add k);
    truths = λ k v. ap (λ (i : ℕ). bool_holds whole i v) (zero-add k);
  }

  pub trees_alike : (script : List Command) → IsPoint (sorts_of script) whole → Each (Means m whole) (claims (loosened m) [] (map coordinate_value whole) script) (trees script)
  trees_alike script p = claims_alike (Means m whole) (loosened m) as_tree (respects m whole) [] [] tt
      (map coordinate_value whole) (numbered constant_tree 0 (sorts_of script)) (constants-alike 0 (sorts_of script) whole from-start p) script

  pub goals_mean : (script : List Command) → IsPoint (sorts_of script) whole →
      Each (Means m whole) (goals (loosened m) [] (map coordinate_value whole) script) (goals as_tree [] (numbered constant_tree 0 (sorts_of script)) script)
  goals_mean script p = goals_alike (Means m whole) (loosened m) as_tree (respects m whole) [] [] tt
      (map coordinate_value whole) (numbered constant_tree 0 (sorts_of script)) (constants-alike 0 (sorts_of script) whole from-start p) script

  with-first : (a b c : Bool) (Y : Type 0) → a ≡ b → (IsTrue c → Y) × (Y → IsTrue c) → (IsTrue (a && c) → IsTrue b × Y) × (IsTrue b × Y → IsTrue (a && c))
  with-first true b c Y e h = ((λ x. (sym e, h.0 x)), (λ x. h.1 x.1))
  with-first false b c Y e h = ((λ x. absurd (true≢false (sym x))), (λ x. absurd (true≢false (sym (e ∙ x.0)))))

  all-or-none : (vs : List Value) (us : List Unfolded) → Each (Means m whole) vs us → trees_fault us ≡ None →
      (IsTrue (all_hold m whole (forms_of truth_of us)) → AllByRecursion Holds (map pair_of vs)) × (AllByRecursion Holds (map pair_of vs) → IsTrue (all_hold m whole (forms_of truth_of us)))
  all-or-none [] [] h e = (λ x. tt, λ x. refl)
  all-or-none (bool p ∷ vs) (formula f g ∷ us) h e = with-first (holds m whole f) p.pos (all_hold m whole (forms_of truth_of us)) (AllByRecursion Holds (map pair_of vs)) h.0.pos
      (all-or-none vs us h.1 (no_fault (tree_fault (formula f g)) (trees_fault us) e).1)
  all-or-none (real q ∷ vs) (term t ∷ us) h e = ((λ x. absurd (true≢false (sym x))), (λ x. absurd (true≢false (sym x.0))))
  all-or-none (either_value p v w ∷ vs) (either f g t u ∷ us) h e = ((λ x. absurd (true≢false (sym x))), (λ x. absurd (true≢false (sym x.0))))
  all-or-none (real q ∷ vs) (formula f g ∷ us) h e = elim h.0 [ ]
  all-or-none (real q ∷ vs) (either f g t u ∷ us) h e = elim h.0 [ ]
  all-or-none (bool p ∷ vs) (either f g t u ∷ us) h e = elim h.0 [ ]
  all-or-none (either_value p v w ∷ vs) (term t ∷ us) h e = elim h.0 [ ]
  all-or-none (either_value p v w ∷ vs) (formula f g ∷ us) h e = elim h.0 [ ]
  all-or-none (bool p ∷ vs) (term t ∷ us) h e = elim h.0 [ ]
  all-or-none (v ∷ vs) (refused x ∷ us) h e = cc
  all-or-none [] (u ∷ us) h e = elim h [ ]
  all-or-none (v ∷ vs) [] h e = elim h [ ]

-- the form of a script that unfolds without a fault is true at a point, each comparison loosened by m, where the
-- point satisfies the script so loosened
pub form_means : (script : List Command) → unfolding_fault script ≡ None → (m : Fraction) (point : List Coordinate) → IsPoint (sorts_of script) point →
    (IsTrue (holds m point (whole_form script)) → Satisfies m point script) × (Satisfies m point script → IsTrue (holds m point (whole_form script)))
form_means script e m point p = all-or-none m point _ (trees script) (trees_alike m point script p) e

-- ---- no comparison that stands in the form has a fault

abbrev pub HasTerm : Comparison → Type 0
HasTerm c = comparison_fault c ≡ None

join : (xs ys : List Comparison) → AllByRecursion HasTerm xs → AllByRecursion HasTerm ys → AllByRecursion HasTerm (xs ++ ys)
join [] ys h k = k
join (x ∷ xs) ys h k = (h.0, join xs ys h.1 k)

each-has : (cs : List Comparison) → comparisons_fault cs ≡ None → AllByRecursion HasTerm cs
each-has [] h = tt
each-has (c ∷ cs) h = let e = no_fault (comparison_fault c) (comparisons_fault cs) h in (e.0, each-has cs e.1)

tree-has : (u : Unfolded) → tree_fault u ≡ None → AllByRecursion HasTerm (form_atoms (truth_of u))
tree-has (term t) h = tt
tree-has (either f g t u) h = tt
tree-has (formula f g) h = each-has (form_atoms f) h
tree-has (refused x) h = cc

trees-have : (us : List Unfolded) → trees_fault us ≡ None → AllByRecursion HasTerm (forms_atoms (forms_of truth_of us))
trees-have [] h = tt
trees-have (u ∷ us) h = let e = no_fault (tree_fault u) (trees_fault us) h in
    join (form_atoms (truth_of u)) (forms_atoms (forms_of truth_of us)) (tree-has u e.0) (trees-have us e.1)

pub comparisons_have : (script : List Command) → unfolding_fault script ≡ None → AllByRecursion HasTerm (form_atoms (whole_form script))
comparisons_have script e = trees-have (trees script) e
