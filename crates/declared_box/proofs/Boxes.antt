-- The axes and faults of the ends that were found are those of the script's bounds.
use Rattle.std.proofs.Common.{◌≡◌, ℕ, suc, zero, ◌+◌, ◌<◌, ◌≤◌, List, [], ◌∷◌, ◌++◌, map, length, drop, Bool, cond, ◌||◌, Option, Some, None, refl, ap, ap₂, sym, ◌∙◌, subst, arith, append_assoc}
use Rattle.std.proofs.lemmas.List.Elements.{All-append}
use Rattle.std.specs.List.{All}
use Rattle.std.proofs.lemmas.List.{map-append, length-map}
use Rattle.std.specs.Prelude.{Result, Ok, Err, slice_index_or}
use Rattle.std.specs.Result.{IsErr, IsErrAnd}
use Rattle.dyadic.specs.Fraction.{Fraction}
use Rattle.dyadic.specs.Point.{Sort, real_sort, bool_sort}
use Rattle.dyadic.proofs.Equal.{through}
use Rattle.script_model.specs.Script.{Constant, sort_of_constant}
use Rattle.script_model.specs.Declared.{lower, upper, Bound, values_on, DeclaredInterval, default_low, default_high, BoundFault, bound_too_wide, ends_fault, axis_fault, or_later, bound_fault_from}
use Rattle.script_model.proofs.Bounds.{IfFraction}
use Rattle.poly_graph.specs.Problem.{Axis, Declared, real_between, any_bool, IsDeclared, sort_of, sorts_of_axes}
use Rattle.script_forms.specs.ProblemOf.{IsEnd, IsDeclaredBy, AreAxes}
use Rattle.declared_box.specs.Same.{SameBounds}
use Rattle.declared_box.specs.Interval.{interval_by, interval_at, ended, AreTightest}
use Rattle.poly_graph.specs.ProblemViews.{axis_of}
use Rattle.poly_graph.specs.declared.axis.Axis as code_axis
use Rattle.declared_box.specs.Axes.{constant_of, IsAxisOf, IsBoundsError}
use Rattle.declared_box.specs.Views.{interval_of}
use Rattle.declared_box.specs.declared.axes.Constant as code
use Rattle.declared_box.specs.declared.interval.Interval.{Interval}
use Rattle.script_fault.specs.declared.fault.ReadError.{ReadError}
use Rattle.declared_box.proofs.Widths.{too_wide_same}
use Rattle.declared_box.proofs.Tight.{SameEnd, same_values, tightest_end_same}

-- ---- one interval

abbrev pub SameInterval : DeclaredInterval → DeclaredInterval → Type 0
SameInterval i j = SameEnd i.low j.low × SameEnd i.high j.high

low-is : (bound : Option ℕ) → IfFraction (default_low bound)
low-is None = tt
low-is (Some n) = omega arith

high-is : (bound : Option ℕ) → IfFraction (default_high bound)
high-is None = tt
high-is (Some n) = omega arith

pub same_interval : (bound : Option ℕ) (found bs : List Bound) (axes : ℕ) (intervals : List DeclaredInterval) → SameBounds found bs → AreTightest found axes intervals → (k : ℕ) → k < axes →
    SameInterval (interval_by bound bs k) (ended bound (interval_at intervals k))
same_interval bound found bs axes intervals h t k l = (
  tightest_end_same lower (default_low bound) (values_on lower k found) (values_on lower k bs) (interval_at intervals k).low (low-is bound) (same_values lower k found bs h) (t.1 k lower l),
  tightest_end_same upper (default_high bound) (values_on upper k found) (values_on upper k bs) (interval_at intervals k).high (high-is bound) (same_values upper k found bs h) (t.1 k upper l),
)

ends-same : (x y z w : Option Fraction) → SameEnd x z → SameEnd y w → ends_fault x y ≡ ends_fault z w
ends-same (Some l) (Some h) (Some m) (Some j) e f = ap₂ (λ (a b : Bool). cond (a || b) (Some bound_too_wide) None) (too_wide_same l m e) (too_wide_same h j f)
ends-same None None None None e f = refl
ends-same None (Some h) None (Some j) e f = refl
ends-same (Some l) None (Some m) None e f = refl
ends-same None y (Some m) w e f = elim e [ ]
ends-same (Some l) y None w e f = elim e [ ]
ends-same None None None (Some j) e f = elim f [ ]
ends-same None (Some h) None None e f = elim f [ ]
ends-same (Some l) None (Some m) (Some j) e f = elim f [ ]
ends-same (Some l) (Some h) (Some m) None e f = elim f [ ]

fault-same : (s : Sort) (i j : DeclaredInterval) → SameInterval i j → axis_fault s i ≡ axis_fault s j
fault-same real_sort i j h = ends-same i.low i.high j.low j.high h.0 h.1
fault-same bool_sort i j h = refl

end-moves : (x y : Option Fraction) (q : Fraction) → SameEnd x y → IsEnd y q → IsEnd x q
end-moves (Some p) (Some r) q h e = (e.0, through p r q h.second h.below e.1, through q r p h.second e.2 h.above)
end-moves None None q h e = e
end-moves None (Some r) q h e = elim h [ ]
end-moves (Some p) None q h e = elim h [ ]

declared-moves : (s : Sort) (i j : DeclaredInterval) (d : Declared) → SameInterval i j → IsDeclaredBy s j d → IsDeclaredBy s i d
declared-moves real_sort i j (real_between l h) e f = (end-moves i.low j.low l e.0 f.0, end-moves i.high j.high h e.1 f.1)
declared-moves bool_sort i j any_bool e f = tt
declared-moves real_sort i j any_bool e f = elim f [ ]
declared-moves bool_sort i j (real_between l h) e f = elim f [ ]

-- ---- all axes

abbrev pub SameBoxes : (ℕ → DeclaredInterval) → (ℕ → DeclaredInterval) → ℕ → Type 0
SameBoxes box other axes = (k : ℕ) → k < axes → SameInterval (box k) (other k)

faults-from : (box other : ℕ → DeclaredInterval) (axis axes : ℕ) (cs : List Constant) → SameBoxes box other axes → axis + length cs ≤ axes → bound_fault_from box axis cs ≡ bound_fault_from other axis cs
faults-from box other axis axes [] h l = refl
faults-from box other axis axes (c ∷ cs) h l = ap₂ (λ (f : Option BoundFault) (later : Option (Constant × BoundFault)). or_later c f later)
    (fault-same c.sort (box axis) (other axis) (h axis (omega (arith, l)))) (faults-from box other (suc axis) axes cs h (omega (arith, l)))

axes-from : (box other : ℕ → DeclaredInterval) (axis n : ℕ) (cs : List Constant) (axes : List Axis) → SameBoxes box other n → axis + length cs ≤ n → AreAxes other axis cs axes → AreAxes box axis cs axes
axes-from box other axis n [] [] h l a = tt
axes-from box other axis n (c ∷ cs) (x ∷ axes) h l a = (a.0, declared-moves c.sort (box axis) (other axis) x.declared (h axis (omega (arith, l))) a.1, axes-from box other (suc axis) n cs axes h (omega (arith, l)) a.2)
axes-from box other axis n [] (x ∷ axes) h l a = elim a [ ]
axes-from box other axis n (c ∷ cs) [] h l a = elim a [ ]

pub same_faults : (box other : ℕ → DeclaredInterval) (cs : List Constant) → SameBoxes box other (length cs) → bound_fault_from box 0 cs ≡ bound_fault_from other 0 cs
same_faults box other cs h = faults-from box other 0 (length cs) cs h (omega arith)

pub same_axes : (box other : ℕ → DeclaredInterval) (cs : List Constant) (axes : List Axis) → SameBoxes box other (length cs) → AreAxes other 0 cs axes → AreAxes box 0 cs axes
same_axes box other cs axes h a = axes-from box other 0 (length cs) cs axes h (omega arith) a

-- ---- axis after axis

-- the axes of the first i constants
pub record Built (box : ℕ → DeclaredInterval) (cs : List Constant) (i : ℕ) (axes : List Axis) : Type 0 where
  pub faults : bound_fault_from box 0 cs ≡ bound_fault_from box i (drop i cs)
  pub front : (rest : List Axis) → AreAxes box i (drop i cs) rest → AreAxes box 0 cs (axes ++ rest)
  pub bounds : All (λ (a : Axis). IsDeclared a.declared) axes
  pub sorts : sorts_of_axes axes ++ map sort_of_constant (drop i cs) ≡ map sort_of_constant cs

pub built_first : (box : ℕ → DeclaredInterval) (cs : List Constant) → Built box cs 0 []
built_first box cs = record { faults = refl; front = λ rest a. a; bounds = λ k x l. absurd (omega (arith, l)); sorts = refl }

-- what is so of the next axis
pub record IsNext (box : ℕ → DeclaredInterval) (i : ℕ) (c : Constant) (a : Axis) : Type 0 where
  pub faultless : axis_fault c.sort (box i) ≡ None
  pub name : a.name ≡ c.name
  pub declared : IsDeclaredBy c.sort (box i) a.declared
  pub bound : IsDeclared a.declared
  pub sort : sort_of a.declared ≡ c.sort

sorts-push : (axes : List Axis) (a : Axis) (rest : List Sort) → sorts_of_axes (axes ++ (a ∷ [])) ++ rest ≡ sorts_of_axes axes ++ (sort_of a.declared ∷ rest)
sorts-push [] a rest = refl
sorts-push (x ∷ axes) a rest = ap (λ s. sort_of x.declared ∷ s) (sorts-push axes a rest)

pub built_next : (box : ℕ → DeclaredInterval) (cs : List Constant) (i : ℕ) (axes : List Axis) (c : Constant) (a : Axis) → Built box cs i axes → drop i cs ≡ c ∷ drop (suc i) cs → IsNext box i c a → Built box cs (suc i) (axes ++ (a ∷ []))
built_next box cs i axes c a b e n = record {
  faults = b.faults ∙ ap (bound_fault_from box i) e ∙ ap (λ f. or_later c f (bound_fault_from box (suc i) (drop (suc i) cs))) n.faultless;
  front = λ rest r. subst (AreAxes box 0 cs) (sym (append_assoc axes (a ∷ []) rest)) (b.front (a ∷ rest) (subst (λ ds. AreAxes box i ds (a ∷ rest)) (sym e) (n.name, n.declared, r)));
  bounds = All-append (λ (x : Axis). IsDeclared x.declared) axes (a ∷ []) b.bounds (λ k x l. one k x l);
  sorts = sorts-push axes a (map sort_of_constant (drop (suc i) cs)) ∙ ap (λ s. sorts_of_axes axes ++ (s ∷ map sort_of_constant (drop (suc i) cs))) n.sort ∙ ap (λ ds. sorts_of_axes axes ++ map sort_of_constant ds) (sym e) ∙ b.sorts;
}
  where
    one : All (λ (x : Axis). IsDeclared x.declared) (a ∷ [])
    one zero x l = n.bound
    one (suc k) x l = absurd (omega (arith, l))

-- the fault of the next axis is the first
pub refused_next : (box : ℕ → DeclaredInterval) (cs : List Constant) (i : ℕ) (axes : List Axis) (c : Constant) (e : ReadError) → Built box cs i axes → drop i cs ≡ c ∷ drop (suc i) cs →
    ((later : Option (Constant × BoundFault)) → IsBoundsError e (or_later c (axis_fault c.sort (box i)) later)) → IsBoundsError e (bound_fault_from box 0 cs)
refused_next box cs i axes c e b d h = subst (IsBoundsError e) (sym (b.faults ∙ ap (bound_fault_from box i) d)) (h (bound_fault_from box (suc i) (drop (suc i) cs)))

drop-all : {A : Type 0} (xs : List A) (n : ℕ) → length xs ≤ n → drop n xs ≡ []
drop-all [] zero l = refl
drop-all [] (suc n) l = refl
drop-all (x ∷ xs) zero l = absurd (omega (arith, l))
drop-all (x ∷ xs) (suc n) l = drop-all xs n (omega (arith, l))

nil-right : {A : Type 0} (xs : List A) → xs ++ [] ≡ xs
nil-right [] = refl
nil-right (x ∷ xs) = ap (λ ys. x ∷ ys) (nil-right xs)

pub record AllBuilt (box : ℕ → DeclaredInterval) (cs : List Constant) (axes : List Axis) : Type 0 where
  pub faultless : bound_fault_from box 0 cs ≡ None
  pub axes_are : AreAxes box 0 cs axes
  pub bounds : All (λ (a : Axis). IsDeclared a.declared) axes
  pub sorts : sorts_of_axes axes ≡ map sort_of_constant cs

pub built_all : (box : ℕ → DeclaredInterval) (cs : List Constant) (n : ℕ) (axes : List Axis) → length cs ≤ n → Built box cs n axes → AllBuilt box cs axes
built_all box cs n axes l b = let e = drop-all cs n l in record {
  faultless = b.faults ∙ ap (bound_fault_from box n) e;
  axes_are = subst (AreAxes box 0 cs) (nil-right axes) (b.front [] (subst (λ ds. AreAxes box n ds []) (sym e) tt));
  bounds = b.bounds;
  sorts = sym (nil-right (sorts_of_axes axes)) ∙ ap (λ ds. sorts_of_axes axes ++ map sort_of_constant ds) (sym e) ∙ b.sorts;
}

-- ---- the code's lists

-- the ends that the code found, where the words give this bound
abbrev pub found_box : Option ℕ → List Interval → ℕ → DeclaredInterval
found_box bound intervals k = ended bound (interval_at (map interval_of intervals) k)

pub next_constant : (cs : List code.Constant) (k : ℕ) (c : code.Constant) → k < length cs → c ≡ slice_index_or cs k c → drop k (map constant_of cs) ≡ constant_of c ∷ drop (suc k) (map constant_of cs)
next_constant [] k c l e = absurd (omega (arith, l))
next_constant (d ∷ cs) zero c l e = ap (λ x. constant_of x ∷ map constant_of cs) (sym e)
next_constant (d ∷ cs) (suc k) c l e = next_constant cs k c (omega (arith, l)) e

interval-read : (intervals : List Interval) (k : ℕ) (i : Interval) → k < length intervals → i ≡ slice_index_or intervals k i → interval_of i ≡ interval_at (map interval_of intervals) k
interval-read [] k i l e = absurd (omega (arith, l))
interval-read (j ∷ intervals) zero i l e = ap interval_of e
interval-read (j ∷ intervals) (suc k) i l e = interval-read intervals k i (omega (arith, l)) e

-- the interval that the code gives to the next axis
pub next_interval : (bound : Option ℕ) (intervals : List Interval) (k : ℕ) (i j : Interval) → k < length intervals → i ≡ slice_index_or intervals k i → interval_of j ≡ ended bound (interval_of i) → interval_of j ≡ found_box bound intervals k
next_interval bound intervals k i j l e f = f ∙ ap (ended bound) (interval-read intervals k i l e)

pub next_axis : (box : ℕ → DeclaredInterval) (i : ℕ) (c : Constant) (j : DeclaredInterval) (a : code_axis.Axis) → j ≡ box i → IsAxisOf c j (Ok a) → IsNext box i c (axis_of a)
next_axis box i c j a e h = let g = subst (λ x. IsAxisOf c x (Ok a)) e h in record { faultless = g.0; name = g.1; declared = g.2; bound = g.3; sort = g.4 }

pub push_axis : (box : ℕ → DeclaredInterval) (cs : List code.Constant) (k : ℕ) (axes new : List code_axis.Axis) (c : code.Constant) (a : code_axis.Axis) (j : DeclaredInterval) → Built box (map constant_of cs) k (map axis_of axes) →
    k < length cs → c ≡ slice_index_or cs k c → j ≡ box k → IsAxisOf (constant_of c) j (Ok a) → new ≡ axes ++ (a ∷ []) → Built box (map constant_of cs) (k + 1) (map axis_of new)
push_axis box cs k axes new c a j b l e f h n = let next : suc k ≡ k + 1 = omega arith in
    subst (λ i. Built box (map constant_of cs) i (map axis_of new)) next (subst (Built box (map constant_of cs) (suc k)) (sym (ap (map axis_of) n ∙ map-append axis_of axes (a ∷ [])))
    (built_next box (map constant_of cs) k (map axis_of axes) (constant_of c) (axis_of a) b (next_constant cs k c l e) (next_axis box k (constant_of c) j a f h)))

-- the boxes of the ends that were found, and of bounds that are the same
boxes-same : (bound : Option ℕ) (found bs : List Bound) (cs : List code.Constant) (intervals : List Interval) → SameBounds found bs → AreTightest found (length cs) (map interval_of intervals) →
    SameBoxes (interval_by bound bs) (found_box bound intervals) (length (map constant_of cs))
boxes-same bound found bs cs intervals h t k l = same_interval bound found bs (length cs) (map interval_of intervals) h t k (subst (λ n. k < n) (length-map cs constant_of) l)

pub refused : (bound : Option ℕ) (found bs : List Bound) (cs : List code.Constant) (intervals : List Interval) (k : ℕ) (axes : List Axis) (c : code.Constant) (j : DeclaredInterval) (e : ReadError) → SameBounds found bs →
    AreTightest found (length cs) (map interval_of intervals) → Built (found_box bound intervals) (map constant_of cs) k axes → k < length cs → c ≡ slice_index_or cs k c → j ≡ found_box bound intervals k → IsAxisOf (constant_of c) j (Err e) →
    IsBoundsError e (bound_fault_from (interval_by bound bs) 0 (map constant_of cs))
refused bound found bs cs intervals k axes c j e h t b l i f r = subst (IsBoundsError e) (sym (same_faults (interval_by bound bs) (found_box bound intervals) (map constant_of cs) (boxes-same bound found bs cs intervals h t)))
    (refused_next (found_box bound intervals) (map constant_of cs) k axes (constant_of c) e b (next_constant cs k c l i) (subst (λ x. IsAxisOf (constant_of c) x (Err e)) f r))

pub answered : (bound : Option ℕ) (found bs : List Bound) (cs : List code.Constant) (intervals : List Interval) (n : ℕ) (axes : List Axis) → SameBounds found bs →
    AreTightest found (length cs) (map interval_of intervals) → length cs ≤ n → Built (found_box bound intervals) (map constant_of cs) n axes →
    (bound_fault_from (interval_by bound bs) 0 (map constant_of cs) ≡ None) × AreAxes (interval_by bound bs) 0 (map constant_of cs) axes
answered bound found bs cs intervals n axes h t l b =
    let done = built_all (found_box bound intervals) (map constant_of cs) n axes (subst (λ m. m ≤ n) (sym (length-map cs constant_of)) l) b in
    let same = boxes-same bound found bs cs intervals h t in (
      same_faults (interval_by bound bs) (found_box bound intervals) (map constant_of cs) same ∙ done.faultless,
      same_axes (interval_by bound bs) (found_box bound intervals) (map constant_of cs) axes same done.axes_are,
    )

-- an error that `?` hands on
pub handed_on : {A : Type 0} (r : Result A ReadError) (e : ReadError) → IsErr r × IsErrAnd r (λ x. x ≡ e) → r ≡ Err e
handed_on (Ok a) e h = absurd h.1
handed_on (Err x) e h = ap (λ y. Err y) h.1
