-- The declared interval of each axis of a rewritten script: on a constant of the script it is the script's, on a fresh one it has the ends of its entry.
use Rattle.std.proofs.Common.{◌≡◌, ℕ, suc, ◌+◌, ◌<◌, ◌≤◌, List, [], ◌∷◌, ◌++◌, map, length, Bool, true, false, cond, ◌&&◌, Option, Some, None, nat_eq, refl, ap, ap₂, sym, ◌∙◌, subst, append_assoc, arith}
use Rattle.std.proofs.lemmas.List.{append-nil}
use Rattle.std.specs.List.{AllByRecursion}
use Rattle.dyadic.specs.Fraction.{Fraction}
use Rattle.dyadic.specs.Point.{Sort, real_sort, bool_sort}
use Rattle.script_model.specs.Reading.{Operator, conjunction, equality, choice, minus, plus, times, divide, at_most_op, below_op, at_least_op, above_op}
use Rattle.script_model.specs.Meaning.{Value, neighbours}
use Rattle.script_model.specs.Script.{Command, Constant, constants_of, sort_of_constant, sorts_of}
use Rattle.script_model.specs.Declared.{Side, lower, upper, Bound, Bounding, known, constant_of, other, bounds, at_most_bounds, at_least_bounds, equal_bounds, concat, bounds_in, all_known, computed, alone, arm_bounding, choice_bounding, bounding_operation, bounding, constant_bounding, numbered, script_bounds, is_side, values_on, greatest, least, tightest_end, default_low, default_high, DeclaredInterval}
use Rattle.script_model.proofs.Related.{Each, Respects, claims_alike, Nothing, said, silent}
use Rattle.script_roots.specs.Tree.{Tree}
use Rattle.script_roots.specs.Ranges.{Ranges}
use Rattle.script_roots.specs.Fresh.{Table}
use Rattle.script_roots.proofs.Table.{all_join, all_weaken}
use Rattle.script_roots.proofs.FreshBounds.{entry_low, entry_high, bound_at, entry_bounds, fresh_bounds}

-- ---- the axes of a script's bounds are those of its constants

abbrev pub AxesBelow : ℕ → List Bound → Type 0
AxesBelow n bs = AllByRecursion (λ (b : Bound). b.axis < n) bs

module _ (n : ℕ) where
  abbrev InAxes : Bounding → Type 0
  InAxes (constant_of axis) = axis < n
  InAxes (bounds bs) = AxesBelow n bs
  InAxes _ = Unit {0}

  abbrev AllInAxes : List Bounding → Type 0
  AllInAxes bs = AllByRecursion InAxes bs

  join : (xs ys : List Bound) → AxesBelow n xs → AxesBelow n ys → AxesBelow n (xs ++ ys)
  join xs ys h k = all_join (λ (b : Bound). b.axis < n) xs ys h k

  at-most-in : (a b : Bounding) → InAxes a → InAxes b → AxesBelow n (at_most_bounds a b)
  at-most-in (constant_of i) (known q) h k = (h, tt)
  at-most-in (known q) (constant_of i) h k = (k, tt)
  at-most-in _ _ h k = tt

  at-least-in : (a b : Bounding) → InAxes a → InAxes b → AxesBelow n (at_least_bounds a b)
  at-least-in a b h k = at-most-in b a k h

  equal-in : (a b : Bounding) → InAxes a → InAxes b → AxesBelow n (equal_bounds a b)
  equal-in a b h k = join (at_most_bounds a b) (at_most_bounds b a) (at-most-in a b h k) (at-most-in b a k h)

  bounds-in : (b : Bounding) → InAxes b → AxesBelow n (bounds_in b)
  bounds-in (bounds bs) h = h
  bounds-in (known q) h = tt
  bounds-in (constant_of i) h = tt
  bounds-in other h = tt

  concat-in : (bs : List Bounding) → AllInAxes bs → AxesBelow n (concat (map bounds_in bs))
  concat-in [] h = tt
  concat-in (b ∷ bs) h = join (bounds_in b) (concat (map bounds_in bs)) (bounds-in b h.0) (concat-in bs h.1)

  chain-in : (f : Bounding → Bounding → List Bound) → ((a b : Bounding) → InAxes a → InAxes b → AxesBelow n (f a b)) → (bs : List Bounding) → AllInAxes bs → AxesBelow n (concat (neighbours f bs))
  chain-in f g [] h = tt
  chain-in f g (a ∷ []) h = tt
  chain-in f g (a ∷ b ∷ bs) h = join (f a b) (concat (neighbours f (b ∷ bs))) (g a b h.0 h.1.0) (chain-in f g (b ∷ bs) h.1)

  computed-in : (op : Operator) (o : Option (List Value)) → InAxes (computed op o)
  computed-in op None = tt
  computed-in op (Some vs) = tt

  alone-in : (op : Operator) (bs : List Bounding) → AllInAxes bs → InAxes (alone op bs)
  alone-in op [] h = tt
  alone-in op (b ∷ []) h = h.0
  alone-in op (b ∷ c ∷ bs) h = computed-in op (all_known (b ∷ c ∷ bs))

  arm-in : (b : Bounding) → InAxes (arm_bounding b)
  arm-in (bounds bs) = tt
  arm-in (known q) = tt
  arm-in (constant_of i) = tt
  arm-in other = tt

  choice-in : (bs : List Bounding) → InAxes (choice_bounding bs)
  choice-in [] = tt
  choice-in (c ∷ []) = tt
  choice-in (c ∷ a ∷ []) = tt
  choice-in (c ∷ a ∷ b ∷ rest) = arm-in a

  operation-in : (op : Operator) (bs : List Bounding) → AllInAxes bs → InAxes (bounding_operation op bs)
  operation-in conjunction bs h = concat-in bs h
  operation-in at_most_op bs h = chain-in at_most_bounds at-most-in bs h
  operation-in below_op bs h = chain-in at_most_bounds at-most-in bs h
  operation-in at_least_op bs h = chain-in at_least_bounds at-least-in bs h
  operation-in above_op bs h = chain-in at_least_bounds at-least-in bs h
  operation-in equality bs h = chain-in equal_bounds equal-in bs h
  operation-in choice bs h = choice-in bs
  operation-in plus bs h = alone-in plus bs h
  operation-in times bs h = alone-in times bs h
  operation-in minus bs h = computed-in minus (all_known bs)
  operation-in divide bs h = computed-in divide (all_known bs)
  operation-in op bs h = tt

  abbrev Lies : Nothing → Bounding → Type 0
  Lies v b = InAxes b

  each-in : (vs : List Nothing) (bs : List Bounding) → Each Lies vs bs → AllInAxes bs
  each-in [] [] h = tt
  each-in (v ∷ vs) (b ∷ bs) h = (h.0, each-in vs bs h.1)
  each-in [] (b ∷ bs) h = elim h [ ]
  each-in (v ∷ vs) [] h = elim h [ ]

  lies-respects : Respects Lies silent bounding
  lies-respects = record {
    literal = λ at digits more_digits. tt;
    named = λ at v b h. h;
    annotated = λ at v b h. h;
    apply = λ at op vs bs h. operation-in op bs (each-in vs bs h);
    bind = λ at names vs bs v b h k. k;
    call = λ at vs bs v b h k. k;
    nothing = λ at why. tt;
  }

  constants-in : (axis : ℕ) (constants : List Constant) → axis + length constants ≤ n → Each Lies (map (λ s. said) (map sort_of_constant constants)) (numbered constant_bounding axis (map sort_of_constant constants))
  constants-in axis [] h = tt
  constants-in axis (c ∷ constants) h = (one c.sort, constants-in (suc axis) constants (omega arith))
    where
      one : (s : Sort) → InAxes (constant_bounding axis s)
      one real_sort = omega arith
      one bool_sort = tt

  bounds-below : (script : List Command) → length (constants_of script) ≤ n → AxesBelow n (script_bounds script)
  bounds-below script h = concat-in _ (each-in _ _
      (claims_alike Lies silent bounding lies-respects [] [] tt (map (λ s. said) (sorts_of script)) (numbered constant_bounding 0 (sorts_of script)) (constants-in 0 (constants_of script) (omega arith)) script))

pub script_axes : (script : List Command) → AxesBelow (length (constants_of script)) (script_bounds script)
script_axes script = bounds-below (length (constants_of script)) script (omega arith)

-- ---- the bounds of one axis

abbrev pub NotOn : ℕ → List Bound → Type 0
NotOn k bs = AllByRecursion (λ (b : Bound). nat_eq k b.axis ≡ false) bs

other-axis : (k m : ℕ) → k < m → nat_eq k m ≡ false
other-axis k m h = grind arith

axis-other : (k m : ℕ) → m < k → nat_eq k m ≡ false
axis-other k m h = grind arith

same-axis : (k : ℕ) → nat_eq k k ≡ true
same-axis k = grind arith

pub below_not_on : (k n : ℕ) (bs : List Bound) → n ≤ k → AxesBelow n bs → NotOn k bs
below_not_on k n bs h = all_weaken (λ (b : Bound). b.axis < n) (λ (b : Bound). nat_eq k b.axis ≡ false) (λ b l. axis-other k b.axis (omega arith)) bs

and-false : (x : Bool) → x && false ≡ false
and-false true = refl
and-false false = refl

pub none_on : (s : Side) (k : ℕ) (bs : List Bound) → NotOn k bs → values_on s k bs ≡ []
none_on s k [] h = refl
none_on s k (b ∷ bs) h =
    ap (λ (t : Bool). cond (is_side s b.side && t) (b.value ∷ []) [] ++ values_on s k bs) h.0 ∙
    ap (λ (t : Bool). cond t (b.value ∷ []) [] ++ values_on s k bs) (and-false (is_side s b.side)) ∙ none_on s k bs h.1

pub values_join : (s : Side) (k : ℕ) (xs ys : List Bound) → values_on s k (xs ++ ys) ≡ values_on s k xs ++ values_on s k ys
values_join s k [] ys = refl
values_join s k (x ∷ xs) ys =
    ap (λ (qs : List Fraction). cond (is_side s x.side && nat_eq k x.axis) (x.value ∷ []) [] ++ qs) (values_join s k xs ys) ∙
    sym (append_assoc (cond (is_side s x.side && nat_eq k x.axis) (x.value ∷ []) []) (values_on s k xs) (values_on s k ys))

-- ---- the bounds of an entry

low-side : (axis : ℕ) (qs : List Fraction) → values_on lower axis (map (bound_at lower axis) qs) ≡ qs
low-side axis [] = refl
low-side axis (q ∷ qs) = ap₂ (λ (t : Bool) (rs : List Fraction). cond t (q ∷ []) [] ++ rs) (same-axis axis) (low-side axis qs)

high-side : (axis : ℕ) (qs : List Fraction) → values_on upper axis (map (bound_at upper axis) qs) ≡ qs
high-side axis [] = refl
high-side axis (q ∷ qs) = ap₂ (λ (t : Bool) (rs : List Fraction). cond t (q ∷ []) [] ++ rs) (same-axis axis) (high-side axis qs)

no-low : (axis : ℕ) (qs : List Fraction) → values_on lower axis (map (bound_at upper axis) qs) ≡ []
no-low axis [] = refl
no-low axis (q ∷ qs) = no-low axis qs

no-high : (axis : ℕ) (qs : List Fraction) → values_on upper axis (map (bound_at lower axis) qs) ≡ []
no-high axis [] = refl
no-high axis (q ∷ qs) = no-high axis qs

entry-low : (ranges : Ranges) (axis : ℕ) (t : Tree) → values_on lower axis (entry_bounds ranges axis t) ≡ entry_low ranges t
entry-low ranges axis t =
    values_join lower axis (map (bound_at lower axis) (entry_low ranges t)) (map (bound_at upper axis) (entry_high ranges t)) ∙
    ap₂ (λ (xs ys : List Fraction). xs ++ ys) (low-side axis (entry_low ranges t)) (no-low axis (entry_high ranges t)) ∙ append-nil (entry_low ranges t)

entry-high : (ranges : Ranges) (axis : ℕ) (t : Tree) → values_on upper axis (entry_bounds ranges axis t) ≡ entry_high ranges t
entry-high ranges axis t =
    values_join upper axis (map (bound_at lower axis) (entry_low ranges t)) (map (bound_at upper axis) (entry_high ranges t)) ∙
    ap₂ (λ (xs ys : List Fraction). xs ++ ys) (no-high axis (entry_low ranges t)) (high-side axis (entry_high ranges t))

side-axes : (P : ℕ → Type 0) (s : Side) (axis : ℕ) → P axis → (qs : List Fraction) → AllByRecursion (λ (b : Bound). P b.axis) (map (bound_at s axis) qs)
side-axes P s axis h [] = tt
side-axes P s axis h (q ∷ qs) = (h, side-axes P s axis h qs)

entry-axes : (P : ℕ → Type 0) (ranges : Ranges) (axis : ℕ) (t : Tree) → P axis → AllByRecursion (λ (b : Bound). P b.axis) (entry_bounds ranges axis t)
entry-axes P ranges axis t h = all_join (λ (b : Bound). P b.axis) (map (bound_at lower axis) (entry_low ranges t)) (map (bound_at upper axis) (entry_high ranges t))
    (side-axes P lower axis h (entry_low ranges t)) (side-axes P upper axis h (entry_high ranges t))

pub fresh_not_on : (ranges : Ranges) (k axis : ℕ) (part : Table) → k < axis → NotOn k (fresh_bounds ranges axis part)
fresh_not_on ranges k axis [] h = tt
fresh_not_on ranges k axis (entry ∷ rest) h =
    all_join (λ (b : Bound). nat_eq k b.axis ≡ false) (entry_bounds ranges axis entry.1) (fresh_bounds ranges (suc axis) rest)
    (entry-axes (λ m. nat_eq k m ≡ false) ranges axis entry.1 (other-axis k axis h)) (fresh_not_on ranges k (suc axis) rest (omega arith))

-- ---- intervals

-- the declared intervals that these bounds give
abbrev pub interval_from : Option ℕ → List Bound → ℕ → DeclaredInterval
interval_from bound bs axis = record {
  low = tightest_end greatest (default_low bound) (values_on lower axis bs);
  high = tightest_end least (default_high bound) (values_on upper axis bs);
}

abbrev pub interval_of : Option ℕ → List Fraction → List Fraction → DeclaredInterval
interval_of bound lows highs = record { low = tightest_end greatest (default_low bound) lows; high = tightest_end least (default_high bound) highs }

-- on a constant of the script the interval is the script's
pub own_interval : (bound : Option ℕ) (ranges : Ranges) (n : ℕ) (part : Table) (own : List Bound) (k : ℕ) → k < n →
    interval_from bound (fresh_bounds ranges n part ++ own) k ≡ interval_from bound own k
own_interval bound ranges n part own k h = ap₂ (interval_of bound) (on lower) (on upper)
  where
    on : (s : Side) → values_on s k (fresh_bounds ranges n part ++ own) ≡ values_on s k own
    on s = values_join s k (fresh_bounds ranges n part) own ∙ ap (λ (qs : List Fraction). qs ++ values_on s k own) (none_on s k (fresh_bounds ranges n part) (fresh_not_on ranges k n part h))

-- the interval has the ends of the entry
abbrev pub HasEnds : Option ℕ → Ranges → DeclaredInterval → Tree → Type 0
HasEnds bound ranges i t = i ≡ interval_of bound (entry_low ranges t) (entry_high ranges t)

-- from this axis on
abbrev pub EachHasEnds : Option ℕ → Ranges → (ℕ → DeclaredInterval) → ℕ → Table → Type 0
EachHasEnds bound ranges box axis [] = Unit {0}
EachHasEnds bound ranges box axis (entry ∷ rest) = HasEnds bound ranges (box axis) entry.1 × EachHasEnds bound ranges box (suc axis) rest

-- of all bounds those of the entry alone are on its axis
alone-on : (s : Side) (k : ℕ) (pre e f own : List Bound) → NotOn k pre → NotOn k f → NotOn k own → values_on s k (pre ++ ((e ++ f) ++ own)) ≡ values_on s k e
alone-on s k pre e f own h i j =
    values_join s k pre ((e ++ f) ++ own) ∙
    ap₂ (λ (xs ys : List Fraction). xs ++ ys) (none_on s k pre h) (values_join s k (e ++ f) own ∙ ap₂ (λ (xs ys : List Fraction). xs ++ ys) (values_join s k e f) (none_on s k own j)) ∙
    append-nil (values_on s k e ++ values_on s k f) ∙ ap (λ (xs : List Fraction). values_on s k e ++ xs) (none_on s k f i) ∙ append-nil (values_on s k e)

regrouped : (pre e f own : List Bound) → (pre ++ e) ++ (f ++ own) ≡ pre ++ ((e ++ f) ++ own)
regrouped pre e f own = append_assoc pre e (f ++ own) ∙ ap (λ (xs : List Bound). pre ++ xs) (sym (append_assoc e f own))

pub each_has_ends : (bound : Option ℕ) (ranges : Ranges) (own : List Bound) (pre : List Bound) (axis : ℕ) (part : Table) → AxesBelow axis pre → AxesBelow axis own →
    EachHasEnds bound ranges (interval_from bound (pre ++ (fresh_bounds ranges axis part ++ own))) axis part
each_has_ends bound ranges own pre axis [] h k = tt
each_has_ends bound ranges own pre axis (entry ∷ rest) h k =
    let e = entry_bounds ranges axis entry.1 in
    let f = fresh_bounds ranges (suc axis) rest in
    let a : NotOn axis pre = below_not_on axis axis pre (omega arith) h in
    let b : NotOn axis f = fresh_not_on ranges axis (suc axis) rest (omega arith) in
    let c : NotOn axis own = below_not_on axis axis own (omega arith) k in (
      ap₂ (interval_of bound) (alone-on lower axis pre e f own a b c ∙ entry-low ranges axis entry.1) (alone-on upper axis pre e f own a b c ∙ entry-high ranges axis entry.1),
      subst (λ (bs : List Bound). EachHasEnds bound ranges (interval_from bound bs) (suc axis) rest) (regrouped pre e f own)
          (each_has_ends bound ranges own (pre ++ e) (suc axis) rest
          (all_join (λ (x : Bound). x.axis < suc axis) pre e (all_weaken (λ (x : Bound). x.axis < axis) (λ (x : Bound). x.axis < suc axis) (λ x l. omega arith) pre h) (entry-axes (λ m. m < suc axis) ranges axis entry.1 (omega arith)))
          (all_weaken (λ (x : Bound). x.axis < axis) (λ (x : Bound). x.axis < suc axis) (λ x l. omega arith) own k)),
    )
