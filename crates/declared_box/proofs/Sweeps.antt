-- What holds while the nodes of a table are visited from the last one down.
use Rattle.std.proofs.Common.{◌≡◌, ◌⊎◌, inl, inr, ℕ, suc, zero, ◌+◌, ◌<◌, List, [], ◌∷◌, ◌++◌, map, length, Bool, true, false, Option, Some, None, refl, ap, sym, ◌∙◌, subst, arith, IsTrue, slice_index_or, slice_set, replicate, take, drop}
use Rattle.std.proofs.lemmas.List.{length-map}
use Rattle.dyadic.specs.Fraction.{Fraction, IsFraction}
use Rattle.script_model.specs.Declared.{Side, Bound, one_side, DeclaredInterval, values_on}
use Rattle.declared_box.specs.Table.{list_at, all_of, node_list, AreBefore, ComesAfter}
use Rattle.declared_box.specs.Interval.{no_interval, interval_at, end_on, is_as_tight, tighter, IsAmong, IsTightest, AreTightest}
use Rattle.declared_box.specs.Sweep.{marked_all, tightened_at, marks_after, intervals_after}
use Rattle.dyadic.specs.Views.{fraction_of_frac}
use Rattle.dyadic.proofs.SizePositive.{size_positive}
use Rattle.declared_box.specs.declared.table.BoundNode.{BoundNode}
use Rattle.declared_box.specs.declared.table.BoundNode.TheVariants.{One, All}
use Rattle.declared_box.specs.declared.interval.Interval.{Interval}
use Rattle.declared_box.specs.Views.{side_of, node_of, interval_of}
use Rattle.declared_box.proofs.Tables.{written_back}
use Rattle.declared_box.proofs.Among.{among_all, all_among, among_below, value_among, bound_at, among_values, none_among}
use Rattle.declared_box.proofs.Changes.{as_tight_through, tighter_than_bound, tighter_than_end, tighter_has, tightened_length, here, same, change, tightened_here}

-- ---- marks

abbrev pub IsMarked : List Bool → ℕ → Type 0
IsMarked marks k = slice_index_or marks k false ≡ true

set-here : (marks : List Bool) (j : ℕ) → j < length marks → IsMarked (slice_set marks j true) j
set-here [] j l = absurd (omega (arith, l))
set-here (m ∷ marks) zero l = refl
set-here (m ∷ marks) (suc j) l = set-here marks j (omega (arith, l))

set-stays : (marks : List Bool) (j k : ℕ) → IsMarked marks k → IsMarked (slice_set marks j true) k
set-stays [] j k h = h
set-stays (m ∷ marks) zero zero h = refl
set-stays (m ∷ marks) zero (suc k) h = h
set-stays (m ∷ marks) (suc j) zero h = h
set-stays (m ∷ marks) (suc j) (suc k) h = set-stays marks j k h

set-why : (marks : List Bool) (j k : ℕ) → IsMarked (slice_set marks j true) k → IsMarked marks k ⊎ (k ≡ j)
set-why [] j k h = inl h
set-why (m ∷ marks) zero zero h = inr refl
set-why (m ∷ marks) zero (suc k) h = inl h
set-why (m ∷ marks) (suc j) zero h = inl h
set-why (m ∷ marks) (suc j) (suc k) h = elim (set-why marks j k h) [ inl e ↦ inl e | inr e ↦ inr (ap suc e) ]

set-length : (marks : List Bool) (j : ℕ) → length (slice_set marks j true) ≡ length marks
set-length [] j = refl
set-length (m ∷ marks) zero = refl
set-length (m ∷ marks) (suc j) = ap suc (set-length marks j)

marked-stays : (marks : List Bool) (parts : List ℕ) (k : ℕ) → IsMarked marks k → IsMarked (marked_all marks parts) k
marked-stays marks [] k h = h
marked-stays marks (j ∷ parts) k h = marked-stays (slice_set marks j true) parts k (set-stays marks j k h)

marked-part : (marks : List Bool) (parts : List ℕ) (k : ℕ) → k < length marks → IsAmong k parts → IsMarked (marked_all marks parts) k
marked-part marks [] k l h = elim h [ ]
marked-part marks (j ∷ parts) k l (inl e) = marked-stays (slice_set marks j true) parts k (subst (λ i. IsMarked (slice_set marks i true) k) e (set-here marks k l))
marked-part marks (j ∷ parts) k l (inr h) = marked-part (slice_set marks j true) parts k (subst (λ n. k < n) (sym (set-length marks j)) l) h

marked-why : (marks : List Bool) (parts : List ℕ) (k : ℕ) → IsMarked (marked_all marks parts) k → IsMarked marks k ⊎ IsAmong k parts
marked-why marks [] k h = inl h
marked-why marks (j ∷ parts) k h = elim (marked-why (slice_set marks j true) parts k h) [
  | inl e ↦ elim (set-why marks j k e) [ inl f ↦ inl f | inr f ↦ inr (inl f) ]
  | inr e ↦ inr (inr e)
]

pub marked_length : (marks : List Bool) (parts : List ℕ) → length (marked_all marks parts) ≡ length marks
marked_length marks [] = refl
marked_length marks (j ∷ parts) = marked_length (slice_set marks j true) parts ∙ set-length marks j

none-marked : (n k : ℕ) → IsMarked (replicate n false) k → ⊥
none-marked zero k h = cc
none-marked (suc n) zero h = cc
none-marked (suc n) (suc k) h = none-marked n k h

-- ---- the state of a sweep

-- the end that the bound asks for, or a tighter one, is there
pub record Covered (intervals : List DeclaredInterval) (b : Bound) : Type 0 where
  pub value : Fraction
  pub is_end : end_on b.side (interval_at intervals b.axis) ≡ Some value
  pub tight : IsTrue (is_as_tight b.side value b.value)

-- the bound is one of a marked node that is still to be visited
pub record Pending (lists : List (List Bound)) (n : ℕ) (marks : List Bool) (b : Bound) : Type 0 where
  pub node : ℕ
  pub below : node < n
  pub marked : IsMarked marks node
  pub among : IsAmong b (list_at lists node)

-- the nodes from number n on were visited
pub record Swept (lists : List (List Bound)) (wanted : List Bound) (axes n : ℕ) (marks : List Bool) (intervals : List DeclaredInterval) : Type 0 where
  pub count : length intervals ≡ axes
  pub fractions : (k : ℕ) (s : Side) (q : Fraction) → end_on s (interval_at intervals k) ≡ Some q → IsFraction q
  pub sound : (k : ℕ) (s : Side) (q : Fraction) → end_on s (interval_at intervals k) ≡ Some q → IsAmong (bound_at k s q) wanted
  pub complete : (b : Bound) → b.axis < axes → IsAmong b wanted → Covered intervals b ⊎ Pending lists n marks b
  pub inside : (k : ℕ) → k < n → IsMarked marks k → (b : Bound) → IsAmong b (list_at lists k) → IsAmong b wanted

some-value : {A : Type 0} (x y : A) → Some x ≡ Some y → x ≡ y
some-value x y h = cc

below-or-last : (k m : ℕ) → k < suc m → (k < m) ⊎ (k ≡ m)
below-or-last zero zero h = inr refl
below-or-last zero (suc m) h = inl (omega arith)
below-or-last (suc k) zero h = absurd (omega (arith, h))
below-or-last (suc k) (suc m) h = elim (below-or-last k m (omega (arith, h))) [ inl e ↦ inl (omega (arith, e)) | inr e ↦ inr (ap suc e) ]

module _ (lists : List (List Bound)) (wanted : List Bound) (axes m : ℕ) (marks : List Bool) (intervals : List DeclaredInterval) (h : Swept lists wanted axes (suc m) marks intervals) where
  -- a node without a mark is passed by
  pub passed_by : slice_index_or marks m false ≡ false → Swept lists wanted axes m marks intervals
  passed_by e = record {
    count = h.count;
    fractions = h.fractions;
    sound = h.sound;
    complete = λ b l w. elim (h.complete b l w) [
      | inl c ↦ inl c
      | inr p ↦ elim (below-or-last p.node m p.below) [
        | inl l ↦ inr (record { node = p.node; below = l; marked = p.marked; among = p.among })
        | inr f ↦ cc
      ]
    ];
    inside = λ k l. h.inside k (omega (arith, l));
  }

  all-inside : (parts : List ℕ) → list_at lists m ≡ all_of lists parts → IsMarked marks m → (k : ℕ) → k < m → IsMarked (marked_all marks parts) k → (b : Bound) → IsAmong b (list_at lists k) → IsAmong b wanted
  all-inside parts e y k l g b a = elim (marked-why marks parts k g) [
    | inl f ↦ h.inside k (omega (arith, l)) f b a
    | inr f ↦ h.inside m (omega arith) y b (subst (IsAmong b) (sym e) (all_among lists parts b k f a))
  ]

  all-complete : (parts : List ℕ) → list_at lists m ≡ all_of lists parts → AreBefore m parts → m < length marks → (b : Bound) → Pending lists (suc m) marks b → Pending lists m (marked_all marks parts) b
  all-complete parts e o n b p = elim (below-or-last p.node m p.below) [
    | inl l ↦ record { node = p.node; below = l; marked = marked-stays marks parts p.node p.marked; among = p.among }
    | inr f ↦ let r = among_all lists parts b (subst (IsAmong b) e (subst (λ i. IsAmong b (list_at lists i)) f p.among)) in
        let l = among_below m parts r.0 o r.1 in
        record { node = r.0; below = l; marked = marked-part marks parts r.0 (omega (arith, l, n)) r.1; among = r.2 }
  ]

  -- the parts of a marked node are marked
  pub all_visited : (parts : List ℕ) → list_at lists m ≡ all_of lists parts → AreBefore m parts → m < length marks → IsMarked marks m → Swept lists wanted axes m (marked_all marks parts) intervals
  all_visited parts e o n y = record {
    count = h.count;
    fractions = h.fractions;
    sound = h.sound;
    complete = λ b l w. elim (h.complete b l w) [ inl c ↦ inl c | inr p ↦ inr (all-complete parts e o n b p) ];
    inside = all-inside parts e y;
  }

  module _ (a : ℕ) (s : Side) (v : Fraction) (f : IsFraction v) (e : list_at lists m ≡ one_side s a v) (y : IsMarked marks m) where
    -- what the bound and the old end have, the new end has
    new-has : (P : ℕ → Side → Fraction → Type 0) → P a s v → ((k : ℕ) (t : Side) (q : Fraction) → end_on t (interval_at intervals k) ≡ Some q → P k t q) →
        (k : ℕ) (t : Side) (q : Fraction) → end_on t (interval_at (tightened_at a s v intervals) k) ≡ Some q → P k t q
    new-has P p g k t q w = elim (change a s v intervals k t) [
      | here i j x ↦ subst (P k t) (some-value _ q (sym x ∙ w)) (tighter_has (P k t) t (end_on t (interval_at intervals k)) v (subst (λ z. P z t v) (sym i) (subst (λ z. P a z v) (sym j) p)) (g k t))
      | same x ↦ g k t q (sym x ∙ w)
    ]

    covered-more : (b : Bound) → Covered intervals b → Covered (tightened_at a s v intervals) b
    covered-more b c = elim (change a s v intervals b.axis b.side) [
      | here i j x ↦ record {
        value = tighter b.side (Some c.value) v;
        is_end = x ∙ ap (λ o. Some (tighter b.side o v)) c.is_end;
        tight = as_tight_through b.side (tighter b.side (Some c.value) v) c.value b.value (h.fractions b.axis b.side c.value c.is_end) (tighter_than_end b.side c.value v) c.tight;
      }
      | same x ↦ record { value = c.value; is_end = x ∙ c.is_end; tight = c.tight }
    ]

    covered-here : a < axes → Covered (tightened_at a s v intervals) (bound_at a s v)
    covered-here l = record {
      value = tighter s (end_on s (interval_at intervals a)) v;
      is_end = tightened_here a s v intervals (subst (λ n. a < n) (sym h.count) l);
      tight = tighter_than_bound s (end_on s (interval_at intervals a)) v;
    }

    one-complete : (b : Bound) → b.axis < axes → Pending lists (suc m) marks b → Covered (tightened_at a s v intervals) b ⊎ Pending lists m marks b
    one-complete b l p = elim (below-or-last p.node m p.below) [
      | inl k ↦ inr (record { node = p.node; below = k; marked = p.marked; among = p.among })
      | inr g ↦ let r = subst (IsAmong b) e (subst (λ i. IsAmong b (list_at lists i)) g p.among) in
          elim r [
            | inl i ↦ inl (subst (Covered (tightened_at a s v intervals)) (sym i) (covered-here (subst (λ (x : Bound). x.axis < axes) i l)))
            | inr i ↦ elim i [ ]
          ]
    ]

    -- the bound of a marked node counts
    pub one_visited : Swept lists wanted axes m marks (tightened_at a s v intervals)
    one_visited = record {
      count = tightened_length a s v intervals ∙ h.count;
      fractions = new-has (λ k t q. IsFraction q) f h.fractions;
      sound = new-has (λ k t q. IsAmong (bound_at k t q) wanted) (h.inside m (omega arith) y (bound_at a s v) (subst (IsAmong (bound_at a s v)) (sym e) (inl refl))) h.sound;
      complete = λ b l w. elim (h.complete b l w) [ inl c ↦ inl (covered-more b c) | inr p ↦ one-complete b l p ];
      inside = λ k l. h.inside k (omega (arith, l));
    }

-- ---- the start, and the end

no-end : (n k : ℕ) (s : Side) (q : Fraction) → end_on s (interval_at (replicate n no_interval) k) ≡ Some q → ⊥
no-end n k s q h = no-end-of s q (subst (λ i. end_on s i ≡ Some q) (none n k) h)
  where
    none : (n k : ℕ) → interval_at (replicate n no_interval) k ≡ no_interval
    none zero k = refl
    none (suc n) zero = refl
    none (suc n) (suc k) = none n k

    no-end-of : (s : Side) (q : Fraction) → end_on s no_interval ≡ Some q → ⊥
    no-end-of Side.lower q h = cc
    no-end-of Side.upper q h = cc

many : {A : Type 0} (n : ℕ) (x : A) → length (replicate n x) ≡ n
many zero x = refl
many (suc n) x = ap suc (many n x)

pub started : (lists : List (List Bound)) (roots : List ℕ) (axes n : ℕ) → AreBefore n roots → Swept lists (all_of lists roots) axes n (marked_all (replicate n false) roots) (replicate axes no_interval)
started lists roots axes n o = record {
  count = many axes no_interval;
  fractions = λ k s q h. absurd (no-end axes k s q h);
  sound = λ k s q h. absurd (no-end axes k s q h);
  complete = λ b l w. let r = among_all lists roots b w in let k = among_below n roots r.0 o r.1 in
      inr (record { node = r.0; below = k; marked = marked-part (replicate n false) roots r.0 (subst (λ i. r.0 < i) (sym (many n false)) k) r.1; among = r.2 });
  inside = λ k l g b a. elim (marked-why (replicate n false) roots k g) [
    | inl f ↦ absurd (none-marked n k f)
    | inr f ↦ all_among lists roots b k f a
  ];
}

module _ (lists : List (List Bound)) (wanted : List Bound) (axes : ℕ) (marks : List Bool) (intervals : List DeclaredInterval) (h : Swept lists wanted axes 0 marks intervals) where
  covered : (b : Bound) → b.axis < axes → IsAmong b wanted → Covered intervals b
  covered b l w = elim (h.complete b l w) [ inl c ↦ c | inr p ↦ absurd (omega (arith, p.below)) ]

  tightest-on : (k : ℕ) (s : Side) → k < axes → (o : Option Fraction) → end_on s (interval_at intervals k) ≡ o → IsTightest s (values_on s k wanted) o
  tightest-on k s l None e = none_among (values_on s k wanted) (λ q w. let c = covered (bound_at k s q) l (among_values k s q wanted w) in absurd (let g = sym c.is_end ∙ e in cc))
  tightest-on k s l (Some q) e = (
    value_among (bound_at k s q) wanted (h.sound k s q e),
    λ r w. let c = covered (bound_at k s r) l (among_values k s r wanted w) in
        subst (λ x. IsTrue (is_as_tight s x r)) (some-value c.value q (sym c.is_end ∙ e)) c.tight,
  )

  pub finished : AreTightest wanted axes intervals
  finished = (h.count, λ k s l. tightest-on k s l (end_on s (interval_at intervals k)) refl)

-- a marked node is visited
pub visited : (lists : List (List Bound)) (wanted : List Bound) (axes m : ℕ) (marks : List Bool) (intervals : List DeclaredInterval) (x : BoundNode) → Swept lists wanted axes (suc m) marks intervals →
    (list_at lists m ≡ node_list lists (node_of x)) × ComesAfter m (node_of x) → m < length marks → IsMarked marks m → Swept lists wanted axes m (marks_after (node_of x) marks) (intervals_after (node_of x) intervals)
visited lists wanted axes m marks intervals (One a s v) h e n y = one_visited lists wanted axes m marks intervals h a (side_of s) (fraction_of_frac v) (size_positive v.d v.lowest.positive) e.0 y
visited lists wanted axes m marks intervals (All parts) h e n y = all_visited lists wanted axes m marks intervals h parts.items e.0 e.1 n y

pub visited_length : (x : BoundNode) (marks : List Bool) → length (marks_after (node_of x) marks) ≡ length marks
visited_length (One a s v) marks = refl
visited_length (All parts) marks = marked_length marks parts.items

visited_intervals_length : (x : BoundNode) (intervals : List DeclaredInterval) → length (intervals_after (node_of x) intervals) ≡ length intervals
visited_intervals_length (One a s v) intervals = tightened_length a (side_of s) (fraction_of_frac v) intervals
visited_intervals_length (All parts) intervals = refl

-- ---- what the code reads and makes

pub one_more : {A B : Type 0} (f : A → B) (xs : List A) (x : A) (n : ℕ) (y : B) → map f xs ≡ replicate n y → f x ≡ y → map f (xs ++ (x ∷ [])) ≡ replicate (n + 1) y
one_more f [] x zero y h e = ap (λ z. z ∷ []) e
one_more f [] x (suc n) y h e = cc
one_more f (z ∷ xs) x zero y h e = cc
one_more {A} {B} f (z ∷ xs) x (suc n) y h e = let tail : map f xs ≡ replicate n y = ap (λ (ys : List B). drop 1 ys) h in let head : f z ≡ y = cc in let count : suc (n + 1) ≡ suc n + 1 = omega arith in
    subst (λ k. map f (z ∷ (xs ++ (x ∷ []))) ≡ replicate k y) count (ap (λ ys. f z ∷ ys) (one_more f xs x n y tail e) ∙ ap (λ w. w ∷ replicate (n + 1) y) head)

pub read_mark : (marks : List Bool) (k : ℕ) (x y : Bool) → k < length marks → x ≡ slice_index_or marks k x → x ≡ y → slice_index_or marks k false ≡ y
read_mark [] k x y l h e = absurd (omega (arith, l))
read_mark (m ∷ marks) zero x y l h e = sym h ∙ e
read_mark (m ∷ marks) (suc k) x y l h e = read_mark marks k x y (omega (arith, l)) h e

pub swept_down_to : (lists : List (List Bound)) (wanted : List Bound) (axes m n : ℕ) (marks : List Bool) (intervals : List DeclaredInterval) → m ≡ n → Swept lists wanted axes m marks intervals → Swept lists wanted axes n marks intervals
swept_down_to lists wanted axes m n marks intervals e h = subst (λ k. Swept lists wanted axes k marks intervals) e h

pub started_length : (marks : List Bool) (roots : List ℕ) (n : ℕ) → marks ≡ marked_all (replicate n false) roots → length marks ≡ n
started_length marks roots n e = ap length e ∙ marked_length (replicate n false) roots ∙ many n false

-- the marks and ends that a visit writes back
pub written : (lists : List (List Bound)) (wanted : List Bound) (axes m count mark_count interval_count : ℕ) (x : BoundNode) (marks visited_marks : List Bool) (intervals visited_intervals : List Interval) →
    Swept lists wanted axes (suc m) marks (map interval_of intervals) → (list_at lists m ≡ node_list lists (node_of x)) × ComesAfter m (node_of x) → m < length marks → IsMarked marks m → length marks ≡ count →
    mark_count ≡ length marks → interval_count ≡ length intervals → visited_marks ≡ marks_after (node_of x) marks → map interval_of visited_intervals ≡ intervals_after (node_of x) (map interval_of intervals) →
    (length (take mark_count (visited_marks ++ drop (length visited_marks) marks)) ≡ count) ×
    Swept lists wanted axes m (take mark_count (visited_marks ++ drop (length visited_marks) marks)) (map interval_of (take interval_count (visited_intervals ++ drop (length visited_intervals) intervals)))
written lists wanted axes m count mark_count interval_count x marks visited_marks intervals visited_intervals h e l y n i j f g =
    let same_marks : length visited_marks ≡ length marks = ap length f ∙ visited_length x marks in
    let same_intervals : length visited_intervals ≡ length intervals = sym (length-map visited_intervals interval_of) ∙ ap length g ∙ visited_intervals_length x (map interval_of intervals) ∙ length-map intervals interval_of in
    let back_marks = written_back visited_marks marks mark_count (i ∙ sym same_marks) in
    let back_intervals = written_back visited_intervals intervals interval_count (j ∙ sym same_intervals) in (
      ap length back_marks ∙ same_marks ∙ n,
      subst (λ is. Swept lists wanted axes m (take mark_count (visited_marks ++ drop (length visited_marks) marks)) is) (sym (ap (map interval_of) back_intervals ∙ g))
          (subst (λ ms. Swept lists wanted axes m ms (intervals_after (node_of x) (map interval_of intervals))) (sym (back_marks ∙ f)) (visited lists wanted axes m marks (map interval_of intervals) x h e l y)),
    )
