-- The pass upwards from the axes that changed.
use Rattle.std.proofs.Common.{◌≡◌, ◌≢◌, ℕ, suc, zero, ◌+◌, ◌<◌, ◌≤◌, List, [], ◌∷◌, ◌++◌, length, length-append, set, get_or, get_or-set_other, get_or-set_same, Bool, true, false, cond, ◌||◌, IsTrue, Some, inl, inr, refl, ap, ap₂, sym, subst, ◌∙◌, arith, nat_eq, nat_lt, eqb-true, eq-eqb, ltb→lt}
use Rattle.std.proofs.lemmas.Bool.{cases_eq, cases_lt}
use Rattle.std.proofs.lemmas.List.{length-set, get_or_append_left, get_or-append-add}
use Rattle.std.specs.Prelude.{slice_get}
use Rattle.std.specs.Bool.{passes}
use Rattle.interval_model.specs.Interval.{Interval, nothing, interval_negated, interval_sum, interval_product, interval_square}
use Rattle.interval_model.specs.Space.{Space}
use Rattle.dyadic.proofs.Equal.{both_true}
use Rattle.poly_graph.specs.Term.{Node, constant_node, variable_node, negate_node, add_node, multiply_node, square_node, comes_after, in_order, has_child}
use Rattle.poly_graph.specs.Parents.{parents_from}
use Rattle.cover_model.specs.Narrowed.{enclosures}
use Rattle.cover_model.specs.NodeEnclosure.{row, node_enclosure}
use Rattle.cover_model.proofs.NodeEnclosures.{comes_at, next_row, all_rows, length_enclosures}
use Rattle.ival.specs.declared.row_parts.Rows.{Rows}
use Rattle.ival.specs.RowViews.{rows_of, marks_of, is_marked, NoneAbove, IsNextAbove}
use Rattle.plain_eval.specs.Renewed.{AreKept, IsRenewed}
use Rattle.plain_eval.specs.Settled.{IsCalm, IsSettled, Begun}
use Rattle.plain_eval.specs.Upward.{AreVariables, with_node}
use Rattle.plain_eval.proofs.Sweeping.{some_node}

pub node_inside : (nodes : List Node) (k : ℕ) (n : Node) → slice_get nodes k ≡ Some n → k < length nodes
node_inside [] k n h = cc
node_inside (m ∷ nodes) zero n h = omega arith
node_inside (m ∷ nodes) (suc k) n h = let r = node_inside nodes k n h in omega (arith, r)

-- ---- variables by number

one-more : (nodes : List Node) (n : ℕ) (axis : ℕ) (vs : List ℕ) → AreVariables nodes n vs → AreVariables nodes (n + 1) (vs ++ (n ∷ []))
one-more nodes n axis vs a = record {
  inside = λ i h. elim (cases_lt i (length vs)) [
    | inl l ↦ let e = get_or_append_left vs (n ∷ []) 0 i l in let b = a.inside i l in omega (arith, e, b)
    | inr m ↦ let here : i ≡ length vs + 0 = omega (arith, m, h, length-append vs (n ∷ [])) in
        let e : get_or (vs ++ (n ∷ [])) i 0 ≡ n = ap (λ (j : ℕ). get_or (vs ++ (n ∷ [])) j 0) here ∙ get_or-append-add vs (n ∷ []) 0 0 in omega (arith, e)
  ];
  all = λ k x h e. elim (cases_lt k n) [
    | inl l ↦ let f = a.all k x l e in (f.0, omega (arith, f.1, length-append vs (n ∷ [])), get_or_append_left vs (n ∷ []) 0 f.0 f.1 ∙ f.2)
    | inr m ↦ let same : n ≡ k = omega arith in
        let there : get_or (vs ++ (n ∷ [])) (length vs) 0 ≡ n = ap (λ (j : ℕ). get_or (vs ++ (n ∷ [])) j 0) (let z : length vs ≡ length vs + 0 = omega arith in z) ∙ get_or-append-add vs (n ∷ []) 0 0 in
        (length vs, omega (arith, length-append vs (n ∷ [])), there ∙ same)
  ];
}

no-more : (nodes : List Node) (n : ℕ) (p : Node) (vs : List ℕ) → slice_get nodes n ≡ Some p → ((axis : ℕ) → p ≡ variable_node axis → ⊥) → AreVariables nodes n vs → AreVariables nodes (n + 1) vs
no-more nodes n p vs e f a = record {
  inside = λ i h. let b = a.inside i h in omega (arith, b);
  all = λ k x h g. elim (cases_lt k n) [
    | inl l ↦ a.all k x l g
    | inr m ↦ let same : n ≡ k = omega arith in
        let here : slice_get nodes n ≡ Some (variable_node x) = subst (λ (j : ℕ). slice_get nodes j ≡ Some (variable_node x)) (sym same) g in
        let is : p ≡ variable_node x = cc in absurd (f x is)
  ];
}

pub noted : (nodes : List Node) (n : ℕ) (p : Node) (vs : List ℕ) → slice_get nodes n ≡ Some p → AreVariables nodes n vs → AreVariables nodes (n + 1) (with_node p n vs)
noted nodes n (variable_node axis) vs e a = one-more nodes n axis vs a
noted nodes n (constant_node q) vs e a = no-more nodes n (constant_node q) vs e (λ x h. cc) a
noted nodes n (negate_node b) vs e a = no-more nodes n (negate_node b) vs e (λ x h. cc) a
noted nodes n (add_node b d) vs e a = no-more nodes n (add_node b d) vs e (λ x h. cc) a
noted nodes n (multiply_node b d) vs e a = no-more nodes n (multiply_node b d) vs e (λ x h. cc) a
noted nodes n (square_node b) vs e a = no-more nodes n (square_node b) vs e (λ x h. cc) a

-- ---- parents by number

pub parents_inside : (s k : ℕ) (nodes : List Node) (i d : ℕ) → i < length (parents_from s k nodes) → get_or (parents_from s k nodes) i d < k + length nodes
parents_inside s k [] i d h = absurd (omega arith)
parents_inside s k (n ∷ nodes) i d h = go (has_child s n) (λ j l. parents_inside s (suc k) nodes j d l) i h
  where
    go : (t : Bool) → ((j : ℕ) → j < length (parents_from s (suc k) nodes) → get_or (parents_from s (suc k) nodes) j d < suc k + length nodes) → (j : ℕ) →
        j < length (cond t (k ∷ parents_from s (suc k) nodes) (parents_from s (suc k) nodes)) → get_or (cond t (k ∷ parents_from s (suc k) nodes) (parents_from s (suc k) nodes)) j d < k + suc (length nodes)
    go true f zero l = omega arith
    go true f (suc j) l = let r = f j (omega arith) in omega (arith, r)
    go false f j l = let r = f j l in omega (arith, r)

pub parent_listed : (s k : ℕ) (nodes : List Node) (j : ℕ) (p : Node) → slice_get nodes j ≡ Some p → has_child s p ≡ true →
    (i : ℕ) × (i < length (parents_from s k nodes)) × (get_or (parents_from s k nodes) i 0 ≡ k + j)
parent_listed s k [] j p h c = cc
parent_listed s k (n ∷ nodes) zero p h c =
    let same : n ≡ p = cc in
    subst (λ (t : Bool). (i : ℕ) × (i < length (cond t (k ∷ parents_from s (suc k) nodes) (parents_from s (suc k) nodes))) × (get_or (cond t (k ∷ parents_from s (suc k) nodes) (parents_from s (suc k) nodes)) i 0 ≡ k + 0))
    (sym (ap (has_child s) same ∙ c)) (0, omega arith, omega arith)
parent_listed s k (n ∷ nodes) (suc j) p h c = let r = parent_listed s (suc k) nodes j p h c in go (has_child s n) r.0 r.1 r.2
  where
    go : (t : Bool) (i : ℕ) → i < length (parents_from s (suc k) nodes) → get_or (parents_from s (suc k) nodes) i 0 ≡ suc k + j →
        (i : ℕ) × (i < length (cond t (k ∷ parents_from s (suc k) nodes) (parents_from s (suc k) nodes))) × (get_or (cond t (k ∷ parents_from s (suc k) nodes) (parents_from s (suc k) nodes)) i 0 ≡ k + suc j)
    go true i l e = (suc i, omega arith, e ∙ omega arith)
    go false i l e = (i, l, e ∙ omega arith)

-- one more mark
pub marked_more : (marks marks' : List Bool) (x : ℕ) → marks' ≡ set marks x true → x < length marks →
    ((k : ℕ) → is_marked marks' k ≡ false → is_marked marks k ≡ false) × (is_marked marks' x ≡ true) × ((k : ℕ) → is_marked marks k ≡ true → is_marked marks' k ≡ true)
marked_more marks marks' x e l =
    let here : is_marked marks' x ≡ true = ap (λ (ms : List Bool). is_marked ms x) e ∙ get_or-set_same marks x true false l in
    let other : (k : ℕ) → k ≢ x → is_marked marks' k ≡ is_marked marks k = λ k o. ap (λ (ms : List Bool). is_marked ms k) e ∙ get_or-set_other marks x k true false o in (
      λ k h. elim (cases_eq k x) [
        | inl same ↦ let t : is_marked marks' k ≡ true = subst (λ (y : ℕ). is_marked marks' y ≡ true) (sym same) here in cc
        | inr o ↦ sym (other k o) ∙ h
      ],
      here,
      λ k h. elim (cases_eq k x) [
        | inl same ↦ subst (λ (y : ℕ). is_marked marks' y ≡ true) (sym same) here
        | inr o ↦ other k o ∙ h
      ],
    )

-- ---- children

or-right : (t u : Bool) → u ≡ true → (t || u) ≡ true
or-right true u h = refl
or-right false u h = h

or-cases : (t u : Bool) → (t || u) ≡ true → (t ≡ false → u ≡ true)
or-cases true u h e = cc
or-cases false u h e = h

-- the rows of its children alone decide a node's enclosure
same-children : (space : Space) (es es' : List Interval) (n : Node) → ((c : ℕ) → has_child c n ≡ true → row es c ≡ row es' c) → node_enclosure space es n ≡ node_enclosure space es' n
same-children space es es' (constant_node q) f = refl
same-children space es es' (variable_node a) f = refl
same-children space es es' (negate_node a) f = ap interval_negated (f a (eq-eqb a a refl))
same-children space es es' (add_node a c) f =
    ap₂ interval_sum (f a (ap (λ (t : Bool). t || nat_eq c a) (eq-eqb a a refl))) (f c (or-right (nat_eq a c) (nat_eq c c) (eq-eqb c c refl)))
same-children space es es' (multiply_node a c) f =
    ap₂ interval_product (f a (ap (λ (t : Bool). t || nat_eq c a) (eq-eqb a a refl))) (f c (or-right (nat_eq a c) (nat_eq c c) (eq-eqb c c refl)))
same-children space es es' (square_node a) f = ap interval_square (f a (eq-eqb a a refl))

-- and the space, where it is a variable
other-space : (was space : Space) (es : List Interval) (n : Node) → ((axis : ℕ) → n ≡ variable_node axis → ⊥) → node_enclosure was es n ≡ node_enclosure space es n
other-space was space es (constant_node q) f = refl
other-space was space es (variable_node a) f = absurd (f a refl)
other-space was space es (negate_node a) f = refl
other-space was space es (add_node a c) f = refl
other-space was space es (multiply_node a c) f = refl
other-space was space es (square_node a) f = refl

below : (a c k : ℕ) → nat_eq a c ≡ true → IsTrue (nat_lt a k) → c < k
below a c k h o = let e = eqb-true a c h in let l = ltb→lt a k (passes _ o) in omega (arith, e, l)

child-of-two : (a b c k : ℕ) → (nat_eq a c || nat_eq b c) ≡ true → IsTrue (nat_lt a k) → IsTrue (nat_lt b k) → c < k
child-of-two a b c k h o p = go (nat_eq a c) refl
  where
    go : (t : Bool) → nat_eq a c ≡ t → c < k
    go true e = below a c k e o
    go false e = below b c k (or-cases (nat_eq a c) (nat_eq b c) h e) p

child-below : (c k : ℕ) (n : Node) → IsTrue (comes_after k n) → has_child c n ≡ true → c < k
child-below c k (constant_node q) o h = cc
child-below c k (variable_node a) o h = cc
child-below c k (negate_node a) o h = below a c k h o
child-below c k (add_node a b) o h = let e = both_true (nat_lt a k) (nat_lt b k) o in child-of-two a b c k h e.0 e.1
child-below c k (multiply_node a b) o h = let e = both_true (nat_lt a k) (nat_lt b k) o in child-of-two a b c k h e.0 e.1
child-below c k (square_node a) o h = below a c k h o

-- ---- one node is enclosed again

module _ (nodes : List Node) (ordered : IsTrue (in_order 0 nodes)) (space : Space) where
  -- node n, which is m
  module _ (n : ℕ) (m : Node) (at : slice_get nodes n ≡ Some m) (old new : Rows) (count : length (rows_of old) ≡ length nodes) (r : IsRenewed nodes space n m old new) where
    value-at : row (rows_of new) n ≡ node_enclosure space (rows_of old) m
    value-at = ap (λ (xs : List Interval). row xs n) r.rows ∙ get_or-set_same (rows_of old) n (node_enclosure space (rows_of old) m) nothing (omega (arith, count, node_inside nodes n m at))

    other-at : (k : ℕ) → k ≢ n → row (rows_of new) k ≡ row (rows_of old) k
    other-at k o = ap (λ (xs : List Interval). row xs k) r.rows ∙ get_or-set_other (rows_of old) n k (node_enclosure space (rows_of old) m) nothing o

    pub renewed_count : length (rows_of new) ≡ length nodes
    renewed_count = ap length r.rows ∙ length-set (rows_of old) n (node_enclosure space (rows_of old) m) ∙ count

    pub renewed_calm : (k : ℕ) (p : Node) → IsCalm new k p → IsCalm old k p
    renewed_calm k p h = λ c j. r.marks k (h c j)

    pub renewed_kept : (start : Rows) → AreKept start old → AreKept start new
    renewed_kept start f k h = elim (cases_eq k n) [
      | inl same ↦ let unmarked : is_marked (marks_of new) n ≡ false = subst (λ (x : ℕ). is_marked (marks_of new) x ≡ false) same h in
          subst (λ (x : ℕ). row (rows_of new) x ≡ row (rows_of start) x) (sym same) (value-at ∙ sym (r.here unmarked) ∙ f n (r.marks n unmarked))
      | inr o ↦ other-at k o ∙ f k (r.marks k h)
    ]

    -- it is settled
    pub settled_here : IsSettled space new n m
    settled_here = value-at ∙ same-children space (rows_of old) (rows_of new) m
        (λ c h. sym (other-at c (λ e. let l = child-below c n m (comes_at nodes ordered n m at) h in omega (arith, l, e))))

    -- and another node stays so, if the row of its child n stays
    pub settled_there : (k : ℕ) (p : Node) → k ≢ n → (has_child n p ≡ true → row (rows_of old) n ≡ node_enclosure space (rows_of old) m) → IsSettled space old k p → IsSettled space new k p
    settled_there k p o f h =
        other-at k o ∙ h ∙ same-children space (rows_of old) (rows_of new) p (λ c j. elim (cases_eq c n) [
          | inl same ↦ let child : has_child n p ≡ true = subst (λ (x : ℕ). has_child x p ≡ true) same j in
              subst (λ (x : ℕ). row (rows_of old) x ≡ row (rows_of new) x) (sym same) (f child ∙ sym value-at)
          | inr apart ↦ sym (other-at c apart)
        ])

    pub settled_calm : (k : ℕ) (p : Node) → slice_get nodes k ≡ Some p → k ≢ n → IsCalm new k p → IsSettled space old k p → IsSettled space new k p
    settled_calm k p e o calm h = settled_there k p o (λ j. r.parents k p e j (calm n j)) h

  same-node : (k : ℕ) (m p : Node) → slice_get nodes k ≡ Some m → slice_get nodes k ≡ Some p → m ≡ p
  same-node k m p e f = cc

  -- ---- the variables, one after the other

  abbrev pub IsSeen : List ℕ → ℕ → ℕ → Node → Type 0
  IsSeen vs i k p = (axis : ℕ) → p ≡ variable_node axis → (j : ℕ) × (j < i) × (get_or vs j 0 ≡ k)

  -- the first i of them are enclosed again
  pub record Starting (vs : List ℕ) (i : ℕ) (r : Rows) : Type 0 where
    pub count : length (rows_of r) ≡ length nodes
    pub settled : (k : ℕ) (p : Node) → slice_get nodes k ≡ Some p → IsCalm r k p → IsSeen vs i k p → IsSettled space r k p

  pub starting : (was : Space) (vs : List ℕ) (r : Rows) → rows_of r ≡ enclosures was nodes → Starting vs 0 r
  starting was vs r e = record {
    count = ap length e ∙ length_enclosures was nodes;
    settled = λ k p g calm seen.
        ap (λ (xs : List Interval). row xs k) e ∙ sym (next_row was nodes ordered (enclosures was nodes) k p g (λ i h. refl))
        ∙ other-space was space (enclosures was nodes) p (λ axis z. let s = seen axis z in absurd (omega (arith, s.1)))
        ∙ ap (λ (xs : List Interval). node_enclosure space xs p) (sym e);
  }

  pub starting_next : (vs : List ℕ) (i n : ℕ) (m : Node) (old new : Rows) → Starting vs i old → get_or vs i 0 ≡ n → slice_get nodes n ≡ Some m → IsRenewed nodes space n m old new → Starting vs (i + 1) new
  starting_next vs i n m old new w v at r = record {
    count = renewed_count n m at old new w.count r;
    settled = λ k p e calm seen. elim (cases_eq k n) [
      | inl same ↦ let here : slice_get nodes n ≡ Some p = subst (λ (x : ℕ). slice_get nodes x ≡ Some p) same e in
          let is : m ≡ p = same-node n m p at here in
          subst (λ (x : ℕ). IsSettled space new x p) (sym same) (subst (λ (q : Node). IsSettled space new n q) is (settled_here n m at old new w.count r))
      | inr o ↦ settled_calm n m at old new w.count r k p e o calm (w.settled k p e (renewed_calm n m at old new w.count r k p calm)
          (λ axis z. let s = seen axis z in elim (cases_lt s.0 i) [
            | inl l ↦ (s.0, l, s.2)
            | inr h ↦ let last : i ≡ s.0 = omega (arith, h, s.1) in absurd (o (sym s.2 ∙ ap (λ (j : ℕ). get_or vs j 0) (sym last) ∙ v))
          ]))
    ];
  }

  pub begun : (vs : List ℕ) (i : ℕ) (r : Rows) → AreVariables nodes (length nodes) vs → length vs ≤ i → Starting vs i r → Begun nodes space r
  begun vs i r a l w = record {
    count = w.count;
    settled = λ k p e calm. w.settled k p e calm (λ axis z.
        let f = a.all k axis (node_inside nodes k p e) (e ∙ ap (λ (q : Node). Some q) z) in (f.0, omega (arith, f.1, l), f.2));
  }

  -- ---- the nodes above them

  -- those up to this place are settled, and all others that are not marked
  pub record Rising (place : ℕ) (r : Rows) : Type 0 where
    pub inside : place < length nodes
    pub begun : Begun nodes space r
    pub done : (k : ℕ) (p : Node) → k ≤ place → slice_get nodes k ≡ Some p → IsSettled space r k p

  pub rising : (r : Rows) → 0 < length nodes → Begun nodes space r → Rising 0 r
  rising r l b = record {
    inside = l;
    begun = b;
    done = λ k p h e. b.settled k p e (λ c j. let z = child-below c k p (comes_at nodes ordered k p e) j in absurd (omega (arith, h, z)));
  }

  settled-before : (place n : ℕ) (r : Rows) → Rising place r → ((k : ℕ) → place < k → k < n → is_marked (marks_of r) k ≡ false) → (k : ℕ) (p : Node) → k < n → slice_get nodes k ≡ Some p → IsSettled space r k p
  settled-before place n r w none k p h e = elim (cases_lt place k) [
    | inl more ↦ w.begun.settled k p e (λ c j. none k more h)
    | inr not_more ↦ w.done k p not_more e
  ]

  pub rising_next : (place n : ℕ) (m : Node) (old new : Rows) → Rising place old → IsNextAbove (marks_of old) place n → slice_get nodes n ≡ Some m → IsRenewed nodes space n m old new → Rising n new
  rising_next place n m old new w next at r =
      let count = w.begun.count in
      let here : (k : ℕ) (p : Node) → k ≡ n → slice_get nodes k ≡ Some p → IsSettled space new k p = λ k p same e.
      (let there : slice_get nodes n ≡ Some p = subst (λ (x : ℕ). slice_get nodes x ≡ Some p) same e in
      let is : m ≡ p = same-node n m p at there in
      subst (λ (x : ℕ). IsSettled space new x p) (sym same) (subst (λ (q : Node). IsSettled space new n q) is (settled_here n m at old new count r))) in
      let before = settled-before place n old w next.between in
      record {
        inside = node_inside nodes n m at;
        begun = record {
          count = renewed_count n m at old new count r;
          settled = λ k p e calm. elim (cases_eq k n) [
            | inl same ↦ here k p same e
            | inr o ↦ settled_calm n m at old new count r k p e o calm (w.begun.settled k p e (renewed_calm n m at old new count r k p calm))
          ];
        };
        done = λ k p h e. elim (cases_eq k n) [
          | inl same ↦ here k p same e
          | inr o ↦ settled_there n m at old new count r k p o
              (λ j. let l = child-below n k p (comes_at nodes ordered k p e) j in absurd (omega (arith, l, h))) (before k p (omega (arith, h, o)) e)
        ];
      }

  -- ---- all nodes are settled

  settled-rows : (r : Rows) → ((k : ℕ) (p : Node) → slice_get nodes k ≡ Some p → IsSettled space r k p) → (d k : ℕ) → k < d → k < length nodes → row (rows_of r) k ≡ row (enclosures space nodes) k
  settled-rows r f zero k h l = absurd (omega arith)
  settled-rows r f (suc d) k h l = let p = some_node nodes k l in
      f k p.0 p.1 ∙ next_row space nodes ordered (rows_of r) k p.0 p.1 (λ i j. settled-rows r f d i (omega arith) (omega arith))

  pub risen : (place : ℕ) (r : Rows) → Rising place r → NoneAbove (marks_of r) place → rows_of r ≡ enclosures space nodes
  risen place r w none =
      all_rows space nodes (rows_of r) w.begun.count
      (λ k h. settled-rows r (λ i p e. settled-before place (length nodes) r w (λ j a b. none j a) i p (node_inside nodes i p e) e) (length nodes) k h h)
