-- The sweep from the root down, over the nodes that have an interval.
use Rattle.std.proofs.Common.{◌≡◌, ◌≢◌, ℕ, zero, suc, ◌+◌, ◌-◌, ◌<◌, ◌≤◌, List, [], ◌∷◌, length, get_or, drop, Bool, IsTrue, true, false, cond, nat_eq, eqb-true, eq-eqb, Option, Some, None, inl, inr, refl, ap, ap₂, sym, subst, ◌∙◌, arith}
use Rattle.std.proofs.lemmas.Bool.{cases_eq, cases_lt}
use Rattle.std.proofs.lemmas.List.{get_or_past, ext_get_or}
use Rattle.std.specs.Prelude.{slice_get}
use Rattle.interval_model.specs.Interval.{Interval, nothing, between, IsProper, met, is_nothing}
use Rattle.interval_model.specs.Space.{Space}
use Rattle.poly_graph.specs.Term.{Node, comes_after, has_child, in_order}
use Rattle.cover_model.specs.Narrowed.{enclosures, left_by, with_parent, from_parents, own, narrowed, some_empty}
use Rattle.cover_model.specs.NodeEnclosure.{row}
use Rattle.cover_model.proofs.NarrowedAt.{length_narrowed, narrowed_at, parents_step}
use Rattle.cover_model.proofs.NodeEnclosures.{comes_at}
use Rattle.cover_model.proofs.Unnarrowed.{enclosed_at}
use Rattle.ival.specs.declared.row_parts.Rows.{Rows}
use Rattle.ival.specs.RowViews.{rows_of}
use Rattle.ival.specs.Options.{option_at, options_of}
use Rattle.ival.proofs.Optional.{drop_all, length_options}
use Rattle.plain_eval.specs.Leaving.{left_more, left_more_by, left_all, left_all_by, IsLeftBy}
use Rattle.plain_eval.proofs.Leaves.{more_own, all_is_left, no_child}

pub some_node : (nodes : List Node) (k : ℕ) → k < length nodes → (n : Node) × (slice_get nodes k ≡ Some n)
some_node [] k h = absurd (omega arith)
some_node (n ∷ nodes) zero h = (n, refl)
some_node (n ∷ nodes) (suc k) h = some_node nodes k (omega arith)

unlike : (a b : ℕ) → a ≢ b → nat_eq a b ≡ false
unlike a b h = go (nat_eq a b) refl
  where
    go : (t : Bool) → nat_eq a b ≡ t → t ≡ false
    go true e = absurd (h (eqb-true a b e))
    go false e = refl

-- ---- emptiness

pub empty_at : (ns : List (Option Interval)) (k : ℕ) → get_or ns k None ≡ Some nothing → some_empty ns ≡ true
empty_at [] k h = cc
empty_at (o ∷ ns) zero h = ap (λ (x : Option Interval). some_empty (x ∷ ns)) h
empty_at (None ∷ ns) (suc k) h = empty_at ns k h
empty_at (Some nothing ∷ ns) (suc k) h = refl
empty_at (Some (between l u) ∷ ns) (suc k) h = empty_at ns k h

pub none_empty : (ns : List (Option Interval)) → ((k : ℕ) → get_or ns k None ≡ Some nothing → ⊥) → some_empty ns ≡ false
none_empty [] f = refl
none_empty (None ∷ ns) f = none_empty ns (λ k h. f (suc k) h)
none_empty (Some nothing ∷ ns) f = absurd (f zero refl)
none_empty (Some (between l u) ∷ ns) f = none_empty ns (λ k h. f (suc k) h)

pub is_empty : (i : Interval) → is_nothing i ≡ true → i ≡ nothing
is_empty nothing h = refl
is_empty (between l u) h = cc

-- ---- the sweep

module _ (nodes : List Node) (es : List Interval) (root : ℕ) (range : Interval) where
  abbrev pub final : ℕ → Option Interval
  final k = get_or (narrowed nodes es root range) k None

  -- what the nodes from p on leave to s
  abbrev pub left_from : ℕ → ℕ → Option Interval
  left_from p s = from_parents es s (drop p nodes) (drop p (narrowed nodes es root range))

  abbrev pub standing : ℕ → ℕ → Option Interval
  standing p s = own es s (cond (nat_eq s root) (Some range) (left_from p s))

  count : length (narrowed nodes es root range) ≡ length nodes
  count = length_narrowed es root range 0 nodes

  final-at : (k : ℕ) → k < length nodes → final k ≡ standing (k + 1) k
  final-at k h = let next : suc k ≡ k + 1 = omega arith in narrowed_at es root range nodes k h ∙ ap (λ (p : ℕ). standing p k) next

  -- nodes that have no interval leave nothing
  skip : (d p q : ℕ) → q + d ≡ p → p ≤ length nodes → ((k : ℕ) → q ≤ k → k < p → final k ≡ None) → (s : ℕ) → left_from q s ≡ left_from p s
  skip zero p q e l f s = let same : q ≡ p = omega arith in ap (λ (x : ℕ). left_from x s) same
  skip (suc d) p q e l f s =
      let inside : q < length nodes = omega arith in let n = some_node nodes q inside in
      sym (parents_step es s nodes (narrowed nodes es root range) q n.0 None (left_from (q + 1) s) n.1 (omega (arith, inside, count)) (sym (f q (omega arith) (omega arith))) refl)
      ∙ skip d p (q + 1) (omega arith) l (λ k h j. f k (omega arith) j) s

  -- where nothing stands before p from q on, nothing is narrowed
  quiet : (d p q : ℕ) → q + d ≡ p → p ≤ length nodes → ((k : ℕ) → q ≤ k → k < p → standing p k ≡ None) → (k : ℕ) → q ≤ k → k < p → final k ≡ None
  quiet zero p q e l f k h j = absurd (omega arith)
  quiet (suc d) p q e l f k h j =
      let later : (i : ℕ) → q + 1 ≤ i → i < p → final i ≡ None = quiet d p (q + 1) (omega arith) l (λ i a b. f i (omega arith) b) in
      elim (cases_lt q k) [
        | inl more ↦ later k (omega arith) j
        | inr not_more ↦ let here : q ≡ k = omega arith in
            subst (λ (i : ℕ). final i ≡ None) here
            (final-at q (omega arith) ∙ ap (λ (o : Option Interval). own es q (cond (nat_eq q root) (Some range) o)) (skip d p (q + 1) (omega arith) l later q) ∙ f q (omega arith) (omega arith))
      ]

  past : (k : ℕ) → length nodes ≤ k → final k ≡ None
  past k h = get_or_past (narrowed nodes es root range) k None (omega (arith, h, count))

  none-left : (s : ℕ) → left_from (length nodes) s ≡ None
  none-left s = ap (λ (xs : List Node). from_parents es s xs (drop (length nodes) (narrowed nodes es root range))) (drop_all nodes (length nodes) (omega arith))

  above-root : root < length nodes → (k : ℕ) → root < k → final k ≡ None
  above-root r k h = elim (cases_lt k (length nodes)) [
    | inl inside ↦ let d : (d : ℕ) × (root + 1 + d ≡ length nodes) = gap in
        quiet d.0 (length nodes) (root + 1) d.1 (omega arith)
        (λ i a b. ap₂ (λ (t : Bool) (o : Option Interval). own es i (cond t (Some range) o)) (unlike i root (λ e. omega arith)) (none-left i)) k (omega arith) inside
    | inr out ↦ past k out
  ]
    where
      gap : (d : ℕ) × (root + 1 + d ≡ length nodes)
      gap = (length nodes - (root + 1), omega (arith, r))

  -- the nodes from p on are narrowed and have left what they leave; those below p have what is left so far
  pub record Swept (p : ℕ) (scratch : Rows) : Type 0 where
    pub bound : p ≤ root + 1
    pub below : (s : ℕ) → s < p → option_at scratch s ≡ standing p s
    pub above : (k : ℕ) → p ≤ k → option_at scratch k ≡ final k

  pub start : (scratch : Rows) → root < length nodes → option_at scratch root ≡ Some (met (row es root) range) → ((k : ℕ) → k ≢ root → option_at scratch k ≡ None) → Swept (root + 1) scratch
  start scratch r at others = record {
    bound = omega arith;
    below = λ s h. elim (cases_eq s root) [
      | inl e ↦ subst (λ (x : ℕ). option_at scratch x ≡ standing (root + 1) x) (sym e)
          (at ∙ ap (λ (t : Bool). own es root (cond t (Some range) (left_from (root + 1) root))) (sym (eq-eqb root root refl)))
      | inr o ↦ others s o ∙ sym (ap₂ (λ (t : Bool) (x : Option Interval). own es s (cond t (Some range) x)) (unlike s root o)
          (skip (length nodes - (root + 1)) (length nodes) (root + 1) (omega (arith, r)) (omega arith) (λ k a b. above-root r k (omega arith)) s ∙ none-left s))
    ];
    above = λ k h. others k (λ x. omega arith) ∙ sym (above-root r k (omega arith));
  }

  -- what a node below p leaves, whatever way it is left
  pub left_by_node : (space : Space) → IsTrue (in_order 0 nodes) → es ≡ enclosures space nodes → ((k : ℕ) → IsProper (row es k)) → (p n : ℕ) (scratch : Rows) (node : Node) (i : Interval) → Swept p scratch → n < p →
      slice_get nodes n ≡ Some node → (s : ℕ) (new : Option Interval) → IsLeftBy es n s node i (option_at scratch s) new → new ≡ left_more_by es s node i (option_at scratch s)
  left_by_node space ordered filled proper p n scratch node i w l e s new (inl h) = h
  left_by_node space ordered filled proper p n scratch node i w l e s new (inr h) = h.2 ∙ elim (cases_lt s p) [
    | inl low ↦ subst (λ (o : Option Interval). left_all_by es s node o ≡ left_more_by es s node i o) (sym (w.below s low))
        (all_is_left space es proper s node i (cond (nat_eq s root) (Some range) (left_from p s)) (h.0 ∙ enclosed_at space nodes es ordered filled n node e) h.1)
    | inr high ↦ let o : Option Interval = option_at scratch s in
        let none = no_child n s node (comes_at nodes ordered n node e) (omega (arith, l, high)) in
        ap (λ (t : Bool). cond t (left_all es s o) o) none ∙ sym (ap (λ (t : Bool). cond t (left_more es s (left_by es s node i) o) o) none)
  ]

  -- the next node that has an interval, below p
  quiet-between : (p n : ℕ) (scratch : Rows) → root < length nodes → Swept p scratch → n < p → ((k : ℕ) → n < k → k < p → option_at scratch k ≡ None) → (k : ℕ) → n < k → k < p → final k ≡ None
  quiet-between p n scratch r w h none k a b =
      quiet (p - (n + 1)) p (n + 1) (omega arith) (omega (arith, r, w.bound)) (λ i c d. sym (w.below i d) ∙ none i (omega arith) d) k (omega arith) b

  standing-same : (p n : ℕ) → p ≤ length nodes → n < p → ((k : ℕ) → n < k → k < p → final k ≡ None) → (s : ℕ) → standing (n + 1) s ≡ standing p s
  standing-same p n l h f s = ap (λ (o : Option Interval). own es s (cond (nat_eq s root) (Some range) o)) (skip (p - (n + 1)) p (n + 1) (omega arith) l (λ k a b. f k (omega arith) b) s)

  -- its parents have all left it what they leave
  found : (p n : ℕ) (scratch : Rows) → root < length nodes → Swept p scratch → n < p → ((k : ℕ) → n < k → k < p → option_at scratch k ≡ None) → final n ≡ option_at scratch n
  found p n scratch r w h none =
      final-at n (omega (arith, r, w.bound, h)) ∙ standing-same p n (omega (arith, r, w.bound)) h (quiet-between p n scratch r w h none) n ∙ sym (w.below n h)

  kept : (n k : ℕ) (node : Node) (i : Interval) (scratch new : Rows) → IsTrue (comes_after n node) → n ≤ k → ((s : ℕ) → option_at new s ≡ left_more_by es s node i (option_at scratch s)) → option_at new k ≡ option_at scratch k
  kept n k node i scratch new o l f = f k ∙ ap (λ (t : Bool). cond t (left_more es k (left_by es k node i) (option_at scratch k)) (option_at scratch k)) (no_child n k node o l)

  pub swept_next : IsTrue (in_order 0 nodes) → (p n : ℕ) (scratch new : Rows) (node : Node) (i : Interval) → root < length nodes → Swept p scratch → n < p → ((k : ℕ) → n < k → k < p → option_at scratch k ≡ None) →
      slice_get nodes n ≡ Some node → option_at scratch n ≡ Some i → ((s : ℕ) → option_at new s ≡ left_more_by es s node i (option_at scratch s)) → Swept n new
  swept_next ordered p n scratch new node i r w h none e f all =
      let inside : p ≤ length nodes = omega (arith, r, w.bound) in
      let between = quiet-between p n scratch r w h none in
      let here : final n ≡ option_at scratch n = found p n scratch r w h none in
      let after = comes_at nodes ordered n node e in
      record {
        bound = omega (arith, w.bound, h);
        below = λ s l.
            let o : Option Interval = left_from (n + 1) s in
            let other : nat_eq s root ≡ false = unlike s root (λ x. let b = w.bound in omega arith) in
            let before : option_at scratch s ≡ own es s o = w.below s (omega arith) ∙ sym (standing-same p n inside h between s) ∙ ap (λ (t : Bool). own es s (cond t (Some range) o)) other in
            let parents : with_parent (has_child s node) (left_by es s node i) o ≡ left_from n s =
            parents_step es s nodes (narrowed nodes es root range) n node (Some i) o e (omega (arith, inside, h, count)) (sym (here ∙ f)) refl in
            all s ∙ ap (left_more_by es s node i) before ∙ more_own es s (has_child s node) (left_by es s node i) o ∙ ap (own es s) parents
            ∙ sym (ap (λ (t : Bool). own es s (cond t (Some range) (left_from n s))) other);
        above = λ k l. elim (cases_lt n k) [
          | inl more ↦ elim (cases_lt k p) [
            | inl low ↦ kept n k node i scratch new after l all ∙ none k more low ∙ sym (between k more low)
            | inr high ↦ kept n k node i scratch new after l all ∙ w.above k high
          ]
          | inr not_more ↦ let same : n ≡ k = omega arith in
              subst (λ (x : ℕ). option_at new x ≡ final x) same (kept n n node i scratch new after (omega arith) all ∙ sym here)
        ];
      }

  pub swept_all : (p : ℕ) (scratch : Rows) → root < length nodes → length (rows_of scratch) ≡ length nodes → Swept p scratch → ((k : ℕ) → k < p → option_at scratch k ≡ None) → options_of scratch ≡ narrowed nodes es root range
  swept_all p scratch r l w none =
      ext_get_or None (options_of scratch) (narrowed nodes es root range) (length_options scratch ∙ l ∙ sym count) (λ k h. elim (cases_lt k p) [
        | inl low ↦ none k low ∙ sym (quiet p p 0 (omega arith) (omega (arith, r, w.bound)) (λ i a b. sym (w.below i b) ∙ none i b) k (omega arith) low)
        | inr high ↦ w.above k high
      ])
