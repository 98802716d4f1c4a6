-- The sweep down the nodes under the root. Where nothing stands, the enclosure counts, if it is not empty.
use Rattle.std.proofs.Common.{◌≡◌, ◌≢◌, ℕ, zero, suc, ◌+◌, ◌-◌, ◌<◌, ◌≤◌, List, [], ◌∷◌, length, get_or, drop, Bool, IsTrue, true, false, true≢false, cond, nat_eq, eqb-true, eq-eqb, Option, Some, None, inl, inr, refl, ap, ap₂, sym, subst, ◌∙◌, arith}
use Rattle.std.proofs.lemmas.Bool.{cases_eq, cases_lt}
use Rattle.std.proofs.lemmas.List.{get_or_past}
use Rattle.std.specs.Prelude.{slice_get}
use Rattle.interval_model.specs.Interval.{Interval, nothing, between, IsProper, met, is_nothing}
use Rattle.interval_model.specs.Space.{Space}
use Rattle.poly_graph.specs.Term.{Node, constant_node, variable_node, negate_node, add_node, multiply_node, square_node, has_child, in_order}
use Rattle.cover_model.specs.Narrowed.{left_by, with_parent, from_parents, own, narrowed, enclosures, some_empty}
use Rattle.cover_model.specs.NodeEnclosure.{row, node_enclosure}
use Rattle.cover_model.proofs.NarrowedAt.{length_narrowed, narrowed_at, parents_step}
use Rattle.ival.specs.declared.row_parts.Rows.{Rows}
use Rattle.ival.specs.Options.{option_at}
use Rattle.ival.proofs.Optional.{drop_all}
use Rattle.ival.proofs.Meets.{met_comm, met_assoc, met_inside}
use Rattle.hc4.specs.Pushed.{pushed, IsPassed, kept_by}
use Rattle.hc4.specs.Sweeps.{StandsFor, HasVariables}
use Rattle.hc4.proofs.Pushes.{pushed_own, kept_none}
use Rattle.cover_model.proofs.Unnarrowed.{enclosed_at, left_whole, child_left}

pub some_node : (nodes : List Node) (k : ℕ) → k < length nodes → (n : Node) × (slice_get nodes k ≡ Some n)
some_node [] k h = absurd (omega arith)
some_node (n ∷ nodes) zero h = (n, refl)
some_node (n ∷ nodes) (suc k) h = some_node nodes k (omega arith)

same-node : (nodes : List Node) (k : ℕ) (n m : Node) → slice_get nodes k ≡ Some n → slice_get nodes k ≡ Some m → n ≡ m
same-node nodes k n m e f = cc

node-inside : (nodes : List Node) (k : ℕ) (n : Node) → slice_get nodes k ≡ Some n → k < length nodes
node-inside [] k n h = cc
node-inside (m ∷ nodes) zero n h = omega arith
node-inside (m ∷ nodes) (suc k) n h = let r = node-inside nodes k n h in omega (arith, r)

unlike : (a b : ℕ) → a ≢ b → nat_eq a b ≡ false
unlike a b h = go (nat_eq a b) refl
  where
    go : (t : Bool) → nat_eq a b ≡ t → t ≡ false
    go true e = absurd (h (eqb-true a b e))
    go false e = refl

-- ---- emptiness

pub empty_at : (ns : List (Option Interval)) (k : ℕ) → get_or ns k None ≡ Some nothing → some_empty ns ≡ true
empty_at [] k h = cc
empty_at (o ∷ ns) zero h = ap (λ (x : Option Interval). some_empty (x ∷ ns)) h
empty_at (None ∷ ns) (suc k) h = empty_at ns k h
empty_at (Some nothing ∷ ns) (suc k) h = refl
empty_at (Some (between l u) ∷ ns) (suc k) h = empty_at ns k h

pub none_empty : (ns : List (Option Interval)) → ((k : ℕ) → get_or ns k None ≡ Some nothing → ⊥) → some_empty ns ≡ false
none_empty [] f = refl
none_empty (None ∷ ns) f = none_empty ns (λ k h. f (suc k) h)
none_empty (Some nothing ∷ ns) f = absurd (f zero refl)
none_empty (Some (between l u) ∷ ns) f = none_empty ns (λ k h. f (suc k) h)

pub is_empty : (i : Interval) → is_nothing i ≡ true → i ≡ nothing
is_empty nothing h = refl
is_empty (between l u) h = cc

-- ---- what stands for what

stands-kept : (m : Node) (e : Interval) (o : Option Interval) → StandsFor e None o → StandsFor e None (kept_by m o)
stands-kept (constant_node q) e o h = inl refl
stands-kept (variable_node a) e o h = h
stands-kept (negate_node a) e o h = inl refl
stands-kept (add_node a b) e o h = inl refl
stands-kept (multiply_node a b) e o h = inl refl
stands-kept (square_node a) e o h = inl refl

not-empty : (e : Interval) (o : Option Interval) → StandsFor e None o → o ≡ Some nothing → ⊥
not-empty e o (inl h) z = cc
not-empty e o (inr h) z = let q = h.1 in let n : e ≡ nothing = cc in h.2 n

same-some : (i j : Interval) → Some i ≡ Some j → i ≡ j
same-some i j h = cc

-- an interval that is passed down
pushed-stands : (es : List Interval) (s : ℕ) (t : Bool) (l : Interval) (o x : Option Interval) → StandsFor (row es s) x (own es s o) →
    StandsFor (row es s) (cond t (pushed es s l x) x) (own es s (with_parent t l o))
pushed-stands es s t l o x (inl e) = inl (ap (λ (y : Option Interval). cond t (pushed es s l y) y) e ∙ pushed_own es s t l o)
pushed-stands es s false l o x (inr h) = inr h
pushed-stands es s true l None x (inr h) = let q = h.1 in cc
pushed-stands es s true l (Some j) x (inr h) =
    inl (ap (pushed es s l) h.0 ∙ ap (λ (i : Interval). Some i)
    (sym (ap (met (row es s)) (met_comm l j) ∙ sym (met_assoc (row es s) j l) ∙ ap (λ (i : Interval). met i l) (same-some (met (row es s) j) (row es s) h.1))))

-- an interval that need not be passed down
skipped-stands : (es : List Interval) (s : ℕ) (t : Bool) (l : Interval) (o x : Option Interval) → met (row es s) l ≡ row es s → (t ≡ true → row es s ≡ nothing → ⊥) →
    StandsFor (row es s) x (own es s o) → StandsFor (row es s) x (own es s (with_parent t l o))
skipped-stands es s false l o x f g h = h
skipped-stands es s true l None x f g (inl e) = inr (e, ap (λ (i : Interval). Some i) f, g refl)
skipped-stands es s true l None x f g (inr h) = let q = h.1 in cc
skipped-stands es s true l (Some j) x f g h =
    subst (λ (y : Option Interval). StandsFor (row es s) x y) (ap (λ (i : Interval). Some i) (ap (λ (i : Interval). met i j) (sym f) ∙ met_assoc (row es s) l j)) h

module _ (nodes : List Node) (es : List Interval) (root : ℕ) (range : Interval) where
  abbrev pub final : ℕ → Option Interval
  final k = get_or (narrowed nodes es root range) k None

  -- what the nodes from p on leave to s
  abbrev pub left_from : ℕ → ℕ → Option Interval
  left_from p s = from_parents es s (drop p nodes) (drop p (narrowed nodes es root range))

  abbrev pub standing : ℕ → ℕ → Option Interval
  standing p s = own es s (cond (nat_eq s root) (Some range) (left_from p s))

  count : length (narrowed nodes es root range) ≡ length nodes
  count = length_narrowed es root range 0 nodes

  final-at : (k : ℕ) → k < length nodes → final k ≡ standing (k + 1) k
  final-at k h = let next : suc k ≡ k + 1 = omega arith in narrowed_at es root range nodes k h ∙ ap (λ (p : ℕ). standing p k) next

  -- nodes that have no interval leave nothing
  skip : (d p q : ℕ) → q + d ≡ p → p ≤ length nodes → ((k : ℕ) → q ≤ k → k < p → final k ≡ None) → (s : ℕ) → left_from q s ≡ left_from p s
  skip zero p q e l f s = let same : q ≡ p = omega arith in ap (λ (x : ℕ). left_from x s) same
  skip (suc d) p q e l f s =
      let inside : q < length nodes = omega arith in let n = some_node nodes q inside in
      sym (parents_step es s nodes (narrowed nodes es root range) q n.0 None (left_from (q + 1) s) n.1 (omega (arith, inside, count)) (sym (f q (omega arith) (omega arith))) refl)
      ∙ skip d p (q + 1) (omega arith) l (λ k h j. f k (omega arith) j) s

  -- where nothing stands before p from q on, nothing is narrowed
  quiet : (d p q : ℕ) → q + d ≡ p → p ≤ length nodes → ((k : ℕ) → q ≤ k → k < p → standing p k ≡ None) → (k : ℕ) → q ≤ k → k < p → final k ≡ None
  quiet zero p q e l f k h j = absurd (omega arith)
  quiet (suc d) p q e l f k h j =
      let later : (i : ℕ) → q + 1 ≤ i → i < p → final i ≡ None = quiet d p (q + 1) (omega arith) l (λ i a b. f i (omega arith) b) in
      elim (cases_lt q k) [
        | inl more ↦ later k (omega arith) j
        | inr not_more ↦ let here : q ≡ k = omega arith in
            subst (λ (i : ℕ). final i ≡ None) here
            (final-at q (omega arith) ∙ ap (λ (o : Option Interval). own es q (cond (nat_eq q root) (Some range) o)) (skip d p (q + 1) (omega arith) l later q) ∙ f q (omega arith) (omega arith))
      ]

  past : (k : ℕ) → length nodes ≤ k → final k ≡ None
  past k h = get_or_past (narrowed nodes es root range) k None (omega (arith, h, count))

  none-left : (s : ℕ) → left_from (length nodes) s ≡ None
  none-left s = ap (λ (xs : List Node). from_parents es s xs (drop (length nodes) (narrowed nodes es root range))) (drop_all nodes (length nodes) (omega arith))

  above-root : root < length nodes → (k : ℕ) → root < k → final k ≡ None
  above-root r k h = elim (cases_lt k (length nodes)) [
    | inl inside ↦ let d : (d : ℕ) × (root + 1 + d ≡ length nodes) = gap in
        quiet d.0 (length nodes) (root + 1) d.1 (omega arith)
        (λ i a b. ap₂ (λ (t : Bool) (o : Option Interval). own es i (cond t (Some range) o)) (unlike i root (λ e. omega arith)) (none-left i)) k (omega arith) inside
    | inr out ↦ past k out
  ]
    where
      gap : (d : ℕ) × (root + 1 + d ≡ length nodes)
      gap = (length nodes - (root + 1), omega (arith, r))

  -- before the nodes below p: those are met with what the nodes from p on leave; of the others the variables' intervals stand
  pub record Swept (p : ℕ) (scratch : Rows) : Type 0 where
    pub bound : p ≤ root + 1
    pub below : (s : ℕ) → s < p → StandsFor (row es s) (option_at scratch s) (standing p s)
    pub above : (k : ℕ) (n : Node) → p ≤ k → slice_get nodes k ≡ Some n → StandsFor (row es k) (option_at scratch k) (kept_by n (final k))
    pub full : (k : ℕ) → p ≤ k → final k ≡ Some nothing → ⊥

  pub start : (scratch : Rows) → root < length nodes → option_at scratch root ≡ Some (met (row es root) range) → ((k : ℕ) → k ≢ root → option_at scratch k ≡ None) → Swept (root + 1) scratch
  start scratch r at others = record {
    bound = omega arith;
    below = λ s h. elim (cases_eq s root) [
      | inl e ↦ inl (subst (λ (x : ℕ). option_at scratch x ≡ standing (root + 1) x) (sym e)
          (at ∙ ap (λ (t : Bool). own es root (cond t (Some range) (left_from (root + 1) root))) (sym (eq-eqb root root refl))))
      | inr o ↦ inl (others s o ∙ sym (ap₂ (λ (t : Bool) (x : Option Interval). own es s (cond t (Some range) x)) (unlike s root o)
          (skip (length nodes - (root + 1)) (length nodes) (root + 1) (omega (arith, r)) (omega arith) (λ k a b. above-root r k (omega arith)) s ∙ none-left s)))
    ];
    above = λ k n h e. inl (others k (λ x. omega arith) ∙ sym (ap (kept_by n) (above-root r k (omega arith)) ∙ kept_none n));
    full = λ k h e. let z = above-root r k (omega arith) in cc;
  }

-- of rows that are the enclosures over a space
module _ (space : Space) (nodes : List Node) (es : List Interval) (root : ℕ) (range : Interval)
    (ordered : IsTrue (in_order 0 nodes)) (filled : es ≡ enclosures space nodes) (proper : (k : ℕ) → IsProper (row es k)) where
  abbrev last : ℕ → Option Interval
  last k = final nodes es root range k

  abbrev from : ℕ → ℕ → Option Interval
  from p s = left_from nodes es root range p s

  abbrev at-hand : ℕ → ℕ → Option Interval
  at-hand p s = standing nodes es root range p s

  enclosed : (k : ℕ) (p : Node) → slice_get nodes k ≡ Some p → row es k ≡ node_enclosure space es p
  enclosed k p e = enclosed_at space nodes es ordered filled k p e

  -- what a node that is not narrowed leaves need not be passed down
  unnarrowed : (k s : ℕ) (p : Node) (i : Interval) (o x : Option Interval) → slice_get nodes k ≡ Some p → i ≡ row es k → (i ≡ nothing → ⊥) →
      StandsFor (row es s) x (own es s o) → StandsFor (row es s) x (own es s (with_parent (has_child s p) (left_by es s p i) o))
  unnarrowed k s p i o x e same n h =
      let at : i ≡ node_enclosure space es p = same ∙ enclosed k p e in
      skipped-stands es s (has_child s p) (left_by es s p i) o x
      (subst (λ (j : Interval). met (row es s) (left_by es s p j) ≡ row es s) (sym at)
      (met_inside (row es s) (left_by es s p (node_enclosure space es p)) (proper s) (left_whole space es proper s p (λ z. n (at ∙ z)))))
      (λ c. child_left space es proper s p c (λ z. n (at ∙ z))) h

  -- a node in whose place nothing stands
  silent : (k s : ℕ) (x : Option Interval) → k ≤ root → k < length nodes → s < k → StandsFor (row es k) None (last k) → StandsFor (row es s) x (at-hand (k + 1) s) → StandsFor (row es s) x (at-hand k s)
  silent k s x b inside l node h =
      let n = some_node nodes k inside in
      let other : nat_eq s root ≡ false = unlike s root (λ e. omega arith) in
      let counted : k < length (narrowed nodes es root range) = omega (arith, inside, count nodes es root range) in
      let before : StandsFor (row es s) x (own es s (from (k + 1) s)) = subst (λ (t : Bool). StandsFor (row es s) x (own es s (cond t (Some range) (from (k + 1) s)))) other h in
      let after : StandsFor (row es s) x (own es s (from k s)) = elim node [
        | inl e ↦ subst (λ (o : Option Interval). StandsFor (row es s) x (own es s o))
            (parents_step es s nodes (narrowed nodes es root range) k n.0 None (from (k + 1) s) n.1 counted e refl) before
        | inr e ↦ subst (λ (o : Option Interval). StandsFor (row es s) x (own es s o))
            (parents_step es s nodes (narrowed nodes es root range) k n.0 (Some (row es k)) (from (k + 1) s) n.1 counted (sym e.1) refl)
            (unnarrowed k s n.0 (row es k) (from (k + 1) s) x n.1 refl e.2 before)
      ] in
      subst (λ (t : Bool). StandsFor (row es s) x (own es s (cond t (Some range) (from k s)))) (sym other) after

  -- down over places in which nothing stands
  lower : (d p q : ℕ) (x : ℕ → Option Interval) → q + d ≡ p → p ≤ root + 1 → p ≤ length nodes → ((k : ℕ) → q ≤ k → k < p → x k ≡ None) →
      ((s : ℕ) → s < p → StandsFor (row es s) (x s) (at-hand p s)) →
      ((s : ℕ) → s < q → StandsFor (row es s) (x s) (at-hand q s)) × ((k : ℕ) → q ≤ k → k < p → StandsFor (row es k) None (last k))
  lower zero p q x e b l none h = let same : p ≡ q = omega arith in (
    subst (λ (r : ℕ). (s : ℕ) → s < r → StandsFor (row es s) (x s) (at-hand r s)) same h,
    λ k a c. absurd (omega arith),
  )
  lower (suc d) p q x e b l none h =
      let next : p ≡ (q + d) + 1 = omega arith in
      let here : StandsFor (row es (q + d)) None (last (q + d)) = subst (λ (o : Option Interval). StandsFor (row es (q + d)) o (last (q + d))) (none (q + d) (omega arith) (omega arith))
      (subst (λ (o : Option Interval). StandsFor (row es (q + d)) (x (q + d)) o) (ap (λ (r : ℕ). at-hand r (q + d)) next ∙ sym (final-at nodes es root range (q + d) (omega arith))) (h (q + d) (omega arith))) in
      let rest = lower d (q + d) q x refl (omega arith) (omega arith) (λ k a c. none k a (omega arith))
      (λ s c. silent (q + d) s (x s) (omega arith) (omega arith) c here (subst (λ (r : ℕ). StandsFor (row es s) (x s) (at-hand r s)) next (h s (omega arith)))) in (
        rest.0,
        λ k a c. elim (cases_lt k (q + d)) [
          | inl less ↦ rest.1 k a less
          | inr more ↦ let same : q + d ≡ k = omega arith in subst (λ (r : ℕ). StandsFor (row es r) None (last r)) same here
        ],
      )

  -- from p down to the next place n in which something stands
  past-silent : (p n : ℕ) (scratch : Rows) → root < length nodes → Swept nodes es root range p scratch → n < p → ((k : ℕ) → n < k → k < p → option_at scratch k ≡ None) →
      ((s : ℕ) → s < n + 1 → StandsFor (row es s) (option_at scratch s) (at-hand (n + 1) s)) × ((k : ℕ) → n + 1 ≤ k → k < p → StandsFor (row es k) None (last k))
  past-silent p n scratch r w h none =
      lower (p - (n + 1)) p (n + 1) (λ k. option_at scratch k) (omega arith) w.bound (omega (arith, r, w.bound)) (λ k a b. none k (omega arith) b) w.below

  pub found : (p n : ℕ) (scratch : Rows) (i : Interval) → root < length nodes → Swept nodes es root range p scratch → n < p → ((k : ℕ) → n < k → k < p → option_at scratch k ≡ None) →
      option_at scratch n ≡ Some i → last n ≡ Some i
  found p n scratch i r w h none e = elim ((past-silent p n scratch r w h none).0 n (omega arith)) [
    | inl same ↦ final-at nodes es root range n (omega (arith, r, w.bound, h)) ∙ sym same ∙ e
    | inr z ↦ let q = z.0 in cc
  ]

  pub swept_next : (p n : ℕ) (scratch new : Rows) (node : Node) (i : Interval) → root < length nodes → Swept nodes es root range p scratch → n < p → ((k : ℕ) → n < k → k < p → option_at scratch k ≡ None) →
      slice_get nodes n ≡ Some node → option_at scratch n ≡ Some i → is_nothing i ≡ false →
      ((s : ℕ) → s < n → IsPassed es n s node i (option_at scratch s) (option_at new s)) → option_at new n ≡ kept_by node (option_at scratch n) →
      ((k : ℕ) → n < k → option_at new k ≡ option_at scratch k) → Swept nodes es root range n new
  swept_next p n scratch new node i r w h none e f g below at above =
      let quiet-ones = past-silent p n scratch r w h none in
      let here : last n ≡ Some i = found p n scratch i r w h none f in
      let some : i ≡ nothing → ⊥ = λ z. let t : is_nothing i ≡ true = ap is_nothing z in true≢false (sym t ∙ g) in
      record {
        bound = omega (arith, w.bound, h);
        below = λ s l.
            let other : nat_eq s root ≡ false = unlike s root (λ x. let b = w.bound in omega arith) in
            let before : StandsFor (row es s) (option_at scratch s) (own es s (from (n + 1) s)) =
            subst (λ (t : Bool). StandsFor (row es s) (option_at scratch s) (own es s (cond t (Some range) (from (n + 1) s)))) other (quiet-ones.0 s (omega arith)) in
            let all : with_parent (has_child s node) (left_by es s node i) (from (n + 1) s) ≡ from n s =
            parents_step es s nodes (narrowed nodes es root range) n node (Some i) (from (n + 1) s) e (omega (arith, r, w.bound, h, count nodes es root range)) (sym here) refl in
            let after : StandsFor (row es s) (option_at new s) (own es s (with_parent (has_child s node) (left_by es s node i) (from (n + 1) s))) = elim (below s l) [
              | inl pushes ↦ subst (λ (o : Option Interval). StandsFor (row es s) o (own es s (with_parent (has_child s node) (left_by es s node i) (from (n + 1) s)))) (sym pushes)
                  (pushed-stands es s (has_child s node) (left_by es s node i) (from (n + 1) s) (option_at scratch s) before)
              | inr stays ↦ subst (λ (o : Option Interval). StandsFor (row es s) o (own es s (with_parent (has_child s node) (left_by es s node i) (from (n + 1) s)))) (sym stays.1)
                  (unnarrowed n s node i (from (n + 1) s) (option_at scratch s) e stays.0 some before)
            ] in
            subst (λ (t : Bool). StandsFor (row es s) (option_at new s) (own es s (cond t (Some range) (from n s)))) (sym other)
            (subst (λ (o : Option Interval). StandsFor (row es s) (option_at new s) (own es s o)) all after);
        above = λ k m l j. elim (cases_lt n k) [
          | inl more ↦ elim (cases_lt k p) [
            | inl low ↦ subst (λ (o : Option Interval). StandsFor (row es k) o (kept_by m (last k))) (sym (above k more ∙ none k more low)) (stands-kept m (row es k) (last k) (quiet-ones.1 k (omega arith) low))
            | inr high ↦ subst (λ (o : Option Interval). StandsFor (row es k) o (kept_by m (last k))) (sym (above k more)) (w.above k m high j)
          ]
          | inr not_more ↦ let same : n ≡ k = omega arith in
              subst (λ (x : ℕ). StandsFor (row es x) (option_at new x) (kept_by m (last x))) same
              (inl (at ∙ ap₂ kept_by (same-node nodes n node m e (subst (λ (x : ℕ). slice_get nodes x ≡ Some m) (sym same) j)) (f ∙ sym here)))
        ];
        full = λ k l z. elim (cases_lt n k) [
          | inl more ↦ elim (cases_lt k p) [
            | inl low ↦ not-empty (row es k) (last k) (quiet-ones.1 k (omega arith) low) z
            | inr high ↦ w.full k high z
          ]
          | inr not_more ↦ let same : n ≡ k = omega arith in
              some (same-some i nothing (sym here ∙ ap last same ∙ z))
        ];
      }

  pub swept_all : (p : ℕ) (scratch : Rows) → root < length nodes → Swept nodes es root range p scratch → ((k : ℕ) → k < p → option_at scratch k ≡ None) →
      HasVariables nodes es (narrowed nodes es root range) scratch × (some_empty (narrowed nodes es root range) ≡ false)
  swept_all p scratch r w none =
      let low = lower p p 0 (λ k. option_at scratch k) (omega arith) w.bound (omega (arith, r, w.bound)) (λ k a b. none k b) w.below in (
        λ k n e. elim (cases_lt k p) [
          | inl l ↦ subst (λ (o : Option Interval). StandsFor (row es k) o (kept_by n (last k))) (sym (none k l)) (stands-kept n (row es k) (last k) (low.1 k (omega arith) l))
          | inr h ↦ w.above k n h e
        ],
        none_empty (narrowed nodes es root range) (λ k z. elim (cases_lt k p) [
          | inl l ↦ not-empty (row es k) (last k) (low.1 k (omega arith) l) z
          | inr h ↦ w.full k h z
        ]),
      )
