-- A node from which no changed axis is reached keeps its enclosure.
use Rattle.std.proofs.Common.{◌≡◌, ◌≢◌, ℕ, ◌+◌, ◌<◌, ◌≤◌, length, set, below_more, get_or-set_other, get_or-set_same, ⊎_elim, subst, List, Bool, true, false, IsTrue, Some, refl, ap, sym, ◌∙◌, arith}
use Rattle.std.proofs.lemmas.List.{length-set}
use Rattle.std.proofs.lemmas.Bool.{cases_lt}
use Rattle.std.specs.Prelude.{slice_get}
use Rattle.interval_model.specs.Interval.{Interval, nothing}
use Rattle.poly_graph.specs.Term.{Node, variable_node, in_order, has_child}
use Rattle.interval_model.specs.Space.{Space, axis_interval}
use Rattle.cover_model.specs.Narrowed.{enclosures}
use Rattle.cover_model.specs.NodeEnclosure.{row, node_enclosure}
use Rattle.cover_model.proofs.NodeEnclosures.{comes_at, next_row}
use Rattle.ival.specs.RowViews.{is_marked}
use Rattle.hc4.proofs.Children.{child-below, same_children}

-- ---- the sweep over the nodes

-- before node n: the rows so far are the enclosures; of these, rows without a mark are as at the start; so are all rows to come
pub record Renewed (nodes : List Node) (space : Space) (start : List Interval) (n : ℕ) (es : List Interval) (marks : List Bool) : Type 0 where
  pub count : length es ≡ length nodes
  pub filled : (k : ℕ) → k < n → row es k ≡ row (enclosures space nodes) k
  pub stays : (k : ℕ) → k < n → is_marked marks k ≡ false → row start k ≡ row (enclosures space nodes) k
  pub ahead : (k : ℕ) → n ≤ k → row es k ≡ row start k
  pub down : (k : ℕ) (p : Node) → k < n → slice_get nodes k ≡ Some p → is_marked marks k ≡ false → (c : ℕ) → has_child c p ≡ true → is_marked marks c ≡ false

-- a node from which no changed axis is reached is passed by
pub passed_by : (nodes : List Node) (was space : Space) (start : List Interval) (n : ℕ) (es : List Interval) (marks : List Bool) (node : Node) → IsTrue (in_order 0 nodes) → slice_get nodes n ≡ Some node →
    start ≡ enclosures was nodes → ((a : ℕ) → node ≡ variable_node a → axis_interval space a ≡ row es n) → ((c : ℕ) → has_child c node ≡ true → is_marked marks c ≡ false) →
    Renewed nodes space start n es marks → Renewed nodes space start (n + 1) es marks
passed_by nodes was space start n es marks node o e i v u r =
    let at-start : (k : ℕ) → row (enclosures was nodes) k ≡ row start k = λ k. ap (λ (xs : List Interval). row xs k) (sym i) in
    let old : node_enclosure was (enclosures was nodes) node ≡ row (enclosures was nodes) n = next_row was nodes o (enclosures was nodes) n node e (λ k l. refl) in
    let axis : (a : ℕ) → node ≡ variable_node a → axis_interval was a ≡ axis_interval space a =
    λ a p. ap (node_enclosure was (enclosures was nodes)) (sym p) ∙ old ∙ at-start n ∙ sym (r.ahead n (omega arith)) ∙ sym (v a p) in
    let child : (c : ℕ) → has_child c node ≡ true → row (enclosures was nodes) c ≡ row (enclosures space nodes) c =
    λ c t. at-start c ∙ r.stays c (child-below c n node (comes_at nodes o n node e) t) (u c t) in
    let same : row start n ≡ row (enclosures space nodes) n =
    sym (at-start n) ∙ sym old ∙ same_children was space (enclosures was nodes) (enclosures space nodes) node axis child
    ∙ next_row space nodes o (enclosures space nodes) n node e (λ k l. refl) in
    record {
      count = r.count;
      filled = below_more _ _ r.filled (r.ahead n (omega arith) ∙ same);
      stays = below_more _ _ r.stays (λ m. same);
      ahead = λ k l. r.ahead k (omega arith);
      down = λ k p l f m c t. ⊎_elim
          (λ (less : k < n). r.down k p less f m c t)
          (λ (here : n ≤ k). u c (subst (λ (q : Node). has_child c q ≡ true) (let at : k ≡ n = omega arith in let g : Some p ≡ Some node = sym f ∙ ap (slice_get nodes) at ∙ e in cc) t))
          (cases_lt k n);
    }

-- a node from which one may be reached gets its enclosure and a mark
pub renewed_at : (nodes : List Node) (space : Space) (start : List Interval) (n : ℕ) (es es' : List Interval) (marks marks' : List Bool) (node : Node) → IsTrue (in_order 0 nodes) → slice_get nodes n ≡ Some node →
    n < length es → n < length marks → es' ≡ set es n (node_enclosure space es node) → marks' ≡ set marks n true → Renewed nodes space start n es marks → Renewed nodes space start (n + 1) es' marks'
renewed_at nodes space start n es es' marks marks' node o e inside inside-marks f g r =
    let i : Interval = node_enclosure space es node in
    record {
      count = ap length f ∙ length-set es n i ∙ r.count;
      filled = below_more _ _
          (λ k h. let other : k ≢ n = omega arith in ap (λ (xs : List Interval). row xs k) f ∙ get_or-set_other es n k i nothing other ∙ r.filled k h)
          (ap (λ (xs : List Interval). row xs n) f ∙ get_or-set_same es n i nothing inside ∙ next_row space nodes o es n node e r.filled);
      stays = below_more _ _
          (λ k h m. let other : k ≢ n = omega arith in r.stays k h (sym (get_or-set_other marks n k true false other) ∙ ap (λ (xs : List Bool). is_marked xs k) (sym g) ∙ m))
          (λ m. let t : is_marked marks' n ≡ true = ap (λ (xs : List Bool). is_marked xs n) g ∙ get_or-set_same marks n true false inside-marks in cc);
      ahead = λ k h. let other : k ≢ n = omega arith in ap (λ (xs : List Interval). row xs k) f ∙ get_or-set_other es n k i nothing other ∙ r.ahead k (omega arith);
      down = λ k p l q m c t. ⊎_elim
          (λ (less : k < n).
          let other : k ≢ n = omega arith in
          let before : c < k = child-below c k p (comes_at nodes o k p q) t in
          let apart : c ≢ n = omega arith in
          ap (λ (xs : List Bool). is_marked xs c) g ∙ get_or-set_other marks n c true false apart ∙
          r.down k p less q (sym (get_or-set_other marks n k true false other) ∙ ap (λ (xs : List Bool). is_marked xs k) (sym g) ∙ m) c t)
          (λ (here : n ≤ k). absurd
          (let at : k ≡ n = omega arith in
          let u : is_marked marks' n ≡ true = ap (λ (xs : List Bool). is_marked xs n) g ∙ get_or-set_same marks n true false inside-marks in
          let w : is_marked marks' n ≡ false = subst (λ (x : ℕ). is_marked marks' x ≡ false) at m in cc))
          (cases_lt k n);
    }
