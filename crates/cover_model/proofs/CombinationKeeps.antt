-- A combination keeps the points at which its atoms hold.
use Rattle.std.proofs.Common.{◌≡◌, ℕ, suc, zero, ◌<◌, List, [], ◌∷◌, length, Bool, false, cond, Option, Some, None, IsTrue, refl, ap, sym, subst, ◌∙◌, arith, true≢false}
use Rattle.dyadic.specs.Fraction.{Fraction, IsFraction, zero_fraction, difference_of, sum_of, product_of}
use Rattle.dyadic.specs.Point.{Sort, real_sort, bool_sort, Coordinate, at_fraction, at_bool, IsPoint}
use Rattle.dyadic.specs.Rounding.{exact}
use Rattle.interval_model.specs.Interval.{Interval, nothing, between, interval_sum, interval_product, met, is_nothing}
use Rattle.dyadic.proofs.Equal.{◌≈◌, ≈_refl, sum_same}
use Rattle.interval_model.proofs.Ends.{product_is_good, zero_is_good}
use Rattle.interval_model.proofs.EndsSums.{sum_is_good}
use Rattle.interval_model.proofs.Holds.{Holds, met_holds, sum_holds, product_holds}
use Rattle.poly_graph.specs.Term.{Term, variable, term_value, coordinate, Node, constant_node, variable_node, negate_node, add_node, multiply_node, square_node, node_term, graph_terms}
use Rattle.interval_model.specs.Space.{Space, axis_interval, in_space}
use Rattle.poly_graph.specs.Problem.{Problem, IsProblem, IsNode, HasSort, sorts_of_problem, atom_at, term_of, no_place}
use Rattle.cover_model.specs.Narrowed.{enclosures, set_axis}
use Rattle.cover_model.specs.NodeEnclosure.{row}
use Rattle.cover_model.proofs.Encloses.{enclosure_holds}
use Rattle.poly_graph.proofs.Graphs.{term_at, unfolds, terms_are}
use Rattle.cover_model.proofs.Narrows.{set_keeps, nodes_at}
use Rattle.cover_model.proofs.NodeEnclosures.{comes_at, row_of_term}
use Rattle.cover_model.specs.Combination.{Multipliers, only, no_adjoints, handed, Expansion, root_adjoints, central_range, expansion, range_of, allowed_range, tightened, with_axis, with_intervals, combined_about}
use Rattle.cover_model.specs.Laws.{AllLie, CombiningKeeps}
use Rattle.cover_model.proofs.CombinationFractions.{sum_assoc, whole_again, exact_good, only_holds, nought_holds}
use Rattle.cover_model.proofs.CombinationReached.{Left, Reaches, same_reaches, more_reaches, handed_reaches}
use Rattle.cover_model.proofs.CombinationSweep.{Agrees, off, good, apart, fine, sweep_leaves}
use Rattle.cover_model.proofs.CombinationTightened.{whole_holds, tightened_holds}

-- the value of a combination, given those of the nodes
abbrev pub combined_value : Problem → (ℕ → Fraction) → Multipliers → Fraction
combined_value p v [] = zero_fraction
combined_value p v ((j, l) ∷ rest) = sum_of (combined_value p v rest) (product_of (exact l) (v (atom_at p j).0))

value_good : (p : Problem) (v : ℕ → Fraction) → ((k : ℕ) → IsFraction (v k)) → (ms : Multipliers) → IsFraction (combined_value p v ms)
value_good p v g [] = zero_is_good
value_good p v g ((j, l) ∷ rest) = sum_is_good (combined_value p v rest) (product_of (exact l) (v (atom_at p j).0)) (value_good p v g rest) (product_is_good (exact l) (v (atom_at p j).0) (exact_good l) (g (atom_at p j).0))

-- each is an atom of the problem
abbrev pub AreAtoms : Problem → Multipliers → Type 0
AreAtoms p [] = Unit {0}
AreAtoms p ((j, l) ∷ rest) = (j < length p.atoms) × AreAtoms p rest

agrees : (point : List Coordinate) (terms : List Term) (k : ℕ) (n : Node) → term_at terms k ≡ node_term terms n → Agrees (coordinate point) (λ i. term_value point (term_at terms i)) k n
agrees point terms k (constant_node q) e = ap (term_value point) e
agrees point terms k (variable_node axis) e = ap (term_value point) e
agrees point terms k (negate_node a) e = ap (term_value point) e
agrees point terms k (add_node a b) e = ap (term_value point) e
agrees point terms k (multiply_node a b) e = ap (term_value point) e
agrees point terms k (square_node a) e = ap (term_value point) e

module _ (p : Problem) (ip : IsProblem p) where
  root-below : (j : ℕ) → j < length p.atoms → (atom_at p j).0 < length p.nodes
  root-below j l = ip.atoms j no_place l

  -- ---- before the sweep

  module _ (off : ℕ → Fraction) (good : (k : ℕ) → IsFraction (off k)) (IsReal : ℕ → Type 0) (apart : ℕ → Fraction) (fine : (axis : ℕ) → IsFraction (apart axis))
      (cs : List Interval) (u v : ℕ → Fraction) (gu : (k : ℕ) → IsFraction (u k)) (gv : (k : ℕ) → IsFraction (v k)) (hu : (k : ℕ) → k < length p.nodes → Holds (row cs k) (u k))
      (is_off : (k : ℕ) → off k ≡ difference_of (v k) (u k)) where
    abbrev Start : ℕ → Multipliers → Type 0
    Start k ms = Reaches off good IsReal apart fine k (root_adjoints p ms) no_adjoints [] (central_range p cs ms) (combined_value p v ms)

    none-reached : (k : ℕ) → Start k []
    none-reached zero = nought_holds
    none-reached (suc k) = none-reached k

    begun : (ms : Multipliers) → AreAtoms p ms → Start (length p.nodes) ms
    begun [] h = none-reached (length p.nodes)
    begun ((j, l) ∷ rest) h =
        let n : ℕ = length p.nodes in let a : ℕ = (atom_at p j).0 in let b : a < n = root-below j h.0 in
        let f : Fraction = combined_value p v rest in let gf : IsFraction f = value_good p v gv rest in
        let x : Fraction = product_of (exact l) (off a) in let y : Fraction = product_of (exact l) (u a) in let z : Fraction = product_of (exact l) (v a) in
        let gx : IsFraction x = product_is_good (exact l) (off a) (exact_good l) (good a) in let gy : IsFraction y = product_is_good (exact l) (u a) (exact_good l) (gu a) in let gz : IsFraction z = product_is_good (exact l) (v a) (exact_good l) (gv a) in
        let os = handed a (only l) (root_adjoints p rest) in let acc : Interval = interval_sum (central_range p cs rest) (interval_product (only l) (row cs a)) in
        let one = handed_reaches off good IsReal apart fine n a (root_adjoints p rest) no_adjoints [] (central_range p cs rest) (only l) (exact l) b (exact_good l) (only_holds l) f gf (begun rest h.1) in
        let two = more_reaches off good IsReal apart fine n os no_adjoints [] (central_range p cs rest) (sum_of f x) (interval_product (only l) (row cs a)) y (sum_is_good f x gf gx) (product_holds (only l) (row cs a) (exact l) (u a) (exact_good l) (gu a) (only_holds l) (hu a b)) one in
        let joined : sum_of x y ≈ z = subst (λ (d : Fraction). sum_of (product_of (exact l) d) y ≈ z) (sym (is_off a)) (whole_again (exact l) (u a) (v a)) in
        same_reaches off good IsReal apart fine n os no_adjoints [] acc (sum_of f (sum_of x y)) (sum_of f z) (sum_is_good f (sum_of x y) gf (sum_is_good x y gx gy), sum_is_good f z gf gz, sum_same (≈_refl f) joined)
        (subst (Reaches off good IsReal apart fine n os no_adjoints [] acc) (sum_assoc f x y) two)

  -- ---- what the atoms allow

  all-atoms : (ranges : ℕ → Interval) (point : List Coordinate) (ms : Multipliers) → AllLie p ranges point ms → AreAtoms p ms
  all-atoms ranges point [] h = tt
  all-atoms ranges point ((j, l) ∷ rest) h = (h.0, all-atoms ranges point rest h.2)

  allowed-holds : (ranges : ℕ → Interval) (point : List Coordinate) → ((k : ℕ) → IsFraction (term_value point (term_at (graph_terms p.nodes) k))) → (ms : Multipliers) → AllLie p ranges point ms →
      Holds (allowed_range ranges ms) (combined_value p (λ k. term_value point (term_at (graph_terms p.nodes) k)) ms)
  allowed-holds ranges point g [] h = nought_holds
  allowed-holds ranges point g ((j, l) ∷ rest) h = let x : Fraction = term_value point (term_of p j) in
      sum_holds (allowed_range ranges rest) (interval_product (only l) (ranges j)) (combined_value p (λ k. term_value point (term_at (graph_terms p.nodes) k)) rest) (product_of (exact l) x)
      (allowed-holds ranges point g rest h.2)
      (product_holds (only l) (ranges j) (exact l) x (exact_good l) (g (atom_at p j).0) (only_holds l) h.1)

  -- ---- what is left

  not-nothing : (i : Interval) (f : Fraction) → Holds i f → is_nothing i ≡ false
  not-nothing nothing f h = absurd (true≢false (sym h))
  not-nothing (between l u) f h = refl

  abbrev Kept : List Coordinate → Option Space → Type 0
  Kept point o = (narrow : Space) × (o ≡ Some narrow) × IsTrue (in_space narrow point)

  axis-kept : (sorts : List Sort) (point : List Coordinate) → IsPoint sorts point → (axis : ℕ) (i : Interval) → HasSort real_sort sorts axis → Holds i (coordinate point axis) → (o : Option Space) → Kept point o → Kept point (with_axis axis i o)
  axis-kept sorts point q axis nothing n h o k = absurd (true≢false (sym h))
  axis-kept sorts point q axis (between l u) n h o k = (set_axis axis (between l u) k.0, ap (with_axis axis (between l u)) k.1, set_keeps sorts axis (between l u) k.0 point q n k.2 h)

  abbrev AllKept : List Sort → List Coordinate → List (ℕ × Interval) → Type 0
  AllKept sorts point [] = Unit {0}
  AllKept sorts point ((axis, j) ∷ is) = HasSort real_sort sorts axis × Holds j (coordinate point axis) × AllKept sorts point is

  -- of all intervals
  all-kept : (sorts : List Sort) (point : List Coordinate) → IsPoint sorts point → (space : Space) → IsTrue (in_space space point) → (is : List (ℕ × Interval)) → AllKept sorts point is → Kept point (with_intervals is space)
  all-kept sorts point q space i [] h = (space, refl, i)
  all-kept sorts point q space i ((axis, j) ∷ is) h = axis-kept sorts point q axis j h.0 h.1 (with_intervals is space) (all-kept sorts point q space i is h.2)

  -- a coordinate is a fraction
  coordinate-good : (sorts : List Sort) (point : List Coordinate) → IsPoint sorts point → (axis : ℕ) → IsFraction (coordinate point axis)
  coordinate-good sorts [] q axis = zero_is_good
  coordinate-good (real_sort ∷ sorts) (at_fraction x ∷ point) q zero = q.0
  coordinate-good (bool_sort ∷ sorts) (at_bool b ∷ point) q zero = zero_is_good
  coordinate-good (real_sort ∷ sorts) (at_fraction x ∷ point) q (suc axis) = coordinate-good sorts point q.1 axis
  coordinate-good (bool_sort ∷ sorts) (at_bool b ∷ point) q (suc axis) = coordinate-good sorts point q axis
  coordinate-good (real_sort ∷ sorts) (at_bool b ∷ point) q axis = elim q [ ]
  coordinate-good (bool_sort ∷ sorts) (at_fraction x ∷ point) q axis = elim q [ ]
  coordinate-good [] (c ∷ point) q axis = elim q [ ]

  abbrev RealNode : List Sort → Node → Type 0
  RealNode sorts (variable_node axis) = HasSort real_sort sorts axis
  RealNode sorts n = Unit {0}

  real-node : (sorts : List Sort) (n : Node) → IsNode sorts n → RealNode sorts n
  real-node sorts (constant_node x) h = tt
  real-node sorts (variable_node axis) h = h
  real-node sorts (negate_node a) h = tt
  real-node sorts (add_node a b) h = tt
  real-node sorts (multiply_node a b) h = tt
  real-node sorts (square_node a) h = tt

  pub keeps : (ranges : ℕ → Interval) (space centre : Space) (point at_centre : List Coordinate) → IsPoint (sorts_of_problem p) point → IsTrue (in_space space point) → IsPoint (sorts_of_problem p) at_centre → IsTrue (in_space centre at_centre) →
      (ms : Multipliers) → AllLie p ranges point ms → Kept point (combined_about p ranges space centre ms)
  keeps ranges space centre point at_centre q i qc ic ms h =
      let sorts : List Sort = sorts_of_problem p in
      let terms : List Term = graph_terms p.nodes in
      let es : List Interval = enclosures space p.nodes in let cs : List Interval = enclosures centre p.nodes in
      let u : ℕ → Fraction = λ k. term_value at_centre (term_at terms k) in let v : ℕ → Fraction = λ k. term_value point (term_at terms k) in
      let held = λ (sp : Space) (c : List Coordinate) (qq : IsPoint (sorts_of_problem p) c) (ii : IsTrue (in_space sp c)) (k : ℕ). enclosure_holds (sorts_of_problem p) sp c qq ii (term_at terms k) (terms_are (sorts_of_problem p) p.nodes ip.nodes k) in
      let gu : (k : ℕ) → IsFraction (u k) = λ k. (held centre at_centre qc ic k).0 in let gv : (k : ℕ) → IsFraction (v k) = λ k. (held space point q i k).0 in
      let hu : (k : ℕ) → k < length p.nodes → Holds (row cs k) (u k) = λ k l. subst (λ (x : Interval). Holds x (u k)) (sym (row_of_term centre p.nodes k l)) (held centre at_centre qc ic k).1 in
      let hv : (k : ℕ) → k < length p.nodes → Holds (row es k) (v k) = λ k l. subst (λ (x : Interval). Holds x (v k)) (sym (row_of_term space p.nodes k l)) (held space point q i k).1 in
      let IsReal : ℕ → Type 0 = λ (axis : ℕ). HasSort real_sort (sorts_of_problem p) axis in
      let uxs : ℕ → Fraction = coordinate at_centre in let vxs : ℕ → Fraction = coordinate point in
      let gux : (axis : ℕ) → IsFraction (uxs axis) = coordinate-good (sorts_of_problem p) at_centre qc in let gvx : (axis : ℕ) → IsFraction (vxs axis) = coordinate-good (sorts_of_problem p) point q in
      let hux : (axis : ℕ) → IsReal axis → Holds (axis_interval centre axis) (uxs axis) = λ axis n. (enclosure_holds (sorts_of_problem p) centre at_centre qc ic (variable axis) n).1 in
      let hvx : (axis : ℕ) → IsReal axis → Holds (axis_interval space axis) (vxs axis) = λ axis n. (enclosure_holds (sorts_of_problem p) space point q i (variable axis) n).1 in
      let o : ℕ → Fraction = off p.nodes cs es u v gu gv hu hv IsReal uxs vxs gux gvx in let g : (k : ℕ) → IsFraction (o k) = good p.nodes cs es u v gu gv hu hv IsReal uxs vxs gux gvx in
      let d : ℕ → Fraction = apart p.nodes cs es u v gu gv hu hv IsReal uxs vxs gux gvx in let gd : (axis : ℕ) → IsFraction (d axis) = fine p.nodes cs es u v gu gv hu hv IsReal uxs vxs gux gvx in
      let f : Fraction = combined_value p v ms in let gf : IsFraction f = value_good p v gv ms in
      let e : Expansion = expansion p space centre ms in
      let left : Left o g IsReal d gd e.parts e.rest f = sweep_leaves p.nodes cs es u v gu gv hu hv IsReal uxs vxs gux gvx
      (λ k n a. (comes_at p.nodes ip.ordered k n a, real-node sorts n (nodes_at sorts p.nodes ip.nodes k n a), agrees at_centre terms k n (unfolds p.nodes ip.ordered k n a), agrees point terms k n (unfolds p.nodes ip.ordered k n a)))
      (length p.nodes) (omega arith) (root_adjoints p ms) no_adjoints (record { parts = []; rest = central_range p cs ms }) f gf (begun o g IsReal d gd cs u v gu gv hu (λ k. refl) ms (all-atoms ranges point ms h)) in
      let allowed : Interval = allowed_range ranges ms in let a : Holds allowed f = allowed-holds ranges point gv ms h in
      let w : Holds (range_of space centre e) f = whole_holds o g IsReal space centre uxs vxs gux gvx hux hvx e.parts e.rest f gf left in
      let ts : List (ℕ × Interval) = tightened space centre allowed e.rest e.parts in
      let k = all-kept sorts point q space i ts (tightened_holds o g IsReal space centre uxs vxs gux gvx hux hvx allowed e.rest e.parts f gf a left) in
      (k.0, ap (λ (b : Bool). cond b None (with_intervals ts space)) (not-nothing (met (range_of space centre e) allowed) f (met_holds (range_of space centre e) allowed f gf w a)) ∙ k.1, k.2)

pub combining_keeps : CombiningKeeps
combining_keeps p ip ranges space centre point at_centre q i qc ic ms h = keeps p ip ranges space centre point at_centre q i qc ic ms h
