-- The sweep keeps what adjoints and a range reach.
use Rattle.std.proofs.Common.{◌≡◌, ℕ, suc, zero, ◌<◌, ◌≤◌, List, [], ◌∷◌, length, Option, Some, None, IsTrue, refl, ap, ap₂, sym, subst, ◌∙◌, arith, nat_lt, ltb→lt}
use Rattle.std.specs.Prelude.{slice_get}
use Rattle.std.specs.Bool.{passes}
use Rattle.dyadic.specs.Fraction.{Fraction, IsFraction, difference_of, sum_of, product_of, negated}
use Rattle.interval_model.specs.Interval.{Interval, interval_negated, interval_sum, interval_product, interval_square}
use Rattle.dyadic.proofs.Equal.{◌≈◌, ≈_refl, both_true}
use Rattle.interval_model.proofs.Ends.{product_is_good}
use Rattle.interval_model.proofs.EndsSums.{sum_is_good, negated_is_good}
use Rattle.interval_model.proofs.Holds.{Holds, sum_holds, negated_holds, product_holds, square_holds}
use Rattle.poly_graph.specs.Term.{Node, constant_node, variable_node, negate_node, add_node, multiply_node, square_node, comes_after}
use Rattle.cover_model.specs.NodeEnclosure.{row}
use Rattle.cover_model.specs.Combination.{Adjoints, Part, handed, off_centre, handed_down, squares_down, Expansion, squared_rest, product_rest, next_adjoints, next_squares, next_expansion, swept}
use Rattle.cover_model.proofs.CombinationFractions.{sum_assoc, of_constant, of_negation, of_sum, of_product, off_good, restored}
use Rattle.cover_model.proofs.CombinationReached.{Equal, equal_stable, Through, through_map, Both, Left, Reaches, same_reaches, more_reaches, handed_reaches, squared_reaches, parted}

-- the value of node k, by number, is that of its axis, or that of its kind over its children's
abbrev pub Agrees : (ℕ → Fraction) → (ℕ → Fraction) → ℕ → Node → Type 0
Agrees axes x k (constant_node q) = x k ≡ q
Agrees axes x k (variable_node axis) = x k ≡ axes axis
Agrees axes x k (negate_node a) = x k ≡ negated (x a)
Agrees axes x k (add_node a b) = x k ≡ sum_of (x a) (x b)
Agrees axes x k (multiply_node a b) = x k ≡ product_of (x a) (x b)
Agrees axes x k (square_node a) = x k ≡ product_of (x a) (x a)

-- there is a node at each number below their length
there : (nodes : List Node) (k : ℕ) → k < length nodes → slice_get nodes k ≡ None → ⊥
there [] k l e = absurd (omega arith)
there (n ∷ nodes) zero l e = cc
there (n ∷ nodes) (suc k) l e = there nodes k (omega arith) e

-- the nodes' values at the centre, u, and at a point, v, with their enclosures
module _ (nodes : List Node) (cs es : List Interval) (u v : ℕ → Fraction) (gu : (k : ℕ) → IsFraction (u k)) (gv : (k : ℕ) → IsFraction (v k))
    (hu : (k : ℕ) → k < length nodes → Holds (row cs k) (u k)) (hv : (k : ℕ) → k < length nodes → Holds (row es k) (v k))
    (IsReal : ℕ → Type 0) (uxs vxs : ℕ → Fraction) (gux : (axis : ℕ) → IsFraction (uxs axis)) (gvx : (axis : ℕ) → IsFraction (vxs axis)) where
  abbrev pub off : ℕ → Fraction
  off k = difference_of (v k) (u k)

  pub good : (k : ℕ) → IsFraction (off k)
  good k = off_good (v k) (u k) (gv k) (gu k)

  abbrev pub apart : ℕ → Fraction
  apart axis = difference_of (vxs axis) (uxs axis)

  pub fine : (axis : ℕ) → IsFraction (apart axis)
  fine axis = off_good (vxs axis) (uxs axis) (gvx axis) (gux axis)

  -- a variable is a Real axis
  abbrev pub IsRealNode : Node → Type 0
  IsRealNode (variable_node axis) = IsReal axis
  IsRealNode n = Unit {0}

  off-holds : (k : ℕ) → k < length nodes → Holds (off_centre es cs k) (off k)
  off-holds k l = sum_holds (row es k) (interval_negated (row cs k)) (v k) (negated (u k)) (hv k l) (negated_holds (row cs k) (u k) (hu k l))

  abbrev pub Reached : ℕ → Adjoints → Adjoints → List Part → Interval → Fraction → Type 0
  Reached k os qs ps acc f = Reaches off good IsReal apart fine k os qs ps acc f

  -- in place of what was taken for node k comes what equals it
  put-back : (k : ℕ) (os qs : Adjoints) (ps : List Part) (acc : Interval) (f z s : Fraction) → IsFraction f → IsFraction z → IsFraction s → z ≈ s → Reached k os qs ps acc (sum_of (difference_of f z) s) → Reached k os qs ps acc f
  put-back k os qs ps acc f z s i j g e r = same_reaches off good IsReal apart fine k os qs ps acc (sum_of (difference_of f z) s) f (sum_is_good (difference_of f z) s (off_good f z i j) g, i, restored f z s i j e) r

  -- the part of node k, where its values are these
  part-is : (k : ℕ) (a x y : Fraction) (s : Fraction) → v k ≡ x → u k ≡ y → product_of a (difference_of x y) ≈ s → product_of a (off k) ≈ s
  part-is k a x y s ex ey e = subst (λ (z : Fraction). z ≈ s) (sym (ap₂ (λ (p q : Fraction). product_of a (difference_of p q)) ex ey)) e

  module _ (k : ℕ) (os qs : Adjoints) (ps : List Part) (acc w : Interval) (f a : Fraction) (gf : IsFraction f) (ga : IsFraction a) (ha : Holds w a) where
    abbrev taken : Fraction
    taken = product_of a (off k)

    abbrev left : Fraction
    left = difference_of f taken

    taken-good : IsFraction taken
    taken-good = product_is_good a (off k) ga (good k)

    left-good : IsFraction left
    left-good = off_good f taken gf taken-good

    -- node k = m * n, of which a square is a case
    product-step : (m n : ℕ) → m < k → n < k → k < length nodes → v k ≡ product_of (v m) (v n) → u k ≡ product_of (u m) (u n) → (qs' : Adjoints) (acc' : Interval) →
        ((os' : Adjoints) (g : Fraction) → IsFraction g → Reached k os' qs ps acc g → Reached k os' qs' ps acc' (sum_of g (product_of a (product_of (off m) (off n))))) → Reached k os qs ps acc left →
        Reached k (handed n (interval_product w (row cs m)) (handed m (interval_product w (row cs n)) os)) qs' ps acc' f
    product-step m n lm ln l ev eu qs' acc' last r =
        let um : Fraction = product_of a (u n) in let un : Fraction = product_of a (u m) in
        let gm : IsFraction um = product_is_good a (u n) ga (gu n) in let gn : IsFraction un = product_is_good a (u m) ga (gu m) in
        let x : Fraction = product_of um (off m) in let y : Fraction = product_of un (off n) in let z : Fraction = product_of a (product_of (off m) (off n)) in
        let gx : IsFraction x = product_is_good um (off m) gm (good m) in let gy : IsFraction y = product_is_good un (off n) gn (good n) in
        let gz : IsFraction z = product_is_good a (product_of (off m) (off n)) ga (product_is_good (off m) (off n) (good m) (good n)) in
        let hm : Holds (interval_product w (row cs n)) um = product_holds w (row cs n) a (u n) ga (gu n) ha (hu n (omega arith)) in
        let hn : Holds (interval_product w (row cs m)) un = product_holds w (row cs m) a (u m) ga (gu m) ha (hu m (omega arith)) in
        let os' : Adjoints = handed n (interval_product w (row cs m)) (handed m (interval_product w (row cs n)) os) in
        let lx : IsFraction (sum_of left x) = sum_is_good left x left-good gx in
        let one = handed_reaches off good IsReal apart fine k m os qs ps acc (interval_product w (row cs n)) um lm gm hm left left-good r in
        let two = handed_reaches off good IsReal apart fine k n (handed m (interval_product w (row cs n)) os) qs ps acc (interval_product w (row cs m)) un ln gn hn (sum_of left x) lx one in
        let three = last os' (sum_of (sum_of left x) y) (sum_is_good (sum_of left x) y lx gy) two in
        let joint : sum_of (sum_of (sum_of left x) y) z ≡ sum_of left (sum_of (sum_of x y) z) = ap (λ (t : Fraction). sum_of t z) (sum_assoc left x y) ∙ sum_assoc left (sum_of x y) z in
        put-back k os' qs' ps acc' f taken (sum_of (sum_of x y) z) gf taken-good (sum_is_good (sum_of x y) z (sum_is_good x y gx gy) gz)
        (part-is k a (product_of (v m) (v n)) (product_of (u m) (u n)) (sum_of (sum_of x y) z) ev eu (of_product a (u m) (v m) (u n) (v n) ga (gu m) (gv m) (gu n) (gv n)))
        (subst (Reached k os' qs' ps acc') joint three)

    -- the state after node k, no variable
    abbrev After : Node → Type 0
    After n = Reached k (handed_down cs w n os) (squares_down w n qs) (product_rest es cs (Some w) n (record { parts = ps; rest = acc })).parts (product_rest es cs (Some w) n (record { parts = ps; rest = acc })).rest f

    constant-step : (q : Fraction) → u k ≡ q → v k ≡ q → Reached k os qs ps acc left → After (constant_node q)
    constant-step q eu ev r = same_reaches off good IsReal apart fine k os qs ps acc left f (
      left-good,
      gf,
      subst (λ (z : Fraction). difference_of f z ≈ f) (sym (ap₂ (λ (x y : Fraction). product_of a (difference_of x y)) ev eu)) (of_constant f a q),
    ) r

    negate-step : (m : ℕ) → m < k → u k ≡ negated (u m) → v k ≡ negated (v m) → Reached k os qs ps acc left → After (negate_node m)
    negate-step m lm eu ev r = let gn : IsFraction (negated a) = negated_is_good a ga in
        put-back k (handed m (interval_negated w) os) qs ps acc f taken (product_of (negated a) (off m)) gf taken-good (product_is_good (negated a) (off m) gn (good m))
        (part-is k a (negated (v m)) (negated (u m)) (product_of (negated a) (off m)) ev eu (of_negation a (u m) (v m)))
        (handed_reaches off good IsReal apart fine k m os qs ps acc (interval_negated w) (negated a) lm gn (negated_holds w a ha) left left-good r)

    add-step : (m n : ℕ) → m < k → n < k → u k ≡ sum_of (u m) (u n) → v k ≡ sum_of (v m) (v n) → Reached k os qs ps acc left → After (add_node m n)
    add-step m n lm ln eu ev r =
        let x : Fraction = product_of a (off m) in let y : Fraction = product_of a (off n) in
        let gx : IsFraction x = product_is_good a (off m) ga (good m) in let gy : IsFraction y = product_is_good a (off n) ga (good n) in
        let os' : Adjoints = handed n w (handed m w os) in
        put-back k os' qs ps acc f taken (sum_of x y) gf taken-good (sum_is_good x y gx gy)
        (part-is k a (sum_of (v m) (v n)) (sum_of (u m) (u n)) (sum_of x y) ev eu (of_sum a (u m) (v m) (u n) (v n)))
        (subst (Reached k os' qs ps acc) (sum_assoc left x y)
        (handed_reaches off good IsReal apart fine k n (handed m w os) qs ps acc w a ln ga ha (sum_of left x) (sum_is_good left x left-good gx) (handed_reaches off good IsReal apart fine k m os qs ps acc w a lm ga ha left left-good r)))

    multiply-step : (m n : ℕ) → m < k → n < k → k < length nodes → u k ≡ product_of (u m) (u n) → v k ≡ product_of (v m) (v n) → Reached k os qs ps acc left → After (multiply_node m n)
    multiply-step m n lm ln l eu ev r = let d : Fraction = product_of (off m) (off n) in let gd : IsFraction d = product_is_good (off m) (off n) (good m) (good n) in
        let i : Interval = interval_product (off_centre es cs m) (off_centre es cs n) in
        let hz : Holds (interval_product w i) (product_of a d) = product_holds w i a d ga gd ha (product_holds (off_centre es cs m) (off_centre es cs n) (off m) (off n) (good m) (good n) (off-holds m (omega arith)) (off-holds n (omega arith))) in
        product-step m n lm ln l ev eu qs (interval_sum acc (interval_product w i)) (λ os' g gg t. more_reaches off good IsReal apart fine k os' qs ps acc g (interval_product w i) (product_of a d) gg hz t) r

    square-step : (m : ℕ) → m < k → k < length nodes → u k ≡ product_of (u m) (u m) → v k ≡ product_of (v m) (v m) → Reached k os qs ps acc left → After (square_node m)
    square-step m lm l eu ev r = product-step m m lm lm l ev eu (handed m w qs) acc (λ os' g gg t. squared_reaches off good IsReal apart fine k m os' qs ps acc w a lm ga ha g gg t) r

  -- the square of node k, no variable, goes to the rest
  settled : (k : ℕ) → k < length nodes → (os qs : Adjoints) (ps : List Part) (acc : Interval) (q : Option Interval) (f : Fraction) → IsFraction f → Through q (product_of (off k) (off k)) (Reached k os qs ps acc) f →
      Reached k os qs (squared_rest es cs k q (record { parts = ps; rest = acc })).parts (squared_rest es cs k q (record { parts = ps; rest = acc })).rest f
  settled k l os qs ps acc None f gf r = r
  settled k l os qs ps acc (Some w) f gf r =
      let d : Fraction = product_of (off k) (off k) in let gd : IsFraction d = product_is_good (off k) (off k) (good k) (good k) in let z : Fraction = product_of r.0 d in let gz : IsFraction z = product_is_good r.0 d r.1 gd in
      let i : Interval = interval_product w (interval_square (off_centre es cs k)) in
      put-back k os qs ps (interval_sum acc i) f z z gf gz gz (≈_refl z) (more_reaches off good IsReal apart fine k os qs ps acc (difference_of f z) i z (off_good f z gf gz)
      (product_holds w (interval_square (off_centre es cs k)) r.0 d r.1 gd r.2 (square_holds (off_centre es cs k) (off k) (good k) (off-holds k l))) r.3)

  -- what is told of a node
  abbrev pub Told : ℕ → Node → Type 0
  Told k n = IsTrue (comes_after k n) × IsRealNode n × Agrees uxs u k n × Agrees vxs v k n

  -- the state after node k, of which these are the coefficients
  abbrev pub Next : ℕ → Adjoints → Adjoints → List Part → Interval → Option Interval → Option Interval → Option Node → Fraction → Type 0
  Next k os qs ps acc o q m f = Reached k (next_adjoints cs o m os) (next_squares o m qs) (next_expansion es cs k o q m (record { parts = ps; rest = acc })).parts (next_expansion es cs k o q m (record { parts = ps; rest = acc })).rest f

  module _ (k : ℕ) (l : k < length nodes) (os qs : Adjoints) (ps : List Part) (acc : Interval) (q : Option Interval) (f : Fraction) (gf : IsFraction f) where
    abbrev after-square : Expansion
    after-square = squared_rest es cs k q (record { parts = ps; rest = acc })

    -- the square settled first
    first : (o : Option Interval) → Both o q (off k) (Reached k os qs ps acc) f → Through o (off k) (Reached k os qs after-square.parts after-square.rest) f
    first o r = through_map Equal equal_stable (Through q (product_of (off k) (off k)) (Reached k os qs ps acc)) (Reached k os qs after-square.parts after-square.rest)
        (λ f' g e t. subst (Reached k os qs after-square.parts after-square.rest) e.1 (settled k l os qs ps acc q f' e.0 t)) o (off k) (good k) f f (gf, refl) r

    variable-step : (o : Option Interval) (axis : ℕ) → IsReal axis → u k ≡ uxs axis → v k ≡ vxs axis → Both o q (off k) (Reached k os qs ps acc) f → Next k os qs ps acc o q (Some (variable_node axis)) f
    variable-step o axis n eu ev r = at o q (subst (λ (d : Fraction). Both o q d (Reached k os qs ps acc) f) (ap₂ (λ (x y : Fraction). difference_of x y) ev eu) r)
      where
        at : (o' q' : Option Interval) → Both o' q' (apart axis) (Reached k os qs ps acc) f → Next k os qs ps acc o' q' (Some (variable_node axis)) f
        at None None t = t
        at None (Some y) t = parted off good IsReal apart fine k os qs ps acc axis None (Some y) f n gf t
        at (Some w) None t = parted off good IsReal apart fine k os qs ps acc axis (Some w) None f n gf t
        at (Some w) (Some y) t = parted off good IsReal apart fine k os qs ps acc axis (Some w) (Some y) f n gf t

    node-step : (o : Option Interval) (n : Node) → Told k n → Both o q (off k) (Reached k os qs ps acc) f → Next k os qs ps acc o q (Some n) f
    node-step o (variable_node axis) h r = variable-step o axis h.1 h.2 h.3 r
    node-step None (constant_node c) h r = first None r
    node-step None (negate_node m) h r = first None r
    node-step None (add_node m n) h r = first None r
    node-step None (multiply_node m n) h r = first None r
    node-step None (square_node m) h r = first None r
    node-step (Some w) (constant_node c) h r = let t = first (Some w) r in constant-step k os qs after-square.parts after-square.rest w f t.0 gf t.1 t.2 c h.2 h.3 t.3
    node-step (Some w) (negate_node m) h r = let t = first (Some w) r in negate-step k os qs after-square.parts after-square.rest w f t.0 gf t.1 t.2 m (ltb→lt m k (passes _ h.0)) h.2 h.3 t.3
    node-step (Some w) (add_node m n) h r = let t = first (Some w) r in let b = both_true (nat_lt m k) (nat_lt n k) h.0 in
        add-step k os qs after-square.parts after-square.rest w f t.0 gf t.1 t.2 m n (ltb→lt m k (passes _ b.0)) (ltb→lt n k (passes _ b.1)) h.2 h.3 t.3
    node-step (Some w) (multiply_node m n) h r = let t = first (Some w) r in let b = both_true (nat_lt m k) (nat_lt n k) h.0 in
        multiply-step k os qs after-square.parts after-square.rest w f t.0 gf t.1 t.2 m n (ltb→lt m k (passes _ b.0)) (ltb→lt n k (passes _ b.1)) l h.2 h.3 t.3
    node-step (Some w) (square_node m) h r = let t = first (Some w) r in square-step k os qs after-square.parts after-square.rest w f t.0 gf t.1 t.2 m (ltb→lt m k (passes _ h.0)) l h.2 h.3 t.3

  -- what is reached before the sweep is what is left after it
  pub sweep_leaves : ((k : ℕ) (n : Node) → slice_get nodes k ≡ Some n → Told k n) →
      (k : ℕ) → k ≤ length nodes → (os qs : Adjoints) (e : Expansion) (f : Fraction) → IsFraction f → Reached k os qs e.parts e.rest f →
      Left off good IsReal apart fine (swept nodes es cs k os qs e).parts (swept nodes es cs k os qs e).rest f
  sweep_leaves laws zero l os qs e f g r = r
  sweep_leaves laws (suc k) l os qs e f g r = sweep_leaves laws k (omega arith) (next_adjoints cs (os k) (slice_get nodes k) os) (next_squares (os k) (slice_get nodes k) qs) (next_expansion es cs k (os k) (qs k) (slice_get nodes k) e) f g (at (slice_get nodes k) refl)
    where
      at : (m : Option Node) → slice_get nodes k ≡ m → Reached k (next_adjoints cs (os k) m os) (next_squares (os k) m qs) (next_expansion es cs k (os k) (qs k) m e).parts (next_expansion es cs k (os k) (qs k) m e).rest f
      at None d = absurd (there nodes k (omega arith) d)
      at (Some n) d = node-step k (omega arith) os qs e.parts e.rest (qs k) f g (os k) n (laws k n d) r
