-- A script has one problem.
use Rattle.std.proofs.Common.{◌≡◌, ℕ, suc, ◌+◌, ◌*◌, ◌/◌, ◌<◌, ℤ, pos, ◌*ℤ◌, ◌≤ℤ◌, List, [], ◌∷◌, map, length, Bool, IsTrue, Option, Some, None, refl, ap, ap₂, sym, ◌∙◌, subst, arith, slice_index_or}
use Rattle.std.specs.Prelude.{All, slice_get, nat_abs}
use Rattle.std.specs.Int.{IsGcd}
use Rattle.std.proofs.lemmas.Int.{ints, unsigned_abs-mul}
use Rattle.std.proofs.lemmas.List.{ext_get_or}
use Rattle.std.proofs.lemmas.List.Elements.{All-nil, All-cons}
use Rattle.std.proofs.lemmas.Nat.Gcd.{same_from_IsGcd, dvd_trans}
use Rattle.std.proofs.Math.Nat.{dvd-mul_right, dvd_of_mul-dvd-mul_left, mul-dvd-mul_left, mul-div_cancel'}
use Prim.Native.Nat.{◌∣◌}
use borrow.Author.Differences.{up, down}
use Rattle.dyadic.specs.Fraction.{Fraction, IsFraction, zero_fraction, at_most}
use Rattle.dyadic.specs.Lowest.{gcd}
use Rattle.dyadic.specs.Point.{Sort, real_sort, bool_sort}
use Rattle.dyadic.proofs.Equal.{◌≈◌, cancel_equal, holds_le, through}
use Rattle.dyadic.proofs.Reduced.{IsGcd-gcd}
use Rattle.dyadic.proofs.Ring.{atom, natural, times, same, read}
use Rattle.script_model.specs.Script.{Command, Constant, constants_of}
use Rattle.script_model.specs.Declared.{DeclaredInterval, declared_interval}
use Rattle.script_model.proofs.Bounds.{IfFraction, ends_are_fractions}
use Rattle.poly_graph.specs.Term.{Term, constant, Node, constant_node, node_term, graph_terms, Kind, Atom}
use Rattle.poly_graph.specs.Form.{Form}
use Rattle.poly_graph.specs.Problem.{Axis, Declared, real_between, any_bool, Problem, atom_at, full_atom, no_place, IsProblem}
use Rattle.poly_graph.specs.ProblemViews.{axis_of, declared_of}
use Rattle.poly_graph.specs.Shared.{IsGraph}
use Rattle.poly_graph.specs.declared.axis.Axis as code_axis
use Rattle.poly_graph.specs.declared.axis.Declared as code_declared
use Rattle.poly_graph.specs.declared.axis.Declared.TheVariants as declared
use Rattle.poly_graph.proofs.Graphs.{unfolds, length_terms, in_order_at}
use Rattle.poly_graph.proofs.Same.{one_number}
use Rattle.script_forms.specs.ProblemOf.{IsEnd, IsDeclaredBy, AreAxes}
use Rattle.smt_script.specs.Levels.{Asked}
use Rattle.script_reading.specs.Built.{AreLowest, IsBuiltOf}
use Rattle.script_reading.specs.Reader.{IsBuilt, commands_of}
use Rattle.script_reading.specs.Session.{AreBuilt, HasSession, asked_in, carried_in}
use Rattle.term_build.proofs.Lists.{index_get, all_head, all_tail}
use Rattle.term_build.proofs.Trees.{same_node}

-- ---- fractions in lowest terms

abbrev IsLeast : Fraction → Type 0
IsLeast q = IsGcd (nat_abs q.num) q.den 1

times-one : (k : ℕ) → k * 1 ≡ k
times-one k = omega arith

-- the greatest common divisor of multiples of two numbers that have none
scaled : (k a b : ℕ) → 0 < k → IsGcd a b 1 → IsGcd (k * a) (k * b) k
scaled k a b p h =
    let g : ℕ = gcd (k * a) (k * b) in
    let is : IsGcd (k * a) (k * b) g = IsGcd-gcd (k * a) (k * b) in
    let e : k * (g / k) ≡ g = mul-div_cancel' k (is.2 k (dvd-mul_right k a) (dvd-mul_right k b)) in
    let left : g / k ∣ a = dvd_of_mul-dvd-mul_left (g / k) p (subst (λ (n : ℕ). n ∣ k * a) (sym e) is.0) in
    let right : g / k ∣ b = dvd_of_mul-dvd-mul_left (g / k) p (subst (λ (n : ℕ). n ∣ k * b) (sym e) is.1) in
    let back : g ∣ k * 1 = subst (λ (n : ℕ). n ∣ k * 1) e (mul-dvd-mul_left (g / k) k (h.2 (g / k) left right)) in
    let whole : g ∣ k = subst (λ (n : ℕ). g ∣ n) (times-one k) back in
    (dvd-mul_right k a, dvd-mul_right k b, λ d x y. dvd_trans d (is.2 d x y) whole)

-- equal fractions in lowest terms are one
lowest-one : (p q : Fraction) → IsFraction p → IsFraction q → IsLeast p → IsLeast q → p ≈ q → p ≡ q
lowest-one p q f g h k e =
    let sizes : nat_abs p.num * q.den ≡ nat_abs q.num * p.den = sym (unsigned_abs-mul p.num (pos q.den)) ∙ ap nat_abs e.same ∙ unsigned_abs-mul q.num (pos p.den) in
    let first : q.den * nat_abs p.num ≡ p.den * nat_abs q.num = omega (arith, sizes) in
    let second : q.den * p.den ≡ p.den * q.den = omega arith in
    let moved : IsGcd (p.den * nat_abs q.num) (p.den * q.den) q.den = subst (λ (n : ℕ). IsGcd n (p.den * q.den) q.den) first (subst (λ (n : ℕ). IsGcd (q.den * nat_abs p.num) n q.den) second (scaled q.den (nat_abs p.num) p.den g h)) in
    let den : p.den ≡ q.den = same_from_IsGcd (p.den * nat_abs q.num) (p.den * q.den) p.den q.den (scaled p.den (nat_abs q.num) q.den f k) moved in
    let tops : p.num *ℤ pos q.den ≡ q.num *ℤ pos q.den = e.same ∙ ap (λ (n : ℕ). q.num *ℤ pos n) den in
    let parts = read (times (atom p.num) (natural q.den)) (times (atom q.num) (natural q.den)) tops in
    let num : p.num ≡ q.num = same (atom p.num) (atom q.num) (cancel_equal (up p.num + down q.num) (up q.num + down p.num) q.den g (omega (arith, parts))) in
    ap₂ (λ (n : ℤ) (d : ℕ). record { num = n; den = d }) num den

both-ways : (p q : Fraction) → IsTrue (at_most p q) → IsTrue (at_most q p) → p ≈ q
unfolding at_most
both-ways p q h k =
    let a : ℤ = p.num *ℤ pos q.den in
    let b : ℤ = q.num *ℤ pos p.den in
    record { same = one a b (holds_le a b h) (holds_le b a k) }
  where
    one : (a b : ℤ) → a ≤ℤ b → b ≤ℤ a → a ≡ b
    one a b l m = omega (arith, ints)

-- ---- axes

end-one : (e : Option Fraction) (l m : Fraction) → IfFraction e → IsEnd e l → IsEnd e m → IsLeast l → IsLeast m → l ≡ m
end-one None l m f h k g i = absurd h
end-one (Some x) l m f h k g i = lowest-one l m h.0 k.0 g i (both-ways l m (through l x m f h.2 k.1) (through m x l f k.2 h.1))

declared-one : (s : Sort) (i : DeclaredInterval) (c d : Declared) → IfFraction i.low × IfFraction i.high → IsDeclaredBy s i c → IsDeclaredBy s i d → AreLowest c → AreLowest d → c ≡ d
declared-one real_sort i (real_between l h) (real_between m j) f x y u v = ap₂ real_between (end-one i.low l m f.0 x.0 y.0 u.0 v.0) (end-one i.high h j f.1 x.1 y.1 u.1 v.1)
declared-one bool_sort i any_bool any_bool f x y u v = refl
declared-one real_sort i any_bool d f x y u v = absurd x
declared-one real_sort i (real_between l h) any_bool f x y u v = absurd y
declared-one bool_sort i (real_between l h) d f x y u v = absurd x
declared-one bool_sort i any_bool (real_between m j) f x y u v = absurd y

abbrev IsLowestAxis : Axis → Type 0
IsLowestAxis a = AreLowest a.declared

axes-one : (box : ℕ → DeclaredInterval) (axis : ℕ) (cs : List Constant) (xs ys : List Axis) → ((k : ℕ) → IfFraction (box k).low × IfFraction (box k).high) → AreAxes box axis cs xs → AreAxes box axis cs ys → All IsLowestAxis xs → All IsLowestAxis ys → xs ≡ ys
axes-one box axis [] [] [] f h k u v = refl
axes-one box axis (c ∷ cs) (x ∷ xs) (y ∷ ys) f h k u v =
    let one : x ≡ y = ap₂ (λ (n : List ℕ) (d : Declared). record { name = n; declared = d }) (h.0 ∙ sym k.0)
    (declared-one c.sort (box axis) x.declared y.declared (f axis) h.1 k.1 (all_head IsLowestAxis x xs u) (all_head IsLowestAxis y ys v)) in
    ap₂ (λ (z : Axis) (zs : List Axis). z ∷ zs) one (axes-one box (suc axis) cs xs ys f h.2 k.2 (all_tail IsLowestAxis x xs u) (all_tail IsLowestAxis y ys v))
axes-one box axis [] (x ∷ xs) ys f h k u v = absurd h
axes-one box axis [] [] (y ∷ ys) f h k u v = absurd k
axes-one box axis (c ∷ cs) [] ys f h k u v = absurd h
axes-one box axis (c ∷ cs) (x ∷ xs) [] f h k u v = absurd k

-- the ends that code keeps are in lowest terms
lowest-ends : (d : code_declared.Declared) → AreLowest (declared_of d)
lowest-ends (declared.Real l h) = (l.lowest.in_lowest_terms, h.lowest.in_lowest_terms)
lowest-ends declared.Bool = tt

pub ends_are_lowest : (axes : List code_axis.Axis) → All IsLowestAxis (map axis_of axes)
ends_are_lowest [] = All-nil IsLowestAxis
ends_are_lowest (a ∷ axes) = All-cons IsLowestAxis (axis_of a) (map axis_of axes) (lowest-ends a.declared) (ends_are_lowest axes)

-- ---- nodes

nodes-one : (ms ns : List Node) → IsGraph ms → IsGraph ns → graph_terms ms ≡ graph_terms ns → ms ≡ ns
nodes-one ms ns g h e = ext_get_or none ms ns size one
  where
    none : Node
    none = constant_node zero_fraction

    size : length ms ≡ length ns
    size = sym (length_terms ms) ∙ ap (λ (ts : List Term). length ts) e ∙ length_terms ns

    one : (i : ℕ) → i < length ms → slice_index_or ms i none ≡ slice_index_or ns i none
    one i l =
        let m : Node = slice_index_or ms i none in
        let n : Node = slice_index_or ns i none in
        let at-m : slice_get ms i ≡ Some m = index_get ms i none l in
        let at-n : slice_get ns i ≡ Some n = index_get ns i none (omega (arith, l, size)) in
        same_node ns h (0 + i) (0 + i) m n (omega (arith, l, size)) (omega (arith, l, size)) (in_order_at 0 ms g.ordered i m at-m).0 (in_order_at 0 ns h.ordered i n at-n).0
        (ap (λ (ts : List Term). node_term ts m) (sym e) ∙ sym (unfolds ms g.ordered i m at-m) ∙ ap (λ (ts : List Term). slice_index_or ts i (constant zero_fraction)) e ∙ unfolds ns h.ordered i n at-n)

-- ---- all parts

module _ (p q : Problem) (whole : IsProblem p) (whole' : IsProblem q) (nodes : p.nodes ≡ q.nodes) (graph : IsGraph q.nodes) where
  -- atoms of one term and one kind are one
  atom-one : (j : ℕ) → j < length p.atoms → j < length q.atoms → full_atom p j ≡ full_atom q j → atom_at p j ≡ atom_at q j
  atom-one j l m e =
      let a : ℕ × Kind = atom_at p j in
      let b : ℕ × Kind = atom_at q j in
      let first : a.0 < length q.nodes = subst (λ (ns : List Node). a.0 < length ns) nodes (whole.atoms j no_place l) in
      let second : b.0 < length q.nodes = whole'.atoms j no_place m in
      let terms = ap (λ (ns : List Node). slice_index_or (graph_terms ns) a.0 (constant zero_fraction)) (sym nodes) ∙ ap (λ (x : Atom). x.0) e in
      ap₂ (λ (k : ℕ) (kind : Kind). (k, kind)) (one_number q.nodes graph a.0 b.0 first second terms) (ap (λ (x : Atom). x.1) e)

  atoms-one : length p.atoms ≡ length q.atoms → ((j : ℕ) → j < length p.atoms → full_atom p j ≡ full_atom q j) → p.atoms ≡ q.atoms
  atoms-one size f = ext_get_or no_place p.atoms q.atoms size (λ j l. atom-one j l (omega (arith, l, size)) (f j l))

parts-one : (p q : Problem) → p.axes ≡ q.axes → p.nodes ≡ q.nodes → p.atoms ≡ q.atoms → p.form ≡ q.form → p ≡ q
parts-one p q a n t f =
    ap (λ (x : List Axis). record { axes = x; nodes = p.nodes; atoms = p.atoms; form = p.form }) a
    ∙ ap (λ (x : List Node). record { axes = q.axes; nodes = x; atoms = p.atoms; form = p.form }) n
    ∙ ap (λ (x : List (ℕ × Kind)). record { axes = q.axes; nodes = q.nodes; atoms = x; form = p.form }) t
    ∙ ap (λ (x : Form ℕ). record { axes = q.axes; nodes = q.nodes; atoms = q.atoms; form = x }) f

pub built_of_one : (bound : Option ℕ) (script : List Command) (p q : Problem) → IsBuiltOf bound script p → IsBuiltOf bound script q → p ≡ q
built_of_one bound script p q b c =
    let axes : p.axes ≡ q.axes = axes-one (declared_interval bound script) 0 (constants_of script) p.axes q.axes (ends_are_fractions bound script) b.problem.axes c.problem.axes b.ends c.ends in
    let nodes : p.nodes ≡ q.nodes = nodes-one p.nodes q.nodes b.nodes c.nodes (b.order ∙ sym c.order) in
    let count : length p.atoms ≡ length q.atoms = b.problem.count ∙ sym c.problem.count in
    parts-one p q axes nodes
    (atoms-one p q b.whole c.whole nodes c.nodes count (λ j l. b.problem.atoms j l ∙ sym (c.problem.atoms j (omega (arith, l, count)))))
    (b.problem.form ∙ sym c.problem.form)

pub built_one : (bound : Option ℕ) (text : List ℕ) (p q : Problem) → IsBuilt bound text p → IsBuilt bound text q → p ≡ q
built_one bound text p q b c = built_of_one bound (commands_of bound text) p q b c

-- ---- all checks

all-one : (bound : Option ℕ) (asked : List Asked) (said : List Bool) (ps qs : List (Problem × Bool)) → AreBuilt bound asked said ps → AreBuilt bound asked said qs → ps ≡ qs
all-one bound [] [] [] [] f g = refl
all-one bound [] [] [] (q ∷ qs) f g = absurd g
all-one bound (a ∷ asked) (x ∷ said) (p ∷ ps) [] f g = absurd g
all-one bound (a ∷ asked) (x ∷ said) (p ∷ ps) (q ∷ qs) f g =
    let one : p ≡ q = ap₂ (λ (y : Problem) (b : Bool). (y, b)) (built_of_one bound a.script p.0 q.0 f.0 g.0) (f.1 ∙ sym g.1) in
    ap₂ (λ (y : Problem × Bool) (ys : List (Problem × Bool)). y ∷ ys) one (all-one bound asked said ps qs f.2 g.2)
all-one bound _ _ _ qs f g = absurd f

pub session_one : (bound : Option ℕ) (text : List ℕ) (ps qs : List (Problem × Bool)) → HasSession bound ps text → HasSession bound qs text → ps ≡ qs
session_one bound text ps qs f g = all-one bound (asked_in bound text) (carried_in bound text) ps qs f.built g.built
