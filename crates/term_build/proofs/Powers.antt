-- Powers: how often a factor stands, and what is made then.
use Rattle.std.proofs.Common.{◌≡◌, ℕ, zero, suc, ◌/◌, ◌%◌, ◌<◌, ◌≤◌, [], ◌∷◌, length, Bool, true, false, ◌&&◌, IsTrue, T, nat_lt, lt→ltb, Some, None, refl, ap, sym, ◌∙◌, subst, arith}
use Rattle.std.specs.Prelude.{Result, Ok, Err}
use Rattle.dyadic.specs.Fraction.{zero_fraction}
use Rattle.poly_graph.specs.Term.{Term, constant, variable, negate, add, multiply, square}
use Rattle.poly_graph.proofs.Graphs.{length_terms}
use Rattle.script_forms.specs.Terms.{same_term, Times, once, twice, twice_and_once, once_more, power, repeats}
use Rattle.script_forms.specs.Work.{made, power_events}
use Rattle.script_forms.specs.Walk.{make_tree}
use Rattle.term_build.specs.Built.{BuilderModel, stand_of}
use Rattle.term_build.specs.Does.{Does, IsTree}
use Rattle.term_build.specs.Steps.{Emits, as_constant, count, tree_of}
use Rattle.term_build.specs.declared.stop.Stop.{Stop}
use Rattle.term_build.proofs.Emits.{emits_made, emits_then, emits_stop, grown, same_tree, tree_is, tree_below, more_nodes}
use Rattle.term_build.proofs.Lists.{index_get}

-- ---- how often

pub some_times : (w : Times) → 0 < count w
some_times once = omega arith
some_times (twice w) = omega (arith, some_times w)
some_times (twice_and_once w) = omega arith

pub count_more : (w : Times) → count (once_more w) ≡ suc (count w)
count_more once = refl
count_more (twice w) = refl
count_more (twice_and_once w) = omega (arith, count_more w)

-- each number of times there is
pub times_of : (n : ℕ) → 0 < n → (w : Times) × (count w ≡ n)
times_of zero h = absurd (omega (arith, h))
times_of (suc zero) h = (once, refl)
times_of (suc (suc n)) h = let v = times_of (suc n) (omega arith) in (once_more v.0, count_more v.0 ∙ ap suc v.1)

-- ---- one factor after the other

pub repeats_not : {q : _} (t u : Term) → Some q ≡ as_constant t → false ≡ repeats t u
repeats_not (constant p) u e = refl
repeats_not (variable i) u e = cc
repeats_not (negate t) u e = cc
repeats_not (add t t') u e = cc
repeats_not (multiply t t') u e = cc
repeats_not (square t) u e = cc

pub repeats_same : (t u : Term) → None ≡ as_constant t → same_term t u ≡ repeats t u
repeats_same (constant p) u e = cc
repeats_same (variable i) u e = refl
repeats_same (negate t) u e = refl
repeats_same (add t t') u e = refl
repeats_same (multiply t t') u e = refl
repeats_same (square t) u e = refl

-- ---- what is made

node-there : (m : BuilderModel) (k : ℕ) → k < length m.nodes → IsTree m (tree_of m k) k
node-there m k h = index_get (stand_of m).trees k (constant zero_fraction) (omega (arith, h, length_terms m.nodes))

-- a factor that stands once
pub power_once : (m : BuilderModel) (k n : ℕ) → k < length m.nodes → n ≡ 1 → (w : Times) → count w ≡ n → Emits m m (power_events w (tree_of m k)) (Ok k) (IsTree m (power w (tree_of m k)))
power_once m k n h e once c = ((λ claim. refl), node-there m k h)
power_once m k n h e (twice w) c = absurd (omega (arith, e, c, some_times w))
power_once m k n h e (twice_and_once w) c = absurd (omega (arith, e, c, some_times w))

-- the root of its square is made, or stops
abbrev pub Roots : BuilderModel → BuilderModel → Term → ℕ → Result ℕ Stop → Type 0
Roots m m1 t n r = (v : Times) → count v ≡ n / 2 → Emits m m1 (power_events v t) r (IsTree m1 (power v t))

abbrev pub Powers : BuilderModel → BuilderModel → Term → ℕ → Result ℕ Stop → Type 0
Powers m m1 t n r = (w : Times) → count w ≡ n → Emits m m1 (power_events w t) r (IsTree m1 (power w t))

pub root_stops : (m m1 : BuilderModel) (t : Term) (n : ℕ) (e : Stop) → (n ≡ 1 → ⊥) → Roots m m1 t n (Err e) → Powers m m1 t n (Err e)
root_stops m m1 t n e o h once c = absurd (o (sym c))
root_stops m m1 t n e o h (twice v) c = emits_stop (IsTree m1 (power v t)) (IsTree m1 (power (twice v) t)) m m1 m1 (power_events v t) (made (square (power v t)) ∷ []) e (h v (omega (arith, c)))
root_stops m m1 t n e o h (twice_and_once v) c =
    emits_stop (IsTree m1 (power v t)) (IsTree m1 (power (twice_and_once v) t)) m m1 m1 (power_events v t) (made (square (power v t)) ∷ made (multiply t (square (power v t))) ∷ []) e (h v (omega (arith, c)))

-- there is such a root
root-times : (n : ℕ) → 0 < n → (n ≡ 1 → ⊥) → (v : Times) × (count v ≡ n / 2)
root-times n h o = times_of (n / 2) (omega (arith, h, o))

pub root_below : (m m1 : BuilderModel) (t : Term) (n j : ℕ) → 0 < n → (n ≡ 1 → ⊥) → Roots m m1 t n (Ok j) → j < length m1.nodes
root_below m m1 t n j h o r = let v = root-times n h o in tree_below m1 (power v.0 t) j (r v.0 v.1).1

-- the square of the root is made, or stops
square-made : (m m1 m2 : BuilderModel) (t : Term) (n j : ℕ) (r : Result ℕ Stop) → Roots m m1 t n (Ok j) → Does m1 m2 (λ claim s. make_tree claim s (square (tree_of m1 j))) r (IsTree m2 (square (tree_of m1 j))) → (v : Times) → count v ≡ n / 2 →
    Emits m1 m2 (made (square (power v t)) ∷ []) r (IsTree m2 (square (power v t)))
square-made m m1 m2 t n j r h d v c =
    subst (λ (x : Term). Emits m1 m2 (made (square x) ∷ []) r (IsTree m2 (square x))) (tree_is m1 (power v t) j (h v c).1) (emits_made m1 m2 (square (tree_of m1 j)) r d)

squared : (m m1 m2 : BuilderModel) (t : Term) (n j : ℕ) (r : Result ℕ Stop) → Roots m m1 t n (Ok j) → Does m1 m2 (λ claim s. make_tree claim s (square (tree_of m1 j))) r (IsTree m2 (square (tree_of m1 j))) → (v : Times) → count v ≡ n / 2 →
    Emits m m2 (power_events (twice v) t) r (IsTree m2 (power (twice v) t))
squared m m1 m2 t n j r h d v c =
    emits_then (IsTree m1 (power v t)) (IsTree m2 (power (twice v) t)) m m1 m2 (power_events v t) (made (square (power v t)) ∷ []) j r (h v c) (square-made m m1 m2 t n j r h d v c)

pub square_stops : (m m1 m2 : BuilderModel) (t : Term) (n j : ℕ) (e : Stop) → (n ≡ 1 → ⊥) → Roots m m1 t n (Ok j) → Does m1 m2 (λ claim s. make_tree claim s (square (tree_of m1 j))) (Err e) (IsTree m2 (square (tree_of m1 j))) →
    Powers m m2 t n (Err e)
square_stops m m1 m2 t n j e o h d once c = absurd (o (sym c))
square_stops m m1 m2 t n j e o h d (twice v) c = squared m m1 m2 t n j (Err e) h d v (omega (arith, c))
square_stops m m1 m2 t n j e o h d (twice_and_once v) c = let k : count v ≡ n / 2 = omega (arith, c) in
    emits_then (IsTree m1 (power v t)) (IsTree m2 (power (twice_and_once v) t)) m m1 m2 (power_events v t) (made (square (power v t)) ∷ made (multiply t (square (power v t))) ∷ []) j (Err e) (h v k)
    (emits_stop (IsTree m2 (square (power v t))) (IsTree m2 (power (twice_and_once v) t)) m1 m2 m2 (made (square (power v t)) ∷ []) (made (multiply t (square (power v t))) ∷ []) e (square-made m m1 m2 t n j (Err e) h d v k))

pub power_even : (m m1 m2 : BuilderModel) (t : Term) (n j i : ℕ) → (n ≡ 1 → ⊥) → n % 2 ≡ 0 → Roots m m1 t n (Ok j) → Does m1 m2 (λ claim s. make_tree claim s (square (tree_of m1 j))) (Ok i) (IsTree m2 (square (tree_of m1 j))) →
    Powers m m2 t n (Ok i)
power_even m m1 m2 t n j i o p h d once c = absurd (o (sym c))
power_even m m1 m2 t n j i o p h d (twice v) c = squared m m1 m2 t n j (Ok i) h d v (omega (arith, c))
power_even m m1 m2 t n j i o p h d (twice_and_once v) c = absurd (omega (arith, c, p))

pub square_below : (m m1 m2 : BuilderModel) (t : Term) (n j i : ℕ) → 0 < n → (n ≡ 1 → ⊥) → Roots m m1 t n (Ok j) → Does m1 m2 (λ claim s. make_tree claim s (square (tree_of m1 j))) (Ok i) (IsTree m2 (square (tree_of m1 j))) →
    (i < length m2.nodes) × (length m.nodes ≤ length m2.nodes)
square_below m m1 m2 t n j i h o r d = let v = root-times n h o in let e = squared m m1 m2 t n j (Ok i) r d v.0 v.1 in
    (tree_below m2 (power (twice v.0) t) i e.1, more_nodes m m2 (grown (IsTree m2 (power (twice v.0) t)) m m2 (power_events (twice v.0) t) i e))

-- the factor times the square
pub power_odd : (m m1 m2 m3 : BuilderModel) (k n j i : ℕ) (r : Result ℕ Stop) → k < length m.nodes → (n ≡ 1 → ⊥) → (n % 2 ≡ 0 → ⊥) → Roots m m1 (tree_of m k) n (Ok j) →
    Does m1 m2 (λ claim s. make_tree claim s (square (tree_of m1 j))) (Ok i) (IsTree m2 (square (tree_of m1 j))) →
    Does m2 m3 (λ claim s. make_tree claim s (multiply (tree_of m2 k) (tree_of m2 i))) r (IsTree m3 (multiply (tree_of m2 k) (tree_of m2 i))) → Powers m m3 (tree_of m k) n r
power_odd m m1 m2 m3 k n j i r b o p h d f once c = absurd (o (sym c))
power_odd m m1 m2 m3 k n j i r b o p h d f (twice v) c = absurd (p (omega (arith, c)))
power_odd m m1 m2 m3 k n j i r b o p h d f (twice_and_once v) c =
    let t = tree_of m k in let l : count v ≡ n / 2 = omega (arith, c) in let sq = square (power v t) in
    let q = square-made m m1 m2 t n j (Ok i) h d v l in
    let e = squared m m1 m2 t n j (Ok i) h d v l in
    let left = same_tree m m2 k (grown (IsTree m2 (power (twice v) t)) m m2 (power_events (twice v) t) i e) b in
    let right = tree_is m2 sq i q.1 in
    emits_then (IsTree m1 (power v t)) (IsTree m3 (power (twice_and_once v) t)) m m1 m3 (power_events v t) (made sq ∷ made (multiply t sq) ∷ []) j r (h v l)
    (emits_then (IsTree m2 sq) (IsTree m3 (multiply t sq)) m1 m2 m3 (made sq ∷ []) (made (multiply t sq) ∷ []) i r q
    (subst (λ (x : Term). Emits m2 m3 (made (multiply x sq) ∷ []) r (IsTree m3 (multiply x sq))) left
    (subst (λ (x : Term). Emits m2 m3 (made (multiply (tree_of m2 k) x) ∷ []) r (IsTree m3 (multiply (tree_of m2 k) x))) right
    (emits_made m2 m3 (multiply (tree_of m2 k) (tree_of m2 i)) r f))))

-- ---- nodes that stand before others

is-true : (b : Bool) → T b → IsTrue b
is-true true h = refl
is-true false h = absurd h

pub below_is : (j n : ℕ) → j < n → IsTrue (nat_lt j n)
below_is j n h = is-true (nat_lt j n) (lt→ltb j n h)

pub both_below : (k j n : ℕ) → k < n → j < n → IsTrue (nat_lt k n && nat_lt j n)
both_below k j n h l = and-true (nat_lt k n) (nat_lt j n) (below_is k n h) (below_is j n l)
  where
    and-true : (x y : Bool) → IsTrue x → IsTrue y → IsTrue (x && y)
    and-true true y h l = l
    and-true false y h l = cc
