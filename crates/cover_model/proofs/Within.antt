-- Spaces within spaces, and that the narrowed space lies within the space.
use Rattle.std.proofs.Common.{◌≡◌, inl, ◌+◌, ◌<◌, length, arith, ℕ, suc, zero, List, [], ◌∷◌, Bool, true, false, cond, not, ◌&&◌, ◌||◌, IsTrue, Option, Some, None, refl, ap, sym, ◌∙◌, subst, true≢false, slice_index_or, nat_eq, lit<}
use Rattle.std.proofs.lemmas.List.{get_or-map}
use Rattle.std.specs.Prelude.{slice_get}
use Rattle.dyadic.specs.Fraction.{IsFraction, zero_fraction, at_most}
use Rattle.dyadic.specs.Point.{Coordinate, at_fraction, at_bool}
use Rattle.dyadic.specs.Rounding.{Dyadic, exact, End, minus_infinity, at, plus_infinity, Ext, finite, below_all, above_all, end_of, ext_at_most}
use Rattle.interval_model.specs.Interval.{Interval, nothing, between, met, within}
use Rattle.dyadic.specs.End.{greater_ext, lesser_ext}
use Rattle.dyadic.proofs.Equal.{both_true, both_pass, through}
use Rattle.interval_model.proofs.EndsProducts.{at_most_refl}
use Rattle.interval_model.proofs.Ends.{◌⊑◌}
use Rattle.interval_model.proofs.Holds.{greater_ext_above, lesser_ext_below}
use Rattle.poly_graph.specs.Term.{constant, Node, constant_node, variable_node, negate_node, add_node, multiply_node, square_node, graph_terms, in_order}
use Rattle.interval_model.specs.Space.{Domain, real_domain, bool_domain, Space, in_domain, in_space, axis_interval, domain_within, space_within}
use Rattle.cover_model.specs.Space.{enclosure}
use Rattle.cover_model.specs.Narrowed.{from_parents, own, narrowed_from, narrowed, some_empty, set_axis, with_axes, enclosures, narrowed_by}
use Rattle.poly_graph.proofs.Graphs.{unfolds, length_terms}
use Rattle.poly_graph.proofs.Bools.{implied, implies_itself}

pub exact_is_fraction : (d : Dyadic) → IsFraction (exact d)
exact_is_fraction d = lit< tt

end_refl : (e : End) → ◌⊑◌ e e
end_refl minus_infinity = refl
end_refl (at q) = at_most_refl q
end_refl plus_infinity = refl

-- ---- order of spaces

pub domain_reflexive : (d : Domain) → IsTrue (domain_within d d)
domain_reflexive (real_domain l h) = both_pass (at_most (exact l) (exact l)) (at_most (exact h) (exact h)) (at_most_refl (exact l)) (at_most_refl (exact h))
domain_reflexive (bool_domain f t) = both_pass (not f || f) (not t || t) (implies_itself f) (implies_itself t)

pub space_reflexive : (space : Space) → IsTrue (space_within space space)
space_reflexive [] = refl
space_reflexive (d ∷ space) = both_pass (domain_within d d) (space_within space space) (domain_reflexive d) (space_reflexive space)

implies-through : (a b c : Bool) → IsTrue (not a || b) → IsTrue (not b || c) → IsTrue (not a || c)
implies-through true b c h k = implied b c k h
implies-through false b c h k = refl

domain-through : (d e f : Domain) → IsTrue (domain_within d e) → IsTrue (domain_within e f) → IsTrue (domain_within d f)
domain-through (real_domain l h) (real_domain l' h') (real_domain l'' h'') a b =
    let x = both_true (at_most (exact l') (exact l)) (at_most (exact h) (exact h')) a in let y = both_true (at_most (exact l'') (exact l')) (at_most (exact h') (exact h'')) b in
    both_pass (at_most (exact l'') (exact l)) (at_most (exact h) (exact h'')) (through (exact l'') (exact l') (exact l) (exact_is_fraction l') y.0 x.0) (through (exact h) (exact h') (exact h'') (exact_is_fraction h') x.1 y.1)
domain-through (bool_domain f t) (bool_domain f' t') (bool_domain f'' t'') a b =
    let x = both_true (not f || f') (not t || t') a in let y = both_true (not f' || f'') (not t' || t'') b in
    both_pass (not f || f'') (not t || t'') (implies-through f f' f'' x.0 y.0) (implies-through t t' t'' x.1 y.1)
domain-through (real_domain l h) (real_domain l' h') (bool_domain f t) a b = absurd (true≢false (sym b))
domain-through (bool_domain f t) (bool_domain f' t') (real_domain l h) a b = absurd (true≢false (sym b))
domain-through (real_domain l h) (bool_domain f t) e a b = absurd (true≢false (sym a))
domain-through (bool_domain f t) (real_domain l h) e a b = absurd (true≢false (sym a))

pub space_through : (a b c : Space) → IsTrue (space_within a b) → IsTrue (space_within b c) → IsTrue (space_within a c)
space_through [] [] c h k = k
space_through (d ∷ a) (e ∷ b) (f ∷ c) h k = let x = both_true (domain_within d e) (space_within a b) h in let y = both_true (domain_within e f) (space_within b c) k in
    both_pass (domain_within d f) (space_within a c) (domain-through d e f x.0 y.0) (space_through a b c x.1 y.1)
space_through (d ∷ a) (e ∷ b) [] h k = absurd (true≢false (sym k))
space_through [] (e ∷ b) c h k = absurd (true≢false (sym h))
space_through (d ∷ a) [] c h k = absurd (true≢false (sym h))

domain-keeps : (d d' : Domain) (x : Coordinate) → IsTrue (domain_within d d') → IsTrue (in_domain d x) → IsTrue (in_domain d' x)
domain-keeps (real_domain l h) (real_domain l' h') (at_fraction q) w i =
    let a = both_true (at_most (exact l') (exact l)) (at_most (exact h) (exact h')) w in
    let b = both_true (at_most (exact l) q) (at_most q (exact h)) i in
    both_pass (at_most (exact l') q) (at_most q (exact h')) (through (exact l') (exact l) q (exact_is_fraction l) a.0 b.0) (through q (exact h) (exact h') (exact_is_fraction h) b.1 a.1)
domain-keeps (bool_domain f t) (bool_domain f' t') (at_bool true) w i = implied t t' (both_true (not f || f') (not t || t') w).1 i
domain-keeps (bool_domain f t) (bool_domain f' t') (at_bool false) w i = implied f f' (both_true (not f || f') (not t || t') w).0 i
domain-keeps (real_domain l h) (real_domain l' h') (at_bool b) w i = absurd (true≢false (sym i))
domain-keeps (bool_domain f t) (bool_domain f' t') (at_fraction q) w i = absurd (true≢false (sym i))
domain-keeps (real_domain l h) (bool_domain f t) x w i = absurd (true≢false (sym w))
domain-keeps (bool_domain f t) (real_domain l h) x w i = absurd (true≢false (sym w))

-- a point of a space lies in each space around it
pub space_keeps_point : (space space' : Space) (point : List Coordinate) → IsTrue (space_within space space') → IsTrue (in_space space point) → IsTrue (in_space space' point)
space_keeps_point [] [] point w i = i
space_keeps_point (d ∷ space) (d' ∷ space') (x ∷ point) w i =
    let a = both_true (domain_within d d') (space_within space space') w in let b = both_true (in_domain d x) (in_space space point) i in
    both_pass (in_domain d' x) (in_space space' point) (domain-keeps d d' x a.0 b.0) (space_keeps_point space space' point a.1 b.1)
space_keeps_point (d ∷ space) (d' ∷ space') [] w i = absurd (true≢false (sym i))
space_keeps_point [] (d' ∷ space') point w i = absurd (true≢false (sym w))
space_keeps_point (d ∷ space) [] point w i = absurd (true≢false (sym w))

-- ---- narrowing

met-within-at : (t : Bool) (l l' h h' : Ext) → IsTrue (within (cond t (between (greater_ext l l') (lesser_ext h h')) nothing) (between l h))
met-within-at true l l' h h' = both_pass (ext_at_most l (greater_ext l l')) (ext_at_most (lesser_ext h h') h)
    (greater_ext_above l l' (end_of l) (inl (end_refl (end_of l)))) (lesser_ext_below h h' (end_of h) (inl (end_refl (end_of h))))
met-within-at false l l' h h' = refl

-- what is met lies within
pub met_within : (i j : Interval) → IsTrue (within (met i j) i)
met_within nothing j = refl
met_within (between l h) nothing = refl
met_within (between l h) (between l' h') = met-within-at (ext_at_most (greater_ext l l') (lesser_ext h h')) l l' h h'

pub set_within : (axis : ℕ) (i : Interval) (space outer : Space) → IsTrue (space_within space outer) → IsTrue (within i (axis_interval outer axis)) → IsTrue (space_within (set_axis axis i space) outer)
set_within axis i [] outer w h = w
set_within axis i (d ∷ space) [] w h = absurd (true≢false (sym w))
set_within zero (between (finite l) (finite u)) (d ∷ space) (real_domain l' u' ∷ outer) w h = both_pass (at_most (exact l') (exact l) && at_most (exact u) (exact u')) (space_within space outer) h (both_true (domain_within d (real_domain l' u')) (space_within space outer) w).1
set_within zero (between (finite l) (finite u)) (d ∷ space) (bool_domain f t ∷ outer) w h = absurd (true≢false (sym h))
set_within zero (between (finite l) below_all) (d ∷ space) (e ∷ outer) w h = w
set_within zero (between (finite l) above_all) (d ∷ space) (e ∷ outer) w h = w
set_within zero (between below_all u) (d ∷ space) (e ∷ outer) w h = w
set_within zero (between above_all u) (d ∷ space) (e ∷ outer) w h = w
set_within zero nothing (d ∷ space) (e ∷ outer) w h = w
set_within (suc axis) i (d ∷ space) (e ∷ outer) w h = let t = both_true (domain_within d e) (space_within space outer) w in
    both_pass (domain_within d e) (space_within (set_axis axis i space) outer) t.0 (set_within axis i space outer t.1 h)

-- of nodes from number k on, where these are the enclosures over the outer space
module _ (es : List Interval) (outer : Space) where
  abbrev Variables : ℕ → List Node → Type 0
  Variables k nodes = (i axis : ℕ) → slice_get nodes i ≡ Some (variable_node axis) → slice_index_or es (k + i) nothing ≡ axis_interval outer axis

  next-variables : (k : ℕ) (node : Node) (nodes : List Node) → Variables k (node ∷ nodes) → Variables (suc k) nodes
  next-variables k node nodes f i axis e = let place : suc k + i ≡ k + suc i = omega arith in ap (λ (j : ℕ). slice_index_or es j nothing) place ∙ f (suc i) axis e

  -- each narrowed interval lies within its enclosure
  abbrev EachWithin : ℕ → List (Option Interval) → Type 0
  EachWithin k [] = Unit {0}
  EachWithin k (None ∷ ns) = EachWithin (suc k) ns
  EachWithin k (Some i ∷ ns) = IsTrue (within i (slice_index_or es k nothing)) × EachWithin (suc k) ns

  own-first : (k : ℕ) (o : Option Interval) (ns : List (Option Interval)) → EachWithin (suc k) ns → EachWithin k (own es k o ∷ ns)
  own-first k None ns h = h
  own-first k (Some i) ns h = (met_within (slice_index_or es k nothing) i, h)

  narrowed-within : (root : ℕ) (range : Interval) (k : ℕ) (nodes : List Node) → EachWithin k (narrowed_from es root range k nodes)
  narrowed-within root range k [] = tt
  narrowed-within root range k (node ∷ later) = own-first k (cond (nat_eq k root) (Some range) (from_parents es k later (narrowed_from es root range (suc k) later)))
      (narrowed_from es root range (suc k) later) (narrowed-within root range (suc k) later)

  rest-within : (k : ℕ) (n : Option Interval) (ns : List (Option Interval)) → EachWithin k (n ∷ ns) → EachWithin (suc k) ns
  rest-within k None ns h = h
  rest-within k (Some i) ns h = h.1

  axes-within : (k : ℕ) (nodes : List Node) (ns : List (Option Interval)) (space : Space) → Variables k nodes → EachWithin k ns → IsTrue (space_within space outer) → IsTrue (space_within (with_axes nodes ns space) outer)
  axes-within k [] ns space f h w = w
  axes-within k (constant_node q ∷ nodes) [] space f h w = w
  axes-within k (variable_node axis ∷ nodes) [] space f h w = w
  axes-within k (negate_node a ∷ nodes) [] space f h w = w
  axes-within k (add_node a b ∷ nodes) [] space f h w = w
  axes-within k (multiply_node a b ∷ nodes) [] space f h w = w
  axes-within k (square_node a ∷ nodes) [] space f h w = w
  axes-within k (variable_node axis ∷ nodes) (Some i ∷ ns) space f h w = let start : k + 0 ≡ k = omega arith in
      set_within axis i (with_axes nodes ns space) outer (axes-within (suc k) nodes ns space (next-variables k (variable_node axis) nodes f) h.1 w)
      (subst (λ (j : Interval). IsTrue (within i j)) (ap (λ (j : ℕ). slice_index_or es j nothing) (sym start) ∙ f zero axis refl) h.0)
  axes-within k (variable_node axis ∷ nodes) (None ∷ ns) space f h w = axes-within (suc k) nodes ns space (next-variables k (variable_node axis) nodes f) h w
  axes-within k (constant_node q ∷ nodes) (n ∷ ns) space f h w = axes-within (suc k) nodes ns space (next-variables k (constant_node q) nodes f) (rest-within k n ns h) w
  axes-within k (negate_node a ∷ nodes) (n ∷ ns) space f h w = axes-within (suc k) nodes ns space (next-variables k (negate_node a) nodes f) (rest-within k n ns h) w
  axes-within k (add_node a b ∷ nodes) (n ∷ ns) space f h w = axes-within (suc k) nodes ns space (next-variables k (add_node a b) nodes f) (rest-within k n ns h) w
  axes-within k (multiply_node a b ∷ nodes) (n ∷ ns) space f h w = axes-within (suc k) nodes ns space (next-variables k (multiply_node a b) nodes f) (rest-within k n ns h) w
  axes-within k (square_node a ∷ nodes) (n ∷ ns) space f h w = axes-within (suc k) nodes ns space (next-variables k (square_node a) nodes f) (rest-within k n ns h) w

get-below : (nodes : List Node) (i : ℕ) (n : Node) → slice_get nodes i ≡ Some n → i < length nodes
get-below [] i n e = cc
get-below (m ∷ nodes) zero n e = omega arith
get-below (m ∷ nodes) (suc i) n e = let h = get-below nodes i n e in omega arith

variables-at : (nodes : List Node) (space : Space) → IsTrue (in_order 0 nodes) → (i axis : ℕ) → slice_get nodes i ≡ Some (variable_node axis) → slice_index_or (enclosures space nodes) (0 + i) nothing ≡ axis_interval space axis
variables-at nodes space o i axis e =
    let place : 0 + i ≡ i = omega arith in let l = get-below nodes i (variable_node axis) e in
    ap (λ (j : ℕ). slice_index_or (enclosures space nodes) j nothing) place ∙
    get_or-map (enclosure space) (graph_terms nodes) i (constant zero_fraction) nothing (omega (arith, length_terms nodes)) ∙
    ap (enclosure space) (unfolds nodes o i (variable_node axis) e)

left-if-some : (t : Bool) (a b : Space) → cond t None (Some a) ≡ Some b → a ≡ b
left-if-some true a b e = cc
left-if-some false a b e = cc

-- the narrowed space lies within the space
pub narrowed_lies_within : (nodes : List Node) → IsTrue (in_order 0 nodes) → (root : ℕ) (range : Interval) (space space' : Space) → narrowed_by nodes root range space ≡ Some space' → IsTrue (space_within space' space)
narrowed_lies_within nodes o root range space space' e =
    let es : List Interval = enclosures space nodes in let ns : List (Option Interval) = narrowed nodes es root range in
    subst (λ (x : Space). IsTrue (space_within x space)) (left-if-some (some_empty ns) (with_axes nodes ns space) space' e)
    (axes-within es space 0 nodes ns space (variables-at nodes space o) (narrowed-within es space root range 0 nodes) (space_reflexive space))
