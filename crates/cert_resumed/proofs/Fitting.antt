-- What a rule leaves of a state of the problem are states of the problem.
use Rattle.std.proofs.Common.{◌≡◌, inl, inr, ℕ, suc, zero, ◌+◌, ◌<◌, List, [], ◌∷◌, length, Bool, true, false, cond, not, IsTrue, Option, Some, None, refl, ap, sym, ◌∙◌, subst, true≢false, slice_index_or, slice_get, nat_eq, arith}
use Rattle.std.specs.List.{AllByRecursion}
use Rattle.std.proofs.Math.ListN.{length-set}
use Rattle.std.proofs.lemmas.List.{get_or-map}
use Rattle.dyadic.specs.Fraction.{at_most, zero_fraction}
use Rattle.dyadic.specs.Rounding.{Dyadic, exact, Ext, finite, below_all, above_all, ext_at_most}
use Rattle.dyadic.specs.End.{greater_ext, lesser_ext}
use Rattle.dyadic.proofs.Equal.{both_true, total}
use Rattle.interval_model.specs.Interval.{Interval, nothing, between, met, is_nothing, interval_sum}
use Rattle.interval_model.specs.Space.{Domain, real_domain, bool_domain, Space, axis_interval, domain_interval, strictly_inside, lower_part, upper_part, is_undecided, keep, test_axis, changed, middle}
use Rattle.poly_graph.specs.Term.{constant, Node, constant_node, variable_node, negate_node, add_node, multiply_node, square_node, graph_terms, in_order}
use Rattle.poly_graph.proofs.Graphs.{unfolds, length_terms}
use Rattle.poly_graph.specs.Problem.{Declared, real_between, any_bool, Axis, Problem, IsProblem, atom_at}
use Rattle.poly_graph.specs.Marks.{Mark, marked_yes, marked_no}
use Rattle.cover_model.specs.Space.{enclosure, range}
use Rattle.cover_model.specs.OffRange.{off_range}
use Rattle.cover_model.specs.Narrowed.{from_parents, own, narrowed_from, narrowed, some_empty, set_axis, with_axes, enclosures, narrowed_by}
use Rattle.cover_model.specs.Combination.{Multipliers, Part, Expansion, part_range, tightened, with_axis, with_intervals, range_of, combined_about, allowed_range, expansion, marked_range}
use Rattle.cover_model.specs.State.{State, Loosenings, margin_of, with_mark, with_yes, may}
use Rattle.cover_model.specs.Fits.{FitsAxis, FitsAxes, FitsProblem}
use Rattle.cover_model.specs.Rules.{is_void_by_squares, Line, narrow_by, end_by, mark_by, branch_by, stay_by, Narrowing, by_range, by_off_range, by_combination, Ending, void_by, by_squares, false_form, by_lemma, Marking, unit_atom, ban_atom, Branching, cut_axis, flip_axis, case_atom, either_group, with_all_yes, Left, closed, one, two, stays, rule, ending, when, pulled, voided, combining, can_narrow, narrowed_to, can_mark, marked, can_part, is_parted, can_branch, first_child, second_child, can_stay, lemma_covers, with_changed}
use Rattle.cert_resumed.proofs.Parses.{all_append}
use Rattle.cover_model.specs.Derivation.{Tree, Lawful, at_closed, at_left, at_step, at_fork}

-- ---- intervals that a Real axis may be set to

-- no finite end is above the other
abbrev Upright : Interval → Type 0
Upright (between (finite l) (finite h)) = IsTrue (at_most (exact l) (exact h))
Upright i = Unit {0}

-- it is upright, and nothing where the other is
abbrev Under : Interval → Interval → Type 0
Under j i = Upright i × (j ≡ nothing → i ≡ nothing)

upright-at : (l h : Ext) (t : Bool) → ext_at_most l h ≡ t → Upright (cond t (between l h) nothing)
upright-at (finite l) (finite h) true e = e
upright-at (finite l) below_all true e = tt
upright-at (finite l) above_all true e = tt
upright-at below_all h true e = tt
upright-at above_all h true e = tt
upright-at l h false e = tt

met-under : (j k : Interval) → Under j (met j k)
met-under nothing k = (tt, λ e. refl)
met-under (between l h) nothing = (tt, λ e. refl)
met-under (between l h) (between l' h') = (upright-at (greater_ext l l') (lesser_ext h h') (ext_at_most (greater_ext l l') (lesser_ext h h')) refl, λ e. cc)

real-fits : (a : Declared) (o : Domain) (l h : Dyadic) → FitsAxis a o → (domain_interval o ≡ nothing → between (finite l) (finite h) ≡ nothing) → IsTrue (at_most (exact l) (exact h)) → FitsAxis a (real_domain l h)
real-fits (real_between lo hi) (real_domain l' h') l h f k u = u
real-fits (real_between lo hi) (bool_domain t t') l h f k u = absurd f
real-fits any_bool (real_domain l' h') l h f k u = absurd f
real-fits any_bool (bool_domain t t') l h f k u = let z : between (finite l) (finite h) ≡ nothing = k refl in cc

-- an axis that is set so fits
set-fits : (axes : List Axis) (outer space : Space) → FitsAxes axes outer → FitsAxes axes space → (axis : ℕ) (i : Interval) → Under (axis_interval outer axis) i → FitsAxes axes (set_axis axis i space)
set-fits [] [] [] f g axis i u = tt
set-fits [] [] (d ∷ space) f g axis i u = absurd g
set-fits [] (o ∷ outer) space f g axis i u = absurd f
set-fits (a ∷ axes) [] space f g axis i u = absurd f
set-fits (a ∷ axes) (o ∷ outer) [] f g axis i u = absurd g
set-fits (a ∷ axes) (o ∷ outer) (d ∷ space) f g zero (between (finite l) (finite h)) u = (real-fits a.declared o l h f.0 u.1 u.0, g.1)
set-fits (a ∷ axes) (o ∷ outer) (d ∷ space) f g zero (between (finite l) below_all) u = g
set-fits (a ∷ axes) (o ∷ outer) (d ∷ space) f g zero (between (finite l) above_all) u = g
set-fits (a ∷ axes) (o ∷ outer) (d ∷ space) f g zero (between below_all h) u = g
set-fits (a ∷ axes) (o ∷ outer) (d ∷ space) f g zero (between above_all h) u = g
set-fits (a ∷ axes) (o ∷ outer) (d ∷ space) f g zero nothing u = g
set-fits (a ∷ axes) (o ∷ outer) (d ∷ space) f g (suc axis) i u = (g.0, set-fits axes outer space f.1 g.1 axis i u)

-- ---- narrowing by an atom

get-below : (nodes : List Node) (i : ℕ) (n : Node) → slice_get nodes i ≡ Some n → i < length nodes
get-below [] i n e = cc
get-below (m ∷ nodes) zero n e = omega arith
get-below (m ∷ nodes) (suc i) n e = let h = get-below nodes i n e in omega arith

-- of nodes from number k on, where these are the enclosures over the outer space
module _ (es : List Interval) (axes : List Axis) (outer : Space) (fits : FitsAxes axes outer) where
  abbrev Variables : ℕ → List Node → Type 0
  Variables k nodes = (i axis : ℕ) → slice_get nodes i ≡ Some (variable_node axis) → slice_index_or es (k + i) nothing ≡ axis_interval outer axis

  next-variables : (k : ℕ) (node : Node) (nodes : List Node) → Variables k (node ∷ nodes) → Variables (suc k) nodes
  next-variables k node nodes f i axis e = let place : suc k + i ≡ k + suc i = omega arith in ap (λ (j : ℕ). slice_index_or es j nothing) place ∙ f (suc i) axis e

  -- each narrowed interval is upright, and nothing where its enclosure is
  abbrev EachUnder : ℕ → List (Option Interval) → Type 0
  EachUnder k [] = Unit {0}
  EachUnder k (None ∷ ns) = EachUnder (suc k) ns
  EachUnder k (Some i ∷ ns) = Under (slice_index_or es k nothing) i × EachUnder (suc k) ns

  own-first : (k : ℕ) (o : Option Interval) (ns : List (Option Interval)) → EachUnder (suc k) ns → EachUnder k (own es k o ∷ ns)
  own-first k None ns h = h
  own-first k (Some i) ns h = (met-under (slice_index_or es k nothing) i, h)

  narrowed-under : (root : ℕ) (within_range : Interval) (k : ℕ) (nodes : List Node) → EachUnder k (narrowed_from es root within_range k nodes)
  narrowed-under root within_range k [] = tt
  narrowed-under root within_range k (node ∷ later) = own-first k (cond (nat_eq k root) (Some within_range) (from_parents es k later (narrowed_from es root within_range (suc k) later)))
      (narrowed_from es root within_range (suc k) later) (narrowed-under root within_range (suc k) later)

  rest-under : (k : ℕ) (n : Option Interval) (ns : List (Option Interval)) → EachUnder k (n ∷ ns) → EachUnder (suc k) ns
  rest-under k None ns h = h
  rest-under k (Some i) ns h = h.1

  axes-fit : (k : ℕ) (nodes : List Node) (ns : List (Option Interval)) (space : Space) → Variables k nodes → EachUnder k ns → FitsAxes axes space → FitsAxes axes (with_axes nodes ns space)
  axes-fit k [] ns space f h w = w
  axes-fit k (constant_node q ∷ nodes) [] space f h w = w
  axes-fit k (variable_node axis ∷ nodes) [] space f h w = w
  axes-fit k (negate_node a ∷ nodes) [] space f h w = w
  axes-fit k (add_node a b ∷ nodes) [] space f h w = w
  axes-fit k (multiply_node a b ∷ nodes) [] space f h w = w
  axes-fit k (square_node a ∷ nodes) [] space f h w = w
  axes-fit k (variable_node axis ∷ nodes) (Some i ∷ ns) space f h w = let start : k + 0 ≡ k = omega arith in
      set-fits axes outer (with_axes nodes ns space) fits (axes-fit (suc k) nodes ns space (next-variables k (variable_node axis) nodes f) h.1 w) axis i
      (subst (λ (j : Interval). Under j i) (ap (λ (j : ℕ). slice_index_or es j nothing) (sym start) ∙ f zero axis refl) h.0)
  axes-fit k (variable_node axis ∷ nodes) (None ∷ ns) space f h w = axes-fit (suc k) nodes ns space (next-variables k (variable_node axis) nodes f) h w
  axes-fit k (constant_node q ∷ nodes) (n ∷ ns) space f h w = axes-fit (suc k) nodes ns space (next-variables k (constant_node q) nodes f) (rest-under k n ns h) w
  axes-fit k (negate_node a ∷ nodes) (n ∷ ns) space f h w = axes-fit (suc k) nodes ns space (next-variables k (negate_node a) nodes f) (rest-under k n ns h) w
  axes-fit k (add_node a b ∷ nodes) (n ∷ ns) space f h w = axes-fit (suc k) nodes ns space (next-variables k (add_node a b) nodes f) (rest-under k n ns h) w
  axes-fit k (multiply_node a b ∷ nodes) (n ∷ ns) space f h w = axes-fit (suc k) nodes ns space (next-variables k (multiply_node a b) nodes f) (rest-under k n ns h) w
  axes-fit k (square_node a ∷ nodes) (n ∷ ns) space f h w = axes-fit (suc k) nodes ns space (next-variables k (square_node a) nodes f) (rest-under k n ns h) w

variables-at : (nodes : List Node) (space : Space) → IsTrue (in_order 0 nodes) → (i axis : ℕ) → slice_get nodes i ≡ Some (variable_node axis) → slice_index_or (enclosures space nodes) (0 + i) nothing ≡ axis_interval space axis
variables-at nodes space o i axis e =
    let place : 0 + i ≡ i = omega arith in let l = get-below nodes i (variable_node axis) e in
    ap (λ (j : ℕ). slice_index_or (enclosures space nodes) j nothing) place ∙
    get_or-map (enclosure space) (graph_terms nodes) i (constant zero_fraction) nothing (omega (arith, length_terms nodes)) ∙
    ap (enclosure space) (unfolds nodes o i (variable_node axis) e)

if-some : (t : Bool) (o : Option Space) (b : Space) → cond t None o ≡ Some b → o ≡ Some b
if-some true o b e = cc
if-some false o b e = e

narrowed-fits : (axes : List Axis) (nodes : List Node) → IsTrue (in_order 0 nodes) → (root : ℕ) (within_range : Interval) (space narrow : Space) → FitsAxes axes space →
    narrowed_by nodes root within_range space ≡ Some narrow → FitsAxes axes narrow
narrowed-fits axes nodes o root within_range space narrow f e =
    let es : List Interval = enclosures space nodes in let ns : List (Option Interval) = narrowed nodes es root within_range in
    let some : Some (with_axes nodes ns space) ≡ Some narrow = if-some (some_empty ns) (Some (with_axes nodes ns space)) narrow e in
    let same : with_axes nodes ns space ≡ narrow = cc in
    subst (λ (x : Space). FitsAxes axes x) same
    (axes-fit es axes space f 0 nodes ns space (variables-at nodes space o) (narrowed-under es axes space f root within_range 0 nodes) f)

-- ---- combinations

module _ (axes : List Axis) (outer : Space) (fits : FitsAxes axes outer) where
  abbrev AllUnder : List (ℕ × Interval) → Type 0
  AllUnder [] = Unit {0}
  AllUnder ((axis, i) ∷ rest) = Under (axis_interval outer axis) i × AllUnder rest

  tightened-under : (centre : Space) (allowed before : Interval) (parts : List Part) → AllUnder (tightened outer centre allowed before parts)
  tightened-under centre allowed before [] = tt
  tightened-under centre allowed before (x ∷ after) =
      (met-under (axis_interval outer x.axis) _, tightened-under centre allowed (interval_sum before (part_range outer centre x)) after)

  abbrev FitsIfSome : Option Space → Type 0
  FitsIfSome None = Unit {0}
  FitsIfSome (Some space) = FitsAxes axes space

  axis-fits : (axis : ℕ) (i : Interval) (o : Option Space) → Under (axis_interval outer axis) i → FitsIfSome o → FitsIfSome (with_axis axis i o)
  axis-fits axis nothing o u h = tt
  axis-fits axis (between l h') None u h = tt
  axis-fits axis (between l h') (Some space) u h = set-fits axes outer space fits h axis (between l h') u

  intervals-fit : (xs : List (ℕ × Interval)) → AllUnder xs → (space : Space) → FitsAxes axes space → FitsIfSome (with_intervals xs space)
  intervals-fit [] u space f = f
  intervals-fit ((axis, i) ∷ rest) u space f = axis-fits axis i (with_intervals rest space) u.0 (intervals-fit rest u.1 space f)

  cond-fits : (t : Bool) (o : Option Space) → FitsIfSome o → FitsIfSome (cond t None o)
  cond-fits true o h = tt
  cond-fits false o h = h

  combined-fits : (p : Problem) (ranges : ℕ → Interval) (centre : Space) (ms : Multipliers) → FitsIfSome (combined_about p ranges outer centre ms)
  combined-fits p ranges centre ms = let e : Expansion = expansion p outer centre ms in let allowed : Interval = allowed_range ranges ms in
      cond-fits (is_nothing (met (range_of outer centre e) allowed)) (with_intervals (tightened outer centre allowed e.rest e.parts) outer)
      (intervals-fit (tightened outer centre allowed e.rest e.parts) (tightened-under centre allowed e.rest e.parts) outer fits)

-- ---- branches

changed-fits : (f : Domain → Domain) (t : Domain → Bool) → ((a : Declared) (d : Domain) → IsTrue (t d) → FitsAxis a d → FitsAxis a (f d)) →
    (axes : List Axis) (axis : ℕ) (space : Space) → IsTrue (test_axis t axis space) → FitsAxes axes space → FitsAxes axes (changed f axis space)
changed-fits f t g axes axis [] h k = k
changed-fits f t g [] zero (d ∷ space) h k = k
changed-fits f t g [] (suc axis) (d ∷ space) h k = k
changed-fits f t g (a ∷ axes) zero (d ∷ space) h k = (g a.declared d h k.0, k.1)
changed-fits f t g (a ∷ axes) (suc axis) (d ∷ space) h k = (k.0, changed-fits f t g axes axis space h k.1)

above-if-not : (a b : Dyadic) → IsTrue (not (at_most (exact b) (exact a))) → IsTrue (at_most (exact a) (exact b))
above-if-not a b h = elim (total (exact a) (exact b)) [ inl e ↦ e | inr e ↦ absurd (true≢false (sym h ∙ ap not e)) ]

low-fits : (c : Dyadic) (a : Declared) (d : Domain) → IsTrue (strictly_inside c d) → FitsAxis a d → FitsAxis a (lower_part c d)
low-fits c (real_between lo hi) (real_domain l h) t k = above-if-not l c (both_true (not (at_most (exact c) (exact l))) (not (at_most (exact h) (exact c))) t).0
low-fits c any_bool (real_domain l h) t k = k
low-fits c a (bool_domain f u) t k = k

high-fits : (c : Dyadic) (a : Declared) (d : Domain) → IsTrue (strictly_inside c d) → FitsAxis a d → FitsAxis a (upper_part c d)
high-fits c (real_between lo hi) (real_domain l h) t k = above-if-not c h (both_true (not (at_most (exact c) (exact l))) (not (at_most (exact h) (exact c))) t).1
high-fits c any_bool (real_domain l h) t k = k
high-fits c a (bool_domain f u) t k = k

keep-fits : (v : Bool) (a : Declared) (d : Domain) → IsTrue (is_undecided d) → FitsAxis a d → FitsAxis a (keep v d)
keep-fits v a (real_domain l h) t k = k
keep-fits true any_bool (bool_domain f u) t k = refl
keep-fits false any_bool (bool_domain f u) t k = refl
keep-fits v (real_between lo hi) (bool_domain f u) t k = k

-- ---- rules

module _ (p : Problem) (g : IsProblem p) (s : Loosenings) (lemmas : List State) where
  -- what is left fits the problem
  abbrev LeftFit : Option Left → Type 0
  LeftFit (Some (one S)) = FitsProblem p S
  LeftFit (Some (two S S')) = FitsProblem p S × FitsProblem p S'
  LeftFit o = Unit {0}

  by-when : (t : Bool) (l : Left) → (IsTrue t → LeftFit (Some l)) → LeftFit (when t l)
  by-when true l h = h refl
  by-when false l h = tt

  by-cond : (t : Bool) (o : Option Left) → LeftFit o → LeftFit (cond t o None)
  by-cond true o h = h
  by-cond false o h = tt

  voided-fit : (o : Option Space) → LeftFit (voided o)
  voided-fit None = tt
  voided-fit (Some space) = tt

  mark-fits : (S : State) → FitsProblem p S → (j : ℕ) (m : Mark) → FitsProblem p (with_mark S j m)
  mark-fits S f j m = record { axes = f.axes; marks = length-set S.marks j m ∙ f.marks }

  group-fits : (S : State) → FitsProblem p S → (js : List ℕ) → FitsProblem p (with_all_yes S js)
  group-fits S f [] = f
  group-fits S f (j ∷ js) = group-fits (with_yes S j) (mark-fits S f j marked_yes) js

  module _ (S : State) (f : FitsProblem p S) where
    change-fits : (k : Domain → Domain) (t : Domain → Bool) → ((a : Declared) (d : Domain) → IsTrue (t d) → FitsAxis a d → FitsAxis a (k d)) → (axis : ℕ) → IsTrue (test_axis t axis S.space) → FitsProblem p (with_changed S k axis)
    change-fits k t h axis e = record { axes = changed-fits k t h p.axes axis S.space e f.axes; marks = f.marks }

    pulled-fit : (o : Option Space) → ((narrow : Space) → o ≡ Some narrow → FitsAxes p.axes narrow) → LeftFit (pulled S o)
    pulled-fit None h = tt
    pulled-fit (Some narrow) h = record { axes = h narrow refl; marks = f.marks }

    narrow-fits : (root : ℕ) (within_range : Interval) → LeftFit (pulled S (narrowed_by p.nodes root within_range S.space))
    narrow-fits root within_range = pulled-fit (narrowed_by p.nodes root within_range S.space) (λ narrow e. narrowed-fits p.axes p.nodes g.ordered root within_range S.space narrow f.axes e)

    combine-fits : (ms : Multipliers) → LeftFit (pulled S (combining p s S ms))
    combine-fits ms = pulled-fit (combining p s S ms)
        (λ narrow e. subst (FitsIfSome p.axes S.space f.axes) e (combined-fits p.axes S.space f.axes p (marked_range p (margin_of s) S.marks) (middle S.space) ms))

    narrowing-fits : (n : Narrowing) → LeftFit (pulled S (narrowed_to p s S n))
    narrowing-fits (by_range j) = narrow-fits (atom_at p j).0 (range (margin_of s) (atom_at p j).1)
    narrowing-fits (by_off_range j) = narrow-fits (atom_at p j).0 (off_range (margin_of s) (atom_at p j).1)
    narrowing-fits (by_combination ms) = combine-fits ms

    marking-fits : (m : Marking) → FitsProblem p (marked S m)
    marking-fits (unit_atom j) = mark-fits S f j marked_yes
    marking-fits (ban_atom j i) = mark-fits S f j marked_no

    part-fits : (b : Branching) → IsTrue (can_part S b) → FitsProblem p (first_child S b) × FitsProblem p (second_child S b)
    part-fits (cut_axis axis c) e = (change-fits (lower_part c) (strictly_inside c) (low-fits c) axis e, change-fits (upper_part c) (strictly_inside c) (high-fits c) axis e)
    part-fits (flip_axis axis) e = (change-fits (keep false) is_undecided (keep-fits false) axis e, change-fits (keep true) is_undecided (keep-fits true) axis e)
    part-fits (case_atom j) e = (mark-fits S f j marked_yes, mark-fits S f j marked_no)
    part-fits (either_group js ks) e = (group-fits S f js, group-fits S f ks)

    branching-fits : (b : Branching) → IsTrue (can_branch p s S b) → FitsProblem p (first_child S b) × FitsProblem p (second_child S b)
    branching-fits b e = part-fits b (both_true (can_part S b) (is_parted p s S b) e).0

    ending-fits : (e : Ending) → LeftFit (ending p s lemmas S e)
    ending-fits (void_by n) = by-cond (can_narrow p s S n) (voided (narrowed_to p s S n)) (voided-fit (narrowed_to p s S n))
    ending-fits (by_squares ms bs) = by-when (is_void_by_squares p s S ms bs) closed (λ e. tt)
    ending-fits false_form = by-when (not (may p s S)) closed (λ e. tt)
    ending-fits (by_lemma i) = by-when (lemma_covers lemmas i S) closed (λ e. tt)

    rule-fits : (l : Line) → LeftFit (rule p s lemmas S l)
    rule-fits (narrow_by n) = by-cond (can_narrow p s S n) (pulled S (narrowed_to p s S n)) (narrowing-fits n)
    rule-fits (end_by e) = ending-fits e
    rule-fits (mark_by m) = by-when (can_mark p s lemmas S m) (one (marked S m)) (λ e. marking-fits m)
    rule-fits (branch_by b) = by-when (can_branch p s S b) (two (first_child S b) (second_child S b)) (branching-fits b)
    rule-fits (stay_by t) = by-when (can_stay p s S t) stays (λ e. tt)

  -- so do the states that a lawful tree leaves
  abbrev AllFit : List State → Type 0
  AllFit states = AllByRecursion (FitsProblem p) states

  pub tree_fits : {S : State} {t : Tree} {rest : List State} → Lawful p s lemmas S t rest → FitsProblem p S → AllFit rest
  tree_fits (at_closed e) f = tt
  tree_fits (at_left e) f = (f, tt)
  tree_fits (at_step {S = S} {l = l} e r) f = tree_fits r (subst LeftFit e (rule-fits S f l))
  tree_fits (at_fork {S = S} {l = l} {rest = xs} {rest' = ys} e r r') f =
      let k = subst LeftFit e (rule-fits S f l) in all_append (FitsProblem p) xs ys (tree_fits r k.0) (tree_fits r' k.1)
