-- What a rule leaves of a state whose sides are in order has its sides in order.
use Rattle.std.proofs.Common.{◌≡◌, inl, inr, ℕ, suc, zero, List, [], ◌∷◌, Bool, true, false, not, cond, IsTrue, Option, Some, None, refl, sym, subst, true≢false, nat_eq}
use Rattle.dyadic.specs.Fraction.{at_most}
use Rattle.dyadic.specs.Rounding.{Dyadic, exact, Ext, below_all, finite, above_all, ext_at_most}
use Rattle.dyadic.specs.End.{greater_ext, lesser_ext}
use Rattle.dyadic.proofs.Equal.{both_true, both_pass, total}
use Rattle.interval_model.specs.Interval.{Interval, nothing, between, interval_sum, met, is_nothing}
use Rattle.interval_model.specs.Space.{Domain, real_domain, bool_domain, Space, axis_interval, is_upright_domain, is_upright, strictly_inside, lower_part, upper_part, is_undecided, keep, changed, test_axis, middle}
use Rattle.poly_graph.specs.Term.{Node, constant_node, variable_node, negate_node, add_node, multiply_node, square_node}
use Rattle.poly_graph.specs.Problem.{Problem, atom_at}
use Rattle.poly_graph.proofs.Bools.{not_both}
use Rattle.cover_model.specs.Space.{range}
use Rattle.cover_model.specs.OffRange.{off_range}
use Rattle.cover_model.specs.State.{State, Loosenings, margin_of, with_yes, may}
use Rattle.cover_model.specs.Narrowed.{from_parents, own, narrowed_from, narrowed, some_empty, set_axis, with_axes, enclosures, narrowed_by}
use Rattle.cover_model.specs.Combination.{Multipliers, Part, Expansion, expansion, range_of, part_range, allowed_range, tightened, with_axis, with_intervals, combined_about, marked_range}
use Rattle.cover_model.specs.Rules.{is_void_by_squares, Line, narrow_by, Narrowing, by_range, by_off_range, by_combination, end_by, void_by, by_squares, false_form, by_lemma, mark_by, Marking, unit_atom, ban_atom, branch_by, Branching, cut_axis, flip_axis, case_atom, either_group, with_all_yes, stay_by, open_state, stuck_atom, open_line, stuck, Left, closed, one, two, stays, can_narrow, narrowed_to, lemma_covers, can_mark, marked, can_part, is_parted, can_branch, first_child, second_child, is_stuck_atom, when, pulled, voided, rule}

-- ---- intervals

-- its finite ends are in order
abbrev InOrder : Interval → Type 0
InOrder (between (finite l) (finite h)) = IsTrue (at_most (exact l) (exact h))
InOrder _ = Unit {0}

in-order : (l h : Ext) → IsTrue (ext_at_most l h) → InOrder (between l h)
in-order (finite l) (finite h) e = e
in-order (finite l) below_all e = tt
in-order (finite l) above_all e = tt
in-order below_all h e = tt
in-order above_all h e = tt

met-in-order : (i j : Interval) → InOrder (met i j)
met-in-order nothing j = tt
met-in-order (between l h) nothing = tt
met-in-order (between l h) (between l' h') = go (ext_at_most (greater_ext l l') (lesser_ext h h')) refl
  where
    go : (t : Bool) → ext_at_most (greater_ext l l') (lesser_ext h h') ≡ t → InOrder (cond t (between (greater_ext l l') (lesser_ext h h')) nothing)
    go true e = in-order (greater_ext l l') (lesser_ext h h') e
    go false e = tt

set-upright : (axis : ℕ) (i : Interval) (space : Space) → InOrder i → IsTrue (is_upright space) → IsTrue (is_upright (set_axis axis i space))
set-upright axis i [] o u = u
set-upright zero (between (finite l) (finite h)) (d ∷ space) o u = both_pass (is_upright_domain (real_domain l h)) (is_upright space) o (both_true (is_upright_domain d) (is_upright space) u).1
set-upright zero (between (finite l) below_all) (d ∷ space) o u = u
set-upright zero (between (finite l) above_all) (d ∷ space) o u = u
set-upright zero (between below_all h) (d ∷ space) o u = u
set-upright zero (between above_all h) (d ∷ space) o u = u
set-upright zero nothing (d ∷ space) o u = u
set-upright (suc axis) i (d ∷ space) o u = let e = both_true (is_upright_domain d) (is_upright space) u in both_pass (is_upright_domain d) (is_upright (set_axis axis i space)) e.0 (set-upright axis i space o e.1)

-- ---- narrowing

abbrev EachInOrder : List (Option Interval) → Type 0
EachInOrder [] = Unit {0}
EachInOrder (None ∷ ns) = EachInOrder ns
EachInOrder (Some i ∷ ns) = InOrder i × EachInOrder ns

own-first : (es : List Interval) (k : ℕ) (o : Option Interval) (ns : List (Option Interval)) → EachInOrder ns → EachInOrder (own es k o ∷ ns)
own-first es k None ns h = h
own-first es k (Some i) ns h = (met-in-order _ i, h)

narrowed-in-order : (es : List Interval) (root : ℕ) (range : Interval) (k : ℕ) (nodes : List Node) → EachInOrder (narrowed_from es root range k nodes)
narrowed-in-order es root range k [] = tt
narrowed-in-order es root range k (node ∷ later) = own-first es k (cond (nat_eq k root) (Some range) (from_parents es k later (narrowed_from es root range (suc k) later)))
    (narrowed_from es root range (suc k) later) (narrowed-in-order es root range (suc k) later)

rest-in-order : (n : Option Interval) (ns : List (Option Interval)) → EachInOrder (n ∷ ns) → EachInOrder ns
rest-in-order None ns h = h
rest-in-order (Some i) ns h = h.1

axes-upright : (nodes : List Node) (ns : List (Option Interval)) (space : Space) → EachInOrder ns → IsTrue (is_upright space) → IsTrue (is_upright (with_axes nodes ns space))
axes-upright [] ns space h u = u
axes-upright (constant_node q ∷ nodes) [] space h u = u
axes-upright (variable_node axis ∷ nodes) [] space h u = u
axes-upright (negate_node a ∷ nodes) [] space h u = u
axes-upright (add_node a b ∷ nodes) [] space h u = u
axes-upright (multiply_node a b ∷ nodes) [] space h u = u
axes-upright (square_node a ∷ nodes) [] space h u = u
axes-upright (variable_node axis ∷ nodes) (Some i ∷ ns) space h u = set-upright axis i (with_axes nodes ns space) h.0 (axes-upright nodes ns space h.1 u)
axes-upright (variable_node axis ∷ nodes) (None ∷ ns) space h u = axes-upright nodes ns space h u
axes-upright (constant_node q ∷ nodes) (n ∷ ns) space h u = axes-upright nodes ns space (rest-in-order n ns h) u
axes-upright (negate_node a ∷ nodes) (n ∷ ns) space h u = axes-upright nodes ns space (rest-in-order n ns h) u
axes-upright (add_node a b ∷ nodes) (n ∷ ns) space h u = axes-upright nodes ns space (rest-in-order n ns h) u
axes-upright (multiply_node a b ∷ nodes) (n ∷ ns) space h u = axes-upright nodes ns space (rest-in-order n ns h) u
axes-upright (square_node a ∷ nodes) (n ∷ ns) space h u = axes-upright nodes ns space (rest-in-order n ns h) u

left-if-some : (t : Bool) (a b : Space) → cond t None (Some a) ≡ Some b → a ≡ b
left-if-some true a b e = cc
left-if-some false a b e = cc

narrowed-upright : (nodes : List Node) (root : ℕ) (range : Interval) (space narrow : Space) → IsTrue (is_upright space) → narrowed_by nodes root range space ≡ Some narrow → IsTrue (is_upright narrow)
narrowed-upright nodes root range space narrow u e =
    let ns : List (Option Interval) = narrowed nodes (enclosures space nodes) root range in
    subst (λ (x : Space). IsTrue (is_upright x)) (left-if-some (some_empty ns) (with_axes nodes ns space) narrow e)
    (axes-upright nodes ns space (narrowed-in-order (enclosures space nodes) root range 0 nodes) u)

-- ---- combinations

some-same : (a b : Space) → Some a ≡ Some b → a ≡ b
some-same a b e = cc

left-some : (t : Bool) (o : Option Space) (narrow : Space) → cond t None o ≡ Some narrow → o ≡ Some narrow
left-some true o narrow e = cc
left-some false o narrow e = e

abbrev EachOrdered : List (ℕ × Interval) → Type 0
EachOrdered [] = Unit {0}
EachOrdered ((axis, i) ∷ is) = InOrder i × EachOrdered is

intervals-upright : (space : Space) (is : List (ℕ × Interval)) → IsTrue (is_upright space) → EachOrdered is → (narrow : Space) → with_intervals is space ≡ Some narrow → IsTrue (is_upright narrow)
intervals-upright space [] u h narrow e = subst (λ (x : Space). IsTrue (is_upright x)) (some-same space narrow e) u
intervals-upright space ((axis, i) ∷ is) u h narrow e = at (intervals-upright space is u h.1) i h.0 (with_intervals is space) refl e
  where
    at : ((x : Space) → with_intervals is space ≡ Some x → IsTrue (is_upright x)) → (j : Interval) → InOrder j → (o : Option Space) → with_intervals is space ≡ o → with_axis axis j o ≡ Some narrow → IsTrue (is_upright narrow)
    at f nothing w o d k = cc
    at f (between l h) w None d k = cc
    at f (between l h) w (Some x) d k = subst (λ (y : Space). IsTrue (is_upright y)) (some-same (set_axis axis (between l h) x) narrow k) (set-upright axis (between l h) x w (f x d))

each-ordered : (space centre : Space) (allowed before : Interval) (ps : List Part) → EachOrdered (tightened space centre allowed before ps)
each-ordered space centre allowed before [] = tt
each-ordered space centre allowed before (x ∷ ps) = (met-in-order (axis_interval space x.axis) _, each-ordered space centre allowed (interval_sum before (part_range space centre x)) ps)

combined-upright : (p : Problem) (ranges : ℕ → Interval) (space centre : Space) (ms : Multipliers) (narrow : Space) → IsTrue (is_upright space) → combined_about p ranges space centre ms ≡ Some narrow → IsTrue (is_upright narrow)
combined-upright p ranges space centre ms narrow u e =
    let x : Expansion = expansion p space centre ms in let allowed : Interval = allowed_range ranges ms in let ts : List (ℕ × Interval) = tightened space centre allowed x.rest x.parts in
    intervals-upright space ts u (each-ordered space centre allowed x.rest x.parts) narrow (left-some (is_nothing (met (range_of space centre x) allowed)) (with_intervals ts space) narrow e)

-- ---- branches

other-side : (b c : Dyadic) → IsTrue (not (at_most (exact b) (exact c))) → IsTrue (at_most (exact c) (exact b))
other-side b c h = elim (total (exact b) (exact c)) [
  | inl k ↦ absurd (not_both (at_most (exact b) (exact c)) k h)
  | inr k ↦ k
]

lower-upright : (c : Dyadic) (d : Domain) → IsTrue (strictly_inside c d) → IsTrue (is_upright_domain (lower_part c d))
lower-upright c (real_domain l h) i = other-side c l (both_true (not (at_most (exact c) (exact l))) (not (at_most (exact h) (exact c))) i).0
lower-upright c (bool_domain f t) i = refl

upper-upright : (c : Dyadic) (d : Domain) → IsTrue (strictly_inside c d) → IsTrue (is_upright_domain (upper_part c d))
upper-upright c (real_domain l h) i = other-side h c (both_true (not (at_most (exact c) (exact l))) (not (at_most (exact h) (exact c))) i).1
upper-upright c (bool_domain f t) i = refl

keep-upright : (v : Bool) (d : Domain) → IsTrue (is_undecided d) → IsTrue (is_upright_domain (keep v d))
keep-upright v (real_domain l h) i = absurd (true≢false (sym i))
keep-upright v (bool_domain f t) i = refl

changed-upright : (f : Domain → Domain) (test : Domain → Bool) → ((d : Domain) → IsTrue (test d) → IsTrue (is_upright_domain (f d))) → (axis : ℕ) (space : Space) →
    IsTrue (is_upright space) → IsTrue (test_axis test axis space) → IsTrue (is_upright (changed f axis space))
changed-upright f test g axis [] u h = refl
changed-upright f test g zero (d ∷ space) u h = both_pass (is_upright_domain (f d)) (is_upright space) (g d h) (both_true (is_upright_domain d) (is_upright space) u).1
changed-upright f test g (suc axis) (d ∷ space) u h = let e = both_true (is_upright_domain d) (is_upright space) u in
    both_pass (is_upright_domain d) (is_upright (changed f axis space)) e.0 (changed-upright f test g axis space e.1 h)

-- ---- rules

-- what is left has its sides in order, and where the state stays Q holds
abbrev pub UprightIf : Type 0 → Option Left → Type 0
UprightIf Q None = Unit {0}
UprightIf Q (Some closed) = Unit {0}
UprightIf Q (Some (one S)) = IsTrue (is_upright S.space)
UprightIf Q (Some (two S T)) = IsTrue (is_upright S.space) × IsTrue (is_upright T.space)
UprightIf Q (Some stays) = Q

by-when : (Q : Type 0) (b : Bool) (l : Left) → (IsTrue b → UprightIf Q (Some l)) → UprightIf Q (when b l)
by-when Q true l f = f refl
by-when Q false l f = tt

by-cond : (Q : Type 0) (b : Bool) (o : Option Left) → UprightIf Q o → UprightIf Q (cond b o None)
by-cond Q true o h = h
by-cond Q false o h = tt

pulled-upright : (Q : Type 0) (S : State) (o : Option Space) → ((space : Space) → o ≡ Some space → IsTrue (is_upright space)) → UprightIf Q (pulled S o)
pulled-upright Q S None f = tt
pulled-upright Q S (Some space) f = f space refl

voided-upright : (Q : Type 0) (o : Option Space) → UprightIf Q (voided o)
voided-upright Q None = tt
voided-upright Q (Some space) = tt

module _ (p : Problem) (s : Loosenings) (lemmas : List State) (S : State) (u : IsTrue (is_upright S.space)) where
  narrow-upright : (n : Narrowing) (space : Space) → narrowed_to p s S n ≡ Some space → IsTrue (is_upright space)
  narrow-upright (by_range j) space e = narrowed-upright p.nodes (atom_at p j).0 (range (margin_of s) (atom_at p j).1) S.space space u e
  narrow-upright (by_off_range j) space e = narrowed-upright p.nodes (atom_at p j).0 (off_range (margin_of s) (atom_at p j).1) S.space space u e
  narrow-upright (by_combination ms) space e = combined-upright p (marked_range p (margin_of s) S.marks) S.space (middle S.space) ms space u e

  mark-upright : (m : Marking) → IsTrue (is_upright (marked S m).space)
  mark-upright (unit_atom j) = u
  mark-upright (ban_atom j i) = u

  -- the space is the state's
  group-space : (T : State) (js : List ℕ) → (with_all_yes T js).space ≡ T.space
  group-space T [] = refl
  group-space T (j ∷ js) = group-space (with_yes T j) js

  group-upright : (js : List ℕ) → IsTrue (is_upright (with_all_yes S js).space)
  group-upright js = subst (λ (x : Space). IsTrue (is_upright x)) (sym (group-space S js)) u

  first-upright : (b : Branching) → IsTrue (can_part S b) → IsTrue (is_upright (first_child S b).space)
  first-upright (cut_axis axis c) e = changed-upright (lower_part c) (strictly_inside c) (lower-upright c) axis S.space u e
  first-upright (flip_axis axis) e = changed-upright (keep false) is_undecided (keep-upright false) axis S.space u e
  first-upright (case_atom j) e = u
  first-upright (either_group js ks) e = group-upright js

  second-upright : (b : Branching) → IsTrue (can_part S b) → IsTrue (is_upright (second_child S b).space)
  second-upright (cut_axis axis c) e = changed-upright (upper_part c) (strictly_inside c) (upper-upright c) axis S.space u e
  second-upright (flip_axis axis) e = changed-upright (keep true) is_undecided (keep-upright true) axis S.space u e
  second-upright (case_atom j) e = u
  second-upright (either_group js ks) e = group-upright ks

  -- Q follows for the lines at which a state may stay
  pub rule_upright : (l : Line) (Q : Type 0) → (l ≡ open_line → Q) → ((j : ℕ) → l ≡ stuck j → IsTrue (is_stuck_atom p s S j) → Q) → UprightIf Q (rule p s lemmas S l)
  rule_upright (narrow_by n) Q f g = by-cond Q (can_narrow p s S n) (pulled S (narrowed_to p s S n)) (pulled-upright Q S (narrowed_to p s S n) (narrow-upright n))
  rule_upright (end_by (void_by n)) Q f g = by-cond Q (can_narrow p s S n) (voided (narrowed_to p s S n)) (voided-upright Q (narrowed_to p s S n))
  rule_upright (end_by (by_squares ms bs)) Q f g = by-when Q (is_void_by_squares p s S ms bs) closed (λ e. tt)
  rule_upright (end_by false_form) Q f g = by-when Q (not (may p s S)) closed (λ e. tt)
  rule_upright (end_by (by_lemma i)) Q f g = by-when Q (lemma_covers lemmas i S) closed (λ e. tt)
  rule_upright (mark_by m) Q f g = by-when Q (can_mark p s lemmas S m) (one (marked S m)) (λ e. mark-upright m)
  rule_upright (branch_by b) Q f g = by-when Q (can_branch p s S b) (two (first_child S b) (second_child S b)) (λ e. let c = (both_true (can_part S b) (is_parted p s S b) e).0 in (first-upright b c, second-upright b c))
  rule_upright (stay_by open_state) Q f g = f refl
  rule_upright (stay_by (stuck_atom j)) Q f g = by-when Q (is_stuck_atom p s S j) stays (g j refl)
