-- The two states that a branch leaves are states of the problem.
use Rattle.std.proofs.Common.{◌≡◌, inl, inr, ℕ, zero, suc, List, [], ◌∷◌, Bool, true, false, not, IsTrue, Option, Some, None, refl, sym, ap, ◌∙◌, subst, true≢false}
use Rattle.std.proofs.Math.ListN.{length-set}
use Rattle.dyadic.specs.Fraction.{at_most}
use Rattle.dyadic.specs.Rounding.{Dyadic, exact}
use Rattle.dyadic.proofs.Equal.{both_true, total}
use Rattle.interval_model.specs.Space.{Domain, real_domain, bool_domain, Space, strictly_inside, lower_part, upper_part, is_undecided, keep, test_axis, changed}
use Rattle.poly_graph.specs.Problem.{Declared, real_between, any_bool, Axis, Problem}
use Rattle.poly_graph.specs.Marks.{Mark, marked_yes, marked_no}
use Rattle.cover_model.specs.State.{State, Loosenings, with_yes, with_mark}
use Rattle.cover_model.specs.Rules.{Line, narrow_by, end_by, mark_by, branch_by, stay_by, Branching, cut_axis, flip_axis, case_atom, either_group, with_all_yes, can_part, is_parted, can_branch, first_child, second_child, with_changed, when, two, rule}
use Rattle.cover_model.specs.Fits.{FitsAxis, FitsAxes, FitsProblem}
use Rattle.cover_data.specs.Runs.{CanPart, CanBranch, children, IsEnding}

-- a changed axis whose new domain is one of such an axis
pub changed_fits : (f : Domain → Domain) (t : Domain → Bool) → ((a : Declared) (d : Domain) → IsTrue (t d) → FitsAxis a d → FitsAxis a (f d)) →
    (axes : List Axis) (axis : ℕ) (space : Space) → IsTrue (test_axis t axis space) → FitsAxes axes space → FitsAxes axes (changed f axis space)
changed_fits f t g axes axis [] h k = k
changed_fits f t g [] zero (d ∷ space) h k = k
changed_fits f t g [] (suc axis) (d ∷ space) h k = k
changed_fits f t g (a ∷ axes) zero (d ∷ space) h k = (g a.declared d h k.0, k.1)
changed_fits f t g (a ∷ axes) (suc axis) (d ∷ space) h k = (k.0, changed_fits f t g axes axis space h k.1)

pub above_if_not : (a b : Dyadic) → IsTrue (not (at_most (exact b) (exact a))) → IsTrue (at_most (exact a) (exact b))
above_if_not a b h = elim (total (exact a) (exact b)) [ inl e ↦ e | inr e ↦ absurd (true≢false (sym h ∙ ap not e)) ]

low-fits : (c : Dyadic) (a : Declared) (d : Domain) → IsTrue (strictly_inside c d) → FitsAxis a d → FitsAxis a (lower_part c d)
low-fits c (real_between lo hi) (real_domain l h) t k = above_if_not l c (both_true (not (at_most (exact c) (exact l))) (not (at_most (exact h) (exact c))) t).0
low-fits c any_bool (real_domain l h) t k = k
low-fits c a (bool_domain f u) t k = k

high-fits : (c : Dyadic) (a : Declared) (d : Domain) → IsTrue (strictly_inside c d) → FitsAxis a d → FitsAxis a (upper_part c d)
high-fits c (real_between lo hi) (real_domain l h) t k = above_if_not c h (both_true (not (at_most (exact c) (exact l))) (not (at_most (exact h) (exact c))) t).1
high-fits c any_bool (real_domain l h) t k = k
high-fits c a (bool_domain f u) t k = k

keep-fits : (v : Bool) (a : Declared) (d : Domain) → IsTrue (is_undecided d) → FitsAxis a d → FitsAxis a (keep v d)
keep-fits v a (real_domain l h) t k = k
keep-fits true any_bool (bool_domain f u) t k = refl
keep-fits false any_bool (bool_domain f u) t k = refl
keep-fits v (real_between lo hi) (bool_domain f u) t k = k

module _ (p : Problem) (S : State) (fits : FitsProblem p S) where
  pub changed_state_fits : (f : Domain → Domain) (t : Domain → Bool) → ((a : Declared) (d : Domain) → IsTrue (t d) → FitsAxis a d → FitsAxis a (f d)) → (axis : ℕ) → IsTrue (test_axis t axis S.space) → FitsProblem p (with_changed S f axis)
  changed_state_fits f t g axis h = record { axes = changed_fits f t g p.axes axis S.space h fits.axes; marks = fits.marks }

  pub marked_fits : (j : ℕ) (m : Mark) → FitsProblem p (with_mark S j m)
  marked_fits j m = record { axes = fits.axes; marks = length-set S.marks j m ∙ fits.marks }

abbrev Fit : Problem → Option (State × State) → Type 0
Fit p None = Unit {0}
Fit p (Some x) = FitsProblem p x.0 × FitsProblem p x.1

group-fits : (p : Problem) (S : State) → FitsProblem p S → (js : List ℕ) → FitsProblem p (with_all_yes S js)
group-fits p S f [] = f
group-fits p S f (j ∷ js) = group-fits p (with_yes S j) (marked_fits p S f j marked_yes) js

branch-fits : (p : Problem) (S : State) → FitsProblem p S → (b : Branching) → IsTrue (can_part S b) → FitsProblem p (first_child S b) × FitsProblem p (second_child S b)
branch-fits p S f (cut_axis axis c) h = (changed_state_fits p S f (lower_part c) (strictly_inside c) (low-fits c) axis h, changed_state_fits p S f (upper_part c) (strictly_inside c) (high-fits c) axis h)
branch-fits p S f (flip_axis axis) h = (changed_state_fits p S f (keep false) is_undecided (keep-fits false) axis h, changed_state_fits p S f (keep true) is_undecided (keep-fits true) axis h)
branch-fits p S f (case_atom j) h = (marked_fits p S f j marked_yes, marked_fits p S f j marked_no)
branch-fits p S f (either_group js ks) h = (group-fits p S f js, group-fits p S f ks)

children-fit-both : (p : Problem) (S : State) → FitsProblem p S → (l : Line) → CanPart l S → Fit p (children l S)
children-fit-both p S f (branch_by b) h = branch-fits p S f b h
children-fit-both p S f (narrow_by n) h = tt
children-fit-both p S f (end_by e) h = tt
children-fit-both p S f (mark_by m) h = tt
children-fit-both p S f (stay_by t) h = tt

pub children_fit : (p : Problem) (S : State) → FitsProblem p S → (l : Line) → CanPart l S → (a b : State) → children l S ≡ Some (a, b) → FitsProblem p a × FitsProblem p b
children_fit p S f l h a b e = subst (Fit p) e (children-fit-both p S f l h)

ends-if : (b : Bool) (x y : State) → IsTrue b → IsEnding (when b (two x y))
ends-if true x y h = tt
ends-if false x y h = absurd (true≢false (sym h))

-- where its rule holds, a branch has what it parts
pub can_part_of : (p : Problem) (s : Loosenings) (S : State) (l : Line) → CanBranch p s l S → CanPart l S
can_part_of p s S (branch_by b) h = (both_true (can_part S b) (is_parted p s S b) h).0
can_part_of p s S (narrow_by n) h = tt
can_part_of p s S (end_by e) h = tt
can_part_of p s S (mark_by m) h = tt
can_part_of p s S (stay_by t) h = tt

-- a branch ends a run where its rule holds
pub can_end : (p : Problem) (s : Loosenings) (lemmas : List State) (S : State) (l : Line) → CanBranch p s l S → (x : State × State) → children l S ≡ Some x → IsEnding (rule p s lemmas S l)
can_end p s lemmas S (branch_by b) h x e = ends-if (can_branch p s S b) (first_child S b) (second_child S b) h
can_end p s lemmas S (narrow_by n) h x e = cc
can_end p s lemmas S (end_by y) h x e = cc
can_end p s lemmas S (mark_by m) h x e = cc
can_end p s lemmas S (stay_by t) h x e = cc
