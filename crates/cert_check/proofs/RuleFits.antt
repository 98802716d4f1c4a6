-- What a rule leaves has a domain for each axis and a mark for each atom, as its state has.
use Rattle.std.proofs.Common.{◌≡◌, ℕ, zero, suc, List, [], ◌∷◌, length, replicate, Bool, true, false, cond, not, ◌&&◌, Option, Some, None, refl, ap, ap₂, sym, ◌∙◌, arith}
use Rattle.std.proofs.lemmas.List.{length-set, length-map}
use Rattle.dyadic.specs.Rounding.{below_all, finite, above_all}
use Rattle.interval_model.specs.Interval.{Interval, nothing, between, is_nothing, met}
use Rattle.interval_model.specs.Space.{Domain, Space, changed, middle, lower_part, upper_part, keep}
use Rattle.poly_graph.specs.Term.{Node, variable_node}
use Rattle.cover_model.specs.OffRange.{off_range}
use Rattle.cover_model.specs.Space.{range}
use Rattle.cover_model.specs.Narrowed.{set_axis, with_axes, some_empty, narrowed, enclosures}
use Rattle.poly_graph.specs.Problem.{Axis, Problem, atom_at}
use Rattle.cover_model.specs.Root.{root_domain, root_space}
use Rattle.poly_graph.specs.ProblemViews.{Parts, problem_of}
use Rattle.poly_graph.specs.Marks.{Mark, marked_yes, marked_no, unmarked}
use Rattle.cover_model.specs.State.{State, Loosenings, margin_of, with_mark, with_space, may, root_state}
use Rattle.cover_model.specs.Combination.{Expansion, expansion, allowed_range, marked_range, range_of, tightened, with_axis, with_intervals, left_of_space}
use Rattle.cover_model.specs.Rules.{is_void_by_squares, Line, narrow_by, Narrowing, by_range, by_off_range, by_combination, end_by, void_by, by_squares, false_form, by_lemma, mark_by, Marking, unit_atom, ban_atom, branch_by, Branching, cut_axis, flip_axis, case_atom, either_group, with_all_yes, stay_by, Left, closed, one, two, stays, can_narrow, narrowed_to, lemma_covers, can_mark, marked, can_branch, first_child, second_child, can_stay, with_changed, when, pulled, voided, rule}
use Rattle.cert_check.specs.States.{Fits}
use Rattle.cert_check.specs.Waiting.{FitsLeft}

length-axis : (axis : ℕ) (i : Interval) (space : Space) → length (set_axis axis i space) ≡ length space
length-axis axis i [] = refl
length-axis zero nothing (d ∷ space) = refl
length-axis zero (between below_all h) (d ∷ space) = refl
length-axis zero (between above_all h) (d ∷ space) = refl
length-axis zero (between (finite l) below_all) (d ∷ space) = refl
length-axis zero (between (finite l) above_all) (d ∷ space) = refl
length-axis zero (between (finite l) (finite h)) (d ∷ space) = refl
length-axis (suc axis) i (d ∷ space) = let e = length-axis axis i space in omega (arith, e)

length-axes : (nodes : List Node) (ns : List (Option Interval)) (space : Space) → length (with_axes nodes ns space) ≡ length space
length-axes (variable_node axis ∷ nodes) (Some i ∷ ns) space = length-axis axis i (with_axes nodes ns space) ∙ length-axes nodes ns space
length-axes (_ ∷ nodes) (_ ∷ ns) space = length-axes nodes ns space
length-axes _ _ space = refl

length-changed : (f : Domain → Domain) (axis : ℕ) (space : Space) → length (changed f axis space) ≡ length space
length-changed f axis [] = refl
length-changed f zero (d ∷ space) = refl
length-changed f (suc axis) (d ∷ space) = let e = length-changed f axis space in omega (arith, e)

length-with : (axis : ℕ) (i : Interval) (o : Option Space) (n : ℕ) → ((space : Space) → o ≡ Some space → length space ≡ n) → (new : Space) → with_axis axis i o ≡ Some new → length new ≡ n
length-with axis nothing o n f new e = cc
length-with axis (between l h) None n f new e = cc
length-with axis (between l h) (Some space) n f new e = let same : set_axis axis (between l h) space ≡ new = cc in ap length (sym same) ∙ length-axis axis (between l h) space ∙ f space refl

length-intervals : (is : List (ℕ × Interval)) (space new : Space) → with_intervals is space ≡ Some new → length new ≡ length space
length-intervals [] space new e = let same : space ≡ new = cc in ap length (sym same)
length-intervals ((axis, i) ∷ is) space new e = length-with axis i (with_intervals is space) (length space) (length-intervals is space) new e

length-left : (space centre : Space) (allowed : Interval) (x : Expansion) (new : Space) → left_of_space space centre allowed x ≡ Some new → length new ≡ length space
length-left space centre allowed x new e = go (is_nothing (met (range_of space centre x) allowed)) e
  where
    go : (t : Bool) → cond t None (with_intervals (tightened space centre allowed x.rest x.parts) space) ≡ Some new → length new ≡ length space
    go true f = cc
    go false f = length-intervals (tightened space centre allowed x.rest x.parts) space new f

length-by : (nodes : List Node) (ns : List (Option Interval)) (space new : Space) → cond (some_empty ns) None (Some (with_axes nodes ns space)) ≡ Some new → length new ≡ length space
length-by nodes ns space new e = go (some_empty ns) e
  where
    go : (t : Bool) → cond t None (Some (with_axes nodes ns space)) ≡ Some new → length new ≡ length space
    go true f = cc
    go false f = let same : with_axes nodes ns space ≡ new = cc in ap length (sym same) ∙ length-axes nodes ns space

-- what a narrowing leaves has the axes of the space
length-narrowed : (p : Problem) (s : Loosenings) (S : State) (n : Narrowing) (new : Space) → narrowed_to p s S n ≡ Some new → length new ≡ length S.space
length-narrowed p s S (by_range j) new e = length-by p.nodes (narrowed p.nodes (enclosures S.space p.nodes) (atom_at p j).0 (range (margin_of s) (atom_at p j).1)) S.space new e
length-narrowed p s S (by_off_range j) new e = length-by p.nodes (narrowed p.nodes (enclosures S.space p.nodes) (atom_at p j).0 (off_range (margin_of s) (atom_at p j).1)) S.space new e
length-narrowed p s S (by_combination ms) new e = length-left S.space (middle S.space) (allowed_range (marked_range p (margin_of s) S.marks) ms) (expansion p S.space (middle S.space) ms) new e

abbrev pub state : Space → List Mark → State
state space marks = record { space = space; marks = marks }

module _ (p : Parts) where
  space-fits : (S : State) (space : Space) → length space ≡ length S.space → Fits p S → Fits p (with_space S space)
  space-fits S space e h = record { axes = e ∙ h.axes; atoms = h.atoms }

  pub mark_fits : (S : State) (j : ℕ) (m : Mark) → Fits p S → Fits p (with_mark S j m)
  mark_fits S j m h = record { axes = h.axes; atoms = length-set S.marks j m ∙ h.atoms }

  changed-fits : (S : State) (f : Domain → Domain) (axis : ℕ) → Fits p S → Fits p (with_changed S f axis)
  changed-fits S f axis h = space-fits S (changed f axis S.space) (length-changed f axis S.space) h

  when-fits : (b : Bool) (l : Left) → FitsLeft p (Some l) → FitsLeft p (when b l)
  when-fits true l h = h
  when-fits false l h = tt

  cond-fits : (b : Bool) (o : Option Left) → FitsLeft p o → FitsLeft p (cond b o None)
  cond-fits true o h = h
  cond-fits false o h = tt

  left-fits : (S : State) (o : Option Space) → ((space : Space) → o ≡ Some space → length space ≡ length S.space) → Fits p S → FitsLeft p (pulled S o)
  left-fits S None f h = tt
  left-fits S (Some space) f h = space-fits S space (f space refl) h

  voided-fits : (o : Option Space) → FitsLeft p (voided o)
  voided-fits None = tt
  voided-fits (Some space) = tt

  marked-fits : (S : State) (m : Marking) → Fits p S → Fits p (marked S m)
  marked-fits S (unit_atom j) h = mark_fits S j marked_yes h
  marked-fits S (ban_atom j i) h = mark_fits S j marked_no h

  group-fits : (S : State) (js : List ℕ) → Fits p S → Fits p (with_all_yes S js)
  group-fits S [] h = h
  group-fits S (j ∷ js) h = group-fits (with_mark S j marked_yes) js (mark_fits S j marked_yes h)

  first-fits : (S : State) (b : Branching) → Fits p S → Fits p (first_child S b)
  first-fits S (cut_axis axis c) h = changed-fits S (lower_part c) axis h
  first-fits S (flip_axis axis) h = changed-fits S (keep false) axis h
  first-fits S (case_atom j) h = mark_fits S j marked_yes h
  first-fits S (either_group js ks) h = group-fits S js h

  second-fits : (S : State) (b : Branching) → Fits p S → Fits p (second_child S b)
  second-fits S (cut_axis axis c) h = changed-fits S (upper_part c) axis h
  second-fits S (flip_axis axis) h = changed-fits S (keep true) axis h
  second-fits S (case_atom j) h = mark_fits S j marked_no h
  second-fits S (either_group js ks) h = group-fits S ks h

  pub rule_fits : (s : Loosenings) (lemmas : List State) (S : State) (l : Line) → Fits p S → FitsLeft p (rule (problem_of p) s lemmas S l)
  rule_fits s lemmas S (narrow_by n) h = cond-fits (can_narrow (problem_of p) s S n) (pulled S (narrowed_to (problem_of p) s S n)) (left-fits S (narrowed_to (problem_of p) s S n) (length-narrowed (problem_of p) s S n) h)
  rule_fits s lemmas S (end_by (void_by n)) h = cond-fits (can_narrow (problem_of p) s S n) (voided (narrowed_to (problem_of p) s S n)) (voided-fits (narrowed_to (problem_of p) s S n))
  rule_fits s lemmas S (end_by (by_squares ms bs)) h = when-fits (is_void_by_squares (problem_of p) s S ms bs) closed tt
  rule_fits s lemmas S (end_by false_form) h = when-fits (not (may (problem_of p) s S)) closed tt
  rule_fits s lemmas S (end_by (by_lemma i)) h = when-fits (lemma_covers lemmas i S) closed tt
  rule_fits s lemmas S (mark_by m) h = when-fits (can_mark (problem_of p) s lemmas S m) (one (marked S m)) (marked-fits S m h)
  rule_fits s lemmas S (branch_by b) h = when-fits (can_branch (problem_of p) s S b) (two (first_child S b) (second_child S b)) (first-fits S b h, second-fits S b h)
  rule_fits s lemmas S (stay_by t) h = when-fits (can_stay (problem_of p) s S t) stays tt

  length-none : (n : ℕ) → length (replicate n unmarked) ≡ n
  length-none zero = refl
  length-none (suc n) = let e = length-none n in omega (arith, e)

  pub root_fits : (S : State) → S ≡ root_state (problem_of p) → Fits p S
  root_fits S e = record {
    axes = ap (λ (x : State). length x.space) e ∙ length-map p.axes (λ (a : Axis). root_domain a.declared);
    atoms = ap (λ (x : State). length x.marks) e ∙ length-none (length p.atoms);
  }

  -- the state where the main tree begins
  pub root_is : (space : Space) (marks : List Mark) (n : ℕ) → space ≡ root_space (problem_of p) → marks ≡ replicate n unmarked → n ≡ length p.atoms → state space marks ≡ root_state (problem_of p)
  root_is space marks n e f g = ap₂ state e (f ∙ ap (λ (k : ℕ). replicate k unmarked) g)
