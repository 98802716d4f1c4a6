-- The lines of a run name atoms and axes that are there.
use Rattle.std.proofs.Common.{◌≡◌, ◌⊎◌, inl, inr, ℕ, zero, suc, ◌<◌, ◌≤◌, List, [], ◌∷◌, length, Bool, true, false, not, ◌&&◌, ◌||◌, nat_lt, cond, Option, Some, None, IsTrue, refl, ap, sym, ◌∙◌, subst, true≢false, arith}
use Rattle.std.specs.Prelude.{IfSome}
use Rattle.std.specs.List.{AllByRecursion}
use Rattle.std.proofs.lemmas.Bool.{le-leb}
use Rattle.std.proofs.lemmas.Bool.Decides.{eqb_tells}
use Rattle.std.proofs.lemmas.List.{length-set}
use Rattle.dyadic.proofs.Equal.{both_true, both_pass}
use Rattle.interval_model.specs.Space.{Domain, real_domain, bool_domain, Space, middle, is_upright_domain, is_upright, strictly_inside, is_undecided}
use Rattle.cover_model.specs.Space.{IsGridSpace}
use Rattle.poly_graph.specs.Problem.{Declared, real_between, any_bool, Axis, Problem, IsProblem, atom_at}
use Rattle.poly_graph.specs.Marks.{Mark, is_yes, is_no, mark_at, undecided_in, marked_yes, marked_no}
use Rattle.cover_model.specs.State.{State, Loosenings, margin_of, in_yes, in_no, undecided, with_space}
use Rattle.cover_model.specs.Rules.{Block, Line, narrow_by, end_by, mark_by, branch_by, stay_by, Narrowing, by_range, by_off_range, by_combination, void_by, by_squares, false_form, by_lemma, Marking, unit_atom, ban_atom, Branching, cut_axis, flip_axis, case_atom, either_group, open_state, stuck_atom, Left, closed, one, stays, rule, when, pulled, voided, can_narrow, narrowed_to, has_version_2, has_version_5, is_void_by_squares, is_one_sided, in_no_one_sided, can_push, is_combination, are_combinable, can_combine, can_mark, marked, are_undecided, can_part, is_parted, can_branch, is_stuck_atom}
use Rattle.cover_model.specs.Honest.{is_honest, not_shown, settled, is_small, none_below}
use Rattle.cover_model.specs.Fits.{FitsAxis, FitsAxes, FitsProblem}
use Rattle.cover_model.proofs.Stuck.{some_atom_is_stuck}
use Rattle.cert_model.specs.Due.{names_well, all_below, is_atom, are_atoms, are_blocks_there}
use Rattle.cover_model.specs.Combination.{Multipliers, marked_range}
use Rattle.square_model.specs.Positive.{is_positive}
use Rattle.cover_data.specs.declared.margins.Margins.{Margins}
use Rattle.cover_data.specs.Margins.{loosenings_of}
use Rattle.cover_data.specs.Models.{KeptModel}
use Rattle.cover_data.specs.Runs.{StepsLead, AreKept, IsEnding, IsRun}
use Rattle.cover_book.specs.Names.{RunNamesWell}
use Rattle.cover_book.proofs.Axes.{axis_there, positive_there}

-- ---- what marks and tests say of numbers

no-below : (marks : List Mark) (j : ℕ) → IsTrue (is_no (mark_at marks j)) → j < length marks
no-below [] j h = absurd (true≢false (sym h))
no-below (m ∷ marks) zero h = omega arith
no-below (m ∷ marks) (suc j) h = omega (arith, no-below marks j h)

yes-below : (marks : List Mark) (j : ℕ) → IsTrue (is_yes (mark_at marks j)) → j < length marks
yes-below [] j h = absurd (true≢false (sym h))
yes-below (m ∷ marks) zero h = omega arith
yes-below (m ∷ marks) (suc j) h = omega (arith, yes-below marks j h)

pub undecided_below : (marks : List Mark) (j : ℕ) → IsTrue (undecided_in marks j) → j < length marks
undecided_below [] j h = absurd (true≢false (sym h))
undecided_below (m ∷ marks) zero h = omega arith
undecided_below (m ∷ marks) (suc j) h = omega (arith, undecided_below marks j h)

pub axes_length : (axes : List Axis) (space : Space) → FitsAxes axes space → length space ≡ length axes
axes_length [] [] h = refl
axes_length (a ∷ axes) (d ∷ space) h = ap suc (axes_length axes space h.1)
axes_length [] (d ∷ space) h = elim h [ ]
axes_length (a ∷ axes) [] h = elim h [ ]

domain-upright : (a : Declared) (d : Domain) → FitsAxis a d → IsTrue (is_upright_domain d)
domain-upright (real_between lo hi) (real_domain l h) k = k
domain-upright any_bool (bool_domain f t) k = refl
domain-upright (real_between lo hi) (bool_domain f t) k = elim k [ ]
domain-upright any_bool (real_domain l h) k = elim k [ ]

pub axes_upright : (axes : List Axis) (space : Space) → FitsAxes axes space → IsTrue (is_upright space)
axes_upright [] [] h = refl
axes_upright (a ∷ axes) (d ∷ space) h = both_pass _ (is_upright space) (domain-upright a.declared d h.0) (axes_upright axes space h.1)
axes_upright [] (d ∷ space) h = elim h [ ]
axes_upright (a ∷ axes) [] h = elim h [ ]

when-true : (t : Bool) (l l' : Left) → when t l ≡ Some l' → IsTrue t
when-true true l l' h = refl
when-true false l l' h = cc

ending-true : (t : Bool) (l : Left) → IsEnding (when t l) → IsTrue t
ending-true true l h = refl
ending-true false l h = elim h [ ]

cond-true : (t : Bool) (o : Option Left) (l : Left) → cond t o None ≡ Some l → IsTrue t × (o ≡ Some l)
cond-true true o l h = (refl, h)
cond-true false o l h = cc

ending-cond : (t : Bool) (o : Option Left) → IsEnding (cond t o None) → IsTrue t
ending-cond true o h = refl
ending-cond false o h = elim h [ ]

at-or-below : (i j : ℕ) → i < suc j → (i ≡ j) ⊎ (i < j)
at-or-below i j h = elim (eqb_tells i j) [ inl q ↦ inl q.1 | inr q ↦ inr (omega (arith, h, q.1)) ]

not-true : (t : Bool) → IsTrue (not t) → t ≡ false
not-true true h = cc
not-true false h = refl

not-above : (j i n : ℕ) → i < n → (i < j → ⊥) → suc j ≤ n
not-above j i n h k = omega (arith, h, k)

none-stuck : (p : Problem) (s : Loosenings) (S : State) (j i : ℕ) → IsTrue (none_below p s S j) → i < j → IsTrue (is_stuck_atom p s S i) → ⊥
none-stuck p s S zero i h k e = omega (arith, k)
none-stuck p s S (suc j) i h k e =
    let t = both_true (not (is_stuck_atom p s S j)) (none_below p s S j) h in
    elim (at-or-below i j k) [
      | inl q ↦ true≢false (sym (subst (λ (m : ℕ). IsTrue (is_stuck_atom p s S m)) q e) ∙ not-true (is_stuck_atom p s S j) t.0)
      | inr q ↦ none-stuck p s S j i t.1 q e
    ]

pub no_void : {A : Type 0} {S' : State} (o : Option Space) → voided o ≡ Some (one S') → A
no_void None h = cc
no_void (Some space) h = cc

pub no_when : {A : Type 0} (t : Bool) (l : Left) (S' : State) → when t l ≡ Some (one S') → (l ≡ one S' → A) → A
no_when true l S' h f = f cc
no_when false l S' h f = cc

only-one : (t : Bool) (T S' : State) → when t (one T) ≡ Some (one S') → S' ≡ T
only-one true T S' h = cc
only-one false T S' h = cc

module _ (p : Problem) (g : IsProblem p) (m : Margins) (lemmas : List State) where
  abbrev s : Loosenings
  s = loosenings_of m

  abbrev HasMarks : State → Type 0
  HasMarks S = length S.marks ≡ length p.atoms

  atom-there : (S : State) (j : ℕ) → HasMarks S → j < length S.marks → IsTrue (is_atom p j)
  atom-there S j h k = le-leb (suc j) (length p.atoms) (omega (arith, h, k))

  -- a step names an atom that is there, and the next state has as many marks
  pulled-keeps : (S S' : State) (o : Option Space) → pulled S o ≡ Some (one S') → S'.marks ≡ S.marks
  pulled-keeps S S' None h = cc
  pulled-keeps S S' (Some space) h = let e : S' ≡ with_space S space = cc in ap (λ (T : State). T.marks) e

  in-no : (S : State) (j : ℕ) → IsTrue (can_push p s S j) → IsTrue (in_no S j)
  in-no S j h = (both_true (in_no S j) (is_one_sided (atom_at p j).1) (both_true (has_version_2 s) (in_no_one_sided p S j) h).1).0

  -- atoms that may be combined are there
  combinable-there : (S : State) (ms : Multipliers) → IsTrue (are_combinable p S ms) → IsTrue (are_atoms p ms)
  combinable-there S [] h = refl
  combinable-there S ((j, l) ∷ rest) h =
      let a = both_true (nat_lt j (length p.atoms) && (in_yes S j || in_no_one_sided p S j)) (are_combinable p S rest) h in
      both_pass (is_atom p j) (are_atoms p rest) (both_true (nat_lt j (length p.atoms)) (in_yes S j || in_no_one_sided p S j) a.0).0 (combinable-there S rest a.1)

  combined-there : (S : State) (ms : Multipliers) → IsTrue (can_combine p s S ms) → IsTrue (are_atoms p ms)
  combined-there S ms h = combinable-there S ms (both_true (has_version_2 s && is_combination s ms) (are_combinable p S ms) h).1

  -- what narrows names atoms that are there
  narrowing-names : (S : State) → HasMarks S → (n : Narrowing) → IsTrue (can_narrow p s S n) → IsTrue (names_well p (narrow_by n)) × IsTrue (names_well p (end_by (void_by n)))
  narrowing-names S h (by_range j) e = let k = atom-there S j h (yes-below S.marks j e) in (k, k)
  narrowing-names S h (by_off_range j) e = let k = atom-there S j h (no-below S.marks j (in-no S j e)) in (k, k)
  narrowing-names S h (by_combination ms) e = let k = combined-there S ms e in (k, k)

  -- what marks names an atom that is there, and leaves as many marks
  marking-names : (S : State) → HasMarks S → (x : Marking) → IsTrue (can_mark p s lemmas S x) → IsTrue (names_well p (mark_by x)) × HasMarks (marked S x)
  marking-names S h (unit_atom j) e = (atom-there S j h (undecided_below S.marks j (both_true (undecided S j) _ e).0), length-set S.marks j marked_yes ∙ h)
  marking-names S h (ban_atom j i) e = (atom-there S j h (undecided_below S.marks j (both_true (undecided S j) _ e).0), length-set S.marks j marked_no ∙ h)

  step-names : (S S' : State) (l : Line) → HasMarks S → rule p s lemmas S l ≡ Some (one S') → IsTrue (names_well p l) × HasMarks S'
  step-names S S' (narrow_by n) h e = let k = cond-true (can_narrow p s S n) (pulled S (narrowed_to p s S n)) (one S') e in
      ((narrowing-names S h n k.0).0, ap length (pulled-keeps S S' (narrowed_to p s S n) k.1) ∙ h)
  step-names S S' (mark_by x) h e = let k = marking-names S h x (when-true _ _ _ e) in (k.0, subst HasMarks (sym (only-one _ (marked S x) S' e)) k.1)
  step-names S S' (end_by (void_by n)) h e = let k = cond-true (can_narrow p s S n) (voided (narrowed_to p s S n)) (one S') e in no_void (narrowed_to p s S n) k.1
  step-names S S' (end_by (by_squares ms bs)) h e = no_when _ closed S' e (λ q. cc)
  step-names S S' (end_by false_form) h e = no_when _ closed S' e (λ q. cc)
  step-names S S' (end_by (by_lemma i)) h e = no_when _ closed S' e (λ q. cc)
  step-names S S' (branch_by b) h e = no_when _ _ S' e (λ q. cc)
  step-names S S' (stay_by t) h e = no_when _ stays S' e (λ q. cc)

  steps-name : (S T : State) (ls : List Line) → HasMarks S → StepsLead p s lemmas S ls T → AllByRecursion (λ (l : Line). IsTrue (names_well p l)) ls
  steps-name S T [] h e = tt
  steps-name S T (l ∷ ls) h e = let k = step-names S e.0 l h e.1 in (k.0, steps-name e.0 T ls k.1 e.2)

  -- a branch names an axis or an atom that is there
  group-there : (S : State) → FitsProblem p S → (js : List ℕ) → IsTrue (are_undecided S js) → IsTrue (all_below (length p.atoms) js)
  group-there S f [] e = refl
  group-there S f (j ∷ js) e =
      let k = both_true (undecided S j) (are_undecided S js) e in
      both_pass (is_atom p j) (all_below (length p.atoms) js) (atom-there S j f.marks (undecided_below S.marks j k.0)) (group-there S f js k.1)

  part-names : (S : State) → FitsProblem p S → (b : Branching) → IsTrue (can_part S b) → IsTrue (names_well p (branch_by b))
  part-names S f (cut_axis axis c) e = axis_there p S.space (axes_length p.axes S.space f.axes) (strictly_inside c) axis e
  part-names S f (flip_axis axis) e = axis_there p S.space (axes_length p.axes S.space f.axes) is_undecided axis e
  part-names S f (case_atom j) e = atom-there S j f.marks (undecided_below S.marks j e)
  part-names S f (either_group js ks) e =
      let k = both_true (are_undecided S js) (are_undecided S ks) e in
      both_pass (all_below (length p.atoms) js) (all_below (length p.atoms) ks) (group-there S f js k.0) (group-there S f ks k.1)

  branching-names : (S : State) → FitsProblem p S → (b : Branching) → IsTrue (can_branch p s S b) → IsTrue (names_well p (branch_by b))
  branching-names S f b e = part-names S f b (both_true (can_part S b) (is_parted p s S b) e).0

  -- squares name atoms and axes that are there
  squares-name : (S : State) → length S.space ≡ length p.axes → (ms : Multipliers) (bs : List Block) → IsTrue (is_void_by_squares p s S ms bs) → IsTrue (names_well p (end_by (by_squares ms bs)))
  squares-name S n ms bs h =
      let a = both_true (has_version_5 s && can_combine p s S ms) (is_positive p (marked_range p (margin_of s) S.marks) S.space (middle S.space) ms bs) h in
      both_pass (are_atoms p ms) (are_blocks_there p bs) (combined-there S ms (both_true (has_version_5 s) (can_combine p s S ms) a.0).1)
      (positive_there p S.space n (marked_range p (margin_of s) S.marks) (middle S.space) ms bs a.1)

  end-names : (S : State) → FitsProblem p S → IsGridSpace S.space → (l : Line) → IsEnding (rule p s lemmas S l) → IsTrue (is_honest p m.least_bits s S l) → IsTrue (names_well p l)
  end-names S f grid (narrow_by n) e h = (narrowing-names S f.marks n (ending-cond (can_narrow p s S n) _ e)).0
  end-names S f grid (end_by (void_by n)) e h = (narrowing-names S f.marks n (ending-cond (can_narrow p s S n) _ e)).1
  end-names S f grid (end_by (by_squares ms bs)) e h =
      squares-name S (axes_length p.axes S.space f.axes) ms bs (ending-true (is_void_by_squares p s S ms bs) closed e)
  end-names S f grid (end_by false_form) e h = refl
  end-names S f grid (end_by (by_lemma i)) e h = refl
  end-names S f grid (mark_by x) e h = (marking-names S f.marks x (ending-true _ _ e)).0
  end-names S f grid (branch_by b) e h = branching-names S f b (ending-true _ _ e)
  end-names S f grid (stay_by open_state) e h = refl
  end-names S f grid (stay_by (stuck_atom j)) e h =
      let a = both_true (not_shown p s S && settled p s S && is_small m.least_bits S.space) (none_below p s S j) h in
      let b = both_true (not_shown p s S && settled p s S) (is_small m.least_bits S.space) a.0 in
      let c = both_true (not_shown p s S) (settled p s S) b.0 in
      let k = some_atom_is_stuck p g s S m.least_bits grid (axes_upright p.axes S.space f.axes) c.0 b.1 in
      le-leb (suc j) (length p.atoms) (not-above j k.0 (length p.atoms) k.1 (λ q. none-stuck p s S j k.0 a.1 q k.2))

  end-if : (o : Option Line) (S : State) → FitsProblem p S → IsGridSpace S.space → IfSome o (λ (l : Line). IsEnding (rule p s lemmas S l)) → IfSome o (λ (l : Line). IsTrue (is_honest p m.least_bits s S l)) →
      IfSome o (λ (l : Line). IsTrue (names_well p l))
  end-if None S f grid e h = tt
  end-if (Some l) S f grid e h = end-names S f grid l e h

  pub run_names : (k : KeptModel) → IsRun p m k → IsGridSpace k.reached.space → AreKept lemmas k.quoted → RunNamesWell p k
  run_names k r grid h = record {
    steps = steps-name k.first k.reached k.steps r.sound.first.marks (r.lawful.steps lemmas h);
    end = end-if k.end k.reached r.sound.reached grid (r.lawful.end lemmas h) r.lawful.honest;
  }
