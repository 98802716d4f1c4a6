-- Steps one after another, what an end leaves, and what lies within what.
use Rattle.std.proofs.Common.{◌≡◌, ℕ, List, [], ◌∷◌, ◌++◌, Bool, true, false, not, cond, IsTrue, Option, Some, None, refl, sym, ap, subst, true≢false}
use Rattle.dyadic.proofs.Equal.{both_true, both_pass}
use Rattle.interval_model.specs.Space.{Space, space_within}
use Rattle.poly_graph.specs.Problem.{Problem}
use Rattle.cover_model.specs.State.{State, Loosenings, may, covers}
use Rattle.poly_graph.specs.Marks.{marks_within}
use Rattle.cover_model.specs.Rules.{is_void_by_squares, Line, narrow_by, end_by, mark_by, branch_by, stay_by, Ending, void_by, by_squares, false_form, by_lemma, stuck, Left, closed, one, two, stays, can_narrow, narrowed_to, can_branch, first_child, second_child, lemma_covers, when, voided, ending, is_stuck_atom, rule}
use Rattle.cover_model.specs.Derivation.{Tree, Lawful, at_step}
use Rattle.cover_model.proofs.Within.{space_reflexive, space_through}
use Rattle.poly_graph.proofs.Marks.{marks_reflexive, marks_through}
use Rattle.cover_data.specs.Runs.{StepsLead, tree_after, is_closing, children, IsEnding}

-- ---- covering

pub covers_itself : (S : State) → IsTrue (covers S S)
covers_itself S = both_pass (space_within S.space S.space) (marks_within S.marks S.marks) (space_reflexive S.space) (marks_reflexive S.marks)

pub covers_through : (S T U : State) → IsTrue (covers S T) → IsTrue (covers T U) → IsTrue (covers S U)
covers_through S T U h k =
    let a = both_true (space_within T.space S.space) (marks_within S.marks T.marks) h in
    let b = both_true (space_within U.space T.space) (marks_within T.marks U.marks) k in
    both_pass (space_within U.space S.space) (marks_within S.marks U.marks) (space_through U.space T.space S.space b.0 a.0) (marks_through S.marks T.marks U.marks a.1 b.1)

-- ---- steps

module _ (p : Problem) (s : Loosenings) (lemmas : List State) where
  pub leads_on : (S : State) (ls : List Line) (T : State) (l : Line) (U : State) → StepsLead p s lemmas S ls T → rule p s lemmas T l ≡ Some (one U) → StepsLead p s lemmas S (ls ++ (l ∷ [])) U
  leads_on S [] T l U h e = (U, subst (λ (X : State). rule p s lemmas X l ≡ Some (one U)) (sym h) e, refl)
  leads_on S (k ∷ ls) T l U h e = (h.0, h.1, leads_on h.0 ls T l U h.2 e)

  pub before_tree : (S T : State) (ls : List Line) (t : Tree) (rest : List State) → StepsLead p s lemmas S ls T → Lawful p s lemmas T t rest → Lawful p s lemmas S (tree_after ls t) rest
  before_tree S T [] t rest h w = subst (λ (X : State). Lawful p s lemmas X t rest) (sym h) w
  before_tree S T (l ∷ ls) t rest h w = at_step h.1 (before_tree h.0 T ls t rest h.2 w)

-- ---- ends

ends-void : (b : Bool) (o : Option Space) → IsEnding (cond b (voided o) None) → cond b (voided o) None ≡ Some closed
ends-void true None h = refl
ends-void true (Some space) h = absurd h
ends-void false o h = absurd h

ends-when : (b : Bool) (l : Left) → IsEnding (when b l) → when b l ≡ Some l
ends-when true l h = refl
ends-when false l h = absurd h

abbrev both-of : Option (State × State) → Left
both-of None = stays
both-of (Some (a, b)) = two a b

module _ (p : Problem) (s : Loosenings) (lemmas : List State) (S : State) where
  ending-closes : (e : Ending) → IsEnding (ending p s lemmas S e) → ending p s lemmas S e ≡ Some closed
  ending-closes (void_by n) h = ends-void (can_narrow p s S n) (narrowed_to p s S n) h
  ending-closes (by_squares ms bs) h = ends-when (is_void_by_squares p s S ms bs) closed h
  ending-closes false_form h = ends-when (not (may p s S)) closed h
  ending-closes (by_lemma i) h = ends-when (lemma_covers lemmas i S) closed h

  -- an end that closes leaves nothing
  pub closing_leaves : (l : Line) → IsTrue (is_closing l) → IsEnding (rule p s lemmas S l) → rule p s lemmas S l ≡ Some closed
  closing_leaves (end_by e) c h = ending-closes e h
  closing_leaves (narrow_by n) c h = absurd (true≢false (sym c))
  closing_leaves (mark_by m) c h = absurd (true≢false (sym c))
  closing_leaves (branch_by b) c h = absurd (true≢false (sym c))
  closing_leaves (stay_by t) c h = absurd (true≢false (sym c))

  pub stuck_stays : (j : ℕ) → IsEnding (rule p s lemmas S (stuck j)) → rule p s lemmas S (stuck j) ≡ Some stays
  stuck_stays j h = ends-when (is_stuck_atom p s S j) stays h

  -- a branch leaves its two states
  pub branch_leaves : (l : Line) (T U : State) → children l S ≡ Some (T, U) → IsEnding (rule p s lemmas S l) → rule p s lemmas S l ≡ Some (two T U)
  branch_leaves (branch_by b) T U e h =
      subst (λ (x : Left). when (can_branch p s S b) (two (first_child S b) (second_child S b)) ≡ Some x) (ap both-of e) (ends-when (can_branch p s S b) (two (first_child S b) (second_child S b)) h)
  branch_leaves (narrow_by n) T U e h = cc
  branch_leaves (end_by x) T U e h = cc
  branch_leaves (mark_by m) T U e h = cc
  branch_leaves (stay_by t) T U e h = cc
