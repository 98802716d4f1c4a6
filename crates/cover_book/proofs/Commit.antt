-- A commit keeps the nodes those of a tree.
use Rattle.std.proofs.Common.{◌≡◌, ℕ, zero, suc, ◌+◌, ◌<◌, List, [], ◌∷◌, ◌++◌, map, length, Bool, true, false, cond, Option, Some, None, IsTrue, refl, ap, sym, ◌∙◌, subst, append-nil, arith}
use Rattle.std.specs.Prelude.{slice_get, slice_set, sum_by}
use Rattle.std.proofs.lemmas.List.Sums.{sum_by-cons}
use Rattle.poly_graph.specs.Problem.{Problem, IsProblem}
use Rattle.cover_model.specs.State.{State, Loosenings, root_state, covers}
use Rattle.cover_model.specs.Rules.{Line, narrow_by, end_by, mark_by, branch_by, stay_by, open_line, one, rule}
use Rattle.cover_model.specs.Space.{IsGridSpace}
use Rattle.cover_model.specs.Derivation.{leaf, fork}
use Rattle.cover_model.specs.Honest.{branch_count}
use Rattle.cover_model.specs.Fits.{FitsProblem}
use Rattle.cover_model.proofs.Lies.{covers_through}
use Rattle.cover_data.specs.Models.{KeptModel}
use Rattle.cover_data.specs.Runs.{StepsLead, is_closing, children, IsRun, tree_after}
use Rattle.cover_data.proofs.Proved.{children_within}
use Rattle.cert_model.specs.Written.{tree_branches}
use Rattle.cover_book.specs.Model.{NodeModel, live_node, closed_node, parted_node, stuck_node, BookModel, problem_in, margins_of, loosenings_in, lemma_states_in}
use Rattle.cover_book.specs.Steps.{with_nodes, ended_node, parted_book, is_branch, QuotesKnownLemmas}
use Rattle.cover_book.specs.Tree.{of_live, of_closed, of_stuck, of_parted, occurrences}
use Rattle.cover_book.specs.Keeps.{HasRun, IsCovered}
use Rattle.cover_book.proofs.Lists.{get_right, occurs_other, occurs_here}
use Rattle.cover_book.proofs.Changed.{branches_after, branches_leaf, branches_fork}
use Rattle.cover_book.proofs.Naming.{no_when}
use Rattle.cover_book.proofs.Nodes.{begins, at_node, at_fresh, covered_after}

-- ---- steps and closing ends are no branches

module _ (p : Problem) (s : Loosenings) (lemmas : List State) where
  step-counts : (S S' : State) (l : Line) → rule p s lemmas S l ≡ Some (one S') → branch_count l ≡ 0
  step-counts S S' (branch_by b) e = no_when _ _ S' e (λ q. cc)
  step-counts S S' _ e = refl

  pub steps_count : (S T : State) (ls : List Line) → StepsLead p s lemmas S ls T → sum_by branch_count ls ≡ 0
  steps_count S T [] e = refl
  steps_count S T (l ∷ ls) e = sum_by-cons branch_count l ls ∙ omega (arith, step-counts S e.0 l e.1, steps_count e.0 T ls e.2)

one-end : (l : Line) (S : State) → children l S ≡ None → branch_count l ≡ 0
one-end (branch_by b) S e = cc
one-end _ S e = refl

pub two_ends : (l : Line) (S : State) (o : State × State) → children l S ≡ Some o → (branch_count l ≡ 1) × IsTrue (is_branch l)
two_ends (branch_by b) S o e = (refl, refl)
two_ends (narrow_by n) S o e = cc
two_ends (end_by x) S o e = cc
two_ends (mark_by m) S o e = cc
two_ends (stay_by t) S o e = cc

no-more : (c j : ℕ) → j < c → occurrences j (c ∷ suc c ∷ []) ≡ 0
no-more c j h = occurs_other j c (suc c ∷ []) (λ q. absurd (omega (arith, q, h))) ∙ occurs_other j (suc c) [] (λ q. absurd (omega (arith, q, h)))

two-more : (c k : ℕ) → k < 2 → occurrences (c + k) (c ∷ suc c ∷ []) ≡ 1
two-more c zero h = let e : c + 0 ≡ c = omega arith in subst (λ (i : ℕ). occurrences i (c ∷ suc c ∷ []) ≡ 1) (sym e) (occurs_here c (suc c ∷ []) ∙ ap suc (occurs_other c (suc c) [] (λ q. absurd (omega (arith, q)))))
two-more c (suc zero) h = let e : c + 1 ≡ suc c = omega arith in subst (λ (i : ℕ). occurrences i (c ∷ suc c ∷ []) ≡ 1) (sym e) (occurs_other (suc c) c (suc c ∷ []) (λ q. absurd (omega (arith, q))) ∙ occurs_here (suc c) [])
two-more c (suc (suc k)) h = absurd (omega (arith, h))

module _ (b : BookModel) (g : IsProblem (problem_in b)) (h : IsCovered b) (n : ℕ) (k : KeptModel) (l : Line) (was : slice_get b.nodes n ≡ Some (live_node k.first)) (known : QuotesKnownLemmas b k.quoted)
    (r : IsRun (problem_in b) (margins_of b.options) k) (grid : IsGridSpace k.reached.space) (end : k.end ≡ Some l) (not_open : l ≡ open_line → ⊥) where
  abbrev its_run : HasRun (problem_in b) (margins_of b.options) (lemma_states_in b) k.first k.steps l
  its_run = record { run = k; first = refl; steps = refl; end = end; known = known; is_run = r; grid = grid; not_open = not_open }

  no-steps : sum_by branch_count k.steps ≡ 0
  no-steps = steps_count (problem_in b) (loosenings_in b) (lemma_states_in b) k.first k.reached k.steps (r.lawful.steps (lemma_states_in b) known)

  -- the node is closed or stuck
  leaf-counts : children l k.reached ≡ None → b.branches ≡ b.branches + tree_branches (tree_after k.steps (leaf l))
  leaf-counts c = omega (arith, branches_after k.steps (leaf l), branches_leaf l, no-steps, one-end l k.reached c)

  ended : children l k.reached ≡ None → (t : Bool) → is_closing l ≡ t → IsCovered (with_nodes b (slice_set b.nodes n (cond t (closed_node k.steps l) (stuck_node k.steps l k.reached)) ++ []) b.branches)
  ended c true q = let x = closed_node k.steps l in
      covered_after b h n k.first was x [] [] (tree_after k.steps (leaf l)) [] (of_closed (at_node b h n k.first was x [])) (λ j i. refl) (λ j i. absurd (omega (arith, i)))
      (its_run, q) (λ j T e. cc) b.branches (leaf-counts c)
  ended c false q = let x = stuck_node k.steps l k.reached in
      covered_after b h n k.first was x [] [] (tree_after k.steps (leaf l)) _ (of_stuck (at_node b h n k.first was x [])) (λ j i. refl) (λ j i. absurd (omega (arith, i)))
      (its_run, refl, q, c) (λ j T e. cc) b.branches (leaf-counts c)

  -- the node is parted
  fork-counts : (T U : State) → children l k.reached ≡ Some (T, U) → suc b.branches ≡ b.branches + tree_branches (tree_after k.steps (fork l (leaf open_line) (leaf open_line)))
  fork-counts T U c = omega (arith, branches_after k.steps (fork l (leaf open_line) (leaf open_line)), branches_fork l (leaf open_line) (leaf open_line), branches_leaf open_line, no-steps, (two_ends l k.reached (T, U) c).0)

  parts-fit : (T U : State) → children l k.reached ≡ Some (T, U) → (i : ℕ) (V : State) → slice_get (T ∷ U ∷ []) i ≡ Some V → FitsProblem (problem_in b) V × IsTrue (covers (root_state (problem_in b)) V)
  parts-fit T U c zero V e = let d = children_within (problem_in b) g (margins_of b.options) k r l end T U c in let q : T ≡ V = cc in
      subst (λ (W : State). FitsProblem (problem_in b) W × IsTrue (covers (root_state (problem_in b)) W)) q
      (d.0.1, covers_through (root_state (problem_in b)) k.first T (h.fits n k.first (begins b h n k.first was (live_node T) [])).1 d.0.0)
  parts-fit T U c (suc zero) V e = let d = children_within (problem_in b) g (margins_of b.options) k r l end T U c in let q : U ≡ V = cc in
      subst (λ (W : State). FitsProblem (problem_in b) W × IsTrue (covers (root_state (problem_in b)) W)) q
      (d.1.1, covers_through (root_state (problem_in b)) k.first U (h.fits n k.first (begins b h n k.first was (live_node T) [])).1 d.1.0)
  parts-fit T U c (suc (suc i)) V e = cc

  parted : (T U : State) → children l k.reached ≡ Some (T, U) →
      IsCovered (with_nodes b (slice_set b.nodes n (parted_node k.steps l (length b.nodes)) ++ (live_node T ∷ live_node U ∷ [])) (suc b.branches))
  parted T U c =
      let x = parted_node k.steps l (length b.nodes) in let fresh : List State = T ∷ U ∷ [] in let after : List NodeModel = slice_set b.nodes n x ++ map live_node fresh in
      let zero-on : length b.nodes + 0 ≡ length b.nodes = omega arith in let one-on : length b.nodes + 1 ≡ suc (length b.nodes) = omega arith in
      let first : slice_get after (length b.nodes) ≡ Some (live_node T) = subst (λ (i : ℕ). slice_get after i ≡ Some (live_node T)) zero-on (at_fresh b h n k.first was x fresh 0 T refl) in
      let second : slice_get after (suc (length b.nodes)) ≡ Some (live_node U) = subst (λ (i : ℕ). slice_get after i ≡ Some (live_node U)) one-on (at_fresh b h n k.first was x fresh 1 U refl) in
      let begun : slice_get (h.firsts ++ fresh) (length b.nodes) ≡ Some T = subst (λ (i : ℕ). slice_get (h.firsts ++ fresh) i ≡ Some T) (omega (arith, h.count)) (get_right h.firsts fresh 0) in
      let begun' : slice_get (h.firsts ++ fresh) (suc (length b.nodes)) ≡ Some U = subst (λ (i : ℕ). slice_get (h.firsts ++ fresh) i ≡ Some U) (omega (arith, h.count)) (get_right h.firsts fresh 1) in
      covered_after b h n k.first was x fresh (length b.nodes ∷ suc (length b.nodes) ∷ []) (tree_after k.steps (fork l (leaf open_line) (leaf open_line))) _
      (of_parted (at_node b h n k.first was x fresh) (of_live first) (of_live second)) (λ j i. no-more (length b.nodes) j i) (λ j i. two-more (length b.nodes) j i)
      (its_run, T, U, c, begun, begun') (parts-fit T U c) (suc b.branches) (fork-counts T U c)

  pub parted_keeps : (o : Option (State × State)) → children l k.reached ≡ o → IsCovered (parted_book b n k l o)
  parted_keeps None c = subst (λ (xs : List NodeModel). IsCovered (with_nodes b xs b.branches)) (append-nil (slice_set b.nodes n (ended_node k l))) (ended c (is_closing l) refl)
  parted_keeps (Some (T, U)) c = parted T U c
