-- The tree of a book is lawful, leaves the states of its live and stuck nodes, and is honest.
use Rattle.std.proofs.Common.{◌≡◌, ℕ, List, [], ◌∷◌, ◌++◌, Bool, true, false, cond, Option, Some, None, IsTrue, refl, ap, ap₂, sym, ◌∙◌, subst, true≢false}
use Rattle.std.specs.Prelude.{slice_get, IfSome}
use Rattle.std.specs.List.{AllByRecursion}
use Rattle.poly_graph.specs.Problem.{Problem, IsProblem}
use Rattle.cover_model.specs.State.{State, Loosenings}
use Rattle.interval_model.specs.Space.{Space}
use Rattle.cover_model.specs.Rules.{Line, narrow_by, end_by, mark_by, branch_by, stay_by, open_line, Left, one, stays, rule, when, pulled, can_narrow, narrowed_to, can_mark, marked, can_stay}
use Rattle.cover_model.specs.Derivation.{Tree, leaf, fork, tree_lines, Lawful, at_closed, at_left, at_fork}
use Rattle.cover_model.specs.Honest.{is_honest}
use Rattle.poly_graph.specs.ProblemViews.{IsWhole}
use Rattle.cover_data.specs.declared.margins.Margins.{Margins}
use Rattle.cover_data.specs.Margins.{loosenings_of}
use Rattle.cover_data.specs.Models.{KeptModel}
use Rattle.cover_data.specs.Runs.{StepsLead, is_closing, children, IsEnding, tree_after}
use Rattle.cover_data.proofs.Runs.{before_tree, closing_leaves, branch_leaves}
use Rattle.cert_model.specs.Due.{Standing, names_well}
use Rattle.cert_model.specs.Derived.{states_of}
use Rattle.cert_model.specs.Written.{NamesWell, leaf_standing, step_standing, fork_standing, left_standing, tree_standing}
use Rattle.cert_model.proofs.Grown.{states_append}
use Rattle.cover_book.specs.Model.{live_node, closed_node, parted_node, stuck_node, BookModel, problem_in, margins_of, loosenings_in, lemma_states_in}
use Rattle.cover_book.specs.Tree.{TreeOf, of_live, of_closed, of_stuck, of_parted}
use Rattle.cover_book.specs.Keeps.{HasRun, IsCovered}
use Rattle.cover_book.proofs.Lists.{all_append}
use Rattle.cover_book.proofs.Changed.{lines_after}
use Rattle.cover_book.proofs.Naming.{no_when, run_names}

stays-when : (t : Bool) → IsEnding (when t stays) → when t stays ≡ Some stays
stays-when true h = refl
stays-when false h = elim h [ ]

no-one : {A : Type 0} (S : State) (t : Bool) → IsEnding (when t (one S)) → A
no-one S true h = elim h [ ]
no-one S false h = elim h [ ]

no-pull : {A : Type 0} (S : State) (t : Bool) (o : Option Space) → IsEnding (cond t (pulled S o) None) → A
no-pull S true (Some space) h = elim h [ ]
no-pull S true None h = elim h [ ]
no-pull S false o h = elim h [ ]

-- an end that neither closes nor parts leaves its state
ending-stays : (p : Problem) (s : Loosenings) (lemmas : List State) (S : State) (l : Line) → IsEnding (rule p s lemmas S l) → is_closing l ≡ false → children l S ≡ None → rule p s lemmas S l ≡ Some stays
ending-stays p s lemmas S (stay_by t) h c d = stays-when (can_stay p s S t) h
ending-stays p s lemmas S (end_by e) h c d = absurd (true≢false c)
ending-stays p s lemmas S (branch_by b) h c d = cc
ending-stays p s lemmas S (narrow_by n) h c d = no-pull S (can_narrow p s S n) (narrowed_to p s S n) h
ending-stays p s lemmas S (mark_by m) h c d = no-one (marked S m) (can_mark p s lemmas S m) h

module _ (p : Problem) (m : Margins) (lemmas : List State) (P : Standing → Type 0)
    (honestly : (x : Standing) → (x.does ≡ open_line → ⊥) → IsTrue (is_honest p m.least_bits (loosenings_of m) x.state x.does) → P x) where
  abbrev s : Loosenings
  s = loosenings_of m

  -- what is known of a tree at a state, which leaves these
  pub record IsGood (S : State) (t : Tree) (xs : List Standing) : Type 0 where
    pub lawful : Lawful p s lemmas S t (states_of xs)
    pub left : left_standing p s lemmas S t ≡ xs
    pub names : NamesWell p t
    pub all : AllByRecursion P (tree_standing p s lemmas S t)

  -- a step is honest, and not open
  step-honest : (S S' : State) (l : Line) → rule p s lemmas S l ≡ Some (one S') → IsTrue (is_honest p m.least_bits s S l) × (l ≡ open_line → ⊥)
  step-honest S S' (narrow_by n) e = (refl, λ q. cc)
  step-honest S S' (mark_by x) e = (refl, λ q. cc)
  step-honest S S' (end_by x) e = (refl, λ q. cc)
  step-honest S S' (branch_by b) e = no_when _ _ S' e (λ q. cc)
  step-honest S S' (stay_by t) e = no_when _ stays S' e (λ q. cc)

  left-after : (S T : State) (ls : List Line) (t : Tree) → StepsLead p s lemmas S ls T → left_standing p s lemmas S (tree_after ls t) ≡ left_standing p s lemmas T t
  left-after S T [] t e = ap (λ (U : State). left_standing p s lemmas U t) e
  left-after S T (l ∷ ls) t e = ap (λ (o : Option Left). step_standing o (λ S'. left_standing p s lemmas S' (tree_after ls t))) e.1 ∙ left-after e.0 T ls t e.2

  all-after : (S T : State) (ls : List Line) (t : Tree) → StepsLead p s lemmas S ls T → AllByRecursion P (tree_standing p s lemmas T t) → AllByRecursion P (tree_standing p s lemmas S (tree_after ls t))
  all-after S T [] t e h = subst (λ (U : State). AllByRecursion P (tree_standing p s lemmas U t)) (sym e) h
  all-after S T (l ∷ ls) t e h = let k = step-honest S e.0 l e.1 in (
    honestly (record { state = S; does = l }) k.1 k.0,
    subst (λ (o : Option Left). AllByRecursion P (step_standing o (λ S'. tree_standing p s lemmas S' (tree_after ls t)))) (sym e.1) (all-after e.0 T ls t e.2 h),
  )

  names-after : (ls : List Line) (t : Tree) → AllByRecursion (λ (l : Line). IsTrue (names_well p l)) ls → NamesWell p t → NamesWell p (tree_after ls t)
  names-after ls t h k = subst (AllByRecursion (λ (l : Line). IsTrue (names_well p l))) (sym (lines_after ls t)) (all_append (λ (l : Line). IsTrue (names_well p l)) ls (tree_lines t) h k)

  -- ---- behind a node's run

  module _ (g : IsProblem p) (S : State) (ls : List Line) (l : Line) (h : HasRun p m lemmas S ls l) where
    abbrev k : KeptModel
    k = h.run

    pub behind : (t : Tree) (xs : List Standing) → IsGood k.reached t xs → IsGood S (tree_after ls t) xs
    behind t xs w =
        let way = h.is_run.lawful.steps lemmas h.known in
        subst (λ (T : State). IsGood T (tree_after ls t) xs) h.first (subst (λ (lines : List Line). IsGood k.first (tree_after lines t) xs) h.steps (record {
          lawful = before_tree p s lemmas k.first k.reached k.steps t (states_of xs) way w.lawful;
          left = left-after k.first k.reached k.steps t way ∙ w.left;
          names = names-after k.steps t (run_names p g m lemmas k h.is_run h.grid h.known).steps w.names;
          all = all-after k.first k.reached k.steps t way w.all;
        }))

    its-end : IsEnding (rule p s lemmas k.reached l)
    its-end = subst (λ (o : Option Line). IfSome o (λ (x : Line). IsEnding (rule p s lemmas k.reached x))) h.end (h.is_run.lawful.end lemmas h.known)

    its-honest : IsTrue (is_honest p m.least_bits s k.reached l)
    its-honest = subst (λ (o : Option Line). IfSome o (λ (x : Line). IsTrue (is_honest p m.least_bits s k.reached x))) h.end h.is_run.lawful.honest

    its-name : IsTrue (names_well p l)
    its-name = subst (λ (o : Option Line). IfSome o (λ (x : Line). IsTrue (names_well p x))) h.end (run_names p g m lemmas k h.is_run h.grid h.known).end

    end-stands : P (record { state = k.reached; does = l })
    end-stands = honestly (record { state = k.reached; does = l }) h.not_open its-honest

    pub closed_good : IsTrue (is_closing l) → IsGood S (tree_after ls (leaf l)) []
    closed_good c = let e = closing_leaves p s lemmas k.reached l c its-end in behind (leaf l) [] (record {
      lawful = at_closed e;
      left = ap (leaf_standing k.reached l) e;
      names = (its-name, tt);
      all = (end-stands, tt);
    })

    pub stuck_good : is_closing l ≡ false → children l k.reached ≡ None → IsGood S (tree_after ls (leaf l)) (record { state = k.reached; does = l } ∷ [])
    stuck_good c d = let e = ending-stays p s lemmas k.reached l its-end c d in behind (leaf l) _ (record {
      lawful = at_left e;
      left = ap (leaf_standing k.reached l) e;
      names = (its-name, tt);
      all = (end-stands, tt);
    })

    pub parted_good : (T U : State) → children l k.reached ≡ Some (T, U) → (t u : Tree) (xs ys : List Standing) → IsGood T t xs → IsGood U u ys → IsGood S (tree_after ls (fork l t u)) (xs ++ ys)
    parted_good T U c t u xs ys a b = let e = branch_leaves p s lemmas k.reached l T U c its-end in behind (fork l t u) (xs ++ ys) (record {
      lawful = subst (Lawful p s lemmas k.reached (fork l t u)) (sym (states_append xs ys)) (at_fork e a.lawful b.lawful);
      left = ap (λ (o : Option Left). fork_standing o (λ X. left_standing p s lemmas X t) (λ X. left_standing p s lemmas X u)) e ∙ ap₂ (λ (v : List Standing) (w : List Standing). v ++ w) a.left b.left;
      names = (its-name, all_append (λ (x : Line). IsTrue (names_well p x)) (tree_lines t) (tree_lines u) a.names b.names);
      all = (
        end-stands,
        subst (λ (o : Option Left). AllByRecursion P (fork_standing o (λ X. tree_standing p s lemmas X t) (λ X. tree_standing p s lemmas X u))) (sym e)
            (all_append P (tree_standing p s lemmas T t) (tree_standing p s lemmas U u) a.all b.all),
      );
    })

-- the tree of each node is good at the state at which the node began
module _ (b : BookModel) (w : IsWhole b.problem) (h : IsCovered b) (P : Standing → Type 0)
    (honestly : (x : Standing) → (x.does ≡ open_line → ⊥) → IsTrue (is_honest (problem_in b) b.options.least_bits (loosenings_in b) x.state x.does) → P x)
    (lively : (n : ℕ) (S : State) → slice_get b.nodes n ≡ Some (live_node S) → P (record { state = S; does = open_line })) where
  abbrev Good : State → Tree → List Standing → Type 0
  Good S t xs = IsGood (problem_in b) (margins_of b.options) (lemma_states_in b) P honestly S t xs

  pub node_good : {n : ℕ} {t : Tree} {ns : List ℕ} {xs : List Standing} → TreeOf b.nodes n t ns xs → (S : State) → slice_get h.firsts n ≡ Some S → Good S t xs
  node_good (of_live {n = n} {S = T} e) S f = let q = h.each n S (live_node T) f e in
      subst (λ (U : State). Good U (leaf open_line) (record { state = T; does = open_line } ∷ [])) (sym q) (record { lawful = at_left refl; left = refl; names = (refl, tt); all = (lively n T e, tt) })
  node_good (of_closed {n = n} {steps = ls} {l = l} e) S f = let k = h.each n S (closed_node ls l) f e in
      closed_good (problem_in b) (margins_of b.options) (lemma_states_in b) P honestly w.problem S ls l k.0 k.1
  node_good (of_stuck {n = n} {steps = ls} {l = l} {S = T} e) S f = let k = h.each n S (stuck_node ls l T) f e in
      subst (λ (U : State). Good S (tree_after ls (leaf l)) (record { state = U; does = l } ∷ [])) k.1
      (stuck_good (problem_in b) (margins_of b.options) (lemma_states_in b) P honestly w.problem S ls l k.0 k.2 (subst (λ (U : State). children l U ≡ None) (sym k.1) k.3))
  node_good (of_parted {n = n} {c = c} {steps = ls} {l = l} {t = t} {u = u} {xs = xs} {ys = ys} e g g') S f = let k = h.each n S (parted_node ls l c) f e in
      parted_good (problem_in b) (margins_of b.options) (lemma_states_in b) P honestly w.problem S ls l k.0 k.1 k.2 k.3 t u xs ys (node_good g k.1 k.4) (node_good g' k.2 k.5)
