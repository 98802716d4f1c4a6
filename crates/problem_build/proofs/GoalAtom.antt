-- The atom of a script's goal, as its problem's form tells it.
use Rattle.std.proofs.Common.{◌≡◌, ℕ, zero, suc, ◌+◌, ◌<◌, ◌≤◌, slice_index_or, List, [], ◌∷◌, length, Bool, true, false, Option, Some, None, IsTrue, refl, ap, sym, ◌∙◌, arith, nat_lt, option_map, cond, subst, ltb→lt}
use Rattle.std.specs.Bool.{passes}
use Rattle.std.specs.Prelude.{slice_get, Vec}
use Rattle.std.specs.Global.{Global}
use Rattle.std.specs.List.{list_all}
use Rattle.dyadic.proofs.Equal.{both_true}
use Rattle.script_model.specs.Sexp.{Place}
use Rattle.script_model.specs.Reading.{at_most_op, disjunction, unknown, value, Names}
use Rattle.script_model.specs.Script.{Command, declare, define, claim, minimize, check, ineffective, defined, claims, goals, first_of, sorts_of}
use Rattle.script_model.specs.Declared.{numbered}
use Rattle.poly_graph.specs.Term.{Term, le, Atom}
use Rattle.poly_graph.specs.Form.{Form, Forms, yes_form, no_form, atom_is, bool_is, all_form, any_form, no_forms, more_forms, form_map, forms_map}
use Rattle.poly_graph.specs.FormGraph.{FormNode, atom_node, all_node, any_node, form_comes_after, form_at, picked, node_form, graph_forms, IsFormGraph}
use Rattle.poly_graph.specs.FormViews.{form_node_of}
use Rattle.poly_graph.specs.declared.form_node.FormNode as code_node
use Rattle.poly_graph.specs.declared.form_node.FormNode.TheVariants as node
use Rattle.poly_graph.proofs.FormGraphs.{form_node_is_its_kind}
use Rattle.script_forms.specs.Terms.{Unfolded, term, formula, refused, either, ill_formed}
use Rattle.script_forms.specs.Unfolded.{as_tree, truth_of, forms_of, takes, operation_tree, unfolded_operation}
use Rattle.script_forms.specs.Atoms.{constant_tree, atom_of, trees, script_atoms, script_form, number_in, only_term, numbered_goal, goal_atom}
use Rattle.term_build.proofs.Forms.{in_order_at}
use Rattle.script_fault.specs.declared.place.Place as code_place
use Rattle.smt_script.specs.Views.{command_of}
use Rattle.smt_script.specs.declared.command.Command as code_command
use Rattle.smt_script.specs.declared.command.Command.TheVariants as commands
use Rattle.smt_sexp.specs.declared.sexps.Sexps as arena
use Rattle.problem_build.specs.Goal.{the_zero, the_truth, goal_meaning, before_goal, first_atom}

-- ---- the goal's assertion among those of the script

-- after so many assertions there is the one that stands for this goal
abbrev pub IsGoalAt : Option ℕ → List Unfolded → Option Unfolded → Type 0
IsGoalAt None us o = o ≡ None
IsGoalAt (Some k) us o = (at : Place) × (u : Unfolded) × (slice_get us k ≡ Some (goal_meaning as_tree at u)) × (o ≡ Some u)

one-later : (k : Option ℕ) (x : Unfolded) (us : List Unfolded) (o : Option Unfolded) → IsGoalAt k us o → IsGoalAt (option_map suc k) (x ∷ us) o
one-later None x us o h = h
one-later (Some k) x us o h = h

goal-at : (names : Names Unfolded) (vs : List Unfolded) (script : List Command) → IsGoalAt (before_goal script) (claims as_tree names vs script) (first_of (goals as_tree names vs script))
goal-at names vs [] = refl
goal-at names [] (declare at x sort ∷ rest) = goal-at ((x, value (as_tree.nothing at (unknown x))) ∷ names) [] rest
goal-at names (v ∷ vs) (declare at x sort ∷ rest) = goal-at ((x, value v) ∷ names) vs rest
goal-at names vs (define at f params sort body ∷ rest) = goal-at ((f, defined as_tree names params body) ∷ names) vs rest
goal-at names vs (claim at e ∷ rest) = one-later (before_goal rest) _ (claims as_tree names vs rest) (first_of (goals as_tree names vs rest)) (goal-at names vs rest)
goal-at names vs (minimize at t ∷ rest) = (at, _, refl, refl)
goal-at names vs (check at ∷ rest) = goal-at names vs rest
goal-at names vs (ineffective at ∷ rest) = goal-at names vs rest

-- ---- the atom of a goal's assertion

abbrev unwrap : {A : Type 0} → A → Option A → A
unwrap a (Some b) = b
unwrap a None = a

some-is : (m n : Unfolded) → Some m ≡ Some n → m ≡ n
some-is m n e = ap (unwrap m) e

abbrev parts-of : Form ℕ → Forms ℕ
parts-of (all_form fs) = fs
parts-of f = no_forms

all-parts : {fs gs : Forms ℕ} → all_form fs ≡ all_form gs → fs ≡ gs
all-parts e = ap parts-of e

abbrev form-first : Forms ℕ → Form ℕ
form-first (more_forms f fs) = f
form-first no_forms = no_form

abbrev forms-later : Forms ℕ → Forms ℕ
forms-later (more_forms f fs) = fs
forms-later no_forms = no_forms

module _ (number : Atom → ℕ) where
  abbrev FormOf : Unfolded → Form ℕ
  FormOf u = form_map number (form_map atom_of (truth_of u))

  -- that of its term, where its term unfolds to one
  atom-found : (at : Place) (u : Unfolded) → first_atom (FormOf (goal_meaning as_tree at u)) ≡ option_map (λ t. number (t, le)) (only_term (Some u))
  atom-found at (term t) = refl
  atom-found at (formula p n) = refl
  atom-found at (refused x) = refl
  atom-found at (either c d a b) = go (takes at_most_op (either c d a b ∷ the_zero as_tree at ∷ []))
    where
      go : (r : Bool) → first_atom (FormOf (operation_tree at disjunction
          (cond r (unfolded_operation at at_most_op (either c d a b ∷ the_zero as_tree at ∷ [])) (refused (ill_formed at)) ∷ the_truth as_tree at ∷ []))) ≡ None
      go true = refl
      go false = refl

  -- the forms of assertions, by the numbers of their nodes
  picked-at : (fs : List (Form ℕ)) (ks : List ℕ) (us : List Unfolded) → picked fs ks ≡ forms_map number (forms_map atom_of (forms_of truth_of us)) → (k : ℕ) (u : Unfolded) → slice_get us k ≡ Some u →
      (j : ℕ) × (slice_get ks k ≡ Some j) × (form_at fs j ≡ FormOf u)
  picked-at fs ks [] e k u h = cc
  picked-at fs [] (x ∷ us) e k u h = cc
  picked-at fs (j ∷ ks) (x ∷ us) e zero u h = (j, refl, ap form-first e ∙ ap FormOf (some-is x u h))
  picked-at fs (j ∷ ks) (x ∷ us) e (suc k) u h = picked-at fs ks us (ap forms-later e) k u h

as-numbered : (atoms : List Atom) (o : Option Term) → option_map (λ t. number_in atoms (t, le)) o ≡ numbered_goal atoms o
as-numbered atoms None = refl
as-numbered atoms (Some t) = refl

-- each of these numbers is below
below-all : (n : ℕ) (ks : List ℕ) → IsTrue (list_all (λ k. nat_lt k n) ks) → (i j : ℕ) → slice_get ks i ≡ Some j → j < n
below-all n [] h i j e = cc
below-all n (k ∷ ks) h zero j e = let o = both_true (nat_lt k n) (list_all (λ i. nat_lt i n) ks) h in let same : k ≡ j = cc in subst (λ (x : ℕ). x < n) same (ltb→lt k n (passes _ o.0))
below-all n (k ∷ ks) h (suc i) j e = below-all n ks (both_true (nat_lt k n) (list_all (λ i. nat_lt i n) ks) h).1 i j e

-- ---- the first part of a node

module _ (nodes : List FormNode) (g : IsFormGraph nodes) (n : ℕ) where
  is-kind : (x : FormNode) → slice_get nodes n ≡ Some x → first_atom (node_form (graph_forms nodes) x) ≡ first_atom (form_at (graph_forms nodes) n)
  is-kind x e = sym (ap first_atom (form_node_is_its_kind nodes g.ordered n x e))

  pub no_disjunction : (x : code_node.FormNode) → slice_get nodes n ≡ Some (form_node_of x) → ((ks : Vec ℕ Global) → x ≡ node.Or ks → ⊥) → None ≡ first_atom (form_at (graph_forms nodes) n)
  no_disjunction x e f = go x f ∙ is-kind (form_node_of x) e
    where
      go : (y : code_node.FormNode) → ((ks : Vec ℕ Global) → y ≡ node.Or ks → ⊥) → None ≡ first_atom (node_form (graph_forms nodes) (form_node_of y))
      go node.True f = refl
      go node.False f = refl
      go (node.AtomIs j) f = refl
      go (node.BoolIs axis v) f = refl
      go (node.And ks) f = refl
      go (node.Or ks) f = absurd (f ks refl)

  -- of a disjunction
  module _ (ks : List ℕ) (e : slice_get nodes n ≡ Some (any_node ks)) where
    pub no_parts : length ks < 1 → None ≡ first_atom (form_at (graph_forms nodes) n)
    no_parts h = go ks h ∙ is-kind (any_node ks) e
      where
        go : (js : List ℕ) → length js < 1 → None ≡ first_atom (any_form (picked (graph_forms nodes) js))
        go [] h = refl
        go (j ∷ js) h = absurd (omega (arith, h))

    pub part_below : 1 ≤ length ks → n < length nodes → slice_index_or ks 0 0 < length nodes
    part_below h b = omega (arith, b, below-all n ks (subst (λ (r : ℕ). IsTrue (form_comes_after r (any_node ks))) (omega arith) (in_order_at 0 nodes g.ordered n (any_node ks) e)) 0 (slice_index_or ks 0 0) (first-there ks h))
      where
        first-there : (js : List ℕ) → 1 ≤ length js → slice_get js 0 ≡ Some (slice_index_or js 0 0)
        first-there [] h = absurd (omega (arith, h))
        first-there (j ∷ js) h = refl

    first-part : 1 ≤ length ks → (x : FormNode) → slice_get nodes (slice_index_or ks 0 0) ≡ Some x →
        first_atom (any_form (more_forms (node_form (graph_forms nodes) x) no_forms)) ≡ first_atom (form_at (graph_forms nodes) n)
    first-part h x i = ap (λ f. first_atom (any_form (more_forms f no_forms))) (sym (form_node_is_its_kind nodes g.ordered (slice_index_or ks 0 0) x i)) ∙ go ks h ∙ is-kind (any_node ks) e
      where
        alike : (f : Form ℕ) (fs : Forms ℕ) → first_atom (any_form (more_forms f no_forms)) ≡ first_atom (any_form (more_forms f fs))
        alike yes_form fs = refl
        alike no_form fs = refl
        alike (atom_is j) fs = refl
        alike (bool_is axis v) fs = refl
        alike (all_form gs) fs = refl
        alike (any_form gs) fs = refl

        go : (js : List ℕ) → 1 ≤ length js → first_atom (any_form (more_forms (form_at (graph_forms nodes) (slice_index_or js 0 0)) no_forms)) ≡ first_atom (any_form (picked (graph_forms nodes) js))
        go [] h = absurd (omega (arith, h))
        go (j ∷ js) h = alike (form_at (graph_forms nodes) j) (picked (graph_forms nodes) js)

    pub part_atom : 1 ≤ length ks → (j : ℕ) → slice_get nodes (slice_index_or ks 0 0) ≡ Some (atom_node j) → Some j ≡ first_atom (form_at (graph_forms nodes) n)
    part_atom h j i = first-part h (atom_node j) i

    pub part_other : 1 ≤ length ks → (x : code_node.FormNode) → slice_get nodes (slice_index_or ks 0 0) ≡ Some (form_node_of x) → ((j : ℕ) → x ≡ node.AtomIs j → ⊥) → None ≡ first_atom (form_at (graph_forms nodes) n)
    part_other h x i f = go x f ∙ first-part h (form_node_of x) i
      where
        go : (y : code_node.FormNode) → ((j : ℕ) → y ≡ node.AtomIs j → ⊥) → None ≡ first_atom (any_form (more_forms (node_form (graph_forms nodes) (form_node_of y)) no_forms))
        go node.True f = refl
        go node.False f = refl
        go (node.AtomIs j) f = absurd (f j refl)
        go (node.BoolIs axis v) f = refl
        go (node.And ks) f = refl
        go (node.Or ks) f = refl

-- ---- the assertions before a goal

-- so many assertions more
abbrev pub after_claims : ℕ → Option ℕ → Option ℕ
after_claims n o = option_map (λ k. n + k) o

one-more : (n : ℕ) (o : Option ℕ) → after_claims n (option_map suc o) ≡ after_claims (n + 1) o
one-more n None = refl
one-more n (Some k) = ap Some (omega arith)

module _ (s : arena.Sexps) (n : ℕ) (rest : List Command) where
  pub claim_counts : (x : code_command.Command) (at : code_place.Place) (body : ℕ) → x ≡ commands.Assert at body → after_claims n (before_goal (command_of s x ∷ rest)) ≡ after_claims (n + 1) (before_goal rest)
  claim_counts x at body e = ap (λ y. after_claims n (before_goal (command_of s y ∷ rest))) e ∙ one-more n (before_goal rest)

  pub goal_counts : (x : code_command.Command) (at : code_place.Place) (body : ℕ) → x ≡ commands.Minimize at body → after_claims n (before_goal (command_of s x ∷ rest)) ≡ Some n
  goal_counts x at body e = ap (λ y. after_claims n (before_goal (command_of s y ∷ rest))) e ∙ ap Some (omega arith)

  pub other_counts : (x : code_command.Command) → ((at : code_place.Place) (body : ℕ) → x ≡ commands.Assert at body → ⊥) → ((at : code_place.Place) (body : ℕ) → x ≡ commands.Minimize at body → ⊥) →
      after_claims n (before_goal (command_of s x ∷ rest)) ≡ after_claims n (before_goal rest)
  other_counts (commands.Declare at name sort) f h = refl
  other_counts (commands.Define at name params sort body) f h = refl
  other_counts (commands.Assert at body) f h = absurd (f at body refl)
  other_counts (commands.Minimize at body) f h = absurd (h at body refl)
  other_counts (commands.Check at) f h = refl
  other_counts (commands.Ineffective at) f h = refl

-- ---- in the form of a problem

-- what the goal's term unfolds to
abbrev goal-of : List Command → Option Unfolded
goal-of script = first_of (goals as_tree [] (numbered constant_tree 0 (sorts_of script)) script)

-- no goal, no atom
pub none_found : (script : List Command) → before_goal script ≡ None → goal_atom script ≡ None
none_found script e = ap (λ o. numbered_goal (script_atoms script) (only_term o))
    (subst (λ (k : Option ℕ). IsGoalAt k (trees script) (goal-of script)) e (goal-at [] (numbered constant_tree 0 (sorts_of script)) script))

module _ (script : List Command) (nodes : List FormNode) (root : ℕ) (g : IsFormGraph nodes) (form : form_at (graph_forms nodes) root ≡ script_form script) where
  root-is : (n : FormNode) → slice_get nodes root ≡ Some n → node_form (graph_forms nodes) n ≡ script_form script
  root-is n e = sym (form_node_is_its_kind nodes g.ordered root n e) ∙ form

  -- its root is a conjunction
  pub root_holds_all : (x : code_node.FormNode) → slice_get nodes root ≡ Some (form_node_of x) → ((ks : Vec ℕ Global) → x ≡ node.And ks → ⊥) → ⊥
  root_holds_all x e f = go x (root-is (form_node_of x) e) f
    where
      go : (y : code_node.FormNode) → node_form (graph_forms nodes) (form_node_of y) ≡ script_form script → ((ks : Vec ℕ Global) → y ≡ node.And ks → ⊥) → ⊥
      go node.True h f = cc
      go node.False h f = cc
      go (node.AtomIs j) h f = cc
      go (node.BoolIs axis v) h f = cc
      go (node.And ks) h f = f ks refl
      go (node.Or ks) h f = cc

  -- the node of the goal's assertion
  pub goal_node : (ks : List ℕ) (k : ℕ) → slice_get nodes root ≡ Some (all_node ks) → before_goal script ≡ Some k →
      (j : ℕ) × (slice_get ks k ≡ Some j) × (j < root) × (first_atom (form_at (graph_forms nodes) j) ≡ goal_atom script)
  goal_node ks k e b =
      let there = subst (λ (o : Option ℕ). IsGoalAt o (trees script) (goal-of script)) b (goal-at [] (numbered constant_tree 0 (sorts_of script)) script) in
      let u = there.1 in
      let here = picked-at (number_in (script_atoms script)) (graph_forms nodes) ks (trees script) (all-parts (root-is (all_node ks) e)) k (goal_meaning as_tree there.0 u) there.2 in (
        here.0,
        here.1,
        below-all root ks (subst (λ (r : ℕ). IsTrue (form_comes_after r (all_node ks))) (omega arith) (in_order_at 0 nodes g.ordered root (all_node ks) e)) k here.0 here.1,
        ap first_atom here.2 ∙ atom-found (number_in (script_atoms script)) there.0 u ∙ as-numbered (script_atoms script) (only_term (Some u)) ∙
            ap (λ o. numbered_goal (script_atoms script) (only_term o)) (sym there.3),
      )
