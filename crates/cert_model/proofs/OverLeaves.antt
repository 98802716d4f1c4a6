-- What a cover of a least value leaves: over each of its states the goal's enclosure is not below the bound.
use Rattle.std.proofs.Common.{◌≡◌, ℕ, List, [], ◌∷◌, ◌++◌, Bool, true, false, not, ◌&&◌, cond, IsTrue, Option, Some, None, refl, sym, ◌∙◌, true≢false, nat_eq, nat_lt, nat_le, length}
use Rattle.dyadic.specs.Rounding.{Dyadic}
use Rattle.interval_model.specs.Space.{Space}
use Rattle.poly_graph.specs.Problem.{Declared, real_between, any_bool, Axis, Problem, crosses}
use Rattle.cover_model.specs.State.{State, Loosenings, root_state, may}
use Rattle.cover_model.specs.Rules.{is_void_by_squares, Line, narrow_by, end_by, void_by, by_squares, false_form, by_lemma, mark_by, branch_by, stay_by, Left, closed, one, two, stays, can_narrow, narrowed_to, lemma_covers, can_mark, marked, can_branch, first_child, second_child, when, pulled, voided, rule}
use Rattle.cover_line.specs.Words.{word_of}
use Rattle.cert_read.specs.CertLine.{CertLine, version, margin, delta, bound, cover, point_word, tree_word, end_word, lemma, real_interval, real_value, bool_value, says_both, says_false, says_true, yes_list, no_list, rule_line, crossing}
use Rattle.cert_model.specs.Due.{CertFault, RuleFails, Standing, Value, at_point, left_open, Due, version_due, margin_due, delta_due, bound_due, kind_due, next_due, axis_due, yes_due, no_due, lemma_due, root_due, tree_due, coordinate_due, end_due, nothing_due, Next, on, faulty, is_version, same_bound, names_well, after_rule, after_lemma_rule, tree_goes_on, lemma_goes_on, axis_next, is_crossed_box, coordinate_next, is_shown}
use Rattle.cert_model.specs.Accepted.{ruled_line, tree_line, root_line, no_crossing, axis_line, coordinate_line, next, loosenings_fit, most_lemmas}
use Rattle.cert_model.specs.Least.{is_over, tree_space, leaves_open}
use Rattle.cert_model.proofs.Invariant.{IfOn, given_on, cond_on}

-- ---- the lines that leave their own state

abbrev is_stay : Option Left → Bool
is_stay (Some stays) = true
is_stay o = false

pulled-goes : (t : Bool) (S : State) (o : Option Space) → is_stay (cond t (pulled S o) None) ≡ false
pulled-goes true S None = refl
pulled-goes true S (Some space) = refl
pulled-goes false S o = refl

voided-goes : (t : Bool) (o : Option Space) → is_stay (cond t (voided o) None) ≡ false
voided-goes true None = refl
voided-goes true (Some space) = refl
voided-goes false o = refl

when-goes : (t : Bool) (k : Left) → is_stay (Some k) ≡ false → is_stay (when t k) ≡ false
when-goes true k h = h
when-goes false k h = refl

-- no other line does
goes-on : (p : Problem) (s : Loosenings) (lemmas : List State) (S : State) (l : Line) → leaves_open l ≡ false → is_stay (rule p s lemmas S l) ≡ false
goes-on p s lemmas S (narrow_by n) h = pulled-goes (can_narrow p s S n) S (narrowed_to p s S n)
goes-on p s lemmas S (end_by (void_by n)) h = voided-goes (can_narrow p s S n) (narrowed_to p s S n)
goes-on p s lemmas S (end_by (by_squares ms bs)) h = when-goes (is_void_by_squares p s S ms bs) closed refl
goes-on p s lemmas S (end_by false_form) h = when-goes (not (may p s S)) closed refl
goes-on p s lemmas S (end_by (by_lemma i)) h = when-goes (lemma_covers lemmas i S) closed refl
goes-on p s lemmas S (mark_by m) h = when-goes (can_mark p s lemmas S m) (one (marked S m)) refl
goes-on p s lemmas S (branch_by b) h = when-goes (can_branch p s S b) (two (first_child S b) (second_child S b)) refl
goes-on p s lemmas S (stay_by t) h = absurd (true≢false h)

module _ (p : Problem) (g : ℕ) (low : Option Dyadic) where
  abbrev pub IsOver : Space → Type 0
  IsOver space = IsTrue (is_over p g low space)

  abbrev pub AreOver : List Standing → Type 0
  AreOver [] = Unit {0}
  AreOver (x ∷ xs) = IsOver x.state.space × AreOver xs

  one-more : (xs : List Standing) (x : Standing) → AreOver xs → IsOver x.state.space → AreOver (xs ++ (x ∷ []))
  one-more [] x h k = (k, tt)
  one-more (y ∷ xs) x h k = (h.0, one-more xs x h.1 k)

  abbrev pub OverValue : Value → Type 0
  OverValue (at_point space) = Unit {0}
  OverValue (left_open left) = AreOver left

  -- what is left so far
  abbrev pub OverDue : Due → Type 0
  OverDue (tree_due s lemmas S pending done) = AreOver done
  OverDue (end_due s lemmas v) = OverValue v
  OverDue (nothing_due s lemmas v) = OverValue v
  OverDue d = Unit {0}

  abbrev pub OverNext : Next → Type 0
  OverNext x = IfOn OverDue x

  -- where a line of the main tree leaves its own state, that one is over
  abbrev pub LeavesOver : Due → CertLine → Type 0
  LeavesOver d (rule_line l) = (space : Space) → tree_space p d ≡ Some space → leaves_open l ≡ true → IsOver space
  LeavesOver d l = Unit {0}

  tree-over : (s : Loosenings) (lemmas pending : List State) (done : List Standing) → AreOver done → OverDue (tree_goes_on s lemmas pending done)
  tree-over s lemmas [] done h = h
  tree-over s lemmas (S ∷ pending) done h = h

  after-tree : (o : Option Left) (f : CertFault) (x : Standing) (s : Loosenings) (lemmas pending : List State) (done : List Standing) → (is_stay o ≡ true → IsOver x.state.space) → AreOver done →
      OverNext (after_rule o f x pending done (tree_goes_on s lemmas))
  after-tree None f x s lemmas pending done k h = tt
  after-tree (Some closed) f x s lemmas pending done k h = tree-over s lemmas pending done h
  after-tree (Some stays) f x s lemmas pending done k h = tree-over s lemmas pending (done ++ (x ∷ [])) (one-more done x h (k refl))
  after-tree (Some (one S')) f x s lemmas pending done k h = h
  after-tree (Some (two S' S'')) f x s lemmas pending done k h = h

  ruled-over : (t : Bool) (x : Next) → OverNext x → OverNext (ruled_line t x)
  ruled-over true x h = h
  ruled-over false x h = tt

  stays-over : (s : Loosenings) (lemmas : List State) (S : State) (l : Line) → (leaves_open l ≡ true → IsOver S.space) → (t : Bool) → leaves_open l ≡ t → is_stay (rule p s lemmas S l) ≡ true → IsOver S.space
  stays-over s lemmas S l k true e h = k e
  stays-over s lemmas S l k false e h = absurd (true≢false (sym h ∙ goes-on p s lemmas S l e))

  tree-line : (s : Loosenings) (lemmas : List State) (S : State) (pending : List State) (done : List Standing) (l : Line) → (leaves_open l ≡ true → IsOver S.space) → AreOver done →
      OverNext (tree_line p s lemmas S pending done l)
  tree-line s lemmas S pending done l k h = ruled-over (names_well p l) _
      (after-tree (rule p s lemmas S l) (RuleFails (word_of l)) (record { state = S; does = l }) s lemmas pending done (stays-over s lemmas S l k (leaves_open l) refl) h)

  root-line : (t : Bool) → is_crossed_box p ≡ t → (s : Loosenings) (lemmas : List State) (l : Line) →
      ((space : Space) → cond t None (Some (root_state p).space) ≡ Some space → leaves_open l ≡ true → IsOver space) → OverNext (root_line t p s lemmas l)
  root-line true e s lemmas l k = ruled-over (names_well p l) (faulty (RuleFails (word_of l))) (tt {0})
  root-line false e s lemmas l k = tree-line s lemmas (root_state p) [] [] l (k (root_state p).space refl) tt

  axis-over : (s : Loosenings) (k : ℕ) (lemmas : List State) (axes : List Axis) (space : Space) → OverDue (axis_next s k lemmas axes space)
  axis-over s k lemmas [] space = tt
  axis-over s k lemmas (a ∷ axes) space = tt

  axis-line : (s : Loosenings) (k : ℕ) (lemmas : List State) (a : Declared) (axes : List Axis) (space : Space) (l : CertLine) → OverNext (axis_line p s k lemmas a axes space l)
  axis-line s k lemmas (real_between lo hi) axes space (real_interval l u) = given_on OverDue _ (axis_next s k lemmas axes _) _ (λ e. axis-over s k lemmas axes _)
  axis-line s k lemmas any_bool axes space (bool_value w) = axis-over s k lemmas axes _
  axis-line s k lemmas _ axes space _ = tt

  coordinate-over : (s : Loosenings) (axes : List Axis) (space : Space) → OverDue (coordinate_next s axes space)
  coordinate-over s [] space = tt
  coordinate-over s (a ∷ axes) space = tt

  coordinate-line : (s : Loosenings) (a : Declared) (axes : List Axis) (space : Space) (l : CertLine) → OverNext (coordinate_line s a axes space l)
  coordinate-line s (real_between lo hi) axes space (real_value v) = coordinate-over s axes _
  coordinate-line s any_bool axes space (bool_value says_both) = tt
  coordinate-line s any_bool axes space (bool_value says_false) = coordinate-over s axes _
  coordinate-line s any_bool axes space (bool_value says_true) = coordinate-over s axes _
  coordinate-line s _ axes space _ = tt

  lemma-over : (s : Loosenings) (k : ℕ) (lemmas : List State) (L : State) (pending : List State) → OverDue (lemma_goes_on s k lemmas L pending)
  lemma-over s k lemmas L [] = tt
  lemma-over s k lemmas L (S ∷ pending) = tt

  after-lemma : (o : Option Left) (f : CertFault) (s : Loosenings) (k : ℕ) (lemmas : List State) (L : State) (pending : List State) → OverNext (after_lemma_rule o f pending (lemma_goes_on s k lemmas L))
  after-lemma None f s k lemmas L pending = tt
  after-lemma (Some closed) f s k lemmas L pending = lemma-over s k lemmas L pending
  after-lemma (Some stays) f s k lemmas L pending = tt
  after-lemma (Some (one S')) f s k lemmas L pending = tt
  after-lemma (Some (two S' S'')) f s k lemmas L pending = tt

  pub over_next : (b : Option ℕ) (d : Due) (l : CertLine) → LeavesOver d l → OverDue d → OverNext (next p b d l)
  over_next b version_due (version n) k h = given_on OverDue (is_version n) (margin_due n) _ (λ e. tt)
  over_next b version_due _ k h = tt
  over_next b (margin_due v) (margin m) k h = tt
  over_next b (margin_due v) _ k h = tt
  over_next b (delta_due v m) (delta n) k h = given_on OverDue (loosenings_fit m n) (bound_due _) _ (λ e. tt)
  over_next b (delta_due v m) _ k h = tt
  over_next b (bound_due s) (bound n) k h = given_on OverDue (same_bound n b) (kind_due s) _ (λ e. tt)
  over_next b (bound_due s) _ k h = tt
  over_next b (kind_due s) (cover n) k h = given_on OverDue (nat_le n most_lemmas) (next_due s n []) _ (λ e. tt)
  over_next b (kind_due s) point_word k h = coordinate-over s p.axes []
  over_next b (kind_due s) _ k h = tt
  over_next b (next_due s n lemmas) (lemma i) k h = cond_on OverDue (nat_lt (length lemmas) n) _ _
      (λ e. given_on OverDue (nat_eq i (length lemmas)) (axis_next s n lemmas p.axes []) _ (λ e'. axis-over s n lemmas p.axes [])) (tt {0})
  over_next b (next_due s n lemmas) tree_word k h = given_on OverDue (nat_eq (length lemmas) n) (root_due s lemmas) _ (λ e. tt)
  over_next b (next_due s n lemmas) _ k h = tt
  over_next b (axis_due s n lemmas a axes space) l k h = axis-line s n lemmas a.declared axes space l
  over_next b (yes_due s n lemmas space) (yes_list js) k h = given_on OverDue _ (no_due s n lemmas space js) _ (λ e. tt)
  over_next b (yes_due s n lemmas space) _ k h = tt
  over_next b (no_due s n lemmas space is) (no_list js) k h = given_on OverDue _ (lemma_due s n lemmas _ _ []) _ (λ e. tt)
  over_next b (no_due s n lemmas space is) _ k h = tt
  over_next b (lemma_due s n lemmas L S pending) (rule_line l) k h = ruled-over (names_well p l) _ (after-lemma (rule p s lemmas S l) (RuleFails (word_of l)) s n lemmas L pending)
  over_next b (lemma_due s n lemmas L S pending) _ k h = tt
  over_next b (root_due s lemmas) (crossing i) k h = cond_on OverDue (crosses p i) (on (end_due s lemmas (left_open []))) (no_crossing p i) (λ e. tt) (tt {0})
  over_next b (root_due s lemmas) (rule_line l) k h = root-line (is_crossed_box p) refl s lemmas l k
  over_next b (root_due s lemmas) _ k h = tt
  over_next b (tree_due s lemmas S pending done) (rule_line l) k h = tree-line s lemmas S pending done l (k S.space refl) h
  over_next b (tree_due s lemmas S pending done) _ k h = tt
  over_next b (coordinate_due s a axes space) l k h = coordinate-line s a.declared axes space l
  over_next b (end_due s lemmas v) end_word k h = given_on OverDue (is_shown p s v) (nothing_due s lemmas v) _ (λ e. h)
  over_next b (end_due s lemmas v) _ k h = tt
  over_next b (nothing_due s lemmas v) _ k h = tt
