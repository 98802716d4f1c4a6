-- An accepted certificate's lemmas and tree are derived by the rules, and its point has one value on each axis.
use Rattle.std.proofs.Common.{◌≡◌, inl, inr, ℕ, List, [], ◌∷◌, ◌++◌, Bool, true, false, ◌&&◌, IsTrue, Option, Some, None, refl, sym, subst, length, nat_eq, nat_lt, nat_le, append_assoc, append-nil}
use Rattle.dyadic.specs.Rounding.{exact}
use Rattle.dyadic.specs.Fraction.{at_most}
use Rattle.interval_model.specs.Space.{Domain, real_domain, bool_domain, Space}
use Rattle.poly_graph.specs.Problem.{Declared, real_between, any_bool, Axis, Problem, crosses}
use Rattle.cover_model.specs.State.{State, Loosenings, root_state}
use Rattle.cover_model.specs.Fits.{FitsAxis, FitsAxes, FitsProblem}
use Rattle.cover_model.specs.Derivation.{Tree, Lawful}
use Rattle.cover_model.specs.Rules.{Line, Left, closed, one, two, stays, rule}
use Rattle.cover_line.specs.Words.{word_of}
use Rattle.cert_read.specs.CertLine.{BoolWord, says_both, says_false, says_true, CertLine, version, margin, delta, bound, cover, point_word, tree_word, end_word, lemma, real_interval, real_value, bool_value, yes_list, no_list, rule_line, crossing}
use Rattle.cert_model.specs.Due
use Rattle.cert_model.specs.Due.{CertFault, Standing, Value, at_point, left_open, Due, version_due, margin_due, delta_due, bound_due, kind_due, next_due, axis_due, yes_due, no_due, lemma_due, root_due, tree_due, coordinate_due, end_due, nothing_due, Next, on, faulty, given, is_version, same_bound, bool_domain_of, ascends, apart, all_below, state_of, names_well, after_rule, after_lemma_rule, tree_goes_on, lemma_goes_on, axis_next, is_crossed_box, coordinate_next, is_shown, extra_after, extra_at_end}
use Rattle.cert_model.specs.Accepted.{ruled_line, tree_line, root_line, no_crossing, axis_line, coordinate_line, next, loosenings_fit, most_lemmas, IsAccepted}
use Rattle.cert_model.specs.Derived.{AreDerived, states_of, IsTree, IsSingle, AreSingle}
use Rattle.cert_model.proofs.MarkLists.{marks_length}
use Rattle.cert_model.proofs.Invariant.{IfOn, given_on, cond_on, holds_at_end}
use Rattle.cert_model.proofs.Grown.{more_derived, states_append, Grown, from_root, whole_tree, grow_closed, grow_stays, grow_one, grow_two}

-- What is asked of a cover's lemmas: it holds of none, and of one more that fits the problem and is derived from those before it.
pub record IsGrowing (p : Problem) (Sound : Loosenings → List State → Type 0) : Type 0 where
  pub none : (s : Loosenings) → Sound s []
  pub more : (s : Loosenings) (lemmas : List State) (L : State) → Sound s lemmas → FitsProblem p L → (t : Tree) → Lawful p s lemmas L t [] → Sound s (lemmas ++ (L ∷ []))

module _ (p : Problem) where
  -- the domains that stand are a part of a lemma's space
  abbrev pub Started : List Axis → Space → Type 0
  Started axes space = (rest : Space) → FitsAxes axes rest → FitsAxes p.axes (space ++ rest)

  -- the domains that stand are a part of a point
  abbrev pub Begun : List Axis → Space → Type 0
  Begun axes space = (rest : Space) → AreSingle axes rest → AreSingle p.axes (space ++ rest)

module _ (p : Problem) (Sound : Loosenings → List State → Type 0) where
  -- what holds where a value is known, and after the last line
  abbrev pub IsValue : Loosenings → List State → Value → Type 0
  IsValue s lemmas (at_point space) = AreSingle p.axes space
  IsValue s lemmas (left_open left) = IsTree p s lemmas left

  abbrev pub IsAnswer : Loosenings → List State → Value → Type 0
  IsAnswer s lemmas v = Sound s lemmas × IsValue s lemmas v × IsTrue (is_shown p s v)

  -- what holds where a line is due
  abbrev pub Fine : Due → Type 0
  Fine (next_due s k lemmas) = Sound s lemmas
  Fine (axis_due s k lemmas a axes space) = Sound s lemmas × Started p (a ∷ axes) space
  Fine (yes_due s k lemmas space) = Sound s lemmas × FitsAxes p.axes space
  Fine (no_due s k lemmas space js) = Sound s lemmas × FitsAxes p.axes space
  Fine (lemma_due s k lemmas L S pending) = Sound s lemmas × FitsProblem p L × Grown p s lemmas L (S ∷ pending) []
  Fine (root_due s lemmas) = Sound s lemmas
  Fine (tree_due s lemmas S pending done) = Sound s lemmas × Grown p s lemmas (root_state p) (S ∷ pending) (states_of done)
  Fine (coordinate_due s a axes space) = Begun p (a ∷ axes) space
  Fine (end_due s lemmas v) = Sound s lemmas × IsValue s lemmas v
  Fine (nothing_due s lemmas v) = IsAnswer s lemmas v
  Fine d = Unit {0}

module _ (p : Problem) (b : Option ℕ) (Sound : Loosenings → List State → Type 0) (growing : IsGrowing p Sound) where
  abbrev FineIn : Due → Type 0
  FineIn d = Fine p Sound d

  abbrev FineNext : Next → Type 0
  FineNext x = IfOn FineIn x

  ruled-keeps : (t : Bool) (x : Next) → FineNext x → FineNext (ruled_line t x)
  ruled-keeps true x f = f
  ruled-keeps false x f = tt

  -- ---- lemmas

  lemma-fine : (s : Loosenings) (k : ℕ) (lemmas : List State) → Sound s lemmas → (L : State) → FitsProblem p L → (pending : List State) → Grown p s lemmas L pending [] → FineIn (lemma_goes_on s k lemmas L pending)
  lemma-fine s k lemmas h L f [] g = let w = whole_tree p s lemmas L [] g in growing.more s lemmas L h f w.0 w.1
  lemma-fine s k lemmas h L f (S ∷ pending) g = (h, f, g)

  after-lemma : (s : Loosenings) (k : ℕ) (lemmas : List State) → Sound s lemmas → (L : State) → FitsProblem p L → (S : State) (pending : List State) (l : Line) (f : CertFault) → Grown p s lemmas L (S ∷ pending) [] →
      (o : Option Left) → rule p s lemmas S l ≡ o → FineNext (after_lemma_rule o f pending (lemma_goes_on s k lemmas L))
  after-lemma s k lemmas h L i S pending l f g None e = tt
  after-lemma s k lemmas h L i S pending l f g (Some closed) e = lemma-fine s k lemmas h L i pending (grow_closed p s lemmas L S l pending [] e g)
  after-lemma s k lemmas h L i S pending l f g (Some stays) e = tt
  after-lemma s k lemmas h L i S pending l f g (Some (one S')) e = lemma-fine s k lemmas h L i (S' ∷ pending) (grow_one p s lemmas L S S' l pending [] e g)
  after-lemma s k lemmas h L i S pending l f g (Some (two S' S'')) e = lemma-fine s k lemmas h L i (S' ∷ S'' ∷ pending) (grow_two p s lemmas L S S' S'' l pending [] e g)

  -- ---- the main tree

  tree-fine : (s : Loosenings) (lemmas : List State) → Sound s lemmas → (pending : List State) (done : List Standing) → Grown p s lemmas (root_state p) pending (states_of done) → FineIn (tree_goes_on s lemmas pending done)
  tree-fine s lemmas h [] done g = (h, inr (whole_tree p s lemmas (root_state p) (states_of done) g))
  tree-fine s lemmas h (S ∷ pending) done g = (h, g)

  after-tree : (s : Loosenings) (lemmas : List State) → Sound s lemmas → (S : State) (pending : List State) (done : List Standing) (l : Line) (f : CertFault) → Grown p s lemmas (root_state p) (S ∷ pending) (states_of done) →
      (o : Option Left) → rule p s lemmas S l ≡ o → FineNext (after_rule o f (record { state = S; does = l }) pending done (tree_goes_on s lemmas))
  after-tree s lemmas h S pending done l f g None e = tt
  after-tree s lemmas h S pending done l f g (Some closed) e = tree-fine s lemmas h pending done (grow_closed p s lemmas (root_state p) S l pending (states_of done) e g)
  after-tree s lemmas h S pending done l f g (Some stays) e = tree-fine s lemmas h pending (done ++ (record { state = S; does = l } ∷ []))
      (subst (λ (xs : List State). Grown p s lemmas (root_state p) pending xs) (sym (states_append done (record { state = S; does = l } ∷ []))) (grow_stays p s lemmas (root_state p) S l pending (states_of done) e g))
  after-tree s lemmas h S pending done l f g (Some (one S')) e = tree-fine s lemmas h (S' ∷ pending) done (grow_one p s lemmas (root_state p) S S' l pending (states_of done) e g)
  after-tree s lemmas h S pending done l f g (Some (two S' S'')) e = tree-fine s lemmas h (S' ∷ S'' ∷ pending) done (grow_two p s lemmas (root_state p) S S' S'' l pending (states_of done) e g)

  tree-line : (s : Loosenings) (lemmas : List State) → Sound s lemmas → (S : State) (pending : List State) (done : List Standing) (l : Line) → Grown p s lemmas (root_state p) (S ∷ pending) (states_of done) →
      FineNext (tree_line p s lemmas S pending done l)
  tree-line s lemmas h S pending done l g = ruled-keeps (names_well p l) _ (after-tree s lemmas h S pending done l (Due.RuleFails (word_of l)) g (rule p s lemmas S l) refl)

  root-line : (t : Bool) (s : Loosenings) (lemmas : List State) → Sound s lemmas → (l : Line) → FineNext (root_line t p s lemmas l)
  root-line true s lemmas h l = ruled-keeps (names_well p l) (faulty (Due.RuleFails (word_of l))) (tt {0})
  root-line false s lemmas h l = tree-line s lemmas h (root_state p) [] [] l (from_root p s lemmas (root_state p))

  -- ---- axes of lemmas and of points

  axis-fine : (s : Loosenings) (k : ℕ) (lemmas : List State) → Sound s lemmas → (axes : List Axis) (space : Space) → Started p axes space → FineIn (axis_next s k lemmas axes space)
  axis-fine s k lemmas h [] space g = (h, subst (λ (d : Space). FitsAxes p.axes d) (append-nil space) (g [] tt))
  axis-fine s k lemmas h (a ∷ axes) space g = (h, g)

  started-more : (a : Axis) (x : Declared) → a.declared ≡ x → (axes : List Axis) (space : Space) (d : Domain) → FitsAxis x d → Started p (a ∷ axes) space → Started p axes (space ++ (d ∷ []))
  started-more a x e axes space d i g rest r =
      subst (λ (ds : Space). FitsAxes p.axes ds) (sym (append_assoc space (d ∷ []) rest)) (g (d ∷ rest) (subst (λ (y : Declared). FitsAxis y d) (sym e) i, r))

  bool-fits : (w : BoolWord) → FitsAxis any_bool (bool_domain_of w)
  bool-fits says_both = refl
  bool-fits says_false = refl
  bool-fits says_true = refl

  axis-line : (s : Loosenings) (k : ℕ) (lemmas : List State) → Sound s lemmas → (a : Axis) (x : Declared) → a.declared ≡ x → (axes : List Axis) (space : Space) (l : CertLine) → Started p (a ∷ axes) space →
      FineNext (axis_line p s k lemmas x axes space l)
  axis-line s k lemmas h a (real_between lo hi) e axes space (real_interval l u) g =
      given_on FineIn (at_most (exact l) (exact u)) (axis_next s k lemmas axes (space ++ (real_domain l u ∷ []))) Due.BadNumber
      (λ i. axis-fine s k lemmas h axes _ (started-more a (real_between lo hi) e axes space (real_domain l u) i g))
  axis-line s k lemmas h a any_bool e axes space (bool_value w) g = axis-fine s k lemmas h axes _ (started-more a any_bool e axes space (bool_domain_of w) (bool-fits w) g)
  axis-line s k lemmas h a _ e axes space _ g = tt

  coordinate-fine : (s : Loosenings) (axes : List Axis) (space : Space) → Begun p axes space → FineIn (coordinate_next s axes space)
  coordinate-fine s [] space g = (growing.none s, subst (λ (d : Space). AreSingle p.axes d) (append-nil space) (g [] tt))
  coordinate-fine s (a ∷ axes) space g = g

  begun-more : (a : Axis) (axes : List Axis) (space : Space) (d : Domain) → IsSingle a.declared d → Begun p (a ∷ axes) space → Begun p axes (space ++ (d ∷ []))
  begun-more a axes space d i g rest r = subst (λ (ds : Space). AreSingle p.axes ds) (sym (append_assoc space (d ∷ []) rest)) (g (d ∷ rest) (i, r))

  coordinate-line : (s : Loosenings) (a : Axis) (x : Declared) → a.declared ≡ x → (axes : List Axis) (space : Space) (l : CertLine) → Begun p (a ∷ axes) space → FineNext (coordinate_line s x axes space l)
  coordinate-line s a (real_between lo hi) e axes space (real_value v) g = coordinate-fine s axes _ (begun-more a axes space (real_domain v v) (subst (λ (y : Declared). IsSingle y (real_domain v v)) (sym e) refl) g)
  coordinate-line s a any_bool e axes space (bool_value says_both) g = tt
  coordinate-line s a any_bool e axes space (bool_value says_false) g = coordinate-fine s axes _ (begun-more a axes space (bool_domain true false) (subst (λ (y : Declared). IsSingle y (bool_domain true false)) (sym e) tt) g)
  coordinate-line s a any_bool e axes space (bool_value says_true) g = coordinate-fine s axes _ (begun-more a axes space (bool_domain false true) (subst (λ (y : Declared). IsSingle y (bool_domain false true)) (sym e) tt) g)
  coordinate-line s a _ e axes space _ g = tt

  -- ---- a line, where something is due

  pub next_fine : (d : Due) (l : CertLine) → FineIn d → FineNext (next p b d l)
  next_fine version_due (version n) h = given_on FineIn (is_version n) (margin_due n) Due.BadHeader (λ e. tt)
  next_fine version_due _ h = tt
  next_fine (margin_due v) (margin m) h = tt
  next_fine (margin_due v) _ h = tt
  next_fine (delta_due v m) (delta n) h = given_on FineIn (loosenings_fit m n) (bound_due (record { margin_bits = m; delta_bits = n; version = v })) Due.BadHeader (λ e. tt)
  next_fine (delta_due v m) _ h = tt
  next_fine (bound_due s) (bound n) h = given_on FineIn (same_bound n b) (kind_due s) Due.WrongBound (λ e. tt)
  next_fine (bound_due s) _ h = tt
  next_fine (kind_due s) (cover k) h = given_on FineIn (nat_le k most_lemmas) (next_due s k []) Due.BadHeader (λ e. growing.none s)
  next_fine (kind_due s) point_word h = coordinate-fine s p.axes [] (λ rest r. r)
  next_fine (kind_due s) _ h = tt
  next_fine (next_due s k lemmas) (lemma i) h = cond_on FineIn (nat_lt (length lemmas) k) (given (nat_eq i (length lemmas)) (axis_next s k lemmas p.axes []) Due.BadNumber) (faulty Due.Missing)
      (λ e. given_on FineIn (nat_eq i (length lemmas)) (axis_next s k lemmas p.axes []) Due.BadNumber (λ e'. axis-fine s k lemmas h p.axes [] (λ rest r. r))) (tt {0})
  next_fine (next_due s k lemmas) tree_word h = given_on FineIn (nat_eq (length lemmas) k) (root_due s lemmas) Due.Missing (λ e. h)
  next_fine (next_due s k lemmas) _ h = tt
  next_fine (axis_due s k lemmas a axes space) l h = axis-line s k lemmas h.0 a a.declared refl axes space l h.1
  next_fine (yes_due s k lemmas space) (yes_list js) h = given_on FineIn (all_below (length p.atoms) js && ascends js) (no_due s k lemmas space js) Due.BadNumber (λ e. h)
  next_fine (yes_due s k lemmas space) _ h = tt
  next_fine (no_due s k lemmas space is) (no_list js) h = given_on FineIn (all_below (length p.atoms) js && ascends js && apart is js) (lemma_due s k lemmas (state_of p space is js) (state_of p space is js) []) Due.BadNumber
      (λ e. (h.0, record { axes = h.1; marks = marks_length (length p.atoms) is js }, from_root p s lemmas (state_of p space is js)))
  next_fine (no_due s k lemmas space is) _ h = tt
  next_fine (lemma_due s k lemmas L S pending) (rule_line l) h = ruled-keeps (names_well p l) _ (after-lemma s k lemmas h.0 L h.1 S pending l (Due.RuleFails (word_of l)) h.2 (rule p s lemmas S l) refl)
  next_fine (lemma_due s k lemmas L S pending) _ h = tt
  next_fine (root_due s lemmas) (crossing i) h = cond_on FineIn (crosses p i) (on (end_due s lemmas (left_open []))) (no_crossing p i) (λ e. (h, inl (i, e, refl))) (tt {0})
  next_fine (root_due s lemmas) (rule_line l) h = root-line (is_crossed_box p) s lemmas h l
  next_fine (root_due s lemmas) _ h = tt
  next_fine (tree_due s lemmas S pending done) (rule_line l) h = tree-line s lemmas h.0 S pending done l h.1
  next_fine (tree_due s lemmas S pending done) _ h = tt
  next_fine (coordinate_due s a axes space) l h = coordinate-line s a a.declared refl axes space l h
  next_fine (end_due s lemmas v) end_word h = given_on FineIn (is_shown p s v) (nothing_due s lemmas v) Due.NotShown (λ e. (h.0, h.1, e))
  next_fine (end_due s lemmas v) _ h = tt
  next_fine (nothing_due s lemmas v) _ h = tt

  -- what the value of an accepted certificate is, with its lemmas
  pub accepted_is : (bytes : List ℕ) (s : Loosenings) (v : Value) → IsAccepted p b bytes s v → (lemmas : List State) × IsAnswer p Sound s lemmas v
  accepted_is bytes s v e = holds_at_end p b FineIn tt next_fine bytes s v e

-- lemmas derived each from those before it
pub derived_grow : (p : Problem) → IsGrowing p (λ s lemmas. AreDerived p s [] lemmas)
derived_grow p = record { none = λ s. tt; more = λ s lemmas L h f t r. more_derived p s [] lemmas L h t r }
