-- Along an honest certificate at the least width of a plan no state is stuck.
use Rattle.std.proofs.Common.{◌≡◌, ◌⊎◌, inl, inr, ℕ, suc, zero, ◌<◌, List, [], ◌∷◌, ◌++◌, length, Bool, true, false, not, ◌&&◌, ◌||◌, cond, IsTrue, Option, Some, None, refl, ap, sym, subst, true≢false, arith, nat_eq, nat_lt, nat_le, ltb→lt}
use Rattle.std.specs.Prelude.{All}
use Rattle.std.specs.Bool.{passes}
use Rattle.dyadic.specs.Fraction.{at_most}
use Rattle.dyadic.specs.Rounding.{exact}
use Rattle.dyadic.proofs.Equal.{both_true}
use Rattle.interval_model.specs.Space.{Space, is_upright, space_within}
use Rattle.poly_graph.specs.Problem.{Problem, IsProblem, Axis, Declared, real_between, any_bool, first_crossed, first_crossed_from, is_crossed, crossed_in, crosses}
use Rattle.poly_graph.proofs.Bools.{not_both}
use Rattle.cover_model.specs.State.{State, Loosenings, root_state, covers}
use Rattle.cover_model.specs.Root.{root_space}
use Rattle.cover_model.specs.Derivation.{LiesWithinIf}
use Rattle.cover_model.specs.Honest.{is_honest, not_shown, settled, is_small, none_below}
use Rattle.cover_model.specs.Rules.{Line, stuck, Left, closed, one, two, stays, rule, is_stuck_atom}
use Rattle.cover_model.proofs.Lies.{rule_within}
use Rattle.cover_model.proofs.Middle.{root_is_upright}
use Rattle.cover_model.proofs.Within.{space_reflexive, space_through}
use Rattle.poly_graph.specs.Marks.{marks_within}
use Rattle.cover_line.specs.Words.{word_of}
use Rattle.cert_read.specs.CertLine.{CertLine, version, margin, delta, bound, cover, point_word, tree_word, lemma, end_word, rule_line, crossing, real_interval, real_value, bool_value, yes_list, no_list, says_both, says_false, says_true, line}
use Rattle.cert_model.specs.Due.{CertFault, RuleFails, Standing, Value, at_point, left_open, Due, version_due, margin_due, delta_due, bound_due, kind_due, next_due, axis_due, yes_due, no_due, lemma_due, root_due, tree_due, coordinate_due, end_due, nothing_due, Next, on, faulty, given, names_well, after_rule, after_lemma_rule, tree_goes_on, lemma_goes_on, axis_next, coordinate_next, is_crossed_box, is_some_axis, is_shown}
use Rattle.cert_model.specs.Accepted.{next, ruled_line, tree_line, root_line, no_crossing, axis_line, coordinate_line, Verdict, at_end, IsAccepted, most_bytes}
use Rattle.cert_model.specs.AnswerText.{is_open, has_open, budget_text, unsat_text, solve_text}
use Rattle.cert_model.specs.Standing.{Stands, stands, at_root, stands_at, IsHonest}
use Rattle.cert_model.proofs.Invariant.{IfOn, IfAccepted}
use Rattle.plan_law.proofs.Along.{honest_verdict}
use Rattle.width_plan.specs.Plan.{IsPlan, least_bits}
use Rattle.width_plan.proofs.Stuck.{nothing_is_stuck}
use Rattle.plan_law.specs.Laws.{LeavesNoneStuck, NeverAnswersWidth}
use Rattle.plan_law.proofs.Upright.{UprightIf, rule_upright}

-- ---- no bounds cross

none-crossed : (k : ℕ) (axes : List Axis) → first_crossed_from k axes ≡ None → (i : ℕ) → IsTrue (not (crossed_in axes i))
none-crossed k [] e i = refl
none-crossed k (a ∷ axes) e i = go (λ f j. none-crossed (suc k) axes f j) (is_crossed a.declared) refl e i
  where
    go : (first_crossed_from (suc k) axes ≡ None → (i : ℕ) → IsTrue (not (crossed_in axes i))) → (t : Bool) → is_crossed a.declared ≡ t → cond t (Some k) (first_crossed_from (suc k) axes) ≡ None →
        (i : ℕ) → IsTrue (not (crossed_in (a ∷ axes) i))
    go later true f e i = cc
    go later false f e zero = ap not f
    go later false f e (suc i) = later e i

uncrossed : (o : Option ℕ) → is_some_axis o ≡ false → o ≡ None
uncrossed None e = refl
uncrossed (Some i) e = cc

module _ (p : Problem) (g : IsProblem p) (b : Option ℕ) (w : ℕ) where
  abbrev pub Plan : Loosenings → Type 0
  Plan s = IsPlan p s.delta_bits s.margin_bits (least_bits w)

  abbrev pub IsGood : State → Type 0
  IsGood S = IsTrue (is_upright S.space) × IsTrue (space_within S.space (root_space p))

  abbrev pub AllGood : List State → Type 0
  AllGood [] = Unit {0}
  AllGood (S ∷ rest) = IsGood S × AllGood rest

  abbrev pub AllOpen : List Standing → Type 0
  AllOpen [] = Unit {0}
  AllOpen (x ∷ rest) = IsTrue (is_open x.does) × AllOpen rest

  abbrev pub IsOpenValue : Value → Type 0
  IsOpenValue (at_point space) = Unit {0}
  IsOpenValue (left_open left) = AllOpen left

  -- what holds of what is due
  abbrev pub Holds : Due → Type 0
  Holds (tree_due s lemmas S pending done) = Plan s → (first_crossed p ≡ None) × IsGood S × AllGood pending × AllOpen done
  Holds (end_due s lemmas v) = Plan s → IsOpenValue v
  Holds (nothing_due s lemmas v) = Plan s → IsOpenValue v
  Holds _ = Unit {0}

  abbrev pub AreHonest : List Stands → Type 0
  AreHonest xs = All (λ (x : Stands). IsTrue (is_honest p w x.loosenings x.line.state x.line.does)) xs

  all-more : (xs : List Standing) (x : Standing) → AllOpen xs → IsTrue (is_open x.does) → AllOpen (xs ++ (x ∷ []))
  all-more [] x h o = (o, tt)
  all-more (y ∷ xs) x h o = (h.0, all-more xs x h.1 o)

  -- ---- a line of the main tree

  goes-on : (s : Loosenings) (lemmas pending : List State) (done : List Standing) → (Plan s → (first_crossed p ≡ None) × AllGood pending × AllOpen done) → Holds (tree_goes_on s lemmas pending done)
  goes-on s lemmas [] done h = λ q. (h q).2
  goes-on s lemmas (S ∷ pending) done h = λ q. let k = h q in (k.0, k.1.0, k.1.1, k.2)

  inside : (S T : State) → IsTrue (covers S T) → IsTrue (space_within S.space (root_space p)) → IsTrue (space_within T.space (root_space p))
  inside S T c h = space_through T.space S.space (root_space p) (both_true (space_within T.space S.space) (marks_within S.marks T.marks) c).0 h

  after : (s : Loosenings) (lemmas : List State) (S : State) (x : Standing) (pending : List State) (done : List Standing) (f : CertFault) (o : Option Left) →
      (Plan s → (first_crossed p ≡ None) × IsGood S × AllGood pending × AllOpen done) → LiesWithinIf S o → (Plan s → UprightIf (IsTrue (is_open x.does)) o) →
      IfOn Holds (after_rule o f x pending done (tree_goes_on s lemmas))
  after s lemmas S x pending done f None h c u = tt
  after s lemmas S x pending done f (Some closed) h c u = goes-on s lemmas pending done (λ q. let k = h q in (k.0, k.2, k.3))
  after s lemmas S x pending done f (Some stays) h c u = goes-on s lemmas pending (done ++ (x ∷ [])) (λ q. let k = h q in (k.0, k.2, all-more done x k.3 (u q)))
  after s lemmas S x pending done f (Some (one T)) h c u = goes-on s lemmas (T ∷ pending) done (λ q. let k = h q in (k.0, ((u q, inside S T c k.1.1), k.2), k.3))
  after s lemmas S x pending done f (Some (two T V)) h c u = goes-on s lemmas (T ∷ V ∷ pending) done
      (λ q. let k = h q in let v = u q in (k.0, ((v.0, inside S T c.0 k.1.1), ((v.1, inside S V c.1 k.1.1), k.2)), k.3))

  small : (s : Loosenings) (S : State) (l : Line) (j : ℕ) → l ≡ stuck j → IsTrue (is_honest p w s S l) → IsTrue (is_small w S.space)
  small s S l j e h = let k = subst (λ (x : Line). IsTrue (is_honest p w s S x)) e h in
      (both_true (not_shown p s S && settled p s S) (is_small w S.space) (both_true (not_shown p s S && settled p s S && is_small w S.space) (none_below p s S j) k).0).1

  named : (l : Line) (j : ℕ) → l ≡ stuck j → IsTrue (names_well p l) → j < length p.atoms
  named l j e h = ltb→lt j (length p.atoms) (passes _ (subst (λ (x : Line). IsTrue (names_well p x)) e h))

  tree-step : (s : Loosenings) (lemmas : List State) (S : State) (pending : List State) (done : List Standing) (l : Line) → (Plan s → (first_crossed p ≡ None) × IsGood S × AllGood pending × AllOpen done) →
      IsTrue (is_honest p w s S l) → IfOn Holds (tree_line p s lemmas S pending done l)
  tree-step s lemmas S pending done l h honest = go (names_well p l) refl
    where
      go : (t : Bool) → names_well p l ≡ t → IfOn Holds (ruled_line t (after_rule (rule p s lemmas S l) (RuleFails (word_of l)) (record { state = S; does = l }) pending done (tree_goes_on s lemmas)))
      go false e = tt
      go true e = after s lemmas S (record { state = S; does = l }) pending done (RuleFails (word_of l)) (rule p s lemmas S l) h (rule_within p g s lemmas S l)
          (λ q. let k = h q in rule_upright p s lemmas S k.1.0 l (IsTrue (is_open l)) (λ f. ap is_open f)
          (λ j f x. absurd (not_both (is_stuck_atom p s S j) x (nothing_is_stuck p g k.0 s w q S k.1.0 k.1.1 (small s S l j f honest) j (named l j f e)))))

  -- ---- any line

  given-holds : (t : Bool) (d : Due) (f : CertFault) → Holds d → IfOn Holds (given t d f)
  given-holds true d f h = h
  given-holds false d f h = tt

  axis-next : (s : Loosenings) (k : ℕ) (lemmas : List State) (axes : List Axis) (space : Space) → Holds (axis_next s k lemmas axes space)
  axis-next s k lemmas [] space = tt
  axis-next s k lemmas (a ∷ axes) space = tt

  coordinate-next : (s : Loosenings) (axes : List Axis) (space : Space) → Holds (coordinate_next s axes space)
  coordinate-next s [] space = λ q. tt
  coordinate-next s (a ∷ axes) space = tt

  axis-step : (s : Loosenings) (k : ℕ) (lemmas : List State) (a : Declared) (axes : List Axis) (space : Space) (l : CertLine) → IfOn Holds (axis_line p s k lemmas a axes space l)
  axis-step s k lemmas (real_between lo hi) axes space (real_interval l h) = given-holds (at_most (exact l) (exact h)) _ _ (axis-next s k lemmas axes _)
  axis-step s k lemmas any_bool axes space (bool_value v) = axis-next s k lemmas axes _
  axis-step s k lemmas any_bool axes space _ = tt
  axis-step s k lemmas (real_between lo hi) axes space _ = tt

  coordinate-step : (s : Loosenings) (a : Declared) (axes : List Axis) (space : Space) (l : CertLine) → IfOn Holds (coordinate_line s a axes space l)
  coordinate-step s (real_between lo hi) axes space (real_value v) = coordinate-next s axes _
  coordinate-step s any_bool axes space (bool_value says_both) = tt
  coordinate-step s any_bool axes space (bool_value says_false) = coordinate-next s axes _
  coordinate-step s any_bool axes space (bool_value says_true) = coordinate-next s axes _
  coordinate-step s any_bool axes space _ = tt
  coordinate-step s (real_between lo hi) axes space _ = tt

  lemma-goes-on : (s : Loosenings) (k : ℕ) (lemmas : List State) (L : State) (pending : List State) → Holds (lemma_goes_on s k lemmas L pending)
  lemma-goes-on s k lemmas L [] = tt
  lemma-goes-on s k lemmas L (S ∷ pending) = tt

  lemma-after : (s : Loosenings) (k : ℕ) (lemmas : List State) (L : State) (o : Option Left) (f : CertFault) (pending : List State) → IfOn Holds (after_lemma_rule o f pending (lemma_goes_on s k lemmas L))
  lemma-after s k lemmas L None f pending = tt
  lemma-after s k lemmas L (Some closed) f pending = lemma-goes-on s k lemmas L pending
  lemma-after s k lemmas L (Some stays) f pending = tt
  lemma-after s k lemmas L (Some (one S)) f pending = lemma-goes-on s k lemmas L (S ∷ pending)
  lemma-after s k lemmas L (Some (two S T)) f pending = lemma-goes-on s k lemmas L (S ∷ T ∷ pending)

  ruled : (t : Bool) (x : Next) → IfOn Holds x → IfOn Holds (ruled_line t x)
  ruled true x h = h
  ruled false x h = tt

  by-cond : (t : Bool) (x : Next) (f : CertFault) → IfOn Holds x → IfOn Holds (cond t x (faulty f))
  by-cond true x f h = h
  by-cond false x f h = tt

  first-crossing : (t : Bool) (x y : Next) → IfOn Holds x → IfOn Holds y → IfOn Holds (cond t x y)
  first-crossing true x y h k = h
  first-crossing false x y h k = k

  root-step : (s : Loosenings) (lemmas : List State) (l : Line) → AreHonest (at_root (is_crossed_box p) p s l) → IfOn Holds (root_line (is_crossed_box p) p s lemmas l)
  root-step s lemmas l h = go (is_crossed_box p) refl h
    where
      go : (t : Bool) → is_crossed_box p ≡ t → AreHonest (at_root t p s l) → IfOn Holds (root_line t p s lemmas l)
      go true e h = ruled (names_well p l) (faulty (RuleFails (word_of l))) tt
      go false e h =
          let n = uncrossed (first_crossed p) e in let u = root_is_upright p g (none-crossed 0 p.axes n) in
          tree-step s lemmas (root_state p) [] [] l (λ q. (n, (u.0, space_reflexive (root_space p)), tt, tt)) (h zero (stands s (root_state p) l) (omega arith))

  pub line_holds : (d : Due) (l : CertLine) → Holds d → AreHonest (stands_at p d (line l)) → IfOn Holds (next p b d l)
  line_holds version_due (version n) h k = given-holds _ (margin_due n) _ tt
  line_holds version_due _ h k = tt
  line_holds (margin_due v) (margin m) h k = tt
  line_holds (margin_due v) _ h k = tt
  line_holds (delta_due v m) (delta d) h k = given-holds _ _ _ tt
  line_holds (delta_due v m) _ h k = tt
  line_holds (bound_due s) (bound n) h k = given-holds _ (kind_due s) _ tt
  line_holds (bound_due s) _ h k = tt
  line_holds (kind_due s) (cover n) h k = given-holds _ (next_due s n []) _ tt
  line_holds (kind_due s) point_word h k = coordinate-next s p.axes []
  line_holds (kind_due s) _ h k = tt
  line_holds (next_due s n lemmas) (lemma i) h k = by-cond (nat_lt (length lemmas) n) _ _ (given-holds (nat_eq i (length lemmas)) (axis_next s n lemmas p.axes []) _ (axis-next s n lemmas p.axes []))
  line_holds (next_due s n lemmas) tree_word h k = given-holds _ (root_due s lemmas) _ tt
  line_holds (next_due s n lemmas) _ h k = tt
  line_holds (axis_due s n lemmas a axes space) l h k = axis-step s n lemmas a.declared axes space l
  line_holds (yes_due s n lemmas space) (yes_list js) h k = given-holds _ (no_due s n lemmas space js) _ tt
  line_holds (yes_due s n lemmas space) _ h k = tt
  line_holds (no_due s n lemmas space is) (no_list js) h k = given-holds _ _ _ tt
  line_holds (no_due s n lemmas space is) _ h k = tt
  line_holds (lemma_due s n lemmas L S pending) (rule_line l) h k = ruled (names_well p l) _ (lemma-after s n lemmas L (rule p s lemmas S l) _ pending)
  line_holds (lemma_due s n lemmas L S pending) _ h k = tt
  line_holds (root_due s lemmas) (crossing i) h k = first-crossing (crosses p i) (on (end_due s lemmas (left_open []))) (no_crossing p i) (λ q. tt) tt
  line_holds (root_due s lemmas) (rule_line l) h k = root-step s lemmas l k
  line_holds (root_due s lemmas) _ h k = tt
  line_holds (tree_due s lemmas S pending done) (rule_line l) h k = tree-step s lemmas S pending done l h (k zero (stands s S l) (omega arith))
  line_holds (tree_due s lemmas S pending done) _ h k = tt
  line_holds (coordinate_due s a axes space) l h k = coordinate-step s a.declared axes space l
  line_holds (end_due s lemmas v) end_word h k = given-holds (is_shown p s v) (nothing_due s lemmas v) _ h
  line_holds (end_due s lemmas v) _ h k = tt
  line_holds (nothing_due s lemmas v) _ h k = tt

  -- ---- all lines

  end-holds : (d : Due) (n : ℕ) → Holds d → IfAccepted (λ t v. Plan t → IsOpenValue v) (at_end d n)
  end-holds (nothing_due s lemmas v) n h = h
  end-holds _ n h = tt

  pub some_open : (left : List Standing) → AllOpen left → (left ≡ []) ⊎ IsTrue (has_open left)
  some_open [] h = inl refl
  some_open (x ∷ rest) h = inr (first (is_open x.does) (has_open rest) h.0)
    where
      first : (a c : Bool) → IsTrue a → IsTrue (a || c)
      first true c h = refl
      first false c h = absurd (true≢false (sym h))

  pub none_stuck : (cert : List ℕ) (s : Loosenings) (left : List Standing) → Plan s → IsAccepted p b cert s (left_open left) → IsHonest p b w cert → (left ≡ []) ⊎ IsTrue (has_open left)
  none_stuck cert s left q e a =
      let shown = honest_verdict (next p b) (stands_at p) (λ x. IsTrue (is_honest p w x.loosenings x.line.state x.line.does)) Holds line_holds (λ t v. Plan t → IsOpenValue v) at_end end-holds (nat_le (length cert) most_bytes) version_due tt cert a in
      some_open left (subst (λ (v : Verdict). IfAccepted (λ t u. Plan t → IsOpenValue u) v) e shown q)

pub leaves_none_stuck : LeavesNoneStuck
leaves_none_stuck p g given_bound cert s left bits plan e a = none_stuck p g given_bound bits cert s left plan e a

-- ---- the answer

pick : (t : Bool) (a c : List ℕ) → IsTrue t → cond t a c ≡ a
pick true a c e = refl
pick false a c e = absurd (true≢false (sym e))

pub text_of : (p : Problem) (budget : ℕ) (s : Loosenings) (left : List Standing) → (left ≡ []) ⊎ IsTrue (has_open left) →
    (solve_text p budget s (left_open left) ≡ unsat_text s) ⊎ (solve_text p budget s (left_open left) ≡ budget_text budget)
text_of p budget s [] h = inl refl
text_of p budget s (x ∷ rest) (inl e) = cc
text_of p budget s (x ∷ rest) (inr e) = inr (pick (has_open (x ∷ rest)) (budget_text budget) _ e)

pub never_answers_width : NeverAnswersWidth
never_answers_width p g given_bound cert s left bits budget plan e a = text_of p budget s left (leaves_none_stuck p g given_bound cert s left bits plan e a)
