-- The version, margin and delta of an accepted certificate's header.
use Rattle.std.proofs.Common.{◌≡◌, ℕ, ◌<◌, ◌≤◌, List, [], ◌∷◌, ◌++◌, Bool, true, false, ◌&&◌, ◌||◌, cond, IsTrue, Option, Some, None, refl, sym, subst, nat_eq, nat_lt, nat_le, length, arith, true≢false, ltb→lt, leb→le, eqb→eq}
use Rattle.std.specs.Bool.{passes}
use Rattle.dyadic.proofs.Equal.{both_true}
use Rattle.poly_graph.specs.Problem.{Declared, real_between, any_bool, Axis, Problem, crosses}
use Rattle.cover_model.specs.State.{State, Loosenings, root_state}
use Rattle.interval_model.specs.Space.{Space}
use Rattle.cover_model.specs.Rules.{Left, closed, one, two, stays, rule, Line}
use Rattle.cover_line.specs.Words.{word_of}
use Rattle.cert_read.specs.CertLine.{CertLine, version, margin, delta, bound, cover, point_word, tree_word, end_word, lemma, real_interval, real_value, bool_value, says_false, says_true, yes_list, no_list, rule_line, crossing}
use Rattle.cert_model.specs.Due.{CertFault, BadHeader, RuleFails, Standing, Value, Due, version_due, margin_due, delta_due, bound_due, kind_due, next_due, axis_due, yes_due, no_due, lemma_due, root_due, tree_due, coordinate_due, end_due, nothing_due, Next, on, faulty, given, is_version, names_well, after_rule, after_lemma_rule, tree_goes_on, lemma_goes_on, axis_next, coordinate_next, is_crossed_box, is_shown, same_bound}
use Rattle.cert_model.specs.Accepted.{next, loosenings_fit, ruled_line, tree_line, root_line, axis_line, coordinate_line, IsAccepted, most_lemmas}
use Rattle.cert_model.proofs.Invariant.{IfOn, given_on, holds_at_end}

-- a version that is read
pub version_limits : (v : ℕ) → IsTrue (is_version v) → (1 ≤ v) × (v ≤ 5)
version_limits v h = by (nat_eq v 1) refl (nat_eq v 2) refl (nat_eq v 5) refl h
  where
    is : (n : ℕ) → nat_eq v n ≡ true → v ≡ n
    is n e = eqb→eq v n (passes _ e)

    by : (t : Bool) → nat_eq v 1 ≡ t → (u : Bool) → nat_eq v 2 ≡ u → (w : Bool) → nat_eq v 5 ≡ w → IsTrue (t || u || w) → (1 ≤ v) × (v ≤ 5)
    by true e u f w g h = let k = is 1 e in (omega (arith, k), omega (arith, k))
    by false e true f w g h = let k = is 2 f in (omega (arith, k), omega (arith, k))
    by false e false f true g h = let k = is 5 g in (omega (arith, k), omega (arith, k))
    by false e false f false g h = absurd (true≢false (sym h))

-- the margin and delta of what is due, where they are known
abbrev pub known : Due → Option Loosenings
known (bound_due s) = Some s
known (kind_due s) = Some s
known (next_due s k lemmas) = Some s
known (axis_due s k lemmas a axes space) = Some s
known (yes_due s k lemmas space) = Some s
known (no_due s k lemmas space js) = Some s
known (lemma_due s k lemmas L S pending) = Some s
known (root_due s lemmas) = Some s
known (tree_due s lemmas S pending done) = Some s
known (coordinate_due s a axes space) = Some s
known (end_due s lemmas v) = Some s
known (nothing_due s lemmas v) = Some s
known d = None

-- they stay as they are
abbrev pub Same : Loosenings → Next → Type 0
Same s x = IfOn (λ d. known d ≡ Some s) x

given-same : (s : Loosenings) (t : Bool) (d : Due) (f : CertFault) → known d ≡ Some s → Same s (given t d f)
given-same s true d f h = h
given-same s false d f h = tt

cond-same : (s : Loosenings) (t : Bool) (x y : Next) → Same s x → Same s y → Same s (cond t x y)
cond-same s true x y h k = h
cond-same s false x y h k = k

ruled-same : (s : Loosenings) (t : Bool) (x : Next) → Same s x → Same s (ruled_line t x)
ruled-same s true x h = h
ruled-same s false x h = tt

module _ (p : Problem) (b : Option ℕ) (s : Loosenings) where
  axis-same : (k : ℕ) (lemmas : List State) (axes : List Axis) (space : Space) → known (axis_next s k lemmas axes space) ≡ Some s
  axis-same k lemmas [] space = refl
  axis-same k lemmas (a ∷ axes) space = refl

  coordinate-same : (axes : List Axis) (space : Space) → known (coordinate_next s axes space) ≡ Some s
  coordinate-same [] space = refl
  coordinate-same (a ∷ axes) space = refl

  lemma-same : (k : ℕ) (lemmas : List State) (L : State) (pending : List State) → known (lemma_goes_on s k lemmas L pending) ≡ Some s
  lemma-same k lemmas L [] = refl
  lemma-same k lemmas L (S ∷ pending) = refl

  tree-same : (lemmas pending : List State) (done : List Standing) → known (tree_goes_on s lemmas pending done) ≡ Some s
  tree-same lemmas [] done = refl
  tree-same lemmas (S ∷ pending) done = refl

  after-lemma : (o : Option Left) (f : CertFault) (k : ℕ) (lemmas : List State) (L : State) (pending : List State) → Same s (after_lemma_rule o f pending (lemma_goes_on s k lemmas L))
  after-lemma None f k lemmas L pending = tt
  after-lemma (Some closed) f k lemmas L pending = lemma-same k lemmas L pending
  after-lemma (Some stays) f k lemmas L pending = tt
  after-lemma (Some (one S')) f k lemmas L pending = refl
  after-lemma (Some (two S' S'')) f k lemmas L pending = refl

  after-tree : (o : Option Left) (f : CertFault) (x : Standing) (lemmas pending : List State) (done : List Standing) → Same s (after_rule o f x pending done (tree_goes_on s lemmas))
  after-tree None f x lemmas pending done = tt
  after-tree (Some closed) f x lemmas pending done = tree-same lemmas pending done
  after-tree (Some stays) f x lemmas pending done = tree-same lemmas pending (done ++ (x ∷ []))
  after-tree (Some (one S')) f x lemmas pending done = refl
  after-tree (Some (two S' S'')) f x lemmas pending done = refl

  tree-line : (lemmas : List State) (S : State) (pending : List State) (done : List Standing) (l : Line) → Same s (tree_line p s lemmas S pending done l)
  tree-line lemmas S pending done l = ruled-same s (names_well p l) _ (after-tree (rule p s lemmas S l) (RuleFails (word_of l)) (record { state = S; does = l }) lemmas pending done)

  root-line : (t : Bool) (lemmas : List State) (l : Line) → Same s (root_line t p s lemmas l)
  root-line true lemmas l = ruled-same s (names_well p l) (faulty (RuleFails (word_of l))) (tt {0})
  root-line false lemmas l = tree-line lemmas (root_state p) [] [] l

  axis-line : (k : ℕ) (lemmas : List State) (a : Declared) (axes : List Axis) (space : Space) (l : CertLine) → Same s (axis_line p s k lemmas a axes space l)
  axis-line k lemmas (real_between lo hi) axes space (real_interval l u) = given-same s _ (axis_next s k lemmas axes _) _ (axis-same k lemmas axes _)
  axis-line k lemmas any_bool axes space (bool_value w) = axis-same k lemmas axes _
  axis-line k lemmas _ axes space _ = tt

  coordinate-line : (a : Declared) (axes : List Axis) (space : Space) (l : CertLine) → Same s (coordinate_line s a axes space l)
  coordinate-line (real_between lo hi) axes space (real_value v) = coordinate-same axes _
  coordinate-line any_bool axes space (bool_value says_false) = coordinate-same axes _
  coordinate-line any_bool axes space (bool_value says_true) = coordinate-same axes _
  coordinate-line _ axes space _ = tt

-- of what comes next, where the margin and delta are known
abbrev pub AllSame : Option Loosenings → Next → Type 0
AllSame None x = Unit {0}
AllSame (Some s) x = Same s x

module _ (p : Problem) (b : Option ℕ) where
  pub next_same : (d : Due) (l : CertLine) → AllSame (known d) (next p b d l)
  next_same version_due l = tt
  next_same (margin_due v) l = tt
  next_same (delta_due v m) l = tt
  next_same (bound_due s) (bound n) = given-same s (same_bound n b) (kind_due s) _ refl
  next_same (bound_due s) _ = tt
  next_same (kind_due s) (cover k) = given-same s (nat_le k most_lemmas) (next_due s k []) _ refl
  next_same (kind_due s) point_word = coordinate-same p b s p.axes []
  next_same (kind_due s) _ = tt
  next_same (next_due s k lemmas) (lemma i) = cond-same s (nat_lt (length lemmas) k) _ _ (given-same s (nat_eq i (length lemmas)) (axis_next s k lemmas p.axes []) _ (axis-same p b s k lemmas p.axes [])) (tt {0})
  next_same (next_due s k lemmas) tree_word = given-same s (nat_eq (length lemmas) k) (root_due s lemmas) _ refl
  next_same (next_due s k lemmas) _ = tt
  next_same (axis_due s k lemmas a axes space) l = axis-line p b s k lemmas a.declared axes space l
  next_same (yes_due s k lemmas space) (yes_list js) = given-same s _ (no_due s k lemmas space js) _ refl
  next_same (yes_due s k lemmas space) _ = tt
  next_same (no_due s k lemmas space is) (no_list js) = given-same s _ (lemma_due s k lemmas _ _ []) _ refl
  next_same (no_due s k lemmas space is) _ = tt
  next_same (lemma_due s k lemmas L S pending) (rule_line l) = ruled-same s (names_well p l) _ (after-lemma p b s (rule p s lemmas S l) (RuleFails (word_of l)) k lemmas L pending)
  next_same (lemma_due s k lemmas L S pending) _ = tt
  next_same (root_due s lemmas) (crossing i) = cond-same s (crosses p i) (on (end_due s lemmas _)) _ refl (tt {0})
  next_same (root_due s lemmas) (rule_line l) = root-line p b s (is_crossed_box p) lemmas l
  next_same (root_due s lemmas) _ = tt
  next_same (tree_due s lemmas S pending done) (rule_line l) = tree-line p b s lemmas S pending done l
  next_same (tree_due s lemmas S pending done) _ = tt
  next_same (coordinate_due s a axes space) l = coordinate-line p b s a.declared axes space l
  next_same (end_due s lemmas v) end_word = given-same s (is_shown p s v) (nothing_due s lemmas v) _ refl
  next_same (end_due s lemmas v) _ = tt
  next_same (nothing_due s lemmas v) _ = tt

-- limits of the loosenings, by a condition on the version
module _ (V : ℕ → Type 0) where
  abbrev pub Fits : Option Loosenings → Type 0
  Fits None = Unit {0}
  Fits (Some s) = V s.version × IsTrue (loosenings_fit s.margin_bits s.delta_bits)

  -- where the version alone is known, the condition holds of it; and of each version that is read
  abbrev pub FitsDue : Due → Type 0
  FitsDue version_due = (v : ℕ) → IsTrue (is_version v) → V v
  FitsDue (margin_due v) = V v
  FitsDue (delta_due v m) = V v
  FitsDue d = Fits (known d)

  -- what is due where the loosenings are known fits where they do
  due-fits : (s : Loosenings) (d : Due) → known d ≡ Some s → Fits (Some s) → FitsDue d
  due-fits s version_due e h = cc
  due-fits s (margin_due v) e h = cc
  due-fits s (delta_due v m) e h = cc
  due-fits s (bound_due t) e h = subst Fits (sym e) h
  due-fits s (kind_due t) e h = subst Fits (sym e) h
  due-fits s (next_due t k lemmas) e h = subst Fits (sym e) h
  due-fits s (axis_due t k lemmas a axes space) e h = subst Fits (sym e) h
  due-fits s (yes_due t k lemmas space) e h = subst Fits (sym e) h
  due-fits s (no_due t k lemmas space js) e h = subst Fits (sym e) h
  due-fits s (lemma_due t k lemmas L S pending) e h = subst Fits (sym e) h
  due-fits s (root_due t lemmas) e h = subst Fits (sym e) h
  due-fits s (tree_due t lemmas S pending done) e h = subst Fits (sym e) h
  due-fits s (coordinate_due t a axes space) e h = subst Fits (sym e) h
  due-fits s (end_due t lemmas v) e h = subst Fits (sym e) h
  due-fits s (nothing_due t lemmas v) e h = subst Fits (sym e) h

  keep-fit : (s : Loosenings) (x : Next) → Same s x → Fits (Some s) → IfOn FitsDue x
  keep-fit s (on d) e h = due-fits s d e h
  keep-fit s (faulty f) e h = tt

  module _ (p : Problem) (b : Option ℕ) where
    pub next_fits : (d : Due) (l : CertLine) → FitsDue d → IfOn FitsDue (next p b d l)
    next_fits version_due (version n) h = given_on FitsDue (is_version n) (margin_due n) BadHeader (λ e. h n e)
    next_fits version_due _ h = tt
    next_fits (margin_due v) (margin m) h = h
    next_fits (margin_due v) _ h = tt
    next_fits (delta_due v m) (delta n) h = given_on FitsDue (loosenings_fit m n) (bound_due (record { margin_bits = m; delta_bits = n; version = v })) BadHeader (λ e. (h, e))
    next_fits (delta_due v m) _ h = tt
    next_fits (bound_due s) l h = keep-fit s (next p b (bound_due s) l) (next_same p b (bound_due s) l) h
    next_fits (kind_due s) l h = keep-fit s (next p b (kind_due s) l) (next_same p b (kind_due s) l) h
    next_fits (next_due s k lemmas) l h = keep-fit s (next p b (next_due s k lemmas) l) (next_same p b (next_due s k lemmas) l) h
    next_fits (axis_due s k lemmas a axes space) l h = keep-fit s (next p b (axis_due s k lemmas a axes space) l) (next_same p b (axis_due s k lemmas a axes space) l) h
    next_fits (yes_due s k lemmas space) l h = keep-fit s (next p b (yes_due s k lemmas space) l) (next_same p b (yes_due s k lemmas space) l) h
    next_fits (no_due s k lemmas space js) l h = keep-fit s (next p b (no_due s k lemmas space js) l) (next_same p b (no_due s k lemmas space js) l) h
    next_fits (lemma_due s k lemmas L S pending) l h = keep-fit s (next p b (lemma_due s k lemmas L S pending) l) (next_same p b (lemma_due s k lemmas L S pending) l) h
    next_fits (root_due s lemmas) l h = keep-fit s (next p b (root_due s lemmas) l) (next_same p b (root_due s lemmas) l) h
    next_fits (tree_due s lemmas S pending done) l h = keep-fit s (next p b (tree_due s lemmas S pending done) l) (next_same p b (tree_due s lemmas S pending done) l) h
    next_fits (coordinate_due s a axes space) l h = keep-fit s (next p b (coordinate_due s a axes space) l) (next_same p b (coordinate_due s a axes space) l) h
    next_fits (end_due s lemmas v) l h = keep-fit s (next p b (end_due s lemmas v) l) (next_same p b (end_due s lemmas v) l) h
    next_fits (nothing_due s lemmas v) l h = keep-fit s (next p b (nothing_due s lemmas v) l) (next_same p b (nothing_due s lemmas v) l) h

pub loosening_limits : (m d : ℕ) → IsTrue (loosenings_fit m d) → (1 ≤ d) × (d ≤ 30) × (d < m) × (m ≤ 60)
loosening_limits m d h =
    let x = both_true (nat_le 1 d && nat_le d 30 && nat_lt d m) (nat_le m 60) h in
    let y = both_true (nat_le 1 d && nat_le d 30) (nat_lt d m) x.0 in
    let z = both_true (nat_le 1 d) (nat_le d 30) y.0 in
    (leb→le 1 d (passes _ z.0), leb→le d 30 (passes _ z.1), ltb→lt d m (passes _ y.1), leb→le m 60 (passes _ x.1))

-- the header of accepted bytes
pub accepted_fits : (p : Problem) (b : Option ℕ) (bytes : List ℕ) (s : Loosenings) (v : Value) → IsAccepted p b bytes s v → IsTrue (is_version s.version) × IsTrue (loosenings_fit s.margin_bits s.delta_bits)
accepted_fits p b bytes s v e = (holds_at_end p b (FitsDue (λ v. IsTrue (is_version v))) (λ v h. h) (next_fits (λ v. IsTrue (is_version v)) p b) bytes s v e).1

-- the version, margin and delta of accepted bytes are in their limits
pub header_fits : (p : Problem) (b : Option ℕ) (bytes : List ℕ) (s : Loosenings) (v : Value) → IsAccepted p b bytes s v →
    (1 ≤ s.delta_bits) × (s.delta_bits ≤ 30) × (s.delta_bits < s.margin_bits) × (s.margin_bits ≤ 60) × IsTrue (is_version s.version)
header_fits p b bytes s v e =
    let all = accepted_fits p b bytes s v e in
    let h = loosening_limits s.margin_bits s.delta_bits all.1 in
    (h.0, h.1, h.2, h.3, all.0)
