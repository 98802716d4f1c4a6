-- Behind the first line of a certificate of a check its version is not due again, and its header stays one of a version before 5.
use Rattle.std.proofs.Common.{◌≡◌, ℕ, List, [], ◌∷◌, length, nat_eq, nat_lt, nat_le, eqb→eq, Bool, true, false, ◌||◌, cond, Option, Some, None, refl, ap, sym, subst}
use Rattle.std.specs.Bool.{passes}
use Rattle.interval_model.specs.Space.{Space}
use Rattle.poly_graph.specs.Problem.{Declared, real_between, any_bool, Axis, Problem, crosses}
use Rattle.cover_model.specs.State.{State, Loosenings}
use Rattle.cover_model.specs.Rules.{Left, closed, one, two, stays, Line}
use Rattle.cert_read.specs.CertLine.{CertLine, version, margin, delta, bound, cover, point_word, tree_word, end_word, lemma, real_interval, real_value, bool_value, says_both, says_true, says_false, yes_list, no_list, rule_line, crossing}
use Rattle.cert_model.specs.Due.{CertFault, BadHeader, BadNumber, Missing, WrongBound, Standing, left_open, Due, version_due, margin_due, delta_due, bound_due, kind_due, next_due, axis_due, yes_due, no_due, lemma_due, root_due, tree_due, coordinate_due, end_due, nothing_due, Next, on, faulty, given, same_bound, after_rule, after_lemma_rule, tree_goes_on, lemma_goes_on, axis_next, coordinate_next}
use Rattle.cert_model.specs.Accepted.{next, loosenings_fit, ruled_line, root_line, no_crossing, axis_line, coordinate_line}
use Rattle.cert_check.specs.Dues.{lean, lean_next}
use Rattle.cert_least.specs.Phases.{IsPlainDue}
use Rattle.cert_least.specs.Said.{IsOpenIn}

abbrev pub Behind : Next → Type 0
Behind (on d) = IsPlainDue d
Behind (faulty f) = Unit {0}

given-behind : (t : Bool) (d : Due) (f : CertFault) → IsPlainDue d → Behind (given t d f)
given-behind true d f h = h
given-behind false d f h = tt

cond-behind : (t : Bool) (x y : Next) → Behind x → Behind y → Behind (cond t x y)
cond-behind true x y g h = g
cond-behind false x y g h = h

axes-behind : (s : Loosenings) (k : ℕ) (lemmas : List State) (axes : List Axis) (space : Space) → IsPlainDue (axis_next s k lemmas axes space)
axes-behind s k lemmas [] space = tt
axes-behind s k lemmas (a ∷ axes) space = tt

point-behind : (s : Loosenings) (axes : List Axis) (space : Space) → IsPlainDue (coordinate_next s axes space)
point-behind s [] space = tt
point-behind s (a ∷ axes) space = tt

tree-behind : (s : Loosenings) (lemmas pending : List State) (done : List Standing) → IsPlainDue (tree_goes_on s lemmas pending done)
tree-behind s lemmas [] done = tt
tree-behind s lemmas (S ∷ pending) done = tt

lemma-behind : (s : Loosenings) (k : ℕ) (lemmas : List State) (L : State) (pending : List State) → IsPlainDue (lemma_goes_on s k lemmas L pending)
lemma-behind s k lemmas L [] = tt
lemma-behind s k lemmas L (S ∷ pending) = tt

rule-behind : (t : Bool) (o : Option Left) (f : CertFault) (x : Standing) (pending : List State) (done : List Standing) (s : Loosenings) (lemmas : List State) →
    Behind (ruled_line t (after_rule o f x pending done (tree_goes_on s lemmas)))
rule-behind false o f x pending done s lemmas = tt
rule-behind true None f x pending done s lemmas = tt
rule-behind true (Some closed) f x pending done s lemmas = tree-behind s lemmas pending done
rule-behind true (Some stays) f x pending done s lemmas = tree-behind s lemmas pending _
rule-behind true (Some (one S)) f x pending done s lemmas = tt
rule-behind true (Some (two S T)) f x pending done s lemmas = tt

lemma-rule-behind : (t : Bool) (o : Option Left) (f : CertFault) (pending : List State) (s : Loosenings) (k : ℕ) (lemmas : List State) (L : State) →
    Behind (ruled_line t (after_lemma_rule o f pending (lemma_goes_on s k lemmas L)))
lemma-rule-behind false o f pending s k lemmas L = tt
lemma-rule-behind true None f pending s k lemmas L = tt
lemma-rule-behind true (Some closed) f pending s k lemmas L = lemma-behind s k lemmas L pending
lemma-rule-behind true (Some stays) f pending s k lemmas L = tt
lemma-rule-behind true (Some (one S)) f pending s k lemmas L = tt
lemma-rule-behind true (Some (two S T)) f pending s k lemmas L = tt

fault-behind : (t : Bool) (f : CertFault) → Behind (ruled_line t (faulty f))
fault-behind true f = tt
fault-behind false f = tt

module _ (p : Problem) (b : Option ℕ) where
  axis-behind : (s : Loosenings) (k : ℕ) (lemmas : List State) (a : Declared) (axes : List Axis) (space : Space) (l : CertLine) → Behind (axis_line p s k lemmas a axes space l)
  axis-behind s k lemmas (real_between lo hi) axes space (real_interval l h) = given-behind _ _ _ (axes-behind s k lemmas axes _)
  axis-behind s k lemmas any_bool axes space (bool_value w) = axes-behind s k lemmas axes _
  axis-behind s k lemmas (real_between lo hi) axes space _ = tt
  axis-behind s k lemmas any_bool axes space _ = tt

  coordinate-behind : (s : Loosenings) (a : Declared) (axes : List Axis) (space : Space) (l : CertLine) → Behind (coordinate_line s a axes space l)
  coordinate-behind s (real_between lo hi) axes space (real_value v) = point-behind s axes _
  coordinate-behind s any_bool axes space (bool_value says_both) = tt
  coordinate-behind s any_bool axes space (bool_value says_false) = point-behind s axes _
  coordinate-behind s any_bool axes space (bool_value says_true) = point-behind s axes _
  coordinate-behind s (real_between lo hi) axes space _ = tt
  coordinate-behind s any_bool axes space _ = tt

  root-behind : (t : Bool) (s : Loosenings) (lemmas : List State) (l : Line) → Behind (root_line t p s lemmas l)
  root-behind true s lemmas l = fault-behind _ _
  root-behind false s lemmas l = rule-behind _ _ _ _ _ _ s lemmas

  -- behind a header
  pub kind_behind : (s : Loosenings) (l : CertLine) → Behind (next p b (kind_due s) l)
  kind_behind s (cover k) = given-behind _ _ BadHeader tt
  kind_behind s point_word = point-behind s p.axes []
  kind_behind s _ = tt

  delta-behind : (t : Bool) (v m d : ℕ) → nat_le 5 v ≡ false → Behind (given t (bound_due (record { margin_bits = m; delta_bits = d; version = v })) BadHeader)
  delta-behind true v m d h = h
  delta-behind false v m d h = tt

  -- behind the first line of a version before 5
  first-behind : (n : ℕ) → nat_eq n 5 ≡ false → (t : Bool) → nat_eq n 1 ≡ t → (u : Bool) → nat_eq n 2 ≡ u → Behind (given (t || u || nat_eq n 5) (margin_due n) BadHeader)
  first-behind n h true e u f = ap (nat_le 5) (eqb→eq n 1 (passes _ e))
  first-behind n h false e true f = ap (nat_le 5) (eqb→eq n 2 (passes _ f))
  first-behind n h false e false f = subst (λ (t : Bool). Behind (given t (margin_due n) BadHeader)) (sym h) (tt {0})

  pub version_behind : (l : CertLine) → IsOpenIn false l → Behind (next p b version_due l)
  version_behind (version n) h = first-behind n h (nat_eq n 1) refl (nat_eq n 2) refl
  version_behind _ h = tt

  pub next_behind : (d : Due) (l : CertLine) → IsPlainDue d → Behind (next p b d l)
  next_behind version_due l g = absurd g
  next_behind (margin_due v) (margin m) g = g
  next_behind (margin_due v) _ g = tt
  next_behind (delta_due v m) (delta d) g = delta-behind (loosenings_fit m d) v m d g
  next_behind (delta_due v m) _ g = tt
  next_behind (bound_due s) (bound n) g = given-behind (same_bound n b) (kind_due s) WrongBound g
  next_behind (bound_due s) _ g = tt
  next_behind (kind_due s) l g = kind_behind s l
  next_behind (next_due s k lemmas) (lemma i) g =
      let goes : Next = given (nat_eq i (length lemmas)) (axis_next s k lemmas p.axes []) BadNumber in
      cond-behind (nat_lt (length lemmas) k) goes (faulty Missing) (given-behind (nat_eq i (length lemmas)) (axis_next s k lemmas p.axes []) BadNumber (axes-behind s k lemmas p.axes [])) tt
  next_behind (next_due s k lemmas) tree_word g = given-behind _ _ _ tt
  next_behind (next_due s k lemmas) _ g = tt
  next_behind (axis_due s k lemmas a axes space) l g = axis-behind s k lemmas a.declared axes space l
  next_behind (yes_due s k lemmas space) (yes_list js) g = given-behind _ _ _ tt
  next_behind (yes_due s k lemmas space) _ g = tt
  next_behind (no_due s k lemmas space is) (no_list js) g = given-behind _ _ _ tt
  next_behind (no_due s k lemmas space is) _ g = tt
  next_behind (lemma_due s k lemmas L S pending) (rule_line l) g = lemma-rule-behind _ _ _ pending s k lemmas L
  next_behind (lemma_due s k lemmas L S pending) _ g = tt
  next_behind (root_due s lemmas) (crossing i) g = cond-behind (crosses p i) (on (end_due s lemmas (left_open []))) (no_crossing p i) tt tt
  next_behind (root_due s lemmas) (rule_line l) g = root-behind _ s lemmas l
  next_behind (root_due s lemmas) _ g = tt
  next_behind (tree_due s lemmas S pending done) (rule_line l) g = rule-behind _ _ _ _ pending done s lemmas
  next_behind (tree_due s lemmas S pending done) _ g = tt
  next_behind (coordinate_due s a axes space) l g = coordinate-behind s a.declared axes space l
  next_behind (end_due s lemmas v) end_word g = given-behind _ _ _ tt
  next_behind (end_due s lemmas v) _ g = tt
  next_behind (nothing_due s lemmas v) l g = tt

lean-behind : (d : Due) → IsPlainDue d → IsPlainDue (lean d)
lean-behind version_due h = h
lean-behind (tree_due s lemmas S pending done) h = h
lean-behind (end_due s lemmas v) h = h
lean-behind (nothing_due s lemmas v) h = h
lean-behind _ h = h

on-same : {d e : Due} → on d ≡ on e → d ≡ e
on-same e = cc

pub behind_lean : (x : Next) → Behind x → (d : Due) → lean_next x ≡ on d → IsPlainDue d
behind_lean (on d') h d e = subst IsPlainDue (on-same e) (lean-behind d' h)
behind_lean (faulty f) h d e = cc
