-- What is due under version 5 where something is due under an earlier version: a line that is taken under it is taken under
-- version 5, and leads to the same.
use Rattle.std.proofs.Common.{◌≡◌, ◌≤◌, ℕ, suc, List, [], ◌∷◌, ◌++◌, Bool, true, false, cond, Option, Some, None, refl, ap, sym, subst, length, nat_eq, nat_lt, nat_le}
use Rattle.poly_graph.specs.Problem.{Declared, real_between, any_bool, Axis, Problem, crosses}
use Rattle.cover_model.specs.State.{State, Loosenings, in_version, root_state}
use Rattle.interval_model.specs.Space.{Space}
use Rattle.cover_model.specs.Rules.{Line, Left, closed, one, two, stays, rule}
use Rattle.cover_line.specs.Words.{word_of}
use Rattle.cert_read.specs.CertLine.{CertLine, version, margin, delta, bound, cover, point_word, tree_word, end_word, lemma, real_interval, real_value, bool_value, says_false, says_true, yes_list, no_list, rule_line, crossing, Parsed, too_long, bad_line, bad_number, line, parsed}
use Rattle.cert_model.specs.Due.{CertFault, BadHeader, BadNumber, WrongBound, Missing, NotShown, RuleFails, Standing, left_open, Due, version_due, margin_due, delta_due, bound_due, kind_due, next_due, axis_due, yes_due, no_due, lemma_due, root_due, tree_due, coordinate_due, end_due, nothing_due, Next, on, faulty, given, is_version, names_well, after_rule, after_lemma_rule, tree_goes_on, lemma_goes_on, axis_next, coordinate_next, is_crossed_box, is_shown, same_bound}
use Rattle.cert_model.specs.Accepted.{next, next_parsed, loosenings_fit, ruled_line, lemma_line, tree_line, root_line, no_crossing, axis_line, coordinate_line, most_lemmas, Course, stopped, reached, course_next, course, Verdict, accepted, refused, at_end, ended, cut_off}
use Rattle.cover_model.proofs.Later.{rule_later}
use Rattle.cert_model.proofs.Invariant.{IfOn}
use Rattle.cert_model.proofs.Header.{FitsDue, next_fits, version_limits}
use Rattle.cert_upgrade.specs.Upgraded.{newest_line, behind_first}

abbrev pub in_version_5 : Loosenings → Loosenings
in_version_5 s = in_version 5 s

-- the same under version 5
abbrev pub raised : Due → Due
raised version_due = version_due
raised (margin_due v) = margin_due 5
raised (delta_due v m) = delta_due 5 m
raised (bound_due s) = bound_due (in_version_5 s)
raised (kind_due s) = kind_due (in_version_5 s)
raised (next_due s k lemmas) = next_due (in_version_5 s) k lemmas
raised (axis_due s k lemmas a axes space) = axis_due (in_version_5 s) k lemmas a axes space
raised (yes_due s k lemmas space) = yes_due (in_version_5 s) k lemmas space
raised (no_due s k lemmas space js) = no_due (in_version_5 s) k lemmas space js
raised (lemma_due s k lemmas L S pending) = lemma_due (in_version_5 s) k lemmas L S pending
raised (root_due s lemmas) = root_due (in_version_5 s) lemmas
raised (tree_due s lemmas S pending done) = tree_due (in_version_5 s) lemmas S pending done
raised (coordinate_due s a axes space) = coordinate_due (in_version_5 s) a axes space
raised (end_due s lemmas v) = end_due (in_version_5 s) lemmas v
raised (nothing_due s lemmas v) = nothing_due (in_version_5 s) lemmas v

-- the first line was taken
abbrev pub IsPast : Due → Type 0
IsPast version_due = ⊥
IsPast d = Unit {0}

-- where the one goes on, so does the other
abbrev pub Raises : Next → Next → Type 0
Raises (faulty f) y = Unit {0}
Raises (on d) y = (y ≡ on (raised d)) × IsPast d

given-raises : (t : Bool) (d e : Due) (f g : CertFault) → e ≡ raised d → IsPast d → Raises (given t d f) (given t e g)
given-raises true d e f g h k = (ap on h, k)
given-raises false d e f g h k = tt

cond-raises : (t : Bool) (x y x' y' : Next) → Raises x x' → Raises y y' → Raises (cond t x y) (cond t x' y')
cond-raises true x y x' y' h k = h
cond-raises false x y x' y' h k = k

ruled-raises : (t : Bool) (x y : Next) → Raises x y → Raises (ruled_line t x) (ruled_line t y)
ruled-raises true x y h = h
ruled-raises false x y h = tt

-- ---- rules

-- where the one leaves something, the other leaves the same
abbrev RaisesLeft : Option Left → Option Left → Type 0
RaisesLeft None y = Unit {0}
RaisesLeft (Some x) y = y ≡ Some x

same-left : (o : Option Left) → RaisesLeft o o
same-left None = tt
same-left (Some x) = refl

-- a version that is read
abbrev pub IsEarlier : ℕ → Type 0
IsEarlier v = v ≤ 5

module _ (p : Problem) (s : Loosenings) (earlier : IsEarlier s.version) where
  rule-raises : (lemmas : List State) (S : State) (l : Line) → RaisesLeft (rule p s lemmas S l) (rule p (in_version_5 s) lemmas S l)
  rule-raises lemmas S l = go (rule p s lemmas S l) refl
    where
      go : (o : Option Left) → rule p s lemmas S l ≡ o → RaisesLeft o (rule p (in_version_5 s) lemmas S l)
      go None e = tt
      go (Some x) e = rule_later p s 5 earlier lemmas S l x e

  -- ---- what comes of a line

  axis-raises : (k : ℕ) (lemmas : List State) (axes : List Axis) (space : Space) → Raises (on (axis_next s k lemmas axes space)) (on (axis_next (in_version_5 s) k lemmas axes space))
  axis-raises k lemmas [] space = (refl, tt)
  axis-raises k lemmas (a ∷ axes) space = (refl, tt)

  axis-given : (t : Bool) (f : CertFault) (k : ℕ) (lemmas : List State) (axes : List Axis) (space : Space) →
      Raises (given t (axis_next s k lemmas axes space) f) (given t (axis_next (in_version_5 s) k lemmas axes space) f)
  axis-given true f k lemmas axes space = axis-raises k lemmas axes space
  axis-given false f k lemmas axes space = tt

  coordinate-raises : (axes : List Axis) (space : Space) → Raises (on (coordinate_next s axes space)) (on (coordinate_next (in_version_5 s) axes space))
  coordinate-raises [] space = (refl, tt)
  coordinate-raises (a ∷ axes) space = (refl, tt)

  lemma-raises : (k : ℕ) (lemmas : List State) (L : State) (pending : List State) → Raises (on (lemma_goes_on s k lemmas L pending)) (on (lemma_goes_on (in_version_5 s) k lemmas L pending))
  lemma-raises k lemmas L [] = (refl, tt)
  lemma-raises k lemmas L (S ∷ pending) = (refl, tt)

  tree-raises : (lemmas pending : List State) (done : List Standing) → Raises (on (tree_goes_on s lemmas pending done)) (on (tree_goes_on (in_version_5 s) lemmas pending done))
  tree-raises lemmas [] done = (refl, tt)
  tree-raises lemmas (S ∷ pending) done = (refl, tt)

  after-lemma-same : (o : Option Left) (f : CertFault) (k : ℕ) (lemmas : List State) (L : State) (pending : List State) →
      Raises (after_lemma_rule o f pending (lemma_goes_on s k lemmas L)) (after_lemma_rule o f pending (lemma_goes_on (in_version_5 s) k lemmas L))
  after-lemma-same None f k lemmas L pending = tt
  after-lemma-same (Some closed) f k lemmas L pending = lemma-raises k lemmas L pending
  after-lemma-same (Some stays) f k lemmas L pending = tt
  after-lemma-same (Some (one S')) f k lemmas L pending = (refl, tt)
  after-lemma-same (Some (two S' S'')) f k lemmas L pending = (refl, tt)

  after-lemma : (o o' : Option Left) → RaisesLeft o o' → (f : CertFault) (k : ℕ) (lemmas : List State) (L : State) (pending : List State) →
      Raises (after_lemma_rule o f pending (lemma_goes_on s k lemmas L)) (after_lemma_rule o' f pending (lemma_goes_on (in_version_5 s) k lemmas L))
  after-lemma None o' h f k lemmas L pending = tt
  after-lemma (Some x) o' h f k lemmas L pending =
      subst (λ (y : Option Left). Raises (after_lemma_rule (Some x) f pending (lemma_goes_on s k lemmas L)) (after_lemma_rule y f pending (lemma_goes_on (in_version_5 s) k lemmas L)))
      (sym h) (after-lemma-same (Some x) f k lemmas L pending)

  after-tree-same : (o : Option Left) (f : CertFault) (x : Standing) (lemmas pending : List State) (done : List Standing) →
      Raises (after_rule o f x pending done (tree_goes_on s lemmas)) (after_rule o f x pending done (tree_goes_on (in_version_5 s) lemmas))
  after-tree-same None f x lemmas pending done = tt
  after-tree-same (Some closed) f x lemmas pending done = tree-raises lemmas pending done
  after-tree-same (Some stays) f x lemmas pending done = tree-raises lemmas pending (done ++ (x ∷ []))
  after-tree-same (Some (one S')) f x lemmas pending done = (refl, tt)
  after-tree-same (Some (two S' S'')) f x lemmas pending done = (refl, tt)

  after-tree : (o o' : Option Left) → RaisesLeft o o' → (f : CertFault) (x : Standing) (lemmas pending : List State) (done : List Standing) →
      Raises (after_rule o f x pending done (tree_goes_on s lemmas)) (after_rule o' f x pending done (tree_goes_on (in_version_5 s) lemmas))
  after-tree None o' h f x lemmas pending done = tt
  after-tree (Some l) o' h f x lemmas pending done =
      subst (λ (y : Option Left). Raises (after_rule (Some l) f x pending done (tree_goes_on s lemmas)) (after_rule y f x pending done (tree_goes_on (in_version_5 s) lemmas)))
      (sym h) (after-tree-same (Some l) f x lemmas pending done)

  lemma-line : (k : ℕ) (lemmas : List State) (L S : State) (pending : List State) (l : Line) →
      Raises (lemma_line p s k lemmas L S pending l) (lemma_line p (in_version_5 s) k lemmas L S pending l)
  lemma-line k lemmas L S pending l = ruled-raises (names_well p l) _ _
      (after-lemma (rule p s lemmas S l) (rule p (in_version_5 s) lemmas S l) (rule-raises lemmas S l) (RuleFails (word_of l)) k lemmas L pending)

  tree-line : (lemmas : List State) (S : State) (pending : List State) (done : List Standing) (l : Line) →
      Raises (tree_line p s lemmas S pending done l) (tree_line p (in_version_5 s) lemmas S pending done l)
  tree-line lemmas S pending done l = ruled-raises (names_well p l) _ _
      (after-tree (rule p s lemmas S l) (rule p (in_version_5 s) lemmas S l) (rule-raises lemmas S l) (RuleFails (word_of l))
      (record { state = S; does = l }) lemmas pending done)

  root-line : (t : Bool) (lemmas : List State) (l : Line) → Raises (root_line t p s lemmas l) (root_line t p (in_version_5 s) lemmas l)
  root-line true lemmas l = ruled-raises (names_well p l) (faulty (RuleFails (word_of l))) (faulty (RuleFails (word_of l))) (tt {0})
  root-line false lemmas l = tree-line lemmas (root_state p) [] [] l

  axis-line : (k : ℕ) (lemmas : List State) (a : Declared) (axes : List Axis) (space : Space) (l : CertLine) →
      Raises (axis_line p s k lemmas a axes space l) (axis_line p (in_version_5 s) k lemmas a axes space l)
  axis-line k lemmas (real_between lo hi) axes space (real_interval l u) = axis-given _ BadNumber k lemmas axes _
  axis-line k lemmas any_bool axes space (bool_value w) = axis-raises k lemmas axes _
  axis-line k lemmas _ axes space _ = tt

  coordinate-line : (a : Declared) (axes : List Axis) (space : Space) (l : CertLine) → Raises (coordinate_line s a axes space l) (coordinate_line (in_version_5 s) a axes space l)
  coordinate-line (real_between lo hi) axes space (real_value v) = coordinate-raises axes _
  coordinate-line any_bool axes space (bool_value says_false) = coordinate-raises axes _
  coordinate-line any_bool axes space (bool_value says_true) = coordinate-raises axes _
  coordinate-line _ axes space _ = tt

module _ (p : Problem) (b : Option ℕ) where
  pub next-raises : (d : Due) (l : CertLine) → IsPast d → FitsDue IsEarlier d → Raises (next p b d l) (next p b (raised d) l)
  next-raises version_due l past f = absurd past
  next-raises (margin_due v) (margin m) past f = (refl, tt)
  next-raises (margin_due v) _ past f = tt
  next-raises (delta_due v m) (delta d) past f = given-raises (loosenings_fit m d) (bound_due (record { margin_bits = m; delta_bits = d; version = v })) (bound_due (record { margin_bits = m; delta_bits = d; version = 5 })) BadHeader BadHeader refl tt
  next-raises (delta_due v m) _ past f = tt
  next-raises (bound_due s) (bound n) past f = given-raises (same_bound n b) (kind_due s) (kind_due (in_version_5 s)) WrongBound WrongBound refl tt
  next-raises (bound_due s) _ past f = tt
  next-raises (kind_due s) (cover k) past f = given-raises (nat_le k most_lemmas) (next_due s k []) (next_due (in_version_5 s) k []) BadHeader BadHeader refl tt
  next-raises (kind_due s) point_word past f = coordinate-raises p s f.0 p.axes []
  next-raises (kind_due s) _ past f = tt
  next-raises (next_due s k lemmas) (lemma i) past f = cond-raises (nat_lt (length lemmas) k) _ (faulty Missing) _ (faulty Missing) (axis-given p s f.0 (nat_eq i (length lemmas)) BadNumber k lemmas p.axes []) (tt {0})
  next-raises (next_due s k lemmas) tree_word past f = given-raises (nat_eq (length lemmas) k) (root_due s lemmas) (root_due (in_version_5 s) lemmas) Missing Missing refl tt
  next-raises (next_due s k lemmas) _ past f = tt
  next-raises (axis_due s k lemmas a axes space) l past f = axis-line p s f.0 k lemmas a.declared axes space l
  next-raises (yes_due s k lemmas space) (yes_list js) past f = given-raises _ (no_due s k lemmas space js) (no_due (in_version_5 s) k lemmas space js) BadNumber BadNumber refl tt
  next-raises (yes_due s k lemmas space) _ past f = tt
  next-raises (no_due s k lemmas space is) (no_list js) past f = given-raises _ (lemma_due s k lemmas _ _ []) (lemma_due (in_version_5 s) k lemmas _ _ []) BadNumber BadNumber refl tt
  next-raises (no_due s k lemmas space is) _ past f = tt
  next-raises (lemma_due s k lemmas L S pending) (rule_line l) past f = lemma-line p s f.0 k lemmas L S pending l
  next-raises (lemma_due s k lemmas L S pending) _ past f = tt
  next-raises (root_due s lemmas) (crossing i) past f = cond-raises (crosses p i) (on (end_due s lemmas (left_open []))) (no_crossing p i) (on (end_due (in_version_5 s) lemmas (left_open []))) (no_crossing p i) (refl, tt) (tt {0})
  next-raises (root_due s lemmas) (rule_line l) past f = root-line p s f.0 (is_crossed_box p) lemmas l
  next-raises (root_due s lemmas) _ past f = tt
  next-raises (tree_due s lemmas S pending done) (rule_line l) past f = tree-line p s f.0 lemmas S pending done l
  next-raises (tree_due s lemmas S pending done) _ past f = tt
  next-raises (coordinate_due s a axes space) l past f = coordinate-line p s f.0 a.declared axes space l
  next-raises (end_due s lemmas v) end_word past f = given-raises (is_shown p s v) (nothing_due s lemmas v) (nothing_due (in_version_5 s) lemmas v) NotShown NotShown refl tt
  next-raises (end_due s lemmas v) _ past f = tt
  next-raises (nothing_due s lemmas v) _ past f = tt

  parsed-raises : (d : Due) (l : Parsed) → IsPast d → FitsDue IsEarlier d → Raises (next_parsed p b d l) (next_parsed p b (raised d) l)
  parsed-raises d too_long past f = tt
  parsed-raises d bad_line past f = tt
  parsed-raises d bad_number past f = tt
  parsed-raises d (line l) past f = next-raises d l past f

  parsed-fits : (d : Due) (l : Parsed) → FitsDue IsEarlier d → IfOn (FitsDue IsEarlier) (next_parsed p b d l)
  parsed-fits d too_long f = tt
  parsed-fits d bad_line f = tt
  parsed-fits d bad_number f = tt
  parsed-fits d (line l) f = next_fits IsEarlier p b d l f

  -- ---- all lines

  -- where the one is accepted, so is the other
  abbrev pub RaisesVerdict : Verdict → Verdict → Type 0
  RaisesVerdict (accepted s v) y = y ≡ accepted (in_version_5 s) v
  RaisesVerdict (refused f n) y = Unit {0}

  end-raises : (d : Due) (n m : ℕ) → RaisesVerdict (at_end d n) (at_end (raised d) m)
  end-raises (nothing_due s lemmas v) n m = refl
  end-raises _ n m = tt

  on-raises : (x y : Next) (n m : ℕ) (k k' : Due → Course) → Raises x y → IfOn (FitsDue IsEarlier) x → ((d : Due) → IsPast d → FitsDue IsEarlier d → RaisesVerdict (ended (k d)) (ended (k' (raised d)))) →
      RaisesVerdict (ended (course_next x n k)) (ended (course_next y m k'))
  on-raises (faulty f) y n m k k' h i g = tt
  on-raises (on d) y n m k k' h i g = subst (λ (z : Next). RaisesVerdict (ended (k d)) (ended (course_next z m k'))) (sym h.0) (g d h.1 i)

  course-raises : (ls : List (List ℕ)) (n : ℕ) (d : Due) → IsPast d → FitsDue IsEarlier d → RaisesVerdict (ended (course p b n d ls)) (ended (course p b n (raised d) ls))
  course-raises [] n d past f = end-raises d n n
  course-raises (l ∷ ls) n d past f =
      on-raises (next_parsed p b d (parsed l)) (next_parsed p b (raised d) (parsed l)) (suc n) (suc n) _ _ (parsed-raises d (parsed l) past f) (parsed-fits d (parsed l) f) (λ d' past' f'. course-raises ls (suc n) d' past' f')

  -- the header's first line is taken
  version-raises : (t : Bool) (v : ℕ) → is_version v ≡ t → (ls : List (List ℕ)) → RaisesVerdict (ended (course_next (given t (margin_due v) BadHeader) 1 (λ d. course p b 1 d ls))) (ended (course p b 1 (margin_due 5) ls))
  version-raises true v e ls = course-raises ls 1 (margin_due v) tt (version_limits v e).1
  version-raises false v e ls = tt

  line-raises : (l : CertLine) (ls : List (List ℕ)) → RaisesVerdict (ended (course_next (next p b version_due l) 1 (λ d. course p b 1 d ls))) (ended (course p b 1 (margin_due 5) ls))
  line-raises (version v) ls = version-raises (is_version v) v refl ls
  line-raises _ ls = tt

  first-raises : (x : Parsed) (ls : List (List ℕ)) → RaisesVerdict (ended (course_next (next_parsed p b version_due x) 1 (λ d. course p b 1 d ls))) (ended (course p b 1 (margin_due 5) ls))
  first-raises too_long ls = tt
  first-raises bad_line ls = tt
  first-raises bad_number ls = tt
  first-raises (line l) ls = line-raises l ls

  -- the lines of an upgraded certificate are accepted where the lines are
  pub lines_raise : (ls : List (List ℕ)) → RaisesVerdict (ended (course p b 0 version_due ls)) (ended (course p b 0 version_due (newest_line ∷ behind_first ls)))
  lines_raise [] = tt
  lines_raise (l ∷ ls) = first-raises (parsed l) ls

  -- a certificate that is too long is refused
  pub cut_raises : (c : Course) (y : Verdict) → RaisesVerdict (cut_off c) y
  cut_raises (stopped f n) y = tt
  cut_raises (reached d n) y = tt
