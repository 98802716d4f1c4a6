-- The same of a script with a goal: what is due under version 5 where something is due under version 4, or under that of its check.
use Rattle.std.proofs.Common.{◌≡◌, ◌≤◌, ℕ, suc, List, [], ◌∷◌, Bool, true, false, cond, Option, Some, None, refl, ap, sym, subst, arith}
use Rattle.dyadic.specs.Rounding.{Dyadic}
use Rattle.interval_model.specs.Space.{Space}
use Rattle.poly_graph.specs.Problem.{Problem}
use Rattle.cover_line.specs.Words.{word_of}
use Rattle.cover_model.specs.State.{Loosenings}
use Rattle.cover_model.specs.Rules.{has_version_5, Line, open_line}
use Rattle.cert_read.specs.CertLine.{CertLine, version, margin, delta, bound, lower, goal, cover, point_word, rule_line, over, Parsed, too_long, bad_line, bad_number, line, parsed}
use Rattle.cert_model.specs.Due.{CertFault, BadHeader, RuleFails, OverFails, WrongBound, Standing, at_point, left_open, Due, version_due, margin_due, delta_due, bound_due, kind_due, next_due, axis_due, yes_due, no_due, lemma_due, root_due, tree_due, coordinate_due, end_due, nothing_due, Next, on, faulty, given, is_version, same_bound, names_well}
use Rattle.cert_model.specs.Accepted.{next, loosenings_fit, ruled_line, stopped, reached, course_by, course_next, accepted, refused, cut_off}
use Rattle.cert_model.specs.Least.{is_over, LeastDue, header_due, lower_due, cover_due, in_cover_due, covered_due, in_point_due, shown_due, in_header, in_cover, in_point, searched, can_limit, tree_space, over_line, leaves_open, leaf_line, is_least_version, GoalDue, plain_due, least_due, GoalNext, as_plain, as_least, goal_next, goal_step, GoalCourse, goal_course, GoalVerdict, goal_at_end, goal_ended}
use Rattle.cert_model.proofs.Invariant.{IfOn}
use Rattle.cert_model.proofs.Header.{Fits, FitsDue, next_fits, version_limits}
use Rattle.cert_upgrade.proofs.Raised.{in_version_5, raised, IsPast, IsEarlier, Raises, next-raises}
use Rattle.cert_upgrade.specs.Upgraded.{newest_line, behind_first}

-- The header of version 5 is that of the script's check; so far it does not tell which of both it is.
abbrev pub raised_least : LeastDue → GoalDue
raised_least (header_due d) = plain_due (raised d)
raised_least (lower_due s) = plain_due (kind_due (in_version_5 s))
raised_least (cover_due s low bits) = least_due (cover_due (in_version_5 s) low bits)
raised_least (in_cover_due low bits d) = least_due (in_cover_due low bits (raised d))
raised_least (covered_due s low left) = least_due (covered_due (in_version_5 s) low left)
raised_least (in_point_due low left d) = least_due (in_point_due low left (raised d))
raised_least (shown_due s x) = least_due (shown_due (in_version_5 s) x)

abbrev pub raised_goal : GoalDue → GoalDue
raised_goal (plain_due d) = plain_due (raised d)
raised_goal (least_due d) = raised_least d

-- due in a header, behind its version
abbrev IsInHeader : Due → Type 0
IsInHeader (margin_due v) = Unit {0}
IsInHeader (delta_due v m) = Unit {0}
IsInHeader (bound_due s) = Unit {0}
IsInHeader d = ⊥

-- the first line was taken, and the version is an earlier one
abbrev ReadyLeast : LeastDue → Type 0
ReadyLeast (header_due d) = IsInHeader d × FitsDue IsEarlier d
ReadyLeast (lower_due s) = Fits IsEarlier (Some s)
ReadyLeast (cover_due s low bits) = Fits IsEarlier (Some s)
ReadyLeast (in_cover_due low bits d) = IsPast d × FitsDue IsEarlier d
ReadyLeast (covered_due s low left) = Fits IsEarlier (Some s)
ReadyLeast (in_point_due low left d) = IsPast d × FitsDue IsEarlier d
ReadyLeast (shown_due s x) = Fits IsEarlier (Some s)

abbrev Ready : GoalDue → Type 0
Ready (plain_due d) = IsPast d × FitsDue IsEarlier d
Ready (least_due d) = ReadyLeast d

-- where the one goes on, so does the other
abbrev RaisesGoal : GoalNext → GoalNext → Type 0
RaisesGoal (faulty f) y = Unit {0}
RaisesGoal (on d) y = (y ≡ on (raised_goal d)) × Ready d

cond-goal : (t : Bool) (x x' y y' : GoalNext) → RaisesGoal x y → RaisesGoal x' y' → RaisesGoal (cond t x x') (cond t y y')
cond-goal true x x' y y' h k = h
cond-goal false x x' y y' h k = k

-- ---- what is taken as of one check

plain-raises : (x y : Next) → Raises x y → IfOn (FitsDue IsEarlier) x → RaisesGoal (as_plain x) (as_plain y)
plain-raises (faulty f) y h i = tt
plain-raises (on d) y h i = (ap as_plain h.0, (h.1, i))

module _ (low : Option Dyadic) (bits : Option ℕ) where
  abbrev covers : Next → GoalNext
  covers x = as_least (in_cover low bits x)

  cover-same : (d : Due) → IsPast d → FitsDue IsEarlier d → RaisesGoal (covers (on d)) (covers (on (raised d)))
  cover-same version_due past f = absurd past
  cover-same (nothing_due s lemmas (left_open left)) past f = (refl, f)
  cover-same (nothing_due s lemmas (at_point space)) past f = (refl, (tt, f))
  cover-same (margin_due v) past f = (refl, (tt, f))
  cover-same (delta_due v m) past f = (refl, (tt, f))
  cover-same (bound_due s) past f = (refl, (tt, f))
  cover-same (kind_due s) past f = (refl, (tt, f))
  cover-same (next_due s k lemmas) past f = (refl, (tt, f))
  cover-same (axis_due s k lemmas a axes space) past f = (refl, (tt, f))
  cover-same (yes_due s k lemmas space) past f = (refl, (tt, f))
  cover-same (no_due s k lemmas space js) past f = (refl, (tt, f))
  cover-same (lemma_due s k lemmas L S pending) past f = (refl, (tt, f))
  cover-same (root_due s lemmas) past f = (refl, (tt, f))
  cover-same (tree_due s lemmas S pending done) past f = (refl, (tt, f))
  cover-same (coordinate_due s a axes space) past f = (refl, (tt, f))
  cover-same (end_due s lemmas v) past f = (refl, (tt, f))

  cover-raises : (x y : Next) → Raises x y → IfOn (FitsDue IsEarlier) x → RaisesGoal (covers x) (covers y)
  cover-raises (faulty f) y h i = tt
  cover-raises (on d) y h i = subst (λ (z : Next). RaisesGoal (covers (on d)) (covers z)) (sym h.0) (cover-same d h.1 i)

module _ (low : Option Dyadic) (left : List Standing) where
  abbrev points : Next → GoalNext
  points x = as_least (in_point low left x)

  point-same : (d : Due) → IsPast d → FitsDue IsEarlier d → RaisesGoal (points (on d)) (points (on (raised d)))
  point-same version_due past f = absurd past
  point-same (nothing_due s lemmas (left_open rest)) past f = (refl, (tt, f))
  point-same (nothing_due s lemmas (at_point space)) past f = (refl, f)
  point-same (margin_due v) past f = (refl, (tt, f))
  point-same (delta_due v m) past f = (refl, (tt, f))
  point-same (bound_due s) past f = (refl, (tt, f))
  point-same (kind_due s) past f = (refl, (tt, f))
  point-same (next_due s k lemmas) past f = (refl, (tt, f))
  point-same (axis_due s k lemmas a axes space) past f = (refl, (tt, f))
  point-same (yes_due s k lemmas space) past f = (refl, (tt, f))
  point-same (no_due s k lemmas space js) past f = (refl, (tt, f))
  point-same (lemma_due s k lemmas L S pending) past f = (refl, (tt, f))
  point-same (root_due s lemmas) past f = (refl, (tt, f))
  point-same (tree_due s lemmas S pending done) past f = (refl, (tt, f))
  point-same (coordinate_due s a axes space) past f = (refl, (tt, f))
  point-same (end_due s lemmas v) past f = (refl, (tt, f))

  point-raises : (x y : Next) → Raises x y → IfOn (FitsDue IsEarlier) x → RaisesGoal (points x) (points y)
  point-raises (faulty f) y h i = tt
  point-raises (on d) y h i = subst (λ (z : Next). RaisesGoal (points (on d)) (points z)) (sym h.0) (point-same d h.1 i)

-- ---- a line of a cover

module _ (q : Problem) (g : ℕ) (b : Option ℕ) (low : Option Dyadic) (bits : Option ℕ) where
  tree-line : (d : Due) (l : CertLine) → IsPast d → FitsDue IsEarlier d → RaisesGoal (covers low bits (next q b d l)) (covers low bits (next q b (raised d) l))
  tree-line d l past f = cover-raises low bits (next q b d l) (next q b (raised d) l) (next-raises q b d l past f) (next_fits IsEarlier q b d l f)

  space-same : (d : Due) → tree_space q (raised d) ≡ tree_space q d
  space-same version_due = refl
  space-same (margin_due v) = refl
  space-same (delta_due v m) = refl
  space-same (bound_due s) = refl
  space-same (kind_due s) = refl
  space-same (next_due s k lemmas) = refl
  space-same (axis_due s k lemmas a axes space) = refl
  space-same (yes_due s k lemmas space) = refl
  space-same (no_due s k lemmas space js) = refl
  space-same (lemma_due s k lemmas L S pending) = refl
  space-same (root_due s lemmas) = refl
  space-same (tree_due s lemmas S pending done) = refl
  space-same (coordinate_due s a axes space) = refl
  space-same (end_due s lemmas v) = refl
  space-same (nothing_due s lemmas v) = refl

  over-at : (o : Option Space) (d : Due) → IsPast d → FitsDue IsEarlier d → RaisesGoal (as_least (over_line q b g low bits d o)) (as_least (over_line q b g low bits (raised d) o))
  over-at None d past f = tree-line d over past f
  over-at (Some space) d past f = by (is_over q g low space)
    where
      by : (t : Bool) → RaisesGoal (as_least (cond t (in_cover low bits (next q b d (rule_line open_line))) (faulty OverFails)))
          (as_least (cond t (in_cover low bits (next q b (raised d) (rule_line open_line))) (faulty OverFails)))
      by true = tree-line d (rule_line open_line) past f
      by false = tt

  no-leaf : (t : Bool) (f : CertFault) (y : GoalNext) → RaisesGoal (covers low bits (ruled_line t (faulty f))) y
  no-leaf true f y = tt
  no-leaf false f y = tt

  leaf-at : (o : Option Space) (d : Due) (l : Line) → IsPast d → FitsDue IsEarlier d → RaisesGoal (as_least (leaf_line q b low bits d l o)) (as_least (leaf_line q b low bits (raised d) l o))
  leaf-at None d l past f = tree-line d (rule_line l) past f
  leaf-at (Some space) d l past f = no-leaf (names_well q l) (RuleFails (word_of l)) (covers low bits (ruled_line (names_well q l) (faulty (RuleFails (word_of l)))))

  rule-by : (t : Bool) (d : Due) (l : Line) → IsPast d → FitsDue IsEarlier d →
      RaisesGoal (as_least (cond t (leaf_line q b low bits d l (tree_space q d)) (in_cover low bits (next q b d (rule_line l)))))
      (as_least (cond t (leaf_line q b low bits (raised d) l (tree_space q (raised d))) (in_cover low bits (next q b (raised d) (rule_line l)))))
  rule-by true d l past f =
      subst (λ (o : Option Space). RaisesGoal (as_least (leaf_line q b low bits d l (tree_space q d))) (as_least (leaf_line q b low bits (raised d) l o)))
      (sym (space-same d)) (leaf-at (tree_space q d) d l past f)
  rule-by false d l past f = tree-line d (rule_line l) past f

  over-raises : (d : Due) → IsPast d → FitsDue IsEarlier d →
      RaisesGoal (as_least (over_line q b g low bits d (tree_space q d))) (as_least (over_line q b g low bits (raised d) (tree_space q (raised d))))
  over-raises d past f =
      subst (λ (o : Option Space). RaisesGoal (as_least (over_line q b g low bits d (tree_space q d))) (as_least (over_line q b g low bits (raised d) o)))
      (sym (space-same d)) (over-at (tree_space q d) d past f)

-- ---- one line

delta-raises : (t : Bool) (v m d : ℕ) → IsEarlier v → (t ≡ loosenings_fit m d) →
    RaisesGoal (as_least (in_header (given t (bound_due (record { margin_bits = m; delta_bits = d; version = v })) BadHeader)))
    (as_plain (given t (bound_due (record { margin_bits = m; delta_bits = d; version = 5 })) BadHeader))
delta-raises true v m d early e = (refl, (tt, (early, sym e)))
delta-raises false v m d early e = tt

bound-raises : (t : Bool) (s : Loosenings) → Fits IsEarlier (Some s) →
    RaisesGoal (as_least (in_header (given t (kind_due s) WrongBound))) (as_plain (given t (kind_due (in_version_5 s)) WrongBound))
bound-raises true s f = (refl, f)
bound-raises false s f = tt

lower-raises : (t : Bool) (s : Loosenings) (low : Option Dyadic) → Fits IsEarlier (Some s) →
    RaisesGoal (cond t (on (least_due (cover_due s low None))) (faulty BadHeader)) (on (least_due (cover_due (in_version_5 s) low None)))
lower-raises true s low f = (refl, f)
lower-raises false s low f = tt

limit-raises : (t : Bool) (s : Loosenings) (low : Option Dyadic) (k : ℕ) → Fits IsEarlier (Some s) →
    RaisesGoal (as_least (cond t (on (cover_due s low (Some k))) (faulty BadHeader))) (as_least (cond t (on (cover_due (in_version_5 s) low (Some k))) (faulty BadHeader)))
limit-raises true s low k f = (refl, f)
limit-raises false s low k f = tt

module _ (p : Problem) (g : ℕ) (room : Bool) (b : Option ℕ) where
  one-raises : (d : Due) (l : CertLine) → IsPast d → FitsDue IsEarlier d → RaisesGoal (as_plain (next p b d l)) (as_plain (next p b (raised d) l))
  one-raises d l past f = plain-raises (next p b d l) (next p b (raised d) l) (next-raises p b d l past f) (next_fits IsEarlier p b d l f)

  goal-raises : (d : GoalDue) (l : CertLine) → Ready d → RaisesGoal (goal_next p g room b d l) (goal_next p g room b (raised_goal d) l)
  goal-raises (plain_due version_due) l r = absurd r.0
  goal-raises (plain_due (kind_due s)) (lower low) r = lower-raises (has_version_5 s) s low r.1
  goal-raises (plain_due d) l r = one-raises d l r.0 r.1
  goal-raises (least_due (header_due (margin_due v))) (margin m) r = (refl, (tt, r.1))
  goal-raises (least_due (header_due (margin_due v))) _ r = tt
  goal-raises (least_due (header_due (delta_due v m))) (delta d) r = delta-raises (loosenings_fit m d) v m d r.1 refl
  goal-raises (least_due (header_due (delta_due v m))) _ r = tt
  goal-raises (least_due (header_due (bound_due s))) (bound n) r = bound-raises (same_bound n b) s r.1
  goal-raises (least_due (header_due (bound_due s))) _ r = tt
  goal-raises (least_due (header_due d)) l r = absurd r.0
  goal-raises (least_due (lower_due s)) (lower low) r = (refl, r)
  goal-raises (least_due (lower_due s)) _ r = tt
  goal-raises (least_due (cover_due s low None)) (goal k) r = limit-raises (can_limit p room low k) s low k r
  goal-raises (least_due (cover_due s low bits)) (cover n) r =
      let q = searched p g low bits in
      cover-raises low bits (next q b (kind_due s) (cover n)) (next q b (kind_due (in_version_5 s)) (cover n))
      (next-raises q b (kind_due s) (cover n) tt r) (next_fits IsEarlier q b (kind_due s) (cover n) r)
  goal-raises (least_due (cover_due s low bits)) _ r = tt
  goal-raises (least_due (in_cover_due low bits d)) over r = over-raises (searched p g low bits) g b low bits d r.0 r.1
  goal-raises (least_due (in_cover_due low bits d)) (rule_line l) r = rule-by (searched p g low bits) g b low bits (leaves_open l) d l r.0 r.1
  goal-raises (least_due (in_cover_due low bits d)) l r = tree-line (searched p g low bits) g b low bits d l r.0 r.1
  goal-raises (least_due (covered_due s low left)) point_word r =
      point-raises low left (next p b (kind_due s) point_word) (next p b (kind_due (in_version_5 s)) point_word)
      (next-raises p b (kind_due s) point_word tt r) (next_fits IsEarlier p b (kind_due s) point_word r)
  goal-raises (least_due (covered_due s low left)) _ r = tt
  goal-raises (least_due (in_point_due low left d)) l r =
      point-raises low left (next p b d l) (next p b (raised d) l) (next-raises p b d l r.0 r.1) (next_fits IsEarlier p b d l r.1)
  goal-raises (least_due (shown_due s x)) l r = tt

  parsed-raises : (d : GoalDue) (x : Parsed) → Ready d → RaisesGoal (goal_step p g room b d x) (goal_step p g room b (raised_goal d) x)
  parsed-raises d too_long r = tt
  parsed-raises d bad_line r = tt
  parsed-raises d bad_number r = tt
  parsed-raises d (line l) r = goal-raises d l r

  -- ---- all lines

  -- where the one is accepted, so is the other
  abbrev pub RaisesValue : GoalVerdict → GoalVerdict → Type 0
  RaisesValue (accepted s v) y = y ≡ accepted (in_version_5 s) v
  RaisesValue (refused f n) y = Unit {0}

  end-raises : (d : GoalDue) (n m : ℕ) → RaisesValue (goal_at_end d n) (goal_at_end (raised_goal d) m)
  end-raises (plain_due (nothing_due s lemmas v)) n m = refl
  end-raises (least_due (covered_due s low left)) n m = refl
  end-raises (least_due (shown_due s x)) n m = refl
  end-raises _ n m = tt

  abbrev course_from : ℕ → GoalDue → List (List ℕ) → GoalCourse
  course_from n d ls = course_by (goal_step p g room b) n d ls

  on-raises : (x y : GoalNext) (n m : ℕ) (k k' : GoalDue → GoalCourse) → RaisesGoal x y → ((d : GoalDue) → Ready d → RaisesValue (goal_ended (k d)) (goal_ended (k' (raised_goal d)))) →
      RaisesValue (goal_ended (course_next x n k)) (goal_ended (course_next y m k'))
  on-raises (faulty f) y n m k k' h up = tt
  on-raises (on d) y n m k k' h up = subst (λ (z : GoalNext). RaisesValue (goal_ended (k d)) (goal_ended (course_next z m k'))) (sym h.0) (up d h.1)

  course-raises : (ls : List (List ℕ)) (n : ℕ) (d : GoalDue) → Ready d → RaisesValue (goal_ended (course_from n d ls)) (goal_ended (course_from n (raised_goal d) ls))
  course-raises [] n d r = end-raises d n n
  course-raises (l ∷ ls) n d r =
      on-raises (goal_step p g room b d (parsed l)) (goal_step p g room b (raised_goal d) (parsed l)) (suc n) (suc n) _ _ (parsed-raises d (parsed l) r) (λ d' r'. course-raises ls (suc n) d' r')

  abbrev Upgrades : GoalNext → List (List ℕ) → Type 0
  Upgrades x ls = RaisesValue (goal_ended (course_next x 1 (λ d. course_from 1 d ls))) (goal_ended (course_from 1 (plain_due (margin_due 5)) ls))

  version-raises : (t u : Bool) (v : ℕ) → is_version v ≡ u → (ls : List (List ℕ)) → Upgrades (cond t (on (least_due (header_due (margin_due 2)))) (as_plain (given u (margin_due v) BadHeader))) ls
  version-raises true u v e ls = let two : 2 ≤ 5 = omega arith in course-raises ls 1 (least_due (header_due (margin_due 2))) (tt, two)
  version-raises false true v e ls = course-raises ls 1 (plain_due (margin_due v)) (tt, (version_limits v e).1)
  version-raises false false v e ls = tt

  line-raises : (l : CertLine) (ls : List (List ℕ)) → Upgrades (goal_next p g room b (plain_due version_due) l) ls
  line-raises (version v) ls = version-raises (is_least_version v) (is_version v) v refl ls
  line-raises _ ls = tt

  first-raises : (x : Parsed) (ls : List (List ℕ)) → Upgrades (goal_step p g room b (plain_due version_due) x) ls
  first-raises too_long ls = tt
  first-raises bad_line ls = tt
  first-raises bad_number ls = tt
  first-raises (line l) ls = line-raises l ls

  -- the lines of an upgraded certificate are accepted where the lines are
  pub lines_raise : (ls : List (List ℕ)) → RaisesValue (goal_ended (goal_course p g room b ls)) (goal_ended (goal_course p g room b (newest_line ∷ behind_first ls)))
  lines_raise [] = tt
  lines_raise (l ∷ ls) = first-raises (parsed l) ls

  pub cut_raises : (c : GoalCourse) (y : GoalVerdict) → RaisesValue (cut_off c) y
  cut_raises (stopped f n) y = tt
  cut_raises (reached d n) y = tt
