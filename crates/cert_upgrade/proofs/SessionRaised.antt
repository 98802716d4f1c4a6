-- The same of certificates of several checks: what is due under version 5 where something is due under version 3.
use Rattle.std.proofs.Common.{◌≡◌, ◌≤◌, ℕ, suc, List, [], ◌∷◌, ◌++◌, Bool, true, false, ◌&&◌, Option, Some, refl, ap, sym, subst, length, take, nat_eq, nat_le, IsTrue, ◌||◌, eqb→eq, arith, true≢false}
use Rattle.std.specs.Bool.{passes}
use Rattle.poly_graph.specs.Problem.{Problem}
use Rattle.cover_model.specs.State.{State, Loosenings}
use Rattle.cert_read.specs.CertLine.{CertLine, version, checks, cover, keep, point_word, Parsed, too_long, bad_line, bad_number, line, parsed}
use Rattle.cert_model.specs.Due.{CertFault, BadHeader, KeepFails, Extra, Value, Due, version_due, margin_due, delta_due, bound_due, kind_due, next_due, axis_due, yes_due, no_due, lemma_due, root_due, tree_due, coordinate_due, end_due, nothing_due, Next, on, faulty, given}
use Rattle.cert_model.specs.Accepted.{next, most_lemmas, stopped, reached, course_by, course_next, accepted, refused, cut_off}
use Rattle.cert_model.specs.Session.{Part, SessionDue, header_due, checks_due, part_due, keep_due, first_due, inside_due, all_done, SessionNext, is_session_version, first_part, next_part, in_header, inside, in_part, none_complete, session_next, session_step, session_start, SessionCourse, session_course, SessionVerdict, session_at_end, session_ended}
use Rattle.cert_model.proofs.Invariant.{IfOn}
use Rattle.cert_model.proofs.Header.{Fits, FitsDue, next_fits}
use Rattle.cert_upgrade.proofs.Raised.{in_version_5, raised, IsPast, IsEarlier, Raises, next-raises}
use Rattle.cert_upgrade.specs.Upgraded.{newest_line, behind_first}

abbrev pub raised_session : SessionDue → SessionDue
raised_session (header_due d) = header_due (raised d)
raised_session (checks_due s) = checks_due (in_version_5 s)
raised_session (part_due s t) = part_due (in_version_5 s) t
raised_session (keep_due s k t) = keep_due (in_version_5 s) k t
raised_session (first_due s k kept t) = first_due (in_version_5 s) k kept t
raised_session (inside_due t d) = inside_due t (raised d)
raised_session (all_done s values) = all_done (in_version_5 s) values

-- the first line was taken, and the version is an earlier one
abbrev Ready : SessionDue → Type 0
Ready (header_due d) = IsPast d × FitsDue IsEarlier d
Ready (checks_due s) = Fits IsEarlier (Some s)
Ready (part_due s t) = Fits IsEarlier (Some s)
Ready (keep_due s k t) = Fits IsEarlier (Some s)
Ready (first_due s k kept t) = Fits IsEarlier (Some s)
Ready (inside_due t d) = IsPast d × FitsDue IsEarlier d
Ready (all_done s values) = Fits IsEarlier (Some s)

-- where the one goes on, so does the other
abbrev RaisesSession : SessionNext → SessionNext → Type 0
RaisesSession (faulty f) y = Unit {0}
RaisesSession (on d) y = (y ≡ on (raised_session d)) × Ready d

given-session : (t : Bool) (d e : SessionDue) (f g : CertFault) → e ≡ raised_session d → Ready d → RaisesSession (given t d f) (given t e g)
given-session true d e f g h k = (ap on h, k)
given-session false d e f g h k = tt

-- ---- what is taken as of one check

header-same : (d : Due) → IsPast d → FitsDue IsEarlier d → RaisesSession (in_header (on d)) (in_header (on (raised d)))
header-same version_due past f = absurd past
header-same (kind_due s) past f = (refl, f)
header-same (margin_due v) past f = (refl, (tt, f))
header-same (delta_due v m) past f = (refl, (tt, f))
header-same (bound_due s) past f = (refl, (tt, f))
header-same (next_due s k lemmas) past f = (refl, (tt, f))
header-same (axis_due s k lemmas a axes space) past f = (refl, (tt, f))
header-same (yes_due s k lemmas space) past f = (refl, (tt, f))
header-same (no_due s k lemmas space js) past f = (refl, (tt, f))
header-same (lemma_due s k lemmas L S pending) past f = (refl, (tt, f))
header-same (root_due s lemmas) past f = (refl, (tt, f))
header-same (tree_due s lemmas S pending done) past f = (refl, (tt, f))
header-same (coordinate_due s a axes space) past f = (refl, (tt, f))
header-same (end_due s lemmas v) past f = (refl, (tt, f))
header-same (nothing_due s lemmas v) past f = (refl, (tt, f))

header-raises : (x y : Next) → Raises x y → IfOn (FitsDue IsEarlier) x → RaisesSession (in_header x) (in_header y)
header-raises (faulty f) y h i = tt
header-raises (on d) y h i = subst (λ (z : Next). RaisesSession (in_header (on d)) (in_header z)) (sym h.0) (header-same d h.1 i)

part-after : (s : Loosenings) (p : Problem) (lemmas : List State) (values : List Value) (later : List (Problem × Bool)) → Fits IsEarlier (Some s) →
    (next_part (in_version_5 s) p lemmas values later ≡ raised_session (next_part s p lemmas values later)) × Ready (next_part s p lemmas values later)
part-after s p lemmas values [] f = (refl, f)
part-after s p lemmas values ((q, e) ∷ later) f = (refl, f)

inside-same : (t : Part) (d : Due) → IsPast d → FitsDue IsEarlier d → (inside t (raised d) ≡ raised_session (inside t d)) × Ready (inside t d)
inside-same t version_due past f = absurd past
inside-same t (nothing_due s lemmas v) past f = part-after s t.problem lemmas (t.values ++ (v ∷ [])) t.later f
inside-same t (margin_due v) past f = (refl, (tt, f))
inside-same t (delta_due v m) past f = (refl, (tt, f))
inside-same t (bound_due s) past f = (refl, (tt, f))
inside-same t (kind_due s) past f = (refl, (tt, f))
inside-same t (next_due s k lemmas) past f = (refl, (tt, f))
inside-same t (axis_due s k lemmas a axes space) past f = (refl, (tt, f))
inside-same t (yes_due s k lemmas space) past f = (refl, (tt, f))
inside-same t (no_due s k lemmas space js) past f = (refl, (tt, f))
inside-same t (lemma_due s k lemmas L S pending) past f = (refl, (tt, f))
inside-same t (root_due s lemmas) past f = (refl, (tt, f))
inside-same t (tree_due s lemmas S pending done) past f = (refl, (tt, f))
inside-same t (coordinate_due s a axes space) past f = (refl, (tt, f))
inside-same t (end_due s lemmas v) past f = (refl, (tt, f))

part-raises : (t : Part) (x y : Next) → Raises x y → IfOn (FitsDue IsEarlier) x → RaisesSession (in_part t x) (in_part t y)
part-raises t (faulty f) y h i = tt
part-raises t (on d) y h i = subst (λ (z : Next). RaisesSession (in_part t (on d)) (in_part t z)) (sym h.0) (let k = inside-same t d h.1 i in (ap on k.0, k.1))

complete-raises : (x y : Next) → Raises x y → Raises (none_complete x) (none_complete y)
complete-raises (on d) y h = (ap none_complete h.0, h.1)
complete-raises (faulty Extra) y h = tt
complete-raises (faulty _) y h = tt

complete-fits : (x : Next) → IfOn (FitsDue IsEarlier) x → IfOn (FitsDue IsEarlier) (none_complete x)
complete-fits (on d) h = h
complete-fits (faulty Extra) h = tt
complete-fits (faulty _) h = tt

-- a session's version
session-early : (v : ℕ) → IsTrue (is_session_version v) → IsEarlier v
session-early v h = by (nat_eq v 3) refl (nat_eq v 5) refl h
  where
    is : (n : ℕ) → nat_eq v n ≡ true → v ≡ n
    is n e = eqb→eq v n (passes _ e)

    by : (t : Bool) → nat_eq v 3 ≡ t → (u : Bool) → nat_eq v 5 ≡ u → IsTrue (t || u) → v ≤ 5
    by true e u f h = let k = is 3 e in omega (arith, k)
    by false e true f h = let k = is 5 f in omega (arith, k)
    by false e false f h = absurd (true≢false (sym h))

-- ---- one line

module _ (p : Problem) (later : List (Problem × Bool)) (b : Option ℕ) where
  session-raises : (d : SessionDue) (l : CertLine) → Ready d → RaisesSession (session_next p later b d l) (session_next p later b (raised_session d) l)
  session-raises (header_due version_due) l r = absurd r.0
  session-raises (header_due (margin_due v)) l r = header-raises (next p b (margin_due v) l) (next p b (margin_due 5) l) (next-raises p b (margin_due v) l tt r.1) (next_fits IsEarlier p b (margin_due v) l r.1)
  session-raises (header_due (delta_due v m)) l r = header-raises (next p b (delta_due v m) l) (next p b (delta_due 5 m) l) (next-raises p b (delta_due v m) l tt r.1) (next_fits IsEarlier p b (delta_due v m) l r.1)
  session-raises (header_due (bound_due s)) l r = header-raises (next p b (bound_due s) l) (next p b (raised (bound_due s)) l) (next-raises p b (bound_due s) l tt r.1) (next_fits IsEarlier p b (bound_due s) l r.1)
  session-raises (header_due (kind_due s)) l r = header-raises (next p b (kind_due s) l) (next p b (raised (kind_due s)) l) (next-raises p b (kind_due s) l tt r.1) (next_fits IsEarlier p b (kind_due s) l r.1)
  session-raises (header_due (next_due s k lemmas)) l r = header-raises (next p b (next_due s k lemmas) l) (next p b (raised (next_due s k lemmas)) l) (next-raises p b (next_due s k lemmas) l tt r.1) (next_fits IsEarlier p b (next_due s k lemmas) l r.1)
  session-raises (header_due (axis_due s k lemmas a axes space)) l r = header-raises (next p b (axis_due s k lemmas a axes space) l) (next p b (raised (axis_due s k lemmas a axes space)) l) (next-raises p b (axis_due s k lemmas a axes space) l tt r.1) (next_fits IsEarlier p b (axis_due s k lemmas a axes space) l r.1)
  session-raises (header_due (yes_due s k lemmas space)) l r = header-raises (next p b (yes_due s k lemmas space) l) (next p b (raised (yes_due s k lemmas space)) l) (next-raises p b (yes_due s k lemmas space) l tt r.1) (next_fits IsEarlier p b (yes_due s k lemmas space) l r.1)
  session-raises (header_due (no_due s k lemmas space js)) l r = header-raises (next p b (no_due s k lemmas space js) l) (next p b (raised (no_due s k lemmas space js)) l) (next-raises p b (no_due s k lemmas space js) l tt r.1) (next_fits IsEarlier p b (no_due s k lemmas space js) l r.1)
  session-raises (header_due (lemma_due s k lemmas L S pending)) l r = header-raises (next p b (lemma_due s k lemmas L S pending) l) (next p b (raised (lemma_due s k lemmas L S pending)) l) (next-raises p b (lemma_due s k lemmas L S pending) l tt r.1) (next_fits IsEarlier p b (lemma_due s k lemmas L S pending) l r.1)
  session-raises (header_due (root_due s lemmas)) l r = header-raises (next p b (root_due s lemmas) l) (next p b (raised (root_due s lemmas)) l) (next-raises p b (root_due s lemmas) l tt r.1) (next_fits IsEarlier p b (root_due s lemmas) l r.1)
  session-raises (header_due (tree_due s lemmas S pending done)) l r = header-raises (next p b (tree_due s lemmas S pending done) l) (next p b (raised (tree_due s lemmas S pending done)) l) (next-raises p b (tree_due s lemmas S pending done) l tt r.1) (next_fits IsEarlier p b (tree_due s lemmas S pending done) l r.1)
  session-raises (header_due (coordinate_due s a axes space)) l r = header-raises (next p b (coordinate_due s a axes space) l) (next p b (raised (coordinate_due s a axes space)) l) (next-raises p b (coordinate_due s a axes space) l tt r.1) (next_fits IsEarlier p b (coordinate_due s a axes space) l r.1)
  session-raises (header_due (end_due s lemmas v)) l r = header-raises (next p b (end_due s lemmas v) l) (next p b (raised (end_due s lemmas v)) l) (next-raises p b (end_due s lemmas v) l tt r.1) (next_fits IsEarlier p b (end_due s lemmas v) l r.1)
  session-raises (header_due (nothing_due s lemmas v)) l r = header-raises (next p b (nothing_due s lemmas v) l) (next p b (raised (nothing_due s lemmas v)) l) (next-raises p b (nothing_due s lemmas v) l tt r.1) (next_fits IsEarlier p b (nothing_due s lemmas v) l r.1)
  session-raises (checks_due s) (checks c) r = given-session (nat_eq c (suc (length later))) (part_due s (first_part p later)) (part_due (in_version_5 s) (first_part p later)) BadHeader BadHeader refl r
  session-raises (checks_due s) _ r = tt
  session-raises (part_due s t) (cover k) r = given-session (nat_le k most_lemmas) (keep_due s k t) (keep_due (in_version_5 s) k t) BadHeader BadHeader refl r
  session-raises (part_due s t) point_word r =
      part-raises t (next t.problem b (kind_due s) point_word) (next t.problem b (kind_due (in_version_5 s)) point_word) (next-raises t.problem b (kind_due s) point_word tt r) (next_fits IsEarlier t.problem b (kind_due s) point_word r)
  session-raises (part_due s t) _ r = tt
  session-raises (keep_due s k t) (keep q) r = given-session (nat_le q k && nat_le q (length t.may_keep)) (first_due s k (take q t.may_keep) t) (first_due (in_version_5 s) k (take q t.may_keep) t) KeepFails KeepFails refl r
  session-raises (keep_due s k t) _ r = tt
  session-raises (first_due s k kept t) l r =
      let x = next t.problem b (next_due s k kept) l in let y = next t.problem b (next_due (in_version_5 s) k kept) l in
      part-raises t (none_complete x) (none_complete y) (complete-raises x y (next-raises t.problem b (next_due s k kept) l tt r)) (complete-fits x (next_fits IsEarlier t.problem b (next_due s k kept) l r))
  session-raises (inside_due t d) l r = part-raises t (next t.problem b d l) (next t.problem b (raised d) l) (next-raises t.problem b d l r.0 r.1) (next_fits IsEarlier t.problem b d l r.1)
  session-raises (all_done s values) l r = tt

  parsed-raises : (d : SessionDue) (x : Parsed) → Ready d → RaisesSession (session_step p later b d x) (session_step p later b (raised_session d) x)
  parsed-raises d too_long r = tt
  parsed-raises d bad_line r = tt
  parsed-raises d bad_number r = tt
  parsed-raises d (line l) r = session-raises d l r

  -- ---- all lines

  -- where the one is accepted, so is the other
  abbrev pub RaisesValues : SessionVerdict → SessionVerdict → Type 0
  RaisesValues (accepted s values) y = y ≡ accepted (in_version_5 s) values
  RaisesValues (refused f n) y = Unit {0}

  end-raises : (d : SessionDue) (n m : ℕ) → RaisesValues (session_at_end d n) (session_at_end (raised_session d) m)
  end-raises (all_done s values) n m = refl
  end-raises _ n m = tt

  abbrev course_from : ℕ → SessionDue → List (List ℕ) → SessionCourse
  course_from n d ls = course_by (session_step p later b) n d ls

  on-raises : (x y : SessionNext) (n m : ℕ) (k k' : SessionDue → SessionCourse) → RaisesSession x y → ((d : SessionDue) → Ready d → RaisesValues (session_ended (k d)) (session_ended (k' (raised_session d)))) →
      RaisesValues (session_ended (course_next x n k)) (session_ended (course_next y m k'))
  on-raises (faulty f) y n m k k' h g = tt
  on-raises (on d) y n m k k' h g = subst (λ (z : SessionNext). RaisesValues (session_ended (k d)) (session_ended (course_next z m k'))) (sym h.0) (g d h.1)

  course-raises : (ls : List (List ℕ)) (n : ℕ) (d : SessionDue) → Ready d → RaisesValues (session_ended (course_from n d ls)) (session_ended (course_from n (raised_session d) ls))
  course-raises [] n d r = end-raises d n n
  course-raises (l ∷ ls) n d r =
      on-raises (session_step p later b d (parsed l)) (session_step p later b (raised_session d) (parsed l)) (suc n) (suc n) _ _ (parsed-raises d (parsed l) r) (λ d' r'. course-raises ls (suc n) d' r')

  version-raises : (t : Bool) (v : ℕ) → is_session_version v ≡ t → (ls : List (List ℕ)) →
      RaisesValues (session_ended (course_next (given t (header_due (margin_due v)) BadHeader) 1 (λ d. course_from 1 d ls))) (session_ended (course_from 1 (header_due (margin_due 5)) ls))
  version-raises true v e ls = course-raises ls 1 (header_due (margin_due v)) (tt, session-early v e)
  version-raises false v e ls = tt

  line-raises : (l : CertLine) (ls : List (List ℕ)) → RaisesValues (session_ended (course_next (session_next p later b session_start l) 1 (λ d. course_from 1 d ls))) (session_ended (course_from 1 (header_due (margin_due 5)) ls))
  line-raises (version v) ls = version-raises (is_session_version v) v refl ls
  line-raises _ ls = tt

  first-raises : (x : Parsed) (ls : List (List ℕ)) → RaisesValues (session_ended (course_next (session_step p later b session_start x) 1 (λ d. course_from 1 d ls))) (session_ended (course_from 1 (header_due (margin_due 5)) ls))
  first-raises too_long ls = tt
  first-raises bad_line ls = tt
  first-raises bad_number ls = tt
  first-raises (line l) ls = line-raises l ls

  -- the lines of an upgraded certificate are accepted where the lines are
  pub lines_raise : (ls : List (List ℕ)) → RaisesValues (session_ended (session_course p later b ls)) (session_ended (session_course p later b (newest_line ∷ behind_first ls)))
  lines_raise [] = tt
  lines_raise (l ∷ ls) = first-raises (parsed l) ls

  pub cut_raises : (c : SessionCourse) (y : SessionVerdict) → RaisesValues (cut_off c) y
  cut_raises (stopped f n) y = tt
  cut_raises (reached d n) y = tt
