-- A line adds at most one state that stays.
use Rattle.std.proofs.Common.{◌≡◌, ℕ, suc, ◌+◌, ◌≤◌, List, [], ◌∷◌, ◌++◌, length, Bool, true, false, cond, Option, Some, None, refl, ap, arith, nat_lt, nat_le, nat_eq, ◌&&◌, drop, take, length-append}
use Rattle.std.proofs.lemmas.List.{length-replicate}
use Rattle.cover_line.specs.Words.{word_of}
use Rattle.cert_read.specs.CertLine.{CertLine, says_both, says_false, says_true, version, margin, delta, bound, over, checks, cover, keep, point_word, tree_word, end_word, lemma, real_interval, real_value, bool_value, yes_list, no_list, rule_line, crossing}
use Rattle.interval_model.specs.Space.{Space}
use Rattle.cover_model.specs.Rules.{Left, closed, one, two, stays as stays-left, rule, Line}
use Rattle.cover_model.specs.State.{State, Loosenings, root_state}
use Rattle.poly_graph.specs.Problem.{Declared, real_between, any_bool, Axis, Problem, crosses}
use Rattle.poly_graph.specs.ProblemViews.{Parts, problem_of}
use Rattle.cert_model.specs.Due.{CertFault, BadHeader, BadNumber, RuleFails, KeepFails, Missing, Extra, WrongBound, NotShown, NextOf, Value, Standing, at_point, left_open, Due, version_due, margin_due, delta_due, bound_due, kind_due, next_due, axis_due, yes_due, no_due, lemma_due, root_due, tree_due, coordinate_due, end_due, nothing_due, Next, on, faulty, given, is_version, same_bound, ascends, apart, all_below, state_of, names_well, after_rule, after_lemma_rule, tree_goes_on, lemma_goes_on, axis_next, is_crossed_box, coordinate_next, is_shown}
use Rattle.cert_model.specs.Accepted.{most_lemmas, loosenings_fit, ruled_line, lemma_line, tree_line, root_line, no_crossing, axis_line, coordinate_line, next}
use Rattle.ival.specs.SpaceViews.{space_of}
use Rattle.cert_check.specs.declared.due.Due as held
use Rattle.cert_check.specs.declared.due.Due.TheVariants as due
use Rattle.cert_check.specs.declared.due.Value.TheVariants as kept
use Rattle.problem_session.specs.Session.{problems_of}
use Rattle.cert_model.specs.Session.{Part, SessionDue, SessionNext, header_due, checks_due, part_due, keep_due, first_due, inside_due, all_done, is_session_version, first_part, next_part, in_header, inside, in_part, none_complete, session_next}
use Rattle.cert_check.specs.declared.part.Part as code
use Rattle.cert_check.specs.declared.work.Work as work
use Rattle.cert_check.specs.declared.work.Work.TheVariants as held-work
use Rattle.cert_check.specs.Dues.{blank, lean, next_map, due_of}
use Rattle.cert_check.specs.Stays.{stays_in, stays_in_work}
use Rattle.cert_check.specs.Work.{Work, alone, together, Checks, work_next, lean_work}
use Rattle.cert_check.specs.Works.{work_of}

abbrev stays : Due → ℕ
stays (tree_due s lemmas S pending done) = length done
stays (end_due s lemmas (left_open left)) = length left
stays (nothing_due s lemmas (left_open left)) = length left
stays d = 0

abbrev AtMost : ℕ → Next → Type 0
AtMost n (on d) = stays d ≤ n
AtMost n (faulty f) = Unit {0}

-- ---- what a line leads to

given-most : (n : ℕ) (t : Bool) (d : Due) (f : CertFault) → stays d ≤ n → AtMost n (given t d f)
given-most n true d f h = h
given-most n false d f h = tt

cond-most : (n : ℕ) (t : Bool) (x y : Next) → AtMost n x → AtMost n y → AtMost n (cond t x y)
cond-most n true x y h k = h
cond-most n false x y h k = k

ruled-most : (n : ℕ) (t : Bool) (x : Next) → AtMost n x → AtMost n (ruled_line t x)
ruled-most n true x h = h
ruled-most n false x h = tt

axis-none : (s : Loosenings) (k : ℕ) (lemmas : List State) (axes : List Axis) (space : Space) → stays (axis_next s k lemmas axes space) ≡ 0
axis-none s k lemmas [] space = refl
axis-none s k lemmas (a ∷ axes) space = refl

coordinate-none : (s : Loosenings) (axes : List Axis) (space : Space) → stays (coordinate_next s axes space) ≡ 0
coordinate-none s [] space = refl
coordinate-none s (a ∷ axes) space = refl

axis-most : (n : ℕ) (s : Loosenings) (k : ℕ) (lemmas : List State) (axes : List Axis) (space : Space) → stays (axis_next s k lemmas axes space) ≤ n
axis-most n s k lemmas axes space = omega (arith, axis-none s k lemmas axes space)

coordinate-most : (n : ℕ) (s : Loosenings) (axes : List Axis) (space : Space) → stays (coordinate_next s axes space) ≤ n
coordinate-most n s axes space = omega (arith, coordinate-none s axes space)

tree-most : (n : ℕ) (s : Loosenings) (lemmas pending : List State) (done : List Standing) → length done ≤ n → stays (tree_goes_on s lemmas pending done) ≤ n
tree-most n s lemmas [] done h = h
tree-most n s lemmas (S ∷ pending) done h = h

lemma-most : (n : ℕ) (s : Loosenings) (k : ℕ) (lemmas : List State) (L : State) (pending : List State) → stays (lemma_goes_on s k lemmas L pending) ≤ n
lemma-most n s k lemmas L [] = omega arith
lemma-most n s k lemmas L (S ∷ pending) = omega arith

after-most : (o : Option Left) (f : CertFault) (x : Standing) (pending : List State) (done : List Standing) (s : Loosenings) (lemmas : List State) → AtMost (suc (length done)) (after_rule o f x pending done (tree_goes_on s lemmas))
after-most None f x pending done s lemmas = tt
after-most (Some closed) f x pending done s lemmas = tree-most (suc (length done)) s lemmas pending done (omega arith)
after-most (Some stays-left) f x pending done s lemmas = tree-most (suc (length done)) s lemmas pending (done ++ (x ∷ [])) (omega (arith, length-append done (x ∷ [])))
after-most (Some (one S')) f x pending done s lemmas = tree-most (suc (length done)) s lemmas (S' ∷ pending) done (omega arith)
after-most (Some (two S' S'')) f x pending done s lemmas = tree-most (suc (length done)) s lemmas (S' ∷ S'' ∷ pending) done (omega arith)

after-lemma-most : (n : ℕ) (o : Option Left) (f : CertFault) (pending : List State) (s : Loosenings) (k : ℕ) (lemmas : List State) (L : State) → AtMost n (after_lemma_rule o f pending (lemma_goes_on s k lemmas L))
after-lemma-most n None f pending s k lemmas L = tt
after-lemma-most n (Some closed) f pending s k lemmas L = lemma-most n s k lemmas L pending
after-lemma-most n (Some stays-left) f pending s k lemmas L = tt
after-lemma-most n (Some (one S')) f pending s k lemmas L = lemma-most n s k lemmas L (S' ∷ pending)
after-lemma-most n (Some (two S' S'')) f pending s k lemmas L = lemma-most n s k lemmas L (S' ∷ S'' ∷ pending)

axis-line-most : (n : ℕ) (p : Problem) (s : Loosenings) (k : ℕ) (lemmas : List State) (a : Declared) (axes : List Axis) (space : Space) (l : CertLine) → AtMost n (axis_line p s k lemmas a axes space l)
axis-line-most n p s k lemmas (real_between lo hi) axes space (real_interval l h) = given-most n _ _ BadNumber (axis-most n s k lemmas axes _)
axis-line-most n p s k lemmas any_bool axes space (bool_value w) = axis-most n s k lemmas axes _
axis-line-most n p s k lemmas a axes space l = tt

coordinate-line-most : (n : ℕ) (s : Loosenings) (a : Declared) (axes : List Axis) (space : Space) (l : CertLine) → AtMost n (coordinate_line s a axes space l)
coordinate-line-most n s (real_between lo hi) axes space (real_value v) = coordinate-most n s axes _
coordinate-line-most n s any_bool axes space (bool_value says_both) = tt
coordinate-line-most n s any_bool axes space (bool_value says_false) = coordinate-most n s axes _
coordinate-line-most n s any_bool axes space (bool_value says_true) = coordinate-most n s axes _
coordinate-line-most n s a axes space l = tt

lemma-line-most : (p : Problem) (s : Loosenings) (k : ℕ) (lemmas : List State) (L S : State) (pending : List State) (l : Line) → AtMost 1 (lemma_line p s k lemmas L S pending l)
lemma-line-most p s k lemmas L S pending l =
    let o = rule p s lemmas S l in
    ruled-most 1 (names_well p l) (after_lemma_rule o (RuleFails (word_of l)) pending (lemma_goes_on s k lemmas L)) (after-lemma-most 1 o (RuleFails (word_of l)) pending s k lemmas L)

tree-line-most : (p : Problem) (s : Loosenings) (lemmas : List State) (S : State) (pending : List State) (done : List Standing) (l : Line) → AtMost (suc (length done)) (tree_line p s lemmas S pending done l)
tree-line-most p s lemmas S pending done l =
    let o = rule p s lemmas S l in
    let x : Standing = record { state = S; does = l } in
    ruled-most (suc (length done)) (names_well p l) (after_rule o (RuleFails (word_of l)) x pending done (tree_goes_on s lemmas)) (after-most o (RuleFails (word_of l)) x pending done s lemmas)

root-line-most : (t : Bool) (p : Problem) (s : Loosenings) (lemmas : List State) (l : Line) → AtMost 1 (root_line t p s lemmas l)
root-line-most true p s lemmas l = ruled-most 1 (names_well p l) (faulty (RuleFails (word_of l))) tt
root-line-most false p s lemmas l = tree-line-most p s lemmas (root_state p) [] [] l

next-most : (p : Problem) (b : Option ℕ) (d : Due) (l : CertLine) → AtMost (suc (stays d)) (next p b d l)
next-most p b version_due (version n) = given-most 1 (is_version n) (margin_due n) BadHeader (omega arith)
next-most p b version_due l = tt
next-most p b (margin_due v) (margin m) = omega arith
next-most p b (margin_due v) l = tt
next-most p b (delta_due v m) (delta d) = given-most 1 (loosenings_fit m d) (bound_due (record { margin_bits = m; delta_bits = d; version = v })) BadHeader (omega arith)
next-most p b (delta_due v m) l = tt
next-most p b (bound_due s) (bound n) = given-most 1 (same_bound n b) (kind_due s) WrongBound (omega arith)
next-most p b (bound_due s) l = tt
next-most p b (kind_due s) (cover k) = given-most 1 (nat_le k most_lemmas) (next_due s k []) BadHeader (omega arith)
next-most p b (kind_due s) point_word = coordinate-most 1 s p.axes []
next-most p b (kind_due s) l = tt
next-most p b (next_due s k lemmas) (lemma i) = cond-most 1 (nat_lt (length lemmas) k) (given (nat_eq i (length lemmas)) (axis_next s k lemmas p.axes []) BadNumber) (faulty Missing)
    (given-most 1 (nat_eq i (length lemmas)) (axis_next s k lemmas p.axes []) BadNumber (axis-most 1 s k lemmas p.axes [])) tt
next-most p b (next_due s k lemmas) tree_word = given-most 1 (nat_eq (length lemmas) k) (root_due s lemmas) Missing (omega arith)
next-most p b (next_due s k lemmas) (rule_line l) = tt
next-most p b (next_due s k lemmas) (crossing i) = tt
next-most p b (next_due s k lemmas) over = tt
next-most p b (next_due s k lemmas) l = tt
next-most p b (axis_due s k lemmas a axes space) l = axis-line-most 1 p s k lemmas a.declared axes space l
next-most p b (yes_due s k lemmas space) (yes_list js) = given-most 1 (all_below (length p.atoms) js && ascends js) (no_due s k lemmas space js) BadNumber (omega arith)
next-most p b (yes_due s k lemmas space) l = tt
next-most p b (no_due s k lemmas space is) (no_list js) = given-most 1 (all_below (length p.atoms) js && ascends js && apart is js) (lemma_due s k lemmas (state_of p space is js) (state_of p space is js) []) BadNumber (omega arith)
next-most p b (no_due s k lemmas space is) l = tt
next-most p b (lemma_due s k lemmas L S pending) (rule_line l) = lemma-line-most p s k lemmas L S pending l
next-most p b (lemma_due s k lemmas L S pending) (crossing i) = tt
next-most p b (lemma_due s k lemmas L S pending) over = tt
next-most p b (lemma_due s k lemmas L S pending) l = tt
next-most p b (root_due s lemmas) (crossing i) = cond-most 1 (crosses p i) (on (end_due s lemmas (left_open []))) (no_crossing p i) (omega arith) tt
next-most p b (root_due s lemmas) (rule_line l) = root-line-most (is_crossed_box p) p s lemmas l
next-most p b (root_due s lemmas) over = tt
next-most p b (root_due s lemmas) l = tt
next-most p b (tree_due s lemmas S pending done) (rule_line l) = tree-line-most p s lemmas S pending done l
next-most p b (tree_due s lemmas S pending done) (crossing i) = tt
next-most p b (tree_due s lemmas S pending done) over = tt
next-most p b (tree_due s lemmas S pending done) l = tt
next-most p b (coordinate_due s a axes space) l = coordinate-line-most 1 s a.declared axes space l
next-most p b (end_due s lemmas (at_point x)) end_word = given-most 1 (is_shown p s (at_point x)) (nothing_due s lemmas (at_point x)) NotShown (omega arith)
next-most p b (end_due s lemmas (left_open x)) end_word = given-most (suc (length x)) (is_shown p s (left_open x)) (nothing_due s lemmas (left_open x)) NotShown (omega arith)
next-most p b (end_due s lemmas v) (rule_line l) = tt
next-most p b (end_due s lemmas v) (crossing i) = tt
next-most p b (end_due s lemmas v) over = tt
next-most p b (end_due s lemmas v) l = tt
next-most p b (nothing_due s lemmas v) l = tt

-- ---- as the code counts

lean-same : (d : Due) → stays (lean d) ≡ stays d
lean-same (tree_due s lemmas S pending done) = length-replicate (length done) blank
lean-same (end_due s lemmas (left_open left)) = length-replicate (length left) blank
lean-same (nothing_due s lemmas (left_open left)) = length-replicate (length left) blank
lean-same (end_due s lemmas (at_point x)) = refl
lean-same (nothing_due s lemmas (at_point x)) = refl
lean-same d = refl

held-same : (p : Parts) (d : held.Due) → stays (due_of p d) ≡ stays_in d
held-same p (due.Tree c t n) = length-replicate n blank
held-same p (due.End s n) = length-replicate n blank
held-same p (due.Nothing s (kept.Left Ls n)) = length-replicate n blank
held-same p (due.Nothing s (kept.Point x)) = refl
held-same p (due.Axis c space) = axis-none _ _ _ (drop (length (space_of space)) p.axes) (space_of space)
held-same p (due.Coordinate s space) = coordinate-none _ (drop (length (space_of space)) p.axes) (space_of space)
held-same p d = refl

-- ---- of one check or of several

abbrev work-stays : Work → ℕ
work-stays (alone d) = stays d
work-stays (together (header_due d)) = stays d
work-stays (together (inside_due t d)) = stays d
work-stays (together d) = 0

abbrev WorkAtMost : ℕ → NextOf Work → Type 0
WorkAtMost n (on w) = work-stays w ≤ n
WorkAtMost n (faulty f) = Unit {0}

abbrev SessionAtMost : ℕ → SessionNext → Type 0
SessionAtMost n (on d) = work-stays (together d) ≤ n
SessionAtMost n (faulty f) = Unit {0}

given-session : (n : ℕ) (t : Bool) (d : SessionDue) (f : CertFault) → work-stays (together d) ≤ n → SessionAtMost n (given t d f)
given-session n true d f h = h
given-session n false d f h = tt

header-most : (n : ℕ) (x : Next) → AtMost n x → SessionAtMost n (in_header x)
header-most n (on (kind_due s)) h = omega arith
header-most n (on _) h = h
header-most n (faulty f) h = tt

behind-none : (s : Loosenings) (p : Problem) (lemmas : List State) (values : List Value) (later : List (Problem × Bool)) → work-stays (together (next_part s p lemmas values later)) ≡ 0
behind-none s p lemmas values [] = refl
behind-none s p lemmas values ((q, e) ∷ later) = refl

inside-most : (n : ℕ) (t : Part) (d : Due) → stays d ≤ n → work-stays (together (inside t d)) ≤ n
inside-most n t (nothing_due s lemmas v) h = omega (arith, behind-none s t.problem lemmas (t.values ++ (v ∷ [])) t.later)
inside-most n t _ h = h

part-most : (n : ℕ) (t : Part) (x : Next) → AtMost n x → SessionAtMost n (in_part t x)
part-most n t (on d) h = inside-most n t d h
part-most n t (faulty f) h = tt

none-most : (n : ℕ) (x : Next) → AtMost n x → AtMost n (none_complete x)
none-most n (on d) h = h
none-most n (faulty Extra) h = tt
none-most n (faulty _) h = tt

module _ (p : Problem) (later : List (Problem × Bool)) (b : Option ℕ) where
  version-most : (l : CertLine) → SessionAtMost 1 (session_next p later b (header_due version_due) l)
  version-most (version n) = given-session 1 (is_session_version n) (header_due (margin_due n)) BadHeader (omega arith)
  version-most _ = tt

  checks-most : (s : Loosenings) (l : CertLine) → SessionAtMost 1 (session_next p later b (checks_due s) l)
  checks-most s (checks c) = given-session 1 (nat_eq c (suc (length later))) (part_due s (first_part p later)) BadHeader (omega arith)
  checks-most s _ = tt

  part-line-most : (s : Loosenings) (t : Part) (l : CertLine) → SessionAtMost 1 (session_next p later b (part_due s t) l)
  part-line-most s t (cover k) = given-session 1 (nat_le k most_lemmas) (keep_due s k t) BadHeader (omega arith)
  part-line-most s t point_word = part-most 1 t (next t.problem b (kind_due s) point_word) (next-most t.problem b (kind_due s) point_word)
  part-line-most s t _ = tt

  keep-line-most : (s : Loosenings) (k : ℕ) (t : Part) (l : CertLine) → SessionAtMost 1 (session_next p later b (keep_due s k t) l)
  keep-line-most s k t (keep q) = given-session 1 (nat_le q k && nat_le q (length t.may_keep)) (first_due s k (take q t.may_keep) t) KeepFails (omega arith)
  keep-line-most s k t _ = tt

  session-most : (d : SessionDue) (l : CertLine) → SessionAtMost (suc (work-stays (together d))) (session_next p later b d l)
  session-most (header_due version_due) l = version-most l
  session-most (header_due d) l = header-most (suc (stays d)) (next p b d l) (next-most p b d l)
  session-most (checks_due s) l = checks-most s l
  session-most (part_due s t) l = part-line-most s t l
  session-most (keep_due s k t) l = keep-line-most s k t l
  session-most (first_due s k kept t) l =
      part-most 1 t (none_complete (next t.problem b (next_due s k kept) l)) (none-most 1 (next t.problem b (next_due s k kept) l) (next-most t.problem b (next_due s k kept) l))
  session-most (inside_due t d) l = part-most (suc (stays d)) t (next t.problem b d l) (next-most t.problem b d l)
  session-most (all_done s values) l = tt

module _ (c : Checks) where
  alone-most : (n : ℕ) (x : Next) → AtMost n x → WorkAtMost n (next_map (λ (e : Due). alone e) x)
  alone-most n (on d) h = h
  alone-most n (faulty f) h = tt

  together-most : (n : ℕ) (x : SessionNext) → SessionAtMost n x → WorkAtMost n (next_map (λ (e : SessionDue). together e) x)
  together-most n (on d) h = h
  together-most n (faulty f) h = tt

  work-most : (w : Work) (l : CertLine) → WorkAtMost (suc (work-stays w)) (work_next c w l)
  work-most (alone d) l = alone-most (suc (stays d)) (next (problem_of c.problem) c.bound d l) (next-most (problem_of c.problem) c.bound d l)
  work-most (together d) l = together-most (suc (work-stays (together d))) (session_next (problem_of c.problem) (problems_of c.later) c.bound d l)
      (session-most (problem_of c.problem) (problems_of c.later) c.bound d l)

lean-work-same : (w : Work) → work-stays (lean_work w) ≡ work-stays w
lean-work-same (alone d) = lean-same d
lean-work-same (together (header_due d)) = lean-same d
lean-work-same (together (inside_due t d)) = lean-same d
lean-work-same (together _) = refl

held-work-same : (t : code.Part) (w : work.Work) → work-stays (work_of t w) ≡ stays_in_work w
held-work-same t (held-work.Alone d) = held-same t.problem d
held-work-same t (held-work.Header d) = held-same t.problem d
held-work-same t (held-work.Inside d) = held-same t.problem d
held-work-same t _ = refl

led-most : (n : ℕ) (x : NextOf Work) (w : Work) → WorkAtMost n x → next_map lean_work x ≡ on w → work-stays w ≤ n
led-most n (on e) w h k = let same : lean_work e ≡ w = cc in omega (arith, h, ap work-stays same, lean-work-same e)
led-most n (faulty f) w h k = cc

pub next_stays : (c : Checks) (old new : code.Part) (w w' : work.Work) (l : CertLine) → next_map lean_work (work_next c (work_of old w) l) ≡ on (work_of new w') → stays_in_work w' ≤ stays_in_work w + 1
next_stays c old new w w' l e = omega (
  arith,
  led-most (suc (work-stays (work_of old w))) (work_next c (work_of old w) l) (work_of new w') (work-most c (work_of old w) l) e,
  held-work-same old w,
  held-work-same new w',
)
