-- What is read back of a certificate whose lines were all gathered.
use Rattle.std.proofs.Common.{◌≡◌, ◌⊎◌, ◌≤◌, ℕ, suc, List, [], ◌∷◌, ◌++◌, map, length, Bool, true, Option, Some, None, Result, Ok, Err, IfErr, IsTrue, refl, ap, ap₂, sym, ◌∙◌, subst, inl, inr, arith, nat_le}
use Rattle.std.proofs.lemmas.Bool.{le-leb}
use Rattle.std.proofs.lemmas.List.{length-map}
use Rattle.poly_graph.specs.Problem.{Problem}
use Rattle.poly_graph.specs.ProblemViews.{Parts, problem_of}
use Rattle.interval_model.specs.Space as domains
use Rattle.cover_model.specs.State.{State, Loosenings}
use Rattle.cert_read.specs.CertLine.{CertLine, Parsed, line, parsed, end_word}
use Rattle.cert_read.specs.Lines.{lines_of}
use Rattle.cert_read.specs.Reading.{lines_ahead}
use Rattle.cert_read.specs.State.{Reading}
use Rattle.cert_model.specs.Due.{CertFault, Standing, Value, at_point, left_open, Due, version_due, nothing_due, Next, on, faulty}
use Rattle.cert_model.specs.Accepted.{next, next_parsed, Course, stopped, reached, course_next, course, course_of_lines, at_end, ended, verdict_by, Verdict, accepted, refused, verdict, most_bytes, IsAccepted}
use Rattle.cert_model.specs.Session.{one_verdict}
use Rattle.cert_resumed.specs.Resumed.{CoverRead, IsCoverRead, read_lines}
use Rattle.cert_check.specs.declared.checker.Verdict as told
use Rattle.cert_check.specs.declared.checker.Verdict.TheVariants.{Unsat, Point, Left}
use Rattle.cert_check.specs.declared.fault.CertFault as code
use Rattle.cert_check.specs.declared.fault.CertFault.TheVariants.{Memory}
use Rattle.cert_check.specs.Checked.{Checked, one_check, fresh, fresh_checker}
use Rattle.cert_check.specs.Courses.{cover_in, point_in, verdict_of, stops_at, Finishes, IsAt, IsCourseAnswer, IsFed, IsFirstVerdict, IsVerdict, Takes}
use Rattle.cert_check.specs.Dues.{lean, lean_value}
use Rattle.cert_check.specs.Feeding.{IsRefusalOrMemory}
use Rattle.cert_check.specs.Work.{alone, Checks, WorkCourse}
use Rattle.cert_check.proofs.Fed.{at_fed, fed_nothing, fed_on}
use Rattle.cert_check.proofs.VerdictAnswers.{memory_alone, stops_so, stopped_somewhere, verdict_is_told}
use Rattle.ival.specs.declared.space.Space.{Space}
use Rattle.ival.specs.SpaceViews.{space_of}
use Rattle.cert_base.specs.declared.base.Base.{Base}
use Rattle.cert_base.specs.Gathered.{Gathered, Gathers, IsWhole, standing_states}
use Rattle.cert_base.specs.Base.{loosenings_of, IsBase, IsClosedRead, IsPointRead}
use Rattle.cert_base.specs.Views.{base_gathered, IsGathered}

-- ---- what lists and pairs tell

abbrev first-or : Loosenings → Option (Loosenings × List State) → Loosenings
first-or d None = d
first-or d (Some x) = x.0

abbrev second-or : List State → Option (Loosenings × List State) → List State
second-or d None = d
second-or d (Some x) = x.1

some-pair : (s s' : Loosenings) (xs ys : List State) → ◌≡◌ {A = Option (Loosenings × List State)} (Some (s, xs)) (Some (s', ys)) → (s ≡ s') × (xs ≡ ys)
some-pair s s' xs ys h = (ap (first-or s) h, ap (second-or xs) h)

some-standing : (x : Standing) (xs : List Standing) → x ∷ xs ≡ [] → ⊥
some-standing x xs h = cc

some-state : (x : Standing) (xs : List Standing) → standing_states (x ∷ xs) ≡ [] → ⊥
some-state x xs h = cc

-- ---- all lines

module _ (p : Problem) (b : Option ℕ) where
  same-next : (x : Next) (n : ℕ) (ls : List (List ℕ)) (xs : List CertLine) → ((d : Due) → course p b n d ls ≡ course_of_lines p b n d xs) →
      course_next x n (λ d. course p b n d ls) ≡ course_next x n (λ d. course_of_lines p b n d xs)
  same-next (on d) n ls xs h = h d
  same-next (faulty f) n ls xs h = refl

  same-parts : (l : List ℕ) (ls : List (List ℕ)) (x : CertLine) (xs : List CertLine) → map parsed (l ∷ ls) ≡ map line (x ∷ xs) → (parsed l ≡ line x) × (map parsed ls ≡ map line xs)
  same-parts l ls x xs h = (cc, cc)

  by-lines : (ls : List (List ℕ)) (xs : List CertLine) (n : ℕ) (d : Due) → map parsed ls ≡ map line xs → course p b n d ls ≡ course_of_lines p b n d xs
  by-lines [] [] n d h = refl
  by-lines (l ∷ ls) (x ∷ xs) n d h =
      let k = same-parts l ls x xs h in
      ap (λ (y : Parsed). course_next (next_parsed p b d y) (suc n) (λ d'. course p b (suc n) d' ls)) k.0
      ∙ same-next (next p b d x) (suc n) ls xs (λ d'. by-lines ls xs (suc n) d' k.1)
  by-lines [] (x ∷ xs) n d h = cc
  by-lines (l ∷ ls) [] n d h = cc

-- ---- what was told

-- the course ended, in this verdict
pub record IsEnded (d : Due) (w : told.Verdict) : Type 0 where
  pub loosenings : Loosenings
  pub lemmas : List State
  pub value : Value
  pub due : d ≡ nothing_due loosenings lemmas value
  pub told : w ≡ verdict_of loosenings (lean_value value)

by-due : (d : Due) (n : ℕ) (w : told.Verdict) → IsFirstVerdict (one_verdict (at_end (lean d) n)) (Ok w) → IsEnded d w
by-due (nothing_due s lemmas v) n w h = record { loosenings = s; lemmas = lemmas; value = v; due = refl; told = h }
by-due _ n w h = absurd h

module _ (p : Problem) (b : Option ℕ) (bytes : List ℕ) (o : Option WorkCourse) (g : Gathered) (h : IsGathered p b (map parsed (lines_of bytes)) o g) where
  count : length h.taken ≡ length (lines_of bytes)
  count = sym (length-map h.taken line) ∙ ap length (sym h.lines) ∙ length-map (lines_of bytes) parsed

  led : course p b 0 version_due (lines_of bytes) ≡ reached h.due (length (lines_of bytes))
  led = by-lines p b (lines_of bytes) h.taken 0 version_due h.lines ∙ h.led ∙ ap (λ (n : ℕ). reached h.due n) count

  is-ended : (w : told.Verdict) → Finishes o (Ok w) → IsEnded h.due w
  is-ended w f = by-due h.due (length h.taken) w (subst (λ (c : Option WorkCourse). Finishes c (Ok w)) h.stands f)

  accepts : length bytes ≤ most_bytes → (w : told.Verdict) (e : IsEnded h.due w) → IsAccepted p b bytes e.loosenings e.value
  accepts few w e = ap (λ (t : Bool). verdict_by t p b bytes) (le-leb (length bytes) most_bytes few) ∙ ap ended (led ∙ ap (λ (d : Due). reached d (length (lines_of bytes))) e.due)

  closed-by : (m : ℕ) (s : Loosenings) (v : Value) → Unsat m ≡ verdict_of s (lean_value v) → (v ≡ left_open []) × (m ≡ s.margin_bits)
  closed-by m s (at_point space) e = cc
  closed-by m s (left_open []) e = (refl, cc)
  closed-by m s (left_open (x ∷ left)) e = cc

  pub closed_read : length bytes ≤ most_bytes → (m : ℕ) → Finishes o (Ok (Unsat m)) → IsClosedRead p b bytes m
  closed_read few m f =
      let e = is-ended (Unsat m) f in let k = closed-by m e.loosenings e.value e.told in
      record { loosenings = e.loosenings; accepted = subst (IsAccepted p b bytes e.loosenings) k.0 (accepts few (Unsat m) e); margin = k.1 }

  -- ---- a point

  pub record IsPointOf (s : Loosenings) (d : ℕ) (v : Value) : Type 0 where
    pub space : domains.Space
    pub value : v ≡ at_point space
    pub delta : d ≡ s.delta_bits

  point-by : (d : ℕ) (s : Loosenings) (v : Value) → Point d ≡ verdict_of s (lean_value v) → IsPointOf s d v
  point-by d s (at_point space) e = record { space = space; value = refl; delta = cc }
  point-by d s (left_open []) e = cc
  point-by d s (left_open (x ∷ left)) e = cc

  point-stands : (d : ℕ) (w : told.Verdict) (e : IsEnded h.due w) (k : IsPointOf e.loosenings d e.value) → point_in o ≡ Some k.space
  point-stands d w e k = ap point_in h.stands ∙ ap (λ (x : Due). point_in (Some (reached (alone (lean x)) (length h.taken)))) (e.due ∙ ap (λ (v : Value). nothing_due e.loosenings e.lemmas v) k.value)

  pub has_point : (d : ℕ) → Finishes o (Ok (Point d)) → point_in o ≡ None → ⊥
  has_point d f n = let e = is-ended (Point d) f in let k = point-by d e.loosenings e.value e.told in let s = sym (point-stands d (Point d) e k) ∙ n in cc

  pub point_read : length bytes ≤ most_bytes → (d : ℕ) (point : Space) → Finishes o (Ok (Point d)) → point_in o ≡ Some (space_of point) → IsPointRead p b bytes point d
  point_read few d point f i =
      let e = is-ended (Point d) f in let k = point-by d e.loosenings e.value e.told in
      let same : Some k.space ≡ Some (space_of point) = sym (point-stands d (Point d) e k) ∙ i in
      let here : k.space ≡ space_of point = cc in
      record {
        loosenings = e.loosenings;
        accepted = subst (IsAccepted p b bytes e.loosenings) (k.value ∙ ap (λ (x : domains.Space). at_point x) here) (accepts few (Point d) e);
        delta = k.delta;
      }

  -- ---- a cover

  pub record IsCoverOf (v : Value) : Type 0 where
    pub first : Standing
    pub later : List Standing
    pub value : v ≡ left_open (first ∷ later)

  cover-by : (n : ℕ) (s : Loosenings) (v : Value) → Left n ≡ verdict_of s (lean_value v) → IsCoverOf v
  cover-by n s (at_point space) e = cc
  cover-by n s (left_open []) e = cc
  cover-by n s (left_open (x ∷ left)) e = record { first = x; later = left; value = refl }

  module _ (w : told.Verdict) (e : IsEnded h.due w) (k : IsCoverOf e.value) where
    due-is : h.due ≡ nothing_due e.loosenings e.lemmas (left_open (k.first ∷ k.later))
    due-is = e.due ∙ ap (λ (v : Value). nothing_due e.loosenings e.lemmas v) k.value

    cover-stands : cover_in o ≡ Some (e.loosenings, e.lemmas)
    cover-stands = ap cover_in h.stands ∙ ap (λ (x : Due). cover_in (Some (reached (alone (lean x)) (length h.taken)))) due-is

    whole : IsWhole e.loosenings b (length e.lemmas) (end_word ∷ []) h.taken (k.first ∷ k.later) g
    whole = subst (λ (d : Due). Gathers b d h.taken g) due-is h.gathers

  pub has_cover : (n : ℕ) → Finishes o (Ok (Left n)) → cover_in o ≡ None → ⊥
  has_cover n f i = let e = is-ended (Left n) f in let k = cover-by n e.loosenings e.value e.told in let s = sym (cover-stands (Left n) e k) ∙ i in cc

  pub base_read : length bytes ≤ most_bytes → (n : ℕ) (x : Base) → Finishes o (Ok (Left n)) → cover_in o ≡ Some (loosenings_of x, x.lemmas.items) → base_gathered x ≡ g → x.bound ≡ b → IsBase p b bytes x
  base_read few n x f i j bound =
      let e = is-ended (Left n) f in let k = cover-by n e.loosenings e.value e.told in let t = whole (Left n) e k in
      let same = some-pair e.loosenings (loosenings_of x) e.lemmas x.lemmas.items (sym (cover-stands (Left n) e k) ∙ i) in
      let stays : x.left.items ≡ standing_states (k.first ∷ k.later) = ap (λ (y : Gathered). y.left) j ∙ t.left in
      let some : (k.first ∷ k.later ≡ []) → ⊥ = λ q. some-standing k.first k.later q in
      let c : CoverRead = record { loosenings = e.loosenings; lemma_lines = g.lemma_lines; lemmas = e.lemmas; main = g.main; left = k.first ∷ k.later } in
      record {
        read = c;
        is_read = record {
          accepted = subst (IsAccepted p b bytes e.loosenings) k.value (accepts few (Left n) e);
          lines = h.lines ∙ ap (map line) (t.tree some).taken;
          ends = led ∙ ap (λ (d : Due). reached d (length (lines_of bytes))) (due-is (Left n) e k);
        };
        of = record {
          loosenings = sym same.0;
          lemma_lines = ap (λ (y : Gathered). y.lemma_lines) j;
          lemmas = sym same.1;
          main = ap (λ (y : Gathered). y.main) j;
          left = stays;
        };
        bound = bound;
        some = λ q. some-state k.first k.later (sym stays ∙ q);
      }

-- ---- faults

module _ (q : Parts) (b : Option ℕ) (bytes : List ℕ) (few : length bytes ≤ most_bytes) where
  fresh-checks : (c : Checked) → c ≡ fresh_checker q b → c.checks ≡ one_check q b
  fresh-checks c e = ap (λ (x : Checked). x.checks) e

  fed : (c : Checked) → c ≡ fresh_checker q b → IsFed bytes c bytes
  fed c e = fed_on c [] [] bytes (fed_nothing c (e ∙ ap fresh (sym (fresh-checks c e))))

  -- the verdict, where all lines were taken
  taken-verdict : (old new : Checked) (ahead : Reading) (r : Result (Unit {0}) code.CertFault) (w : Result told.Verdict code.CertFault) → old ≡ fresh_checker q b → ahead ≡ record { unread = bytes; ended = true } →
      Takes old (map parsed (lines_ahead ahead)) new r → Finishes new.course w → (w ≡ Err Memory) ⊎ IsVerdict (verdict (problem_of q) b bytes) w
  taken-verdict old new ahead r w e a t f =
      let checks : new.checks ≡ one_check q b = t.checks ∙ fresh-checks old e in
      subst (λ (c : Checks). (w ≡ Err Memory) ⊎ IsVerdict (verdict (problem_of c.problem) c.bound bytes) w) checks
      (verdict_is_told new bytes w few (at_fed old new bytes bytes true r (fed old e) (subst (λ (x : Reading). Takes old (map parsed (lines_ahead x)) new r) a t)) (ap (λ (c : Checks). c.later) checks) f)

  as-refusal : (v : Verdict) (f : code.CertFault) → ◌≡◌ {A = Result told.Verdict code.CertFault} (Err f) (Err Memory) ⊎ IsVerdict v (Err f) → IsRefusalOrMemory v f
  as-refusal v f (inl e) = inl cc
  as-refusal (accepted s x) f (inr h) = inr h
  as-refusal (refused g n) f (inr h) = inr h

  -- a fault that was answered is told again
  told-again : (o : Option WorkCourse) (f : code.CertFault) → IsCourseAnswer o (Err f) → Finishes o (Err f)
  told-again None f e = ap (λ (x : code.CertFault). Err x) (memory_alone f (sym e))
  told-again (Some (stopped g n)) f e = stops_so f (stopped g n) (sym e)
  told-again (Some (reached d n)) f e = absurd (stopped_somewhere f d n (sym e))

  pub line_refused : (old new : Checked) (ahead : Reading) (f : code.CertFault) → old ≡ fresh_checker q b → ahead ≡ record { unread = bytes; ended = true } →
      Takes old (map parsed (lines_ahead ahead)) new (Err f) → IsRefusalOrMemory (verdict (problem_of q) b bytes) f
  line_refused old new ahead f e a t = as-refusal (verdict (problem_of q) b bytes) f (taken-verdict old new ahead (Err f) (Err f) e a t (told-again new.course f t.answers))

  pub end_refused : (old new : Checked) (ahead : Reading) (r : Result (Unit {0}) code.CertFault) (f : code.CertFault) → old ≡ fresh_checker q b → ahead ≡ record { unread = bytes; ended = true } →
      Takes old (map parsed (lines_ahead ahead)) new r → Finishes new.course (Err f) → IsRefusalOrMemory (verdict (problem_of q) b bytes) f
  end_refused old new ahead r f e a t k = as-refusal (verdict (problem_of q) b bytes) f (taken-verdict old new ahead r (Err f) e a t k)

  -- the same, or no fault
  pub end_fault : (old new : Checked) (ahead : Reading) (r : Result (Unit {0}) code.CertFault) (w : Result told.Verdict code.CertFault) → old ≡ fresh_checker q b → ahead ≡ record { unread = bytes; ended = true } →
      Takes old (map parsed (lines_ahead ahead)) new r → Finishes new.course w → IfErr w (IsRefusalOrMemory (verdict (problem_of q) b bytes))
  end_fault old new ahead r (Ok v) e a t k = tt
  end_fault old new ahead r (Err f) e a t k = end_refused old new ahead r f e a t k
