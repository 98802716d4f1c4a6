-- Lines that are taken one after the other from a reader.
use Rattle.std.proofs.Common.{◌≡◌, ◌⊎◌, ℕ, ◌+◌, List, [], ◌∷◌, ◌++◌, map, length, drop, cond, Bool, false, Option, Some, None, Result, Ok, Err, refl, ap, sym, ◌∙◌, subst, inl, inr, append_assoc, append-nil}
use Rattle.std.specs.Prelude.{option_map}
use Rattle.cert_read.specs.CertLine.{CertLine, Parsed, line, parsed}
use Rattle.cert_read.specs.State.{Reading}
use Rattle.cert_read.specs.declared.line.Line.{Line}
use Rattle.cert_read.specs.declared.fault.LineFault.{LineFault}
use Rattle.cert_read.specs.Lines.{lines_of, lines_so_far, is_too_long}
use Rattle.cert_read.specs.LineAnswers.{IsFault}
use Rattle.cert_read.specs.Views.{line_of}
use Rattle.cert_read.specs.Reading.{lines_ahead, behind, IsNextLine}
use Rattle.cert_model.specs.Accepted.{stopped, reached}
use Rattle.cert_model.specs.Least.{GoalCourse}
use Rattle.cert_check.specs.declared.fault.CertFault.{CertFault}
use Rattle.cert_check.proofs.Firsts.{Passes, passes_line, formed_is_short}
use Rattle.cert_check.proofs.Taking.{none_ahead, line_ahead, fault_ahead}
use Rattle.cert_least.specs.Aims.{Aim}
use Rattle.cert_least.specs.Checked.{GoalChecked}
use Rattle.cert_least.specs.Courses.{after_all, stops_at, IsCourseAnswer, IsUnderWay, Takes, IsFed}
use Rattle.cert_least.proofs.Led.{after_append, stays_stopped}
use Rattle.cert_least.proofs.Fed.{fed_line}
use Rattle.cert_least.proofs.Verdicts.{stopped_somewhere}

module _ (k : Aim) where
  abbrev pub led_on : List Parsed → Option GoalCourse → Option GoalCourse
  led_on ls o = option_map (λ (c : GoalCourse). after_all k c ls) o

  abbrev pub Leads : Option GoalCourse → List Parsed → Option GoalCourse → Type 0
  Leads o ls n = (n ≡ None) ⊎ (n ≡ led_on ls o)

  led-twice : (o : Option GoalCourse) (xs ys : List Parsed) → led_on ys (led_on xs o) ≡ led_on (xs ++ ys) o
  led-twice None xs ys = refl
  led-twice (Some c) xs ys = ap (λ (d : GoalCourse). Some d) (sym (after_append k c xs ys))

  pub leads_twice : (o m n : Option GoalCourse) (xs ys : List Parsed) → Leads o xs m → Leads m ys n → Leads o (xs ++ ys) n
  leads_twice o m n xs ys g (inl h) = inl h
  leads_twice o m n xs ys (inl g) (inr h) = inl (h ∙ ap (led_on ys) g)
  leads_twice o m n xs ys (inr g) (inr h) = inr (h ∙ ap (led_on ys) g ∙ led-twice o xs ys)

  stays-led : (c : GoalCourse) (f : CertFault) (ls : List Parsed) → Some c ≡ stops_at f → led_on ls (Some c) ≡ Some c
  stays-led (stopped g n) f ls e = ap (λ (d : GoalCourse). Some d) (stays_stopped k g n ls)
  stays-led (reached d n) f ls e = absurd (stopped_somewhere f d n (sym e))

  -- after a fault the lines behind change nothing
  over-all : (o n : Option GoalCourse) (xs ys : List Parsed) (f : CertFault) → n ≡ led_on xs o → n ≡ stops_at f → Leads o (xs ++ ys) n
  over-all None n xs ys f e h = inl e
  over-all (Some c) n xs ys f e h =
      inr (e ∙ sym (stays-led (after_all k c xs) f ys (sym e ∙ h)) ∙ led-twice (Some c) xs ys)

  pub leads_over : (o n : Option GoalCourse) (xs ys : List Parsed) (f : CertFault) → Leads o xs n → n ≡ stops_at f → Leads o (xs ++ ys) n
  leads_over o n xs ys f (inl e) h = inl e
  leads_over o n xs ys f (inr e) h = over-all o n xs ys f e h

-- of the lines that were ahead some are taken, and the others are ahead
pub record Taking (old : GoalChecked) (ahead : Reading) (now : GoalChecked) (left : Reading) : Type 0 where
  pub taken : List Parsed
  pub aim : now.aim ≡ old.aim
  pub lines : map parsed (lines_ahead ahead) ≡ taken ++ map parsed (lines_ahead left)
  pub course : Leads old.aim old.course taken now.course
  pub ended : left.ended ≡ ahead.ended
  pub fed : (bytes : List ℕ) → ahead.ended ≡ false → IsFed bytes old ahead.unread → (now.course ≡ None) ⊎ IsFed bytes now left.unread

none-yet : (k : Aim) (o : Option GoalCourse) → o ≡ option_map (λ (c : GoalCourse). after_all k c []) o
none-yet k None = refl
none-yet k (Some c) = refl

pub taking_none : (c : GoalChecked) (r : Reading) → Taking c r c r
taking_none c r = record {
  taken = [];
  aim = refl;
  lines = refl;
  course = inr (none-yet c.aim c.course);
  ended = refl;
  fed = λ bytes e f. inr f;
}

-- the lines that one more leads from the old checker on
leads-line : (old now new : GoalChecked) (xs ys : List Parsed) (r : Result (Unit {0}) CertFault) → now.aim ≡ old.aim →
    Leads old.aim old.course xs now.course → Takes now ys new r → Leads old.aim old.course (xs ++ ys) new.course
leads-line old now new xs ys r e g t =
    leads_twice old.aim old.course now.course new.course xs ys g (subst (λ (k : Aim). Leads k now.course ys new.course) e t.course)

module _ (old : GoalChecked) (ahead : Reading) (now : GoalChecked) (left : Reading) (t : Taking old ahead now left) where
  -- no line is ahead any more
  pub taken_all : (r : Result (Unit {0}) CertFault) → lines_ahead left ≡ [] → IsCourseAnswer now.course r → Takes old (map parsed (lines_ahead ahead)) now r
  taken_all r e a = record {
    aim = t.aim;
    course = subst (λ (ls : List Parsed). Leads old.aim old.course ls now.course)
        (sym (t.lines ∙ ap (λ (ls : List (List ℕ)). t.taken ++ map parsed ls) e ∙ append-nil t.taken)) t.course;
    answers = a;
  }

  module _ (l : List ℕ) (ls : List (List ℕ)) (here : lines_ahead left ≡ l ∷ ls) (new : GoalChecked) where
    all-lines : map parsed (lines_ahead ahead) ≡ (t.taken ++ (parsed l ∷ [])) ++ map parsed ls
    all-lines = t.lines ∙ ap (λ (ks : List (List ℕ)). t.taken ++ map parsed ks) here ∙ sym (append_assoc t.taken (parsed l ∷ []) (map parsed ls))

    -- a line has a fault
    pub taken_fault : (f : CertFault) → Takes now (parsed l ∷ []) new (Err f) → Takes old (map parsed (lines_ahead ahead)) new (Err f)
    taken_fault f k = record {
      aim = k.aim ∙ t.aim;
      course = subst (λ (ks : List Parsed). Leads old.aim old.course ks new.course) (sym all-lines)
          (leads_over old.aim old.course new.course (t.taken ++ (parsed l ∷ [])) (map parsed ls) f
          (leads-line old now new t.taken (parsed l ∷ []) (Err f) t.aim t.course k) k.answers);
      answers = k.answers;
    }

    module _ (next : Reading) (form : CertLine) (says : parsed l ≡ line form) (passed : next ≡ behind l left) (rest : lines_ahead next ≡ ls) (k : Takes now (parsed l ∷ []) new (Ok tt)) where
      next-fed : (bytes : List ℕ) → ahead.ended ≡ false → (now.course ≡ None) ⊎ IsFed bytes now left.unread → (new.course ≡ None) ⊎ IsFed bytes new next.unread
      next-fed bytes e (inl h) = inl (elim k.course [ inl g ↦ g | inr g ↦ g ∙ ap (led_on now.aim (parsed l ∷ [])) h ])
      next-fed bytes e (inr f) =
          let so-far : lines_so_far left.unread ≡ l ∷ ls = sym (ap (λ (t : Bool). cond t (lines_of left.unread) (lines_so_far left.unread)) (t.ended ∙ e)) ∙ here in
          let short : is_too_long l ≡ false = formed_is_short l (line form) says (λ h. cc) in
          let p : Passes left.unread l = passes_line left.unread l ls so-far short in
          inr (subst (λ (r : Reading). IsFed bytes new r.unread) (sym passed) (fed_line now new bytes left.unread l (drop (length l + 1) left.unread) f k p.lacking p.text))

      -- a line is taken
      pub taken_line : Taking old ahead new next
      taken_line = record {
        taken = t.taken ++ (parsed l ∷ []);
        aim = k.aim ∙ t.aim;
        lines = all-lines ∙ ap (λ (ks : List (List ℕ)). (t.taken ++ (parsed l ∷ [])) ++ map parsed ks) (sym rest);
        course = leads-line old now new t.taken (parsed l ∷ []) (Ok tt) t.aim t.course k;
        ended = ap (λ (r : Reading). r.ended) passed ∙ t.ended;
        fed = λ bytes e f. next-fed bytes e (t.fed bytes e f);
      }

under-way : (c : Option GoalCourse) → IsUnderWay c → c ≡ None → ⊥
under-way None h e = h
under-way (Some c) h e = cc

-- where the checker is under way it has the bytes
pub still_fed : (old now : GoalChecked) (ahead left : Reading) (t : Taking old ahead now left) (bytes : List ℕ) → ahead.ended ≡ false → IsFed bytes old ahead.unread → IsUnderWay now.course → IsFed bytes now left.unread
still_fed old now ahead left t bytes e f u = elim (t.fed bytes e f) [ inl h ↦ absurd (under-way now.course u h) | inr h ↦ h ]

-- ---- the ways out of a loop over a reader's lines

module _ (old : GoalChecked) (ahead : Reading) (now : GoalChecked) (left : Reading) (t : Taking old ahead now left) where
  pub ends_none : (new : Reading) (r : Result (Unit {0}) CertFault) → IsNextLine (lines_ahead left) left new (Ok None) → IsCourseAnswer now.course r → Takes old (map parsed (lines_ahead ahead)) now r
  ends_none new r h a = taken_all old ahead now left t r (none_ahead (lines_ahead left) left new h).0 a

  pub ends_fault : (new : Reading) (fault : LineFault) (after : GoalChecked) (f : CertFault) → IsNextLine (lines_ahead left) left new (Err fault) →
      ((x : Parsed) → IsFault fault x → Takes now (x ∷ []) after (Err f)) → Takes old (map parsed (lines_ahead ahead)) after (Err f)
  ends_fault new fault after f h k = let q = fault_ahead (lines_ahead left) left new fault h in taken_fault old ahead now left t q.first q.later q.here after f (k (parsed q.first) q.told)

  pub ends_line : (new : Reading) (said : Line) (after : GoalChecked) (f : CertFault) → IsNextLine (lines_ahead left) left new (Ok (Some said)) →
      Takes now (line (line_of said) ∷ []) after (Err f) → Takes old (map parsed (lines_ahead ahead)) after (Err f)
  ends_line new said after f h k = let q = line_ahead (lines_ahead left) left new said h in
      taken_fault old ahead now left t q.first q.later q.here after f (subst (λ (x : Parsed). Takes now (x ∷ []) after (Err f)) (sym q.says) k)

  pub goes_on : (new : Reading) (said : Line) (after : GoalChecked) → IsNextLine (lines_ahead left) left new (Ok (Some said)) →
      Takes now (line (line_of said) ∷ []) after (Ok tt) → Taking old ahead after new
  goes_on new said after h k = let q = line_ahead (lines_ahead left) left new said h in
      taken_line old ahead now left t q.first q.later q.here after new (line_of said) q.says q.passed q.rest (subst (λ (x : Parsed). Takes now (x ∷ []) after (Ok tt)) (sym q.says) k)
