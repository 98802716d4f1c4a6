-- Bytes that a reader and a checker have between them.
use Rattle.std.proofs.Common.{◌≡◌, ◌⊎◌, ℕ, List, [], ◌∷◌, ◌++◌, map, drop, length, ◌≢◌, arith, Bool, Option, Some, None, Result, Ok, IsTrue, refl, ap, sym, ◌∙◌, inl, inr, append_assoc}
use Rattle.std.proofs.lemmas.List.{map-append}
use Rattle.std.specs.Prelude.{option_map, slice_index_or}
use Rattle.std.specs.Borrow.{Bor}
use Rattle.poly_graph.specs.ProblemViews.{Parts}
use Rattle.problem_session.specs.Session.{problems_of}
use Rattle.cert_model.specs.Due.{version_due}
use Rattle.cert_model.specs.Session.{session_start}
use Rattle.cert_model.specs.SessionLaws.{IsSession}
use Rattle.cert_read.specs.CertLine.{parsed}
use Rattle.cert_read.specs.LineText.{text_of_lines}
use Rattle.cert_read.specs.Reading.{lines_ahead}
use Rattle.cert_read.proofs.Pieces.{lacks}
use Rattle.cert_read.proofs.Ahead.{lines_after}
use Rattle.cert_model.specs.Accepted.{reached}
use Rattle.cert_check.specs.declared.fault.CertFault.{CertFault}
use Rattle.cert_check.specs.Checked.{Checked, fresh}
use Rattle.cert_check.specs.Sessions.{AreChecksOf, IsFreshFor}
use Rattle.cert_check.specs.Works.{checks_from, first_of}
use Rattle.cert_check.specs.Work.{Work, alone, together, Checks, WorkCourse, course_map, started, work_course, lean_work}
use Rattle.cert_check.specs.Courses.{after_all, IsUnderWay, Takes, led_by, IsFed, IsAt}
use Rattle.cert_check.proofs.Led.{after_append, led_all}
use Rattle.cert_check.proofs.Firsts.{reading, all_lack, whole_more, text_more}

module _ (c : Checks) where
  -- where more lines lead
  pub led_more : (xs ys : List (List ℕ)) → after_all c (course_map lean_work (work_course c xs)) (map parsed ys) ≡ course_map lean_work (work_course c (xs ++ ys))
  led_more xs ys =
      ap (λ (x : WorkCourse). after_all c x (map parsed ys)) (led_all c xs)
      ∙ sym (after_append c (reached (started c.later) 0) (map parsed xs) (map parsed ys))
      ∙ ap (after_all c (reached (started c.later) 0)) (sym (map-append parsed xs ys))
      ∙ sym (led_all c (xs ++ ys))

-- where the lines led, from those of the old checker on
pub led_after : (old new : Checked) (taken ls : List (List ℕ)) (r : Result (Unit {0}) CertFault) → old.course ≡ led_by old taken → Takes old (map parsed ls) new r →
    (new.course ≡ None) ⊎ (new.course ≡ led_by new (taken ++ ls))
led_after old new taken ls r e t = elim t.course [
  | inl h ↦ inl h
  | inr h ↦ inr (
      h ∙ ap (option_map (λ (x : WorkCourse). after_all old.checks x (map parsed ls))) e
      ∙ ap (λ (x : WorkCourse). Some x) (led_more old.checks taken ls)
      ∙ ap (λ (c : Checks). Some (course_map lean_work (work_course c (taken ++ ls)))) (sym t.checks)
      )
]

-- after all lines ahead were taken
pub at_fed : (old new : Checked) (bytes unread : List ℕ) (e : Bool) (r : Result (Unit {0}) CertFault) → IsFed bytes old unread → Takes old (map parsed (lines_ahead (reading unread e))) new r → IsAt new bytes e
at_fed old new bytes unread e r f t =
    let same : lines_ahead (reading bytes e) ≡ f.taken ++ lines_ahead (reading unread e) =
    ap (λ (u : List ℕ). lines_ahead (reading u e)) f.text ∙ lines_after f.taken unread e (all_lack f.taken f.whole) in
    elim (led_after old new f.taken (lines_ahead (reading unread e)) r f.led t) [
      | inl h ↦ inl h
      | inr h ↦ inr (h ∙ ap (led_by new) (sym same))
    ]

under-way : (c : Option WorkCourse) → IsUnderWay c → c ≡ None → ⊥
under-way None h e = h
under-way (Some c) h e = cc

-- after one line that ends with a line feed
pub fed_line : (old new : Checked) (bytes unread l rest : List ℕ) → IsFed bytes old unread → Takes old (parsed l ∷ []) new (Ok tt) → IsTrue (lacks 10 l) → unread ≡ l ++ (10 ∷ rest) → IsFed bytes new rest
fed_line old new bytes unread l rest f t k e = record {
  taken = f.taken ++ (l ∷ []);
  whole = whole_more f.taken l f.whole k;
  text = f.text ∙ ap (λ (u : List ℕ). text_of_lines f.taken ++ u) (e ∙ sym (append_assoc l (10 ∷ []) rest)) ∙ sym (append_assoc (text_of_lines f.taken) (l ++ (10 ∷ [])) rest)
      ∙ ap (λ (u : List ℕ). u ++ rest) (sym (text_more f.taken l));
  led = elim (led_after old new f.taken (l ∷ []) (Ok tt) f.led t) [
    | inl h ↦ absurd (under-way new.course t.answers h)
    | inr h ↦ h
  ];
}

-- ---- laws for callers

-- a piece is fed
pub fed_on : (c : Checked) (bytes unread piece : List ℕ) → IsFed bytes c unread → IsFed (bytes ++ piece) c (unread ++ piece)
fed_on c bytes unread piece f = record {
  taken = f.taken;
  whole = f.whole;
  text = ap (λ (u : List ℕ). u ++ piece) f.text ∙ append_assoc (text_of_lines f.taken) unread piece;
  led = f.led;
}

-- nothing is fed yet
pub led_nothing : (c : Checked) → c ≡ fresh c.checks → c.course ≡ led_by c []
led_nothing c e = ap (λ (x : Checked). x.course) e ∙ sym (ap (λ (x : WorkCourse). Some x) (led_all c.checks []))

pub fed_nothing : (c : Checked) → c ≡ fresh c.checks → IsFed [] c []
fed_nothing c e = record { taken = []; whole = tt; text = refl; led = led_nothing c e }

-- ---- what is due at first

pub one_starts : (cs : List (Parts × Bool)) → length cs ≡ 1 → alone version_due ≡ started (drop 1 cs)
one_starts [] e = absurd (omega (arith, e))
one_starts (c ∷ []) e = refl
one_starts (c ∷ d ∷ cs) e = absurd (omega (arith, e))

pub several_start : (cs : List (Parts × Bool)) → IsSession (problems_of cs) → length cs ≢ 1 → together session_start ≡ started (drop 1 cs)
several_start [] h e = absurd h
several_start (c ∷ []) h e = absurd (e refl)
several_start (c ∷ d ∷ cs) h e = refl

pub fresh_session : (session : Bor (List (Parts × Bool))) (bound : Option ℕ) (c : Checked) (s : Option (Bor (List (Parts × Bool)))) (p : Parts) (w : Work) → s ≡ Some session → IsSession (problems_of session.now) →
    c.checks ≡ record { problem = first_of s p; later = checks_from s 1; bound = bound } → c.course ≡ Some (reached w 0) → w ≡ started (drop 1 session.now) → IsFreshFor session.now bound c
fresh_session session bound c s p w e h f g i = record {
  checks = of-list session.now h (f ∙ ap (λ (o : Option (Bor (List (Parts × Bool)))). record { problem = first_of o p; later = checks_from o 1; bound = bound }) e);
  is_fresh = ap (λ (o : Option WorkCourse). record { checks = c.checks; course = o }) (g ∙ ap (λ (x : Work). Some (reached x 0)) (i ∙ ap started (sym (ap (λ (k : Checks). k.later) f ∙ ap (λ (o : Option (Bor (List (Parts × Bool)))). checks_from o 1) e))));
}
  where
    of-list : (cs : List (Parts × Bool)) → IsSession (problems_of cs) → c.checks ≡ record { problem = slice_index_or (map (λ (q : Parts × Bool). q.0) cs) 0 p; later = drop 1 cs; bound = bound } → AreChecksOf cs bound c.checks
    of-list [] h k = h
    of-list ((q, t) ∷ later) h k = k
