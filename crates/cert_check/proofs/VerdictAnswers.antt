-- What is answered of bytes that were fed by pieces is the verdict of all.
use Rattle.std.proofs.Common.{◌≡◌, ◌⊎◌, ℕ, ◌+◌, ◌-◌, ◌<◌, ◌≤◌, List, [], ◌∷◌, ◌++◌, length, take, map, Bool, true, false, not, cond, Option, Some, None, Result, Ok, Err, Vec, IsTrue, nat_eq, nat_le, refl, ap, ap₂, sym, ◌∙◌, subst, inl, inr, ltb→lt, append_assoc, append-nil, arith, length-append}
use Rattle.std.proofs.lemmas.Bool.{le-leb, lt-ltb, lt-leb}
use Rattle.std.proofs.Math.Seq.{take-append-add, take-append_seam}
use Rattle.std.proofs.lemmas.Bool.Decides.{eqb_tells}
use Rattle.std.specs.Bool.{passes}
use Rattle.dyadic.proofs.Equal.{both_pass}
use Rattle.std.specs.declared.alloc.Global.{Global}
use Rattle.poly_graph.specs.ProblemViews.{Parts, problem_of}
use Rattle.problem_session.specs.Session.{problems_of}
use Rattle.cover_model.specs.State.{Loosenings}
use Rattle.cert_read.specs.CertLine.{too_long, parsed}
use Rattle.cert_read.specs.Lines.{without_last_empty, without_unfinished, lines_of, lines_so_far, is_too_long, longest_line}
use Rattle.cert_read.specs.LineText.{text_of_lines}
use Rattle.cert_read.specs.Reading.{lines_ahead}
use Rattle.cert_read.proofs.Pieces.{AllLack, lacks, split_alone, lacks_append}
use Rattle.cert_read.proofs.Ahead.{lines_after, long_parsed}
use Rattle.cert_model.specs.Due.{CertFault, Value, at_point, left_open, Standing, Due, nothing_due}
use Rattle.cert_model.specs.Accepted.{stopped, reached, Verdict, accepted, refused, cut_off, at_end, verdict, most_bytes}
use Rattle.cert_model.specs.Session.{SessionDue, header_due, all_done, SessionVerdict, one_verdict, session_at_end, session_verdict}
use Rattle.cert_check.specs.declared.checker.Verdict as told
use Rattle.cert_check.specs.declared.fault.CertFault as code
use Rattle.cert_check.specs.declared.fault.CertFault.TheVariants as numbered
use Rattle.cert_check.specs.declared.fault.CertFault.TheVariants.{Memory}
use Rattle.cert_check.specs.Checked.{Checked}
use Rattle.cert_check.specs.Dues.{lean_left, lean_value, lean}
use Rattle.cert_check.specs.Faults.{stop_of}
use Rattle.cert_check.specs.Courses.{after, after_all, stops_at, led_by, IsRefusal, IsFirstVerdict, IsVerdict, verdict_of, Finishes, IsCutOff}
use Rattle.cert_check.specs.Sessions.{IsSessionVerdict, FinishesAll}
use Rattle.cert_check.specs.Work.{Work, alone, together, Checks, WorkCourse, course_map, work_course, work_ended, work_verdict, brief, lean_session, lean_work}
use Rattle.cert_check.specs.Laws.{VerdictIsTold, VerdictsAreTold, FaultIsTold, TooLongIsTold}
use Rattle.cert_check.proofs.Leans.{length_blanks}
use Rattle.cert_check.proofs.Led.{stays_stopped}
use Rattle.cert_check.proofs.Firsts.{reading}
use Rattle.cert_check.proofs.Fed.{led_more}
use Rattle.cert_check.proofs.VerdictLed.{work_verdict_by, verdict_led}

-- ---- verdicts of courses without what the code does not keep

lean-left : (s : Loosenings) (left : List Standing) → verdict_of s (left_open (lean_left left)) ≡ verdict_of s (left_open left)
lean-left s [] = refl
lean-left s (x ∷ left) = ap (λ (n : ℕ). told.Verdict.Left n) (length_blanks (length (x ∷ left)))

lean-verdict : (s : Loosenings) (v : Value) → verdict_of s (lean_value v) ≡ verdict_of s v
lean-verdict s (at_point space) = refl
lean-verdict s (left_open left) = lean-left s left

brief-verdict : (s : Loosenings) (v : Value) → verdict_of s (brief v) ≡ verdict_of s v
brief-verdict s (at_point space) = refl
brief-verdict s (left_open left) = lean-left s left

brief-verdicts : (s : Loosenings) (vs : List Value) → map (verdict_of s) (map brief vs) ≡ map (verdict_of s) vs
brief-verdicts s [] = refl
brief-verdicts s (v ∷ vs) = ap₂ (λ (w : told.Verdict) (ws : List told.Verdict). w ∷ ws) (brief-verdict s v) (brief-verdicts s vs)

-- verdicts that are told alike
abbrev ToldAlike : SessionVerdict → SessionVerdict → Type 0
ToldAlike v w = ((r : Result told.Verdict code.CertFault) → IsFirstVerdict v r → IsFirstVerdict w r) × ((r : Result (Vec told.Verdict Global) code.CertFault) → IsSessionVerdict v r → IsSessionVerdict w r)

first-told : (s : Loosenings) (vs : List Value) (r : Result told.Verdict code.CertFault) → IsFirstVerdict (accepted s (map brief vs)) r → IsFirstVerdict (accepted s vs) r
first-told s [] r h = h
first-told s (v ∷ vs) (Ok w) h = h ∙ brief-verdict s v
first-told s (v ∷ vs) (Err e) h = h

all-told : (s : Loosenings) (vs : List Value) (r : Result (Vec told.Verdict Global) code.CertFault) → IsSessionVerdict (accepted s (map brief vs)) r → IsSessionVerdict (accepted s vs) r
all-told s vs (Ok w) h = h ∙ brief-verdicts s vs
all-told s vs (Err e) h = h

one-told : (s : Loosenings) (v : Value) (r : Result told.Verdict code.CertFault) → IsFirstVerdict (accepted s (lean_value v ∷ [])) r → IsFirstVerdict (accepted s (v ∷ [])) r
one-told s v (Ok w) h = h ∙ lean-verdict s v
one-told s v (Err e) h = h

one-all-told : (s : Loosenings) (v : Value) (r : Result (Vec told.Verdict Global) code.CertFault) → IsSessionVerdict (accepted s (lean_value v ∷ [])) r → IsSessionVerdict (accepted s (v ∷ [])) r
one-all-told s v (Ok w) h = h ∙ ap (λ (x : told.Verdict). x ∷ []) (lean-verdict s v)
one-all-told s v (Err e) h = h

alone-told : (d : Due) (n : ℕ) → ToldAlike (one_verdict (at_end (lean d) n)) (one_verdict (at_end d n))
alone-told (nothing_due s lemmas v) n = (one-told s v, one-all-told s v)
alone-told _ n = (λ r h. h, λ r h. h)

together-told : (d : SessionDue) (n : ℕ) → ToldAlike (session_at_end (lean_session d) n) (session_at_end d n)
together-told (all_done s values) n = (first-told s values, all-told s values)
together-told (header_due d) n = (λ r h. h, λ r h. h)
together-told _ n = (λ r h. h, λ r h. h)

ended-lean : (c : WorkCourse) → ToldAlike (work_ended (course_map lean_work c)) (work_ended c)
ended-lean (stopped f n) = (λ r h. h, λ r h. h)
ended-lean (reached (alone d) n) = alone-told d n
ended-lean (reached (together d) n) = together-told d n

cut-off-lean : {V : Type 0} (c : WorkCourse) → cut_off {D = Work} {V = V} (course_map lean_work c) ≡ cut_off c
cut-off-lean (stopped f n) = refl
cut-off-lean (reached d n) = refl

stops-lean : (c : WorkCourse) (f : CertFault) (n : ℕ) → course_map lean_work c ≡ stopped f n → c ≡ stopped f n
stops-lean (stopped g m) f n e = e
stops-lean (reached d m) f n e = cc

-- ---- bytes as whole lines and the rest

pub record Cut (bytes : List ℕ) : Type 0 where
  pub lines : List (List ℕ)
  pub rest : List ℕ
  pub whole : AllLack 10 lines
  pub open_rest : IsTrue (lacks 10 rest)
  pub text : bytes ≡ text_of_lines lines ++ rest

longer : (b : ℕ) (bs : List ℕ) → nat_eq b 10 ≡ false → (ls : List (List ℕ)) (u : List ℕ) → AllLack 10 ls → IsTrue (lacks 10 u) → bs ≡ text_of_lines ls ++ u → Cut (b ∷ bs)
longer b bs e [] u h k p = record {
  lines = [];
  rest = b ∷ u;
  whole = tt;
  open_rest = both_pass (not (nat_eq b 10)) (lacks 10 u) (ap not e) k;
  text = ap (λ (xs : List ℕ). b ∷ xs) p;
}
longer b bs e (l ∷ ls) u h k p = record {
  lines = (b ∷ l) ∷ ls;
  rest = u;
  whole = (both_pass (not (nat_eq b 10)) (lacks 10 l) (ap not e) h.0, h.1);
  open_rest = k;
  text = ap (λ (xs : List ℕ). b ∷ xs) p;
}

pub cut_bytes : (bytes : List ℕ) → Cut bytes
cut_bytes [] = record { lines = []; rest = []; whole = tt; open_rest = refl; text = refl }
cut_bytes (b ∷ bs) = let c = cut_bytes bs in elim (eqb_tells b 10) [
  | inl h ↦ record {
    lines = [] ∷ c.lines;
    rest = c.rest;
    whole = (refl, c.whole);
    open_rest = c.open_rest;
    text = ap₂ (λ (x : ℕ) (xs : List ℕ). x ∷ xs) h.1 c.text;
  }
  | inr h ↦ longer b bs h.0 c.lines c.rest c.whole c.open_rest c.text
]

-- ---- the first line of bytes that begin with too many others

pub record BeginsLong (bytes : List ℕ) (e : Bool) : Type 0 where
  pub first : List ℕ
  pub later : List (List ℕ)
  pub ahead : lines_ahead (reading bytes e) ≡ first ∷ later
  pub long : parsed first ≡ too_long

some-line : (u : List ℕ) → longest_line < length u → without_last_empty (u ∷ []) ≡ u ∷ []
some-line [] l = absurd (omega (arith, l))
some-line (b ∷ u) l = refl

alone-ahead : (u : List ℕ) (e : Bool) → IsTrue (lacks 10 u) → longest_line < length u → lines_ahead (reading u e) ≡ u ∷ []
alone-ahead u true k l = ap without_last_empty (split_alone 10 u k) ∙ some-line u l
alone-ahead u false k l = ap without_unfinished (split_alone 10 u k) ∙ ap (λ (t : Bool). cond t (u ∷ []) []) (lt-ltb longest_line (length u) l)

begins-long : (u rest : List ℕ) (e : Bool) → IsTrue (lacks 10 u) → longest_line < length u → Cut rest → BeginsLong (u ++ rest) e
begins-long u rest e k l c = by-lines c.lines c.whole c.text where
  by-lines : (ls : List (List ℕ)) → AllLack 10 ls → rest ≡ text_of_lines ls ++ c.rest → BeginsLong (u ++ rest) e
  by-lines [] h p =
      let all : IsTrue (lacks 10 (u ++ rest)) = subst (λ (xs : List ℕ). IsTrue (lacks 10 (u ++ xs))) (sym p) (lacks_append 10 u c.rest k c.open_rest) in
      let long : longest_line < length (u ++ rest) = omega (arith, l, length-append u rest) in
      record { first = u ++ rest; later = []; ahead = alone-ahead (u ++ rest) e all long; long = long_parsed (u ++ rest) long }
  by-lines (m ∷ ls) h p =
      let whole : AllLack 10 ((u ++ m) ∷ []) = (lacks_append 10 u m k h.0, tt) in
      let text : u ++ rest ≡ text_of_lines ((u ++ m) ∷ []) ++ (text_of_lines ls ++ c.rest) =
      ap (λ (xs : List ℕ). u ++ xs) (p ∙ append_assoc m (10 ∷ text_of_lines ls) c.rest) ∙ sym (append_assoc u m (10 ∷ (text_of_lines ls ++ c.rest)))
      ∙ sym (append_assoc (u ++ m) (10 ∷ []) (text_of_lines ls ++ c.rest)) in
      record {
        first = u ++ m;
        later = lines_ahead (reading (text_of_lines ls ++ c.rest) e);
        ahead = ap (λ (xs : List ℕ). lines_ahead (reading xs e)) text ∙ lines_after ((u ++ m) ∷ []) (text_of_lines ls ++ c.rest) e whole;
        long = long_parsed (u ++ m) (omega (arith, l, length-append u m));
      }

-- ---- what follows does not undo a fault

is-long : (u : List ℕ) → is_too_long u ≡ true → longest_line < length u
is-long u e = ltb→lt longest_line (length u) (passes _ e)

module _ (c : Checks) where
  abbrev led : List (List ℕ) → WorkCourse
  led ls = course_map lean_work (work_course c ls)

  -- more lines
  stops-on : (xs ys : List (List ℕ)) (f : CertFault) (n : ℕ) → led xs ≡ stopped f n → led (xs ++ ys) ≡ stopped f n
  stops-on xs ys f n e = sym (led_more c xs ys) ∙ ap (λ (x : WorkCourse). after_all c x (map parsed ys)) e ∙ stays_stopped c f n (map parsed ys)

  -- another line that is too long
  stops-long : (xs : List (List ℕ)) (u m : List ℕ) (ms : List (List ℕ)) (f : CertFault) (n : ℕ) → parsed u ≡ too_long → parsed m ≡ too_long → led (xs ++ (u ∷ [])) ≡ stopped f n → led (xs ++ (m ∷ ms)) ≡ stopped f n
  stops-long xs u m ms f n h k e =
      let one : after c (led xs) too_long ≡ stopped f n = ap (after c (led xs)) (sym h) ∙ led_more c xs (u ∷ []) ∙ e in
      sym (led_more c xs (m ∷ ms))
      ∙ ap (λ (x : WorkCourse). after_all c x (map parsed ms)) (ap (after c (led xs)) k ∙ one)
      ∙ stays_stopped c f n (map parsed ms)

  stops-rest : (ls : List (List ℕ)) (u rest : List ℕ) (e : Bool) (f : CertFault) (n : ℕ) → IsTrue (lacks 10 u) → (t : Bool) → is_too_long u ≡ t →
      led (ls ++ cond t (u ∷ []) []) ≡ stopped f n → led (ls ++ lines_ahead (reading (u ++ rest) e)) ≡ stopped f n
  stops-rest ls u rest e f n k true g h =
      let long : longest_line < length u = is-long u g in
      let g' = begins-long u rest e k long (cut_bytes rest) in
      ap (λ (xs : List (List ℕ)). led (ls ++ xs)) g'.ahead ∙ stops-long ls u g'.first g'.later f n (long_parsed u long) g'.long h
  stops-rest ls u rest e f n k false g h = stops-on ls (lines_ahead (reading (u ++ rest) e)) f n (ap led (sym (append-nil ls)) ∙ h)

  -- a fault of the lines of some bytes is one of these bytes with more behind them
  stops : (bytes rest : List ℕ) (e : Bool) (f : CertFault) (n : ℕ) → led (lines_so_far bytes) ≡ stopped f n → led (lines_ahead (reading (bytes ++ rest) e)) ≡ stopped f n
  stops bytes rest e f n h =
      let d = cut_bytes bytes in
      let unfinished : lines_ahead (reading d.rest false) ≡ cond (is_too_long d.rest) (d.rest ∷ []) [] = ap without_unfinished (split_alone 10 d.rest d.open_rest) in
      let before : lines_so_far bytes ≡ d.lines ++ cond (is_too_long d.rest) (d.rest ∷ []) [] =
      ap lines_so_far d.text ∙ lines_after d.lines d.rest false d.whole ∙ ap (λ (xs : List (List ℕ)). d.lines ++ xs) unfinished in
      let behind : lines_ahead (reading (bytes ++ rest) e) ≡ d.lines ++ lines_ahead (reading (d.rest ++ rest) e) =
      ap (λ (xs : List ℕ). lines_ahead (reading (xs ++ rest) e)) d.text ∙ ap (λ (xs : List ℕ). lines_ahead (reading xs e)) (append_assoc (text_of_lines d.lines) d.rest rest)
      ∙ lines_after d.lines (d.rest ++ rest) e d.whole in
      ap led behind ∙ stops-rest d.lines d.rest rest e f n d.open_rest (is_too_long d.rest) refl (ap led (sym before) ∙ h)

  -- ---- verdicts

  verdict-few : (bytes : List ℕ) → length bytes ≤ most_bytes → work_verdict c bytes ≡ work_ended (work_course c (lines_of bytes))
  verdict-few bytes h = verdict_led c bytes ∙ ap (λ (t : Bool). work_verdict_by t c bytes) (le-leb (length bytes) most_bytes h)

  verdict-stops : (bytes rest : List ℕ) (f : CertFault) (n : ℕ) → length bytes ≤ most_bytes → led (lines_so_far bytes) ≡ stopped f n → work_verdict c (bytes ++ rest) ≡ refused f n
  verdict-stops bytes rest f n h e = verdict_led c (bytes ++ rest) ∙ by-size (nat_le (length (bytes ++ rest)) most_bytes) where
    by-size : (t : Bool) → work_verdict_by t c (bytes ++ rest) ≡ refused f n
    by-size true = ap work_ended (stops-lean (work_course c (lines_of (bytes ++ rest))) f n (stops bytes rest true f n e))
    by-size false =
        let more : ℕ = most_bytes - length bytes in
        let size : most_bytes ≡ length bytes + more = omega (arith, h) in
        let front : take most_bytes (bytes ++ rest) ≡ bytes ++ take more rest = ap (λ (k : ℕ). take k (bytes ++ rest)) size ∙ take-append-add bytes rest more in
        ap cut_off (stops-lean (work_course c (lines_so_far (take most_bytes (bytes ++ rest)))) f n (ap (λ (xs : List ℕ). led (lines_so_far xs)) front ∙ stops bytes (take more rest) false f n e))

-- ---- the laws

pub memory_alone : (f : code.CertFault) → stops_at f ≡ None → f ≡ numbered.Memory
memory_alone (numbered.BadHeader n) e = cc
memory_alone (numbered.BadNumber n) e = cc
memory_alone (numbered.RuleFails w n) e = cc
memory_alone (numbered.KeepFails n) e = cc
memory_alone (numbered.OverFails n) e = cc
memory_alone (numbered.Missing n) e = cc
memory_alone (numbered.Extra n) e = cc
memory_alone (numbered.WrongBound n) e = cc
memory_alone (numbered.NotShown n) e = cc
memory_alone (numbered.BadLine n) e = cc
memory_alone (numbered.LineTooLong n) e = cc
memory_alone (numbered.TooLong n) e = cc
memory_alone numbered.Memory e = refl

some-same : {A : Type 0} {x y : A} → Some x ≡ Some y → x ≡ y
some-same e = cc

-- where a course stops so
abbrev pub StopsSo : code.CertFault → WorkCourse → Type 0
StopsSo f (stopped g n) = Some (stopped g n) ≡ stop_of f
StopsSo f (reached w n) = ⊥

pub stops_so : (f : code.CertFault) (x : WorkCourse) → stops_at f ≡ Some x → StopsSo f x
stops_so (numbered.BadHeader k) x e = subst (StopsSo (numbered.BadHeader k)) (some-same e) refl
stops_so (numbered.BadNumber k) x e = subst (StopsSo (numbered.BadNumber k)) (some-same e) refl
stops_so (numbered.RuleFails w k) x e = subst (StopsSo (numbered.RuleFails w k)) (some-same e) refl
stops_so (numbered.KeepFails k) x e = subst (StopsSo (numbered.KeepFails k)) (some-same e) refl
stops_so (numbered.OverFails k) x e = subst (StopsSo (numbered.OverFails k)) (some-same e) refl
stops_so (numbered.Missing k) x e = subst (StopsSo (numbered.Missing k)) (some-same e) refl
stops_so (numbered.Extra k) x e = subst (StopsSo (numbered.Extra k)) (some-same e) refl
stops_so (numbered.WrongBound k) x e = subst (StopsSo (numbered.WrongBound k)) (some-same e) refl
stops_so (numbered.NotShown k) x e = subst (StopsSo (numbered.NotShown k)) (some-same e) refl
stops_so (numbered.BadLine k) x e = subst (StopsSo (numbered.BadLine k)) (some-same e) refl
stops_so (numbered.LineTooLong k) x e = subst (StopsSo (numbered.LineTooLong k)) (some-same e) refl
stops_so (numbered.TooLong k) x e = subst (StopsSo (numbered.TooLong k)) (some-same e) refl
stops_so numbered.Memory x e = cc

pub stopped_somewhere : (f : code.CertFault) (w : Work) (n : ℕ) → stops_at f ≡ Some (reached w n) → ⊥
stopped_somewhere f w n e = stops_so f (reached w n) e

-- where the lines led
module _ (c : Checked) (bytes : List ℕ) where
  at-end : length bytes ≤ most_bytes → c.course ≡ led_by c (lines_of bytes) → (r : Result told.Verdict code.CertFault) → Finishes c.course r → IsFirstVerdict (work_verdict c.checks bytes) r
  at-end h e r f =
      subst (λ (v : SessionVerdict). IsFirstVerdict v r) (sym (verdict-few c.checks bytes h))
      ((ended-lean (work_course c.checks (lines_of bytes))).0 r (subst (λ (o : Option WorkCourse). Finishes o r) e f))

  all-at-end : length bytes ≤ most_bytes → c.course ≡ led_by c (lines_of bytes) → (r : Result (Vec told.Verdict Global) code.CertFault) → FinishesAll c.course r →
      (r ≡ Err Memory) ⊎ IsSessionVerdict (work_verdict c.checks bytes) r
  all-at-end h e r f = elim (subst (λ (o : Option WorkCourse). FinishesAll o r) e f) [
    | inl g ↦ inl g
    | inr g ↦ inr (
        subst (λ (v : SessionVerdict). IsSessionVerdict v r) (sym (verdict-few c.checks bytes h))
        ((ended-lean (work_course c.checks (lines_of bytes))).1 r g)
        )
  ]

first-one : (v : Verdict) (r : Result told.Verdict code.CertFault) → IsFirstVerdict (one_verdict v) r → IsVerdict v r
first-one (accepted s v) (Ok w) h = h
first-one (accepted s v) (Err e) h = h
first-one (refused f n) (Ok w) h = h
first-one (refused f n) (Err e) h = h

pub verdict_is_told : VerdictIsTold
verdict_is_told c bytes r h at one f = elim at [
  | inl e ↦ inl (subst (λ (o : Option WorkCourse). Finishes o r) e f)
  | inr e ↦ inr (
      first-one (verdict (problem_of c.checks.problem) c.checks.bound bytes) r
      (subst (λ (later : List (Parts × Bool)). IsFirstVerdict (session_verdict ((problem_of c.checks.problem, true) ∷ problems_of later) c.checks.bound bytes) r) one (at-end c bytes h e r f))
      )
]

pub verdicts_are_told : VerdictsAreTold
verdicts_are_told c bytes r h at f = elim at [
  | inl e ↦ inl (subst (λ (o : Option WorkCourse). FinishesAll o r) e f)
  | inr e ↦ all-at-end c bytes h e r f
]

fault-at : (c : Checked) (bytes rest : List ℕ) (f : code.CertFault) → length bytes ≤ most_bytes → (x : WorkCourse) → stops_at f ≡ Some x →
    course_map lean_work (work_course c.checks (lines_so_far bytes)) ≡ x → IsRefusal (work_verdict c.checks (bytes ++ rest)) f
fault-at c bytes rest f h (stopped g n) e k =
    subst (λ (v : SessionVerdict). IsRefusal v f) (sym (verdict-stops c.checks bytes rest g n h k)) (stops_so f (stopped g n) e)
fault-at c bytes rest f h (reached d n) e k = absurd (stopped_somewhere f d n e)

pub fault_is_told : FaultIsTold
fault_is_told c bytes rest f h at a = elim at [
  | inl e ↦ inl (memory_alone f (sym a ∙ e))
  | inr e ↦ inr (fault-at c bytes rest f h (course_map lean_work (work_course c.checks (lines_so_far bytes))) (sym a ∙ e) refl)
]

past : (n : ℕ) → most_bytes < n → nat_le n most_bytes ≡ false
past n h = lt-leb n most_bytes h

cut-refusal : (x : WorkCourse) (f : code.CertFault) → IsRefusal (cut_off {D = Work} {V = Value} x) f → IsRefusal (cut_off {D = Work} {V = List Value} x) f
cut-refusal (stopped g n) f h = h
cut-refusal (reached w n) f h = h

pub too_long_is_told : TooLongIsTold
too_long_is_told c bytes rest f h some at k = elim at [
  | inl e ↦ inl (subst (λ (o : Option WorkCourse). IsCutOff o f) e k)
  | inr e ↦ inr (
      let x : WorkCourse = work_course c.checks (lines_so_far bytes) in
      let many : nat_le (length (bytes ++ rest)) most_bytes ≡ false = past (length (bytes ++ rest)) (omega (arith, h, some, length-append bytes rest)) in
      let front : take most_bytes (bytes ++ rest) ≡ bytes = ap (λ (n : ℕ). take n (bytes ++ rest)) (sym h) ∙ take-append_seam bytes rest in
      let cut : work_verdict c.checks (bytes ++ rest) ≡ cut_off x =
      verdict_led c.checks (bytes ++ rest)
      ∙ ap (λ (t : Bool). work_verdict_by t c.checks (bytes ++ rest)) many ∙ ap (λ (xs : List ℕ). cut_off (work_course c.checks (lines_so_far xs))) front in
      subst (λ (v : SessionVerdict). IsRefusal v f) (cut-off-lean x ∙ sym cut) (cut-refusal (course_map lean_work x) f (subst (λ (o : Option WorkCourse). IsCutOff o f) e k))
      )
]
