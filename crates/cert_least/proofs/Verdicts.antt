-- What is answered of bytes that were fed by pieces is the verdict of all.
use Rattle.std.proofs.Common.{◌≡◌, ◌⊎◌, ℕ, ◌+◌, ◌-◌, ◌<◌, ◌≤◌, List, [], ◌∷◌, ◌++◌, length, take, map, Bool, true, false, cond, Option, Some, None, Result, Ok, Err, IsTrue, nat_le, refl, ap, sym, ◌∙◌, subst, inl, inr, ltb→lt, append_assoc, append-nil, arith, length-append}
use Rattle.std.specs.Prelude.{option_map}
use Rattle.std.proofs.lemmas.Bool.{le-leb, lt-ltb, lt-leb}
use Rattle.std.proofs.Math.Seq.{take-append-add, take-append_seam}
use Rattle.std.specs.Bool.{passes}
use Rattle.cover_model.specs.State.{Loosenings}
use Rattle.cert_read.specs.CertLine.{too_long, parsed}
use Rattle.cert_read.specs.Lines.{without_last_empty, without_unfinished, lines_of, lines_so_far, is_too_long, longest_line}
use Rattle.cert_read.specs.LineText.{text_of_lines}
use Rattle.cert_read.specs.Reading.{lines_ahead}
use Rattle.cert_read.proofs.Pieces.{AllLack, lacks, split_alone, lacks_append}
use Rattle.cert_read.proofs.Ahead.{lines_after, long_parsed}
use Rattle.cert_model.specs.Due.{CertFault, Value, at_point, left_open, Standing, Due, nothing_due}
use Rattle.cert_model.specs.Accepted.{Course, stopped, reached, refused, cut_off, verdict_of, at_end, most_bytes}
use Rattle.cert_model.specs.Least.{LeastDue, covered_due, shown_due, GoalDue, plain_due, least_due, GoalValue, GoalCourse, GoalVerdict, least_at_end, plain_verdict, goal_ended}
use Rattle.cert_check.specs.declared.checker.Verdict as check
use Rattle.cert_check.specs.declared.fault.CertFault as code
use Rattle.cert_check.specs.declared.fault.CertFault.TheVariants.{Memory}
use Rattle.cert_check.specs.Courses as checking
use Rattle.cert_check.specs.Courses.{IsRefusal}
use Rattle.cert_check.specs.Dues.{lean_left, lean_value, lean}
use Rattle.cert_check.specs.Faults.{stop_of}
use Rattle.cert_check.specs.Work.{alone, course_map}
use Rattle.cert_check.proofs.Firsts.{reading}
use Rattle.cert_check.proofs.Leans.{length_blanks}
use Rattle.cert_check.proofs.VerdictAnswers as answers
use Rattle.cert_check.proofs.VerdictAnswers.{Cut, cut_bytes, BeginsLong}
use Rattle.cert_least.specs.declared.verdict.GoalVerdict as told
use Rattle.cert_least.specs.declared.verdict.GoalVerdict.TheVariants as tells
use Rattle.cert_least.specs.Aims.{Aim, aim_course, aim_verdict, lean_goal}
use Rattle.cert_least.specs.Checked.{GoalChecked}
use Rattle.cert_least.specs.Courses.{after, after_all, stops_at, Finishes, IsAt, IsCourseAnswer, IsCutOff, IsVerdict}
use Rattle.cert_least.proofs.Led.{stays_stopped}
use Rattle.cert_least.proofs.Fed.{led_more}

-- ---- verdicts of courses without what the code does not keep

lean-left : (s : Loosenings) (left : List Standing) → checking.verdict_of s (left_open (lean_left left)) ≡ checking.verdict_of s (left_open left)
lean-left s [] = refl
lean-left s (x ∷ left) = ap (λ (n : ℕ). check.Verdict.Left n) (length_blanks (length (x ∷ left)))

lean-verdict : (s : Loosenings) (v : Value) → checking.verdict_of s (lean_value v) ≡ checking.verdict_of s v
lean-verdict s (at_point space) = refl
lean-verdict s (left_open left) = lean-left s left

module _ (a : Aim) where
  plain-told : (d : Due) (n : ℕ) (r : Result told.GoalVerdict code.CertFault) → IsVerdict a (plain_verdict (at_end (lean d) n)) r → IsVerdict a (plain_verdict (at_end d n)) r
  plain-told (nothing_due s lemmas v) n (Ok (tells.Check w)) h = h ∙ lean-verdict s v
  plain-told (nothing_due s lemmas v) n (Ok (tells.Least w)) h = h
  plain-told (nothing_due s lemmas v) n (Err e) h = h
  plain-told _ n r h = h

  least-told : (d : LeastDue) (n : ℕ) (r : Result told.GoalVerdict code.CertFault) → IsVerdict a (goal_ended (course_map lean_goal (reached (least_due d) n))) r → IsVerdict a (least_at_end d n) r
  least-told (covered_due s e left) n (Ok (tells.Check w)) h = h
  least-told (covered_due s e left) n (Ok (tells.Least w)) h = record { margin = h.margin; delta = h.delta; lower = h.lower; upper = h.upper }
  least-told (covered_due s e left) n (Err e') h = h
  least-told (shown_due s x) n (Ok (tells.Check w)) h = h
  least-told (shown_due s x) n (Ok (tells.Least w)) h = record { margin = h.margin; delta = h.delta; lower = h.lower; upper = h.upper }
  least-told (shown_due s x) n (Err e) h = h
  least-told _ n r h = h

  ended-lean : (x : GoalCourse) (r : Result told.GoalVerdict code.CertFault) → IsVerdict a (goal_ended (course_map lean_goal x)) r → IsVerdict a (goal_ended x) r
  ended-lean (stopped f n) r h = h
  ended-lean (reached (plain_due d) n) r h = plain-told d n r h
  ended-lean (reached (least_due d) n) r h = least-told d n r h

cut-off-lean : (x : GoalCourse) → cut_off {D = GoalDue} {V = GoalValue} (course_map lean_goal x) ≡ cut_off x
cut-off-lean (stopped f n) = refl
cut-off-lean (reached d n) = refl

stops-lean : (x : GoalCourse) (f : CertFault) (n : ℕ) → course_map lean_goal x ≡ stopped f n → x ≡ stopped f n
stops-lean (stopped g m) f n e = e
stops-lean (reached d m) f n e = cc

-- ---- the first line of bytes that begin with too many others

some-line : (u : List ℕ) → longest_line < length u → without_last_empty (u ∷ []) ≡ u ∷ []
some-line [] l = absurd (omega (arith, l))
some-line (b ∷ u) l = refl

alone-ahead : (u : List ℕ) (e : Bool) → IsTrue (lacks 10 u) → longest_line < length u → lines_ahead (reading u e) ≡ u ∷ []
alone-ahead u true k l = ap without_last_empty (split_alone 10 u k) ∙ some-line u l
alone-ahead u false k l = ap without_unfinished (split_alone 10 u k) ∙ ap (λ (t : Bool). cond t (u ∷ []) []) (lt-ltb longest_line (length u) l)

begins-long : (u rest : List ℕ) (e : Bool) → IsTrue (lacks 10 u) → longest_line < length u → Cut rest → BeginsLong (u ++ rest) e
begins-long u rest e k l c = by-lines c.lines c.whole c.text where
  by-lines : (ls : List (List ℕ)) → AllLack 10 ls → rest ≡ text_of_lines ls ++ c.rest → BeginsLong (u ++ rest) e
  by-lines [] h p =
      let all : IsTrue (lacks 10 (u ++ rest)) = subst (λ (xs : List ℕ). IsTrue (lacks 10 (u ++ xs))) (sym p) (lacks_append 10 u c.rest k c.open_rest) in
      let long : longest_line < length (u ++ rest) = omega (arith, l, length-append u rest) in
      record { first = u ++ rest; later = []; ahead = alone-ahead (u ++ rest) e all long; long = long_parsed (u ++ rest) long }
  by-lines (m ∷ ls) h p =
      let whole : AllLack 10 ((u ++ m) ∷ []) = (lacks_append 10 u m k h.0, tt) in
      let text : u ++ rest ≡ text_of_lines ((u ++ m) ∷ []) ++ (text_of_lines ls ++ c.rest) =
      ap (λ (xs : List ℕ). u ++ xs) (p ∙ append_assoc m (10 ∷ text_of_lines ls) c.rest) ∙ sym (append_assoc u m (10 ∷ (text_of_lines ls ++ c.rest)))
      ∙ sym (append_assoc (u ++ m) (10 ∷ []) (text_of_lines ls ++ c.rest)) in
      record {
        first = u ++ m;
        later = lines_ahead (reading (text_of_lines ls ++ c.rest) e);
        ahead = ap (λ (xs : List ℕ). lines_ahead (reading xs e)) text ∙ lines_after ((u ++ m) ∷ []) (text_of_lines ls ++ c.rest) e whole;
        long = long_parsed (u ++ m) (omega (arith, l, length-append u m));
      }

-- ---- what follows does not undo a fault

is-long : (u : List ℕ) → is_too_long u ≡ true → longest_line < length u
is-long u e = ltb→lt longest_line (length u) (passes _ e)

module _ (c : Aim) where
  abbrev led : List (List ℕ) → GoalCourse
  led ls = course_map lean_goal (aim_course c ls)

  -- more lines
  stops-on : (xs ys : List (List ℕ)) (f : CertFault) (n : ℕ) → led xs ≡ stopped f n → led (xs ++ ys) ≡ stopped f n
  stops-on xs ys f n e = sym (led_more c xs ys) ∙ ap (λ (x : GoalCourse). after_all c x (map parsed ys)) e ∙ stays_stopped c f n (map parsed ys)

  -- another line that is too long
  stops-long : (xs : List (List ℕ)) (u m : List ℕ) (ms : List (List ℕ)) (f : CertFault) (n : ℕ) → parsed u ≡ too_long → parsed m ≡ too_long → led (xs ++ (u ∷ [])) ≡ stopped f n → led (xs ++ (m ∷ ms)) ≡ stopped f n
  stops-long xs u m ms f n h k e =
      let one : after c (led xs) too_long ≡ stopped f n = ap (after c (led xs)) (sym h) ∙ led_more c xs (u ∷ []) ∙ e in
      sym (led_more c xs (m ∷ ms))
      ∙ ap (λ (x : GoalCourse). after_all c x (map parsed ms)) (ap (after c (led xs)) k ∙ one)
      ∙ stays_stopped c f n (map parsed ms)

  stops-rest : (ls : List (List ℕ)) (u rest : List ℕ) (e : Bool) (f : CertFault) (n : ℕ) → IsTrue (lacks 10 u) → (t : Bool) → is_too_long u ≡ t →
      led (ls ++ cond t (u ∷ []) []) ≡ stopped f n → led (ls ++ lines_ahead (reading (u ++ rest) e)) ≡ stopped f n
  stops-rest ls u rest e f n k true g h =
      let long : longest_line < length u = is-long u g in
      let g' = begins-long u rest e k long (cut_bytes rest) in
      ap (λ (xs : List (List ℕ)). led (ls ++ xs)) g'.ahead ∙ stops-long ls u g'.first g'.later f n (long_parsed u long) g'.long h
  stops-rest ls u rest e f n k false g h = stops-on ls (lines_ahead (reading (u ++ rest) e)) f n (ap led (sym (append-nil ls)) ∙ h)

  -- a fault of the lines of some bytes is one of these bytes with more behind them
  stops : (bytes rest : List ℕ) (e : Bool) (f : CertFault) (n : ℕ) → led (lines_so_far bytes) ≡ stopped f n → led (lines_ahead (reading (bytes ++ rest) e)) ≡ stopped f n
  stops bytes rest e f n h =
      let d = cut_bytes bytes in
      let unfinished : lines_ahead (reading d.rest false) ≡ cond (is_too_long d.rest) (d.rest ∷ []) [] = ap without_unfinished (split_alone 10 d.rest d.open_rest) in
      let before : lines_so_far bytes ≡ d.lines ++ cond (is_too_long d.rest) (d.rest ∷ []) [] =
      ap lines_so_far d.text ∙ lines_after d.lines d.rest false d.whole ∙ ap (λ (xs : List (List ℕ)). d.lines ++ xs) unfinished in
      let behind : lines_ahead (reading (bytes ++ rest) e) ≡ d.lines ++ lines_ahead (reading (d.rest ++ rest) e) =
      ap (λ (xs : List ℕ). lines_ahead (reading (xs ++ rest) e)) d.text ∙ ap (λ (xs : List ℕ). lines_ahead (reading xs e)) (append_assoc (text_of_lines d.lines) d.rest rest)
      ∙ lines_after d.lines (d.rest ++ rest) e d.whole in
      ap led behind ∙ stops-rest d.lines d.rest rest e f n d.open_rest (is_too_long d.rest) refl (ap led (sym before) ∙ h)

  -- ---- verdicts

  abbrev verdict-by : Bool → List ℕ → GoalVerdict
  verdict-by few bytes = verdict_of (aim_course c) goal_ended few bytes

  verdict-few : (bytes : List ℕ) → length bytes ≤ most_bytes → aim_verdict c bytes ≡ goal_ended (aim_course c (lines_of bytes))
  verdict-few bytes h = ap (λ (t : Bool). verdict-by t bytes) (le-leb (length bytes) most_bytes h)

  verdict-stops : (bytes rest : List ℕ) (f : CertFault) (n : ℕ) → length bytes ≤ most_bytes → led (lines_so_far bytes) ≡ stopped f n → aim_verdict c (bytes ++ rest) ≡ refused f n
  verdict-stops bytes rest f n h e = by-size (nat_le (length (bytes ++ rest)) most_bytes) where
    by-size : (t : Bool) → verdict-by t (bytes ++ rest) ≡ refused f n
    by-size true = ap goal_ended (stops-lean (aim_course c (lines_of (bytes ++ rest))) f n (stops bytes rest true f n e))
    by-size false =
        let more : ℕ = most_bytes - length bytes in
        let size : most_bytes ≡ length bytes + more = omega (arith, h) in
        let front : take most_bytes (bytes ++ rest) ≡ bytes ++ take more rest = ap (λ (k : ℕ). take k (bytes ++ rest)) size ∙ take-append-add bytes rest more in
        ap cut_off (stops-lean (aim_course c (lines_so_far (take most_bytes (bytes ++ rest)))) f n (ap (λ (xs : List ℕ). led (lines_so_far xs)) front ∙ stops bytes (take more rest) false f n e))

-- ---- faults

none-mapped : (o : Option Course) → option_map (course_map plain_due) o ≡ None → o ≡ None
none-mapped None e = refl
none-mapped (Some x) e = cc

pub memory_alone : (f : code.CertFault) → stops_at f ≡ None → f ≡ Memory
memory_alone f e = answers.memory_alone f (ap (option_map (course_map (λ (d : Due). alone d))) (none-mapped (stop_of f) e))

some-same : {A : Type 0} {x y : A} → Some x ≡ Some y → x ≡ y
some-same e = cc

-- where a course stops so
abbrev pub StopsSo : code.CertFault → GoalCourse → Type 0
StopsSo f (stopped g n) = Some (stopped g n) ≡ stop_of f
StopsSo f (reached d n) = ⊥

stops-by : (f : code.CertFault) (o : Option Course) → stop_of f ≡ o → (x : GoalCourse) → option_map (course_map plain_due) o ≡ Some x → StopsSo f x
stops-by f None h x e = cc
stops-by f (Some (stopped g n)) h x e = subst (StopsSo f) (some-same e) (sym h)
stops-by f (Some (reached d n)) h x e = absurd (answers.stopped_somewhere f (alone d) n (ap (option_map (course_map (λ (d' : Due). alone d'))) h))

pub stops_so : (f : code.CertFault) (x : GoalCourse) → stops_at f ≡ Some x → StopsSo f x
stops_so f x e = stops-by f (stop_of f) refl x e

pub stopped_somewhere : (f : code.CertFault) (d : GoalDue) (n : ℕ) → stops_at f ≡ Some (reached d n) → ⊥
stopped_somewhere f d n e = stops_so f (reached d n) e

-- ---- the laws

-- where the input ends, what is answered is the verdict of its bytes, or out of memory
pub verdict_is_told : (c : GoalChecked) (bytes : List ℕ) (r : Result told.GoalVerdict code.CertFault) → length bytes ≤ most_bytes → IsAt c bytes true → Finishes c.aim c.course r →
    (r ≡ Err Memory) ⊎ IsVerdict c.aim (aim_verdict c.aim bytes) r
verdict_is_told c bytes r h at f = elim at [
  | inl e ↦ inl (subst (λ (o : Option GoalCourse). Finishes c.aim o r) e f)
  | inr e ↦ inr (
      subst (λ (v : GoalVerdict). IsVerdict c.aim v r) (sym (verdict-few c.aim bytes h))
      (ended-lean c.aim (aim_course c.aim (lines_of bytes)) r (subst (λ (o : Option GoalCourse). Finishes c.aim o r) e f))
      )
]

fault-at : (c : GoalChecked) (bytes rest : List ℕ) (f : code.CertFault) → length bytes ≤ most_bytes → (x : GoalCourse) → stops_at f ≡ Some x →
    course_map lean_goal (aim_course c.aim (lines_so_far bytes)) ≡ x → IsRefusal (aim_verdict c.aim (bytes ++ rest)) f
fault-at c bytes rest f h (stopped g n) e k =
    subst (λ (v : GoalVerdict). IsRefusal v f) (sym (verdict-stops c.aim bytes rest g n h k)) (stops_so f (stopped g n) e)
fault-at c bytes rest f h (reached d n) e k = absurd (stopped_somewhere f d n e)

-- a fault of the bytes so far is that of all bytes, whatever follows
pub fault_is_told : (c : GoalChecked) (bytes rest : List ℕ) (f : code.CertFault) → length bytes ≤ most_bytes → IsAt c bytes false → IsCourseAnswer c.course (Err f) →
    (f ≡ Memory) ⊎ IsRefusal (aim_verdict c.aim (bytes ++ rest)) f
fault_is_told c bytes rest f h at a = elim at [
  | inl e ↦ inl (memory_alone f (sym a ∙ e))
  | inr e ↦ inr (fault-at c bytes rest f h (course_map lean_goal (aim_course c.aim (lines_so_far bytes))) (sym a ∙ e) refl)
]

past : (n : ℕ) → most_bytes < n → nat_le n most_bytes ≡ false
past n h = lt-leb n most_bytes h

-- where more bytes follow than a certificate may have, no more of them are read
pub too_long_is_told : (c : GoalChecked) (bytes rest : List ℕ) (f : code.CertFault) → length bytes ≡ most_bytes → 0 < length rest → IsAt c bytes false → IsCutOff c.course f →
    (f ≡ Memory) ⊎ IsRefusal (aim_verdict c.aim (bytes ++ rest)) f
too_long_is_told c bytes rest f h some at k = elim at [
  | inl e ↦ inl (subst (λ (o : Option GoalCourse). IsCutOff o f) e k)
  | inr e ↦ inr (
      let x : GoalCourse = aim_course c.aim (lines_so_far bytes) in
      let many : nat_le (length (bytes ++ rest)) most_bytes ≡ false = past (length (bytes ++ rest)) (omega (arith, h, some, length-append bytes rest)) in
      let front : take most_bytes (bytes ++ rest) ≡ bytes = ap (λ (n : ℕ). take n (bytes ++ rest)) (sym h) ∙ take-append_seam bytes rest in
      let cut : aim_verdict c.aim (bytes ++ rest) ≡ cut_off x =
      ap (λ (t : Bool). verdict-by c.aim t (bytes ++ rest)) many ∙ ap (λ (xs : List ℕ). cut_off (aim_course c.aim (lines_so_far xs))) front in
      subst (λ (v : GoalVerdict). IsRefusal v f) (cut-off-lean x ∙ sym cut) (subst (λ (o : Option GoalCourse). IsCutOff o f) e k)
      )
]
