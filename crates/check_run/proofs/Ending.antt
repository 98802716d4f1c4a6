-- How parts of a run make a run.
use Rattle.std.proofs.Common.{◌≡◌, ◌≤◌, ◌+◌, ℕ, List, [], ◌∷◌, ◌++◌, Option, Some, None, length, take, refl, ap, sym, subst, ◌∙◌, inl, inr, arith, append_assoc, append-nil, length-append, codes, min, IfSome, zero, suc}
use Rattle.std.proofs.Math.Seq.{take-append-add, take-length}
use Rattle.std.proofs.lemmas.List.{take_min, take-append-le}
use Rattle.desk.specs.declared.desk.Port.{Port}
use Rattle.desk.specs.declared.desk.Port.TheVariants.{Script, CertIn, Part, Answer, CertOut, Draft}
use Rattle.desk.specs.Sight.{Sight, with_bytes, with_faults, with_start, SideFailed}
use Rattle.desk.specs.Texts.{WritesPrefix, WritesThenFails, ReadsSome}
use Rattle.check_run.specs.declared.status.Status.{Status}
use Rattle.check_run.specs.declared.status.Status.TheVariants.{Answered}
use Rattle.check_run.specs.Course.{Start, Course, says, gives, behind, appended, Went, Stopped, Quiet, Ends, at_its_end, out_failed, no_memory, RunEnds, on_course, in_failed, draft_failed, no_memory_yet}
use Rattle.check_run.specs.Parts.{IsTextPort, PutStops, After}

pub appended-nil : {A : Type 0} (o : Option (List A)) → appended o [] ≡ o
appended-nil None = refl
appended-nil (Some xs) = ap Some (append-nil xs)

pub appended-appended : {A : Type 0} (o : Option (List A)) (a b : List A) → appended (appended o a) b ≡ appended o (a ++ b)
appended-appended None a b = refl
appended-appended (Some xs) a b = ap Some (append_assoc xs a b)

-- the port was started, and its text broke off at a fault
pub put_fails : (p : Port) (name text : List ℕ) (old new : Sight) → IsTextPort p → WritesThenFails p text (with_start p name old) new → PutStops p name text old new
put_fails Script name text old new out fails = absurd out
put_fails CertIn name text old new out fails = absurd out
put_fails Part name text old new out fails = absurd out
put_fails Draft name text old new out fails = absurd out
put_fails Answer name text old new out fails = record { starts_made = 1; count = fails.count; same = fails.prefix }
put_fails CertOut name text old new out fails = record { starts_made = 1; count = fails.count; same = fails.prefix }

-- the port was started, and its text broke off for memory
pub put_breaks : (p : Port) (name text : List ℕ) (old new : Sight) → IsTextPort p → WritesPrefix p text (with_start p name old) new → PutStops p name text old new
put_breaks Script name text old new out fails = absurd out
put_breaks CertIn name text old new out fails = absurd out
put_breaks Part name text old new out fails = absurd out
put_breaks Draft name text old new out fails = absurd out
put_breaks Answer name text old new out stops = record { starts_made = 1; count = stops.count; same = stops.prefix ∙ ap (λ n. with_faults Answer n (with_bytes Answer (take stops.count text) (with_start Answer name old))) (sym (ap (λ d. d.out_faults) stops.prefix)) }
put_breaks CertOut name text old new out stops = record { starts_made = 1; count = stops.count; same = stops.prefix ∙ ap (λ n. with_faults CertOut n (with_bytes CertOut (take stops.count text) (with_start CertOut name old))) (sym (ap (λ d. d.out_faults) stops.prefix)) }

-- of the first part of a list some, as of the whole
pub take_first : {A : Type 0} (k : ℕ) (first rest : List A) → take k first ≡ take (min k (length first)) (first ++ rest)
take_first k first rest =
    let within : min k (length first) ≤ length first = omega arith in
    sym (take_min k first) ∙ sym (take-append-le (min k (length first)) first rest within)

went_behind : (starts : List Start) (tail : Course) (old mid new : Sight)
    → After starts old mid → Went tail mid new → Went (behind starts tail) old new
went_behind starts tail old mid new after went = record {
  starts = went.starts ∙ ap (λ o. appended o tail.starts) after.starts_are ∙ appended-appended old.starts starts tail.starts;
  cert = went.cert ∙ ap (λ o. appended o tail.cert) after.cert;
  answer = went.answer ∙ ap (λ o. appended o tail.answer) after.answer;
  in_faults = went.in_faults ∙ after.in_faults;
  out_faults = went.out_faults ∙ after.out_faults;
}

stopped_behind : (starts : List Start) (tail : Course) (old mid new : Sight)
    → After starts old mid → Stopped tail mid new → Stopped (behind starts tail) old new
stopped_behind starts tail old mid new after stopped = record {
  starts_made = length starts + stopped.starts_made;
  cert_bytes = stopped.cert_bytes;
  answer_bytes = stopped.answer_bytes;
  starts = stopped.starts ∙ ap (λ o. appended o (take stopped.starts_made tail.starts)) after.starts_are
      ∙ appended-appended old.starts starts (take stopped.starts_made tail.starts)
      ∙ ap (λ l. appended old.starts l) (sym (take-append-add starts tail.starts stopped.starts_made));
  cert = stopped.cert ∙ ap (λ o. appended o (take stopped.cert_bytes tail.cert)) after.cert;
  answer = stopped.answer ∙ ap (λ o. appended o (take stopped.answer_bytes tail.answer)) after.answer;
  order = elim stopped.order [
    | inl h ↦ inl (omega (arith, h.0, length-append starts tail.starts), h.1)
    | inr h ↦ inr h
  ];
}

pub quiet_behind : (starts ins : List Start) (old mid new : Sight) → After starts old mid → Quiet ins mid new → Quiet (starts ++ ins) old new
quiet_behind starts ins old mid new after quiet = record {
  starts_made = length starts + quiet.starts_made;
  starts_are = quiet.starts_are ∙ ap (λ o. appended o (take quiet.starts_made ins)) after.starts_are
      ∙ appended-appended old.starts starts (take quiet.starts_made ins)
      ∙ ap (λ l. appended old.starts l) (sym (take-append-add starts ins quiet.starts_made));
  cert = quiet.cert ∙ after.cert;
  answer = quiet.answer ∙ after.answer;
}

pub ends_behind : (starts : List Start) (tail : Course) (old mid new : Sight) (status : Status)
    → After starts old mid → Ends tail mid new status → Ends (behind starts tail) old new status
ends_behind starts tail old mid new status after (at_its_end is went) = at_its_end is (went_behind starts tail old mid new after went)
ends_behind starts tail old mid new status after (out_failed is side stopped) =
    out_failed is (let P : ℕ → Type 0 = λ n. SideFailed n new.out_faults in subst P after.out_faults side) (stopped_behind starts tail old mid new after stopped)
ends_behind starts tail old mid new status after (no_memory is stopped) = no_memory is (stopped_behind starts tail old mid new after stopped)

-- a part of a run behind the starts that were made before it
pub run_behind : (some cant : Course → Type 0) (first : Start) (ins : List Start) (old mid new : Sight) (status : Status)
    → After (first ∷ []) old mid → ((tail : Course) → some tail → cant (behind (first ∷ []) tail)) → RunEnds some ins mid new status
    → RunEnds cant (first ∷ ins) old new status
run_behind some cant first ins old mid new status after lift (on_course tail can ends) =
    on_course (behind (first ∷ []) tail) (lift tail can) (ends_behind (first ∷ []) tail old mid new status after ends)
run_behind some cant first ins old mid new status after lift (in_failed is any side quiet) =
    in_failed is (λ e. cc) (let P : ℕ → Type 0 = λ n. SideFailed n new.in_faults in subst P after.in_faults side) (quiet_behind (first ∷ []) ins old mid new after quiet)
run_behind some cant first ins old mid new status after lift (draft_failed is drafts side quiet) =
    draft_failed is (inr drafts) (let P : ℕ → Type 0 = λ n. SideFailed n new.out_faults in subst P after.out_faults side) (quiet_behind (first ∷ []) ins old mid new after quiet)
run_behind some cant first ins old mid new status after lift (no_memory_yet is quiet) =
    no_memory_yet is (quiet_behind (first ∷ []) ins old mid new after quiet)

pub no_bytes : (n : ℕ) → ◌≡◌ {A = List ℕ} (take n []) []
no_bytes zero = refl
no_bytes (suc n) = refl

then_stops : (name cert text : List ℕ) (old mid new : Sight) → mid ≡ with_bytes CertOut cert (with_start CertOut name old)
    → Stopped (says Answered text) mid new → Stopped (gives name cert text) old new
then_stops name cert text old mid new is stopped = record {
  starts_made = 1 + stopped.starts_made;
  cert_bytes = length cert;
  answer_bytes = stopped.answer_bytes;
  starts = stopped.starts ∙ ap (λ d. appended d.starts (take stopped.starts_made ((Answer, codes "-") ∷ []))) is
      ∙ appended-appended old.starts ((CertOut, name) ∷ []) (take stopped.starts_made ((Answer, codes "-") ∷ []))
      ∙ ap (λ l. appended old.starts l) (sym (take-append-add ((CertOut, name) ∷ []) ((Answer, codes "-") ∷ []) stopped.starts_made));
  cert = stopped.cert ∙ ap (λ l. appended mid.cert_out l) (no_bytes stopped.cert_bytes) ∙ ap (λ d. appended d.cert_out []) is ∙ appended-nil (appended old.cert_out cert)
      ∙ ap (λ l. appended old.cert_out l) (sym (take-length cert));
  answer = stopped.answer ∙ ap (λ d. appended d.answer (take stopped.answer_bytes text)) is;
  order = inr (omega arith);
}

-- the certificate stands whole, and the answer follows
pub cert_then : (name cert text : List ℕ) (old mid new : Sight) (status : Status) → mid ≡ with_bytes CertOut cert (with_start CertOut name old)
    → Ends (says Answered text) mid new status → Ends (gives name cert text) old new status
cert_then name cert text old mid new status is (at_its_end same went) = at_its_end same (record {
  starts = went.starts ∙ ap (λ d. appended d.starts ((Answer, codes "-") ∷ [])) is ∙ appended-appended old.starts ((CertOut, name) ∷ []) ((Answer, codes "-") ∷ []);
  cert = went.cert ∙ ap (λ d. appended d.cert_out []) is ∙ appended-nil (appended old.cert_out cert);
  answer = went.answer ∙ ap (λ d. appended d.answer text) is;
  in_faults = went.in_faults ∙ ap (λ d. d.in_faults) is;
  out_faults = went.out_faults ∙ ap (λ d. d.out_faults) is;
})
cert_then name cert text old mid new status is (out_failed same side stopped) = out_failed same (let P : Sight → Type 0 = λ d. SideFailed d.out_faults new.out_faults in subst P is side) (then_stops name cert text old mid new is stopped)
cert_then name cert text old mid new status is (no_memory same stopped) = no_memory same (then_stops name cert text old mid new is stopped)

-- the certificate broke off
pub cert_stops : (name cert text : List ℕ) (old new : Sight) → PutStops CertOut name cert old new → Stopped (gives name cert text) old new
cert_stops name cert text old new stops = record {
  starts_made = min stops.starts_made 1;
  cert_bytes = stops.count;
  answer_bytes = 0;
  starts = ap (λ d. d.starts) stops.same ∙ ap (λ l. appended old.starts l) (take_first stops.starts_made ((CertOut, name) ∷ []) ((Answer, codes "-") ∷ []));
  cert = ap (λ d. d.cert_out) stops.same;
  answer = ap (λ d. d.answer) stops.same ∙ sym (appended-nil old.answer);
  order = inl (omega arith, refl);
}

pub widen : (some cant : Course → Type 0) (ins : List Start) (old new : Sight) (status : Status)
    → ((course : Course) → some course → cant course) → RunEnds some ins old new status → RunEnds cant ins old new status
widen some cant ins old new status f (on_course course can ends) = on_course course (f course can) ends
widen some cant ins old new status f (in_failed is any side quiet) = in_failed is any side quiet
widen some cant ins old new status f (draft_failed is drafts side quiet) = draft_failed is drafts side quiet
widen some cant ins old new status f (no_memory_yet is quiet) = no_memory_yet is quiet

pub all_of : {A : Type 0} (Q : A → Type 0) (o : Option A) → ((x : A) → Q x) → IfSome o Q
all_of Q None f = tt
all_of Q (Some x) f = f x

pub over : {A : Type 0} (P Q : A → Type 0) (o : Option A) → IfSome o P → ((x : A) → P x → Q x) → IfSome o Q
over P Q None p f = tt
over P Q (Some x) p f = f x p

-- the certificate's port was started and read from
pub after_cert_in : (name : List ℕ) (old first mid : Sight) → first ≡ with_start CertIn name old → ReadsSome CertIn first mid → After ((CertIn, name) ∷ []) old mid
after_cert_in name old first mid started some = record {
  starts_are = ap (λ d. d.starts) some.rest ∙ ap (λ d. d.starts) started;
  cert = ap (λ d. d.cert_out) some.rest ∙ ap (λ d. d.cert_out) started;
  answer = ap (λ d. d.answer) some.rest ∙ ap (λ d. d.answer) started;
  in_faults = ap (λ d. d.in_faults) some.rest ∙ ap (λ d. d.in_faults) started;
  out_faults = ap (λ d. d.out_faults) some.rest ∙ ap (λ d. d.out_faults) started;
}
