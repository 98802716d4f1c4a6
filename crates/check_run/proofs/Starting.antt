-- A script that is read whole, the starts of several certificates and of a draft, and what is kept of that.
use Rattle.std.proofs.Common.{◌≡◌, ℕ, List, [], ◌∷◌, ◌++◌, Option, Some, None, IfSome, length, min, take, refl, ap, sym, subst, ◌∙◌, append_assoc, append-nil, codes, inr, arith, Result, Ok, Err, MatchResult, ◌+◌, ◌≤◌, ◌<◌}
use Rattle.std.specs.Prelude.{IsSome}
use Rattle.std.specs.Option.{option_map, option_zip}
use Rattle.std.proofs.Math.Seq.{take-append-add, take-length}
use Rattle.std.specs.declared.vec.Vec.{Vec}
use Rattle.std.specs.declared.alloc.Global.{Global}
use Rattle.desk.specs.declared.desk.Port.TheVariants.{Draft, Part, Answer}
use Rattle.desk.specs.Draft.{IsBegun, IsDrafted, drafted}
use Rattle.desk.specs.Sight.{Sight, FailsOn, SideFailed, kept, with_start}
use Rattle.command_line.specs.Words.{Join}
use Rattle.script_reading.specs.Faults.{most_bytes}
use Rattle.check_run.specs.declared.both.Unread.{Unread}
use Rattle.check_run.specs.declared.both.Unread.TheVariants as unread
use Rattle.check_run.specs.declared.status.Status.{Status}
use Rattle.check_run.specs.declared.status.Status.TheVariants.{Answered, CertRefused, ScriptRefused, Usage, InFailed, OutFailed, NoMemory}
use Rattle.check_run.specs.Both.{FetchesScript, HaltsScript, IsScriptHeld, status_of}
use Rattle.check_run.specs.Course.{Course, Start, Quiet, Ends, at_its_end, out_failed, no_memory, StartedEnds, goes_on, draft_fails, no_memory_left, Went, Stopped, appended, says}
use Rattle.check_run.specs.Joined.{keeps, part_starts, several_starts}
use Rattle.check_run.specs.Parts.{After}
use Rattle.check_run.specs.Script.{script_start}
use Rattle.check_run.specs.Several.{FetchesSeveral, HaltsSeveral, IsHalted, Starts, StartsSeveral}
use Rattle.check_run.proofs.Ending.{appended-appended, appended-nil, no_bytes, quiet_behind, take_first}

-- ---- starts, one after the other

-- of all these starts those before the last ones were made
pub record StartedSoFar (left all : List Start) (old now : Sight) : Type 0 where
  pub done : List Start
  pub all_are : all ≡ done ++ left
  pub started : Starts done old now

pub started_none : (all : List Start) (d : Sight) → StartedSoFar all all d d
started_none all d = record { done = []; all_are = refl; started = sym (ap (λ (o : Option (List Start)). record d { starts = o }) (appended-nil d.starts)) }

pub started_one : (name : List ℕ) (left all : List Start) (old now new : Sight) → StartedSoFar ((Part, name) ∷ left) all old now → new ≡ with_start Part name now → StartedSoFar left all old new
started_one name left all old now new so_far e = record {
  done = so_far.done ++ (Part, name) ∷ [];
  all_are = so_far.all_are ∙ sym (append_assoc so_far.done ((Part, name) ∷ []) left);
  started = e ∙ ap (λ (d : Sight). with_start Part name d) so_far.started ∙ ap (λ (o : Option (List Start)). record old { starts = o }) (appended-appended old.starts so_far.done ((Part, name) ∷ []));
}

pub started_all : (all : List Start) (old now : Sight) → StartedSoFar [] all old now → Starts all old now
started_all all old now so_far = so_far.started ∙ ap (λ (l : List Start). record old { starts = appended old.starts l }) (sym (so_far.all_are ∙ append-nil so_far.done))

-- nothing more was done
started-quiet : (left all : List Start) (old now new : Sight) → StartedSoFar left all old now → new.starts ≡ now.starts → new.cert_out ≡ now.cert_out → new.answer ≡ now.answer → Quiet all old new
started-quiet left all old now new so_far starts cert answer = record {
  starts_made = length so_far.done + 0;
  starts_are = starts ∙ ap (λ (d : Sight). d.starts) so_far.started
      ∙ ap (λ (l : List Start). appended old.starts l) (sym (ap (λ (l : List Start). take (length so_far.done + 0) l) so_far.all_are ∙ take-append-add so_far.done left 0 ∙ append-nil so_far.done));
  cert = cert ∙ ap (λ (d : Sight). d.cert_out) so_far.started;
  answer = answer ∙ ap (λ (d : Sight). d.answer) so_far.started;
}

pub part_fails : (left all : List Start) (old now new : Sight) → StartedSoFar left all old now → FailsOn Part now new → IsHalted all InFailed old new
part_fails left all old now new so_far fails = (
  subst (λ (d : Sight). SideFailed d.in_faults new.in_faults) so_far.started fails.side,
  started-quiet left all old now new so_far (ap (λ (d : Sight). d.starts) fails.same) (ap (λ (d : Sight). d.cert_out) fails.same) (ap (λ (d : Sight). d.answer) fails.same),
)

pub part_breaks : (left all : List Start) (old now new : Sight) → StartedSoFar left all old now → new ≡ now → IsHalted all NoMemory old new
part_breaks left all old now new so_far e = started-quiet left all old now new so_far (ap (λ (d : Sight). d.starts) e) (ap (λ (d : Sight). d.cert_out) e) (ap (λ (d : Sight). d.answer) e)

-- ---- the draft

not-started : (starts : List Start) (old new : Sight) → new.starts ≡ old.starts → new.cert_out ≡ old.cert_out → new.answer ≡ old.answer → Quiet starts old new
not-started starts old new same cert answer = record { starts_made = 0; starts_are = same ∙ sym (appended-nil old.starts); cert = cert; answer = answer }

pub draft_unstarted : (name : List ℕ) (old new : Sight) → FailsOn Draft old new → IsHalted ((Draft, name) ∷ []) OutFailed old new
draft_unstarted name old new fails =
    (fails.side, not-started ((Draft, name) ∷ []) old new (ap (λ (d : Sight). d.starts) fails.same) (ap (λ (d : Sight). d.cert_out) fails.same) (ap (λ (d : Sight). d.answer) fails.same))

pub draft_breaks : (name : List ℕ) (old new : Sight) → new ≡ old → IsHalted ((Draft, name) ∷ []) NoMemory old new
draft_breaks name old new e = not-started ((Draft, name) ∷ []) old new (ap (λ (d : Sight). d.starts) e) (ap (λ (d : Sight). d.cert_out) e) (ap (λ (d : Sight). d.answer) e)

-- ---- more starts before or behind

quiet-more : (first rest : List Start) (old new : Sight) → Quiet first old new → Quiet (first ++ rest) old new
quiet-more first rest old new quiet = record {
  starts_made = min quiet.starts_made (length first);
  starts_are = quiet.starts_are ∙ ap (λ (l : List Start). appended old.starts l) (take_first quiet.starts_made first rest);
  cert = quiet.cert;
  answer = quiet.answer;
}

pub halted_more : (first rest : List Start) (status : Status) (old new : Sight) → IsHalted first status old new → IsHalted (first ++ rest) status old new
halted_more first rest InFailed old new h = (h.0, quiet-more first rest old new h.1)
halted_more first rest OutFailed old new h = (h.0, quiet-more first rest old new h.1)
halted_more first rest NoMemory old new h = quiet-more first rest old new h
halted_more first rest Answered old new h = absurd h
halted_more first rest CertRefused old new h = absurd h
halted_more first rest ScriptRefused old new h = absurd h
halted_more first rest Usage old new h = absurd h

pub halted_behind : (first rest : List Start) (status : Status) (old mid new : Sight) → After first old mid → IsHalted rest status mid new → IsHalted (first ++ rest) status old new
halted_behind first rest InFailed old mid new after h = (subst (λ (n : ℕ). SideFailed n new.in_faults) after.in_faults h.0, quiet_behind first rest old mid new after h.1)
halted_behind first rest OutFailed old mid new after h = (subst (λ (n : ℕ). SideFailed n new.out_faults) after.out_faults h.0, quiet_behind first rest old mid new after h.1)
halted_behind first rest NoMemory old mid new after h = quiet_behind first rest old mid new after h
halted_behind first rest Answered old mid new after h = absurd h
halted_behind first rest CertRefused old mid new after h = absurd h
halted_behind first rest ScriptRefused old mid new after h = absurd h
halted_behind first rest Usage old mid new after h = absurd h

pub after_starts : (starts : List Start) (old new : Sight) → Starts starts old new → After starts old new
after_starts starts old new e = record {
  starts_are = ap (λ (d : Sight). d.starts) e;
  cert = ap (λ (d : Sight). d.cert_out) e;
  answer = ap (λ (d : Sight). d.answer) e;
  in_faults = ap (λ (d : Sight). d.in_faults) e;
  out_faults = ap (λ (d : Sight). d.out_faults) e;
}

-- ---- all of them

pub several_started : (names : List (List ℕ)) (out : List ℕ) (old mid new : Sight) → Starts (part_starts names) old mid → new ≡ with_start Draft out mid → StartsSeveral names out old new
several_started names out old mid new parts draft = record {
  after = record {
    starts_are = ap (λ (d : Sight). d.starts) draft ∙ ap (λ (d : Sight). appended d.starts ((Draft, out) ∷ [])) parts ∙ appended-appended old.starts (part_starts names) ((Draft, out) ∷ []);
    cert = ap (λ (d : Sight). d.cert_out) draft ∙ ap (λ (d : Sight). d.cert_out) parts;
    answer = ap (λ (d : Sight). d.answer) draft ∙ ap (λ (d : Sight). d.answer) parts;
    in_faults = ap (λ (d : Sight). d.in_faults) draft ∙ ap (λ (d : Sight). d.in_faults) parts;
    out_faults = ap (λ (d : Sight). d.out_faults) draft ∙ ap (λ (d : Sight). d.out_faults) parts;
  };
  script = ap (λ (d : Sight). d.script) draft ∙ ap (λ (d : Sight). d.script) parts;
  parts = ap (λ (d : Sight). d.parts) draft ∙ ap (λ (d : Sight). d.parts) parts;
  begun = let empty : IsBegun (with_start Draft out mid) = refl in subst IsBegun (sym draft) empty;
}

-- behind the ports of the certificates
pub draft_then : (names : List (List ℕ)) (out : List ℕ) (old mid new : Sight) (r : Result (Unit {0}) Status) → Starts (part_starts names) old mid → MatchResult r (λ x. new ≡ with_start Draft out mid) (λ status. IsHalted ((Draft, out) ∷ []) status mid new) →
    MatchResult r (λ x. StartsSeveral names out old new) (λ status. IsHalted (several_starts names out) status old new)
draft_then names out old mid new (Ok x) parts draft = several_started names out old mid new parts draft
draft_then names out old mid new (Err status) parts h = halted_behind (part_starts names) ((Draft, out) ∷ []) status old mid new (after_starts (part_starts names) old mid parts) h

over-some : (o : Option (List ℕ)) (P Q : List ℕ → Type 0) → ((s : List ℕ) → P s → Q s) → IfSome o P → IfSome o Q
over-some None P Q f h = tt
over-some (Some s) P Q f h = f s h

pub several_fetched : (words : Join) (x : Option (Vec ℕ Global)) (old mid new : Sight) → FetchesScript words.script x old mid → StartsSeveral words.certs words.out mid new → FetchesSeveral words x old new
several_fetched words x old mid new script several = record {
  after = record {
    starts_are = several.after.starts_are ∙ ap (λ (o : Option (List Start)). appended o (several_starts words.certs words.out)) script.after.starts_are
        ∙ appended-appended old.starts (script_start words.script) (several_starts words.certs words.out);
    cert = several.after.cert ∙ script.after.cert;
    answer = several.after.answer ∙ script.after.answer;
    in_faults = several.after.in_faults ∙ script.after.in_faults;
    out_faults = several.after.out_faults ∙ script.after.out_faults;
  };
  script_is = script.held;
  script_read = λ some. over-some old.script (λ t. mid.script ≡ Some []) (λ t. new.script ≡ Some []) (λ t e. several.script ∙ e) (script.read some);
  parts = several.parts ∙ script.parts;
  begun = several.begun;
}

-- of the script, which was not read
unread-halted : (name : List ℕ) (rest : List Start) (e : Unread) (old new : Sight) → HaltsScript name e old new → IsHalted (script_start name ++ rest) (status_of e) old new
unread-halted name rest unread.Failed old new h = (h.0, quiet-more (script_start name) rest old new h.1)
unread-halted name rest unread.Memory old new h = quiet-more (script_start name) rest old new h

not-out : (e : Unread) → status_of e ≡ OutFailed → ⊥
not-out unread.Failed e = cc
not-out unread.Memory e = cc

pub several_unread : (words : Join) (e : Unread) (old new : Sight) → HaltsScript words.script e old new → HaltsSeveral words (status_of e) old new
several_unread words e old new h = record { halted = unread-halted words.script (several_starts words.certs words.out) e old new h; read = λ is. absurd (not-out e is) }

pub held_some : (o : Option (Vec ℕ Global)) (script : List ℕ) → IsScriptHeld o script → length script ≤ most_bytes → IsSome o
held_some None script h short = absurd (let l : most_bytes < length script = h in omega (arith, l, short))
held_some (Some held) script h short = refl

-- of what follows it
pub several_halted : (words : Join) (x : Option (Vec ℕ Global)) (status : Status) (old mid new : Sight) → FetchesScript words.script x old mid → IsHalted (several_starts words.certs words.out) status mid new → new.script ≡ mid.script →
    HaltsSeveral words status old new
several_halted words x status old mid new script h same = record {
  halted = halted_behind (script_start words.script) (several_starts words.certs words.out) status old mid new script.after h;
  read = λ is. read-by old.script script.held (λ some. script.read some);
} where
  read-by : (o : Option (List ℕ)) → IfSome o (IsScriptHeld x) → (IsSome x → IfSome o (λ s. mid.script ≡ Some [])) → IfSome o (λ s. length s ≤ most_bytes → new.script ≡ Some [])
  read-by None held read = tt
  read-by (Some s) held read = λ short. same ∙ read (held_some x s held short)

-- ---- what is kept

-- behind the written certificate, where that is told
kept-told : (d : Sight) (text : List ℕ) → (kept (drafted d text)).cert_out ≡ appended d.cert_out text
kept-told d text = by d.cert_out where
  by : (o : Option (List ℕ)) → option_map (λ (both : List ℕ × List ℕ). both.0 ++ both.1) (option_zip o (option_map (λ (written : List ℕ). text) o)) ≡ appended o text
  by None = refl
  by (Some before) = refl

module _ (old mid kept_now new : Sight) (text said : List ℕ) (drafts : IsDrafted old text mid) (keeps_it : kept_now ≡ kept mid) where
  -- the same sight by what was drafted
  kept-is : kept_now ≡ kept (drafted old text)
  kept-is = keeps_it ∙ ap kept drafts

  kept-went : Went (says Answered said) kept_now new → Went (keeps text said) old new
  kept-went went = record {
    starts = went.starts ∙ ap (λ (d : Sight). appended d.starts ((Answer, codes "-") ∷ [])) kept-is;
    cert = went.cert ∙ appended-nil kept_now.cert_out ∙ ap (λ (d : Sight). d.cert_out) kept-is ∙ kept-told old text;
    answer = went.answer ∙ ap (λ (d : Sight). appended d.answer said) kept-is;
    in_faults = went.in_faults ∙ ap (λ (d : Sight). d.in_faults) kept-is;
    out_faults = went.out_faults ∙ ap (λ (d : Sight). d.out_faults) kept-is;
  }

  kept-stopped : Stopped (says Answered said) kept_now new → Stopped (keeps text said) old new
  kept-stopped stopped = record {
    starts_made = stopped.starts_made;
    cert_bytes = length text;
    answer_bytes = stopped.answer_bytes;
    starts = stopped.starts ∙ ap (λ (d : Sight). appended d.starts (take stopped.starts_made ((Answer, codes "-") ∷ []))) kept-is;
    cert = stopped.cert ∙ ap (λ (l : List ℕ). appended kept_now.cert_out l) (no_bytes stopped.cert_bytes) ∙ appended-nil kept_now.cert_out ∙ ap (λ (d : Sight). d.cert_out) kept-is ∙ kept-told old text
        ∙ ap (λ (l : List ℕ). appended old.cert_out l) (sym (take-length text));
    answer = stopped.answer ∙ ap (λ (d : Sight). appended d.answer (take stopped.answer_bytes said)) kept-is;
    order = inr (omega arith);
  }

  pub kept_ends : (status : Status) → Ends (says Answered said) kept_now new status → Ends (keeps text said) old new status
  kept_ends status (at_its_end is went) = at_its_end is (kept-went went)
  kept_ends status (out_failed is side stopped) = out_failed is (subst (λ (d : Sight). SideFailed d.out_faults new.out_faults) kept-is side) (kept-stopped stopped)
  kept_ends status (no_memory is stopped) = no_memory is (kept-stopped stopped)

-- nothing is kept of what was drafted
drafted-quiet : (old mid new : Sight) (text : List ℕ) → IsDrafted old text mid → new.starts ≡ mid.starts → new.cert_out ≡ mid.cert_out → new.answer ≡ mid.answer → Quiet [] old new
drafted-quiet old mid new text drafts starts cert answer = not-started [] old new (starts ∙ ap (λ (d : Sight). d.starts) drafts) (cert ∙ ap (λ (d : Sight). d.cert_out) drafts) (answer ∙ ap (λ (d : Sight). d.answer) drafts)

pub keep_fails : (can : Course → Type 0) (old mid new : Sight) (text : List ℕ) → IsDrafted old text mid → FailsOn Draft mid new → StartedEnds can old new OutFailed
keep_fails can old mid new text drafts fails =
    draft_fails refl (subst (λ (d : Sight). SideFailed d.out_faults new.out_faults) drafts fails.side)
    (drafted-quiet old mid new text drafts (ap (λ (d : Sight). d.starts) fails.same) (ap (λ (d : Sight). d.cert_out) fails.same) (ap (λ (d : Sight). d.answer) fails.same))

pub keep_breaks : (can : Course → Type 0) (old mid new : Sight) (text : List ℕ) → IsDrafted old text mid → new ≡ mid → StartedEnds can old new NoMemory
keep_breaks can old mid new text drafts e =
    no_memory_left refl (drafted-quiet old mid new text drafts (ap (λ (d : Sight). d.starts) e) (ap (λ (d : Sight). d.cert_out) e) (ap (λ (d : Sight). d.answer) e))

pub keep_ends : (old mid kept_now new : Sight) (text said bytes : List ℕ) (status : Status) → IsDrafted old text mid → kept_now ≡ kept mid → bytes ≡ said → Ends (says Answered bytes) kept_now new status →
    StartedEnds (λ course. course ≡ keeps text said) old new status
keep_ends old mid kept_now new text said bytes status drafts keeps_it e ends =
    goes_on (keeps text said) refl (kept_ends old mid kept_now new text said drafts keeps_it status (subst (λ (t : List ℕ). Ends (says Answered t) kept_now new status) e ends))
