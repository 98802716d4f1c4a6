-- A script and a certificate that are both read whole.
use Rattle.std.proofs.Common.{◌≡◌, ◌<◌, ℕ, List, [], ◌∷◌, Option, Some, None, IfSome, length, drop, min, refl, ap, sym, subst, ◌∙◌}
use Rattle.std.specs.Prelude.{option_map}
use Rattle.std.proofs.Math.Seq.{drop-length}
use Rattle.std.specs.declared.vec.Vec.{Vec}
use Rattle.std.specs.declared.alloc.Global.{Global}
use Rattle.desk.specs.declared.desk.Port.TheVariants.{Script, CertIn}
use Rattle.desk.specs.Sight.{Sight, SideFailed, with_start}
use Rattle.desk.specs.Texts.{ReadsAll, ReadsSome, ReadsThenFails}
use Rattle.script_reading.specs.Faults.{most_bytes}
use Rattle.check_run.specs.declared.both.Inputs.{Inputs}
use Rattle.check_run.specs.declared.both.Unread.{Unread}
use Rattle.check_run.specs.declared.both.Unread.TheVariants as unread
use Rattle.check_run.specs.Both.{FetchesBoth, FetchesCert, FetchesScript, HaltsBoth, HaltsCert, HaltsScript}
use Rattle.check_run.specs.Can.{both_starts}
use Rattle.check_run.specs.Course.{Start, Quiet, appended}
use Rattle.check_run.specs.Parts.{After}
use Rattle.check_run.specs.Script.{script_start}
use Rattle.check_run.proofs.Ending.{appended-appended, appended-nil, after_cert_in, quiet_behind, take_first}

-- ---- the script

ended : (o new : Option (List ℕ)) → new ≡ option_map (λ (s : List ℕ). []) o → IfSome o (λ s. new ≡ Some [])
ended None new e = tt
ended (Some s) new e = e

pub script_held : (name : List ℕ) (held : Vec ℕ Global) (old new : Sight) → After (script_start name) old new → IfSome old.script (λ s. held.items ≡ s) → new.script ≡ option_map (λ (s : List ℕ). []) old.script →
    new.cert_in ≡ old.cert_in → new.parts ≡ old.parts → FetchesScript name (Some held) old new
script_held name held old new after all end other parts = record { after = after; held = all; read = λ some. ended old.script new.script end; other = other; parts = parts }

pub script_long : (name : List ℕ) (old new : Sight) → After (script_start name) old new → IfSome old.script (λ s. most_bytes < length s) → new.cert_in ≡ old.cert_in → new.parts ≡ old.parts → FetchesScript name None old new
script_long name old new after long other parts = record { after = after; held = long; read = λ some. cc; other = other; parts = parts }

-- ---- the certificate

drops-all : (o : Option (List ℕ)) (bytes : List ℕ) → IfSome o (λ c. bytes ≡ c) → option_map (λ (c : List ℕ). drop (length bytes) c) o ≡ option_map (λ (c : List ℕ). []) o
drops-all None bytes h = refl
drops-all (Some c) bytes h = ap (λ (l : List ℕ). Some l) (ap (λ (b : List ℕ). drop (length b) c) h ∙ drop-length c)

pub cert_held : (name bytes : List ℕ) (old first new : Sight) → first ≡ with_start CertIn name old → ReadsAll CertIn bytes first new → FetchesCert name bytes old new
cert_held name bytes old first new started all =
    let held : IfSome old.cert_in (λ c. bytes ≡ c) = subst (λ (d : Sight). IfSome d.cert_in (λ c. bytes ≡ c)) started all.all in
    record {
      after = after_cert_in name old first new started (record { count = length bytes; rest = all.rest });
      held = held;
      read = ap (λ (d : Sight). d.cert_in) all.rest ∙ ap (λ (d : Sight). option_map (λ (c : List ℕ). drop (length bytes) c) d.cert_in) started ∙ drops-all old.cert_in bytes held;
      other = ap (λ (d : Sight). d.script) all.rest ∙ ap (λ (d : Sight). d.script) started;
    }

-- no start was made
pub cert_unstarted : (name : List ℕ) (old new : Sight) → new.starts ≡ old.starts → new.cert_out ≡ old.cert_out → new.answer ≡ old.answer → Quiet ((CertIn, name) ∷ []) old new
cert_unstarted name old new starts cert answer = record { starts_made = 0; starts_are = starts ∙ sym (appended-nil old.starts); cert = cert; answer = answer }

-- the start was made
pub cert_started : (name : List ℕ) (old new : Sight) → After ((CertIn, name) ∷ []) old new → Quiet ((CertIn, name) ∷ []) old new
cert_started name old new after = record { starts_made = 1; starts_are = after.starts_are; cert = after.cert; answer = after.answer }

pub cert_some : (name : List ℕ) (old first new : Sight) → first ≡ with_start CertIn name old → ReadsSome CertIn first new → Quiet ((CertIn, name) ∷ []) old new
cert_some name old first new started some = cert_started name old new (after_cert_in name old first new started some)

pub cert_fails : (name : List ℕ) (old first new : Sight) → first ≡ with_start CertIn name old → ReadsThenFails CertIn first new → SideFailed old.in_faults new.in_faults × Quiet ((CertIn, name) ∷ []) old new
cert_fails name old first new started fails = (
  subst (λ (d : Sight). SideFailed d.in_faults new.in_faults) started fails.side,
  record {
    starts_made = 1;
    starts_are = ap (λ (d : Sight). d.starts) fails.rest ∙ ap (λ (d : Sight). d.starts) started;
    cert = ap (λ (d : Sight). d.cert_out) fails.rest ∙ ap (λ (d : Sight). d.cert_out) started;
    answer = ap (λ (d : Sight). d.answer) fails.rest ∙ ap (λ (d : Sight). d.answer) started;
  },
)

-- ---- both

more-quiet : (script cert : List ℕ) (old new : Sight) → Quiet (script_start script) old new → Quiet (both_starts script cert) old new
more-quiet script cert old new quiet = record {
  starts_made = min quiet.starts_made 1;
  starts_are = quiet.starts_are ∙ ap (λ (l : List Start). appended old.starts l) (take_first quiet.starts_made ((Script, script) ∷ []) ((CertIn, cert) ∷ []));
  cert = quiet.cert;
  answer = quiet.answer;
}

pub both_unread_script : (script cert : List ℕ) (e : Unread) (old new : Sight) → HaltsScript script e old new → HaltsBoth script cert e old new
both_unread_script script cert unread.Failed old new h = (h.0, more-quiet script cert old new h.1)
both_unread_script script cert unread.Memory old new h = more-quiet script cert old new h

pub both_unread_cert : (script cert : List ℕ) (x : Option (Vec ℕ Global)) (e : Unread) (old mid new : Sight) → FetchesScript script x old mid → HaltsCert cert e mid new → HaltsBoth script cert e old new
both_unread_cert script cert x unread.Failed old mid new s h =
    (subst (λ (n : ℕ). SideFailed n new.in_faults) s.after.in_faults h.0, quiet_behind (script_start script) ((CertIn, cert) ∷ []) old mid new s.after h.1)
both_unread_cert script cert x unread.Memory old mid new s h = quiet_behind (script_start script) ((CertIn, cert) ∷ []) old mid new s.after h

over-some : (o : Option (List ℕ)) (P Q : List ℕ → Type 0) → ((s : List ℕ) → P s → Q s) → IfSome o P → IfSome o Q
over-some None P Q f h = tt
over-some (Some s) P Q f h = f s h

pub both_held : (script cert : List ℕ) (x : Inputs) (old mid new : Sight) → FetchesScript script x.script old mid → FetchesCert cert x.cert.items mid new → FetchesBoth script cert x old new
both_held script cert x old mid new s c = record {
  after = record {
    starts_are = c.after.starts_are ∙ ap (λ (o : Option (List Start)). appended o ((CertIn, cert) ∷ [])) s.after.starts_are ∙ appended-appended old.starts (script_start script) ((CertIn, cert) ∷ []);
    cert = c.after.cert ∙ s.after.cert;
    answer = c.after.answer ∙ s.after.answer;
    in_faults = c.after.in_faults ∙ s.after.in_faults;
    out_faults = c.after.out_faults ∙ s.after.out_faults;
  };
  script_is = s.held;
  script_read = λ some. over-some old.script (λ t. mid.script ≡ Some []) (λ t. new.script ≡ Some []) (λ t e. c.other ∙ e) (s.read some);
  cert_is = subst (λ (o : Option (List ℕ)). IfSome o (λ b. x.cert.items ≡ b)) s.other c.held;
  cert_read = c.read ∙ ap (λ (o : Option (List ℕ)). option_map (λ (b : List ℕ). []) o) s.other;
}
