-- Parts of a run: a text on a port, a script that is read.
use Rattle.std.specs.Prelude.{◌≡◌, ℕ, List, [], ◌∷◌, take}
use Rattle.desk.specs.declared.desk.Port.{Port}
use Rattle.desk.specs.declared.desk.Port.TheVariants.{Answer, CertOut}
use Rattle.desk.specs.Sight.{Sight, with_bytes, with_faults, faults_on}
use Rattle.check_run.specs.Course.{Start, appended}

-- a port on which a text stands as soon as it is written
abbrev pub IsTextPort : Port → Type 0
IsTextPort Answer = Unit {0}
IsTextPort CertOut = Unit {0}
IsTextPort _ = ⊥

-- the start was made or not, and a prefix of the text written
pub record PutStops (p : Port) (name text : List ℕ) (old new : Sight) : Type 0 where
  pub starts_made : ℕ
  pub count : ℕ
  pub same : new ≡ with_faults p (faults_on p new) (with_bytes p (take count text)
      (record old { starts = appended old.starts (take starts_made ((p, name) ∷ [])) }))

-- These starts were made; nothing is written, and neither side has failed.
pub record After (starts : List Start) (old new : Sight) : Type 0 where
  pub starts_are : new.starts ≡ appended old.starts starts
  pub cert : new.cert_out ≡ old.cert_out
  pub answer : new.answer ≡ old.answer
  pub in_faults : new.in_faults ≡ old.in_faults
  pub out_faults : new.out_faults ≡ old.out_faults
