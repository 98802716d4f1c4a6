-- Certificates that are joined, or checked each by itself.
use Rattle.std.specs.Prelude.{◌≡◌, ◌⊎◌, ℕ, List, [], ◌∷◌, Option, Some, None, Result, Ok, Err, Vec, length}
use Rattle.std.specs.declared.alloc.Global.{Global}
use Rattle.std.specs.declared.alloc.AllocError.{AllocError}
use Rattle.desk.specs.declared.desk.Port.TheVariants.{Part}
use Rattle.desk.specs.Draft.{IsDrafted}
use Rattle.desk.specs.Sight.{Sight, FailsOn}
use Rattle.poly_graph.specs.Problem.{Problem}
use Rattle.cover_model.specs.State.{Loosenings}
use Rattle.cert_model.specs.Due as due
use Rattle.cert_model.specs.Due.{Value}
use Rattle.cert_model.specs.Accepted.{Verdict, accepted, stopped, verdict}
use Rattle.cert_check.specs.declared.checker.Verdict as told
use Rattle.cert_joined.specs.Covers.{AreTextsOf, Cover, IsCrowded, JoinsTexts}
use Rattle.cert_join.specs.Heads.{AreJoinable}
use Rattle.cert_parting.specs.Parting.{AreAgreed}
use Rattle.cert_check.specs.declared.fault.CertFault.{CertFault}
use Rattle.cert_check.specs.declared.fault.CertFault.TheVariants as numbered
use Rattle.cert_check.specs.declared.fault.CertFault.TheVariants.{Memory}
use Rattle.cert_check.specs.Courses.{IsVerdict}
use Rattle.cert_check.specs.Faults.{stop_of}
use Rattle.cert_check.specs.Feeding.{IsRefusalOrMemory}
use Rattle.check_run.specs.declared.both.Unread.{Unread}
use Rattle.check_run.specs.declared.both.Unread.TheVariants as unread
use Rattle.check_run.specs.declared.check.Unconfirmed.{Unconfirmed}
use Rattle.check_run.specs.declared.check.Unconfirmed.TheVariants.{Fault, Failed}
use Rattle.check_run.specs.declared.status.Status.{Status}
use Rattle.check_run.specs.declared.status.Status.TheVariants.{CertRefused, NoMemory}
use Rattle.check_run.specs.Course.{Course, StartedEnds, says}
use Rattle.check_run.specs.Joined.{AreAllAccepted, CanJoin, HasJoinedFault, IsFirstRefused, IsUnjoined}
use Rattle.check_run.specs.Several.{IsHalted}
use Rattle.dpoly.specs.declared.join.Joint.{Joint}
use Rattle.dpoly.specs.declared.join.Joint.TheVariants.{Whole, Dropped, Crowded, Refused}

-- ---- certificates that are checked by themselves

-- the verdict of one, without its value, or no memory
abbrev pub IsToldAlone : Verdict → Result (Unit {0}) Unconfirmed → Type 0
IsToldAlone v (Ok x) = (s : Loosenings) × (w : Value) × (v ≡ accepted s w)
IsToldAlone v (Err (Fault f)) = IsRefusalOrMemory v f
IsToldAlone v (Err Failed) = Unit {0}

-- it was read, and nothing else done
abbrev pub IsReadAlone : Result (Unit {0}) Unconfirmed → Sight → Sight → Type 0
IsReadAlone (Err Failed) old new = FailsOn Part old new
IsReadAlone r old new = new ≡ old

-- one of them could not be read, or there was no memory
abbrev pub IsUnread : Unread → Sight → Sight → Type 0
IsUnread unread.Failed old new = FailsOn Part old new
IsUnread unread.Memory old new = new ≡ old

-- the first that is refused, by its number from 1 on, with this fault, or no memory; none where each is accepted
abbrev pub IsFirstFault : Problem → Option ℕ → List (List ℕ) → Option (ℕ × CertFault) → Type 0
IsFirstFault p b parts None = AreAllAccepted p b parts
IsFirstFault p b parts (Some (k, f)) = (f ≡ Memory) ⊎ ((g : due.CertFault) × (n : ℕ) × IsFirstRefused p b parts k g n × (Some (stopped g n) ≡ stop_of f))

-- so it is where the desk shows so many
abbrev pub IsFirstFaultOn : Problem → Option ℕ → ℕ → Sight → Option (ℕ × CertFault) → Type 0
IsFirstFaultOn p b count d x = (parts : List (List ℕ)) → d.parts ≡ Some parts → length parts ≡ count → IsFirstFault p b parts x

-- ---- certificates that are joined

-- what came of it has this text: with a verdict that is the text's
abbrev pub IsJointOf : Problem → Option ℕ → List ℕ → Joint → Type 0
IsJointOf p b text (Whole w) = IsVerdict (verdict p b text) (Ok w)
IsJointOf p b text (Dropped w) = IsVerdict (verdict p b text) (Ok w)
IsJointOf p b text Crowded = Unit {0}
IsJointOf p b text (Refused line) = Unit {0}

-- the covers of these certificates have too many lemmas, where they may be joined
abbrev pub AreCrowdedOrUnlike : List (List ℕ) → Type 0
AreCrowdedOrUnlike parts = (first : Cover) (others : List Cover) → AreTextsOf (first ∷ others) parts → AreJoinable (first ∷ others) → IsCrowded (first ∷ others)

-- with a verdict, the text joins the covers of these certificates; else it tells why they are not joined
abbrev pub IsJointText : Problem → Option ℕ → List (List ℕ) → List ℕ → Joint → Type 0
IsJointText p b parts text (Whole w) = JoinsTexts parts text
IsJointText p b parts text (Dropped w) = JoinsTexts parts text
IsJointText p b parts text Crowded = AreCrowdedOrUnlike parts
IsJointText p b parts text (Refused line) = (f : due.CertFault) × HasJoinedFault p b parts f line

-- a text was drafted, and this came of it, where the desk shows so many certificates
pub record IsDraftedJoint (p : Problem) (b : Option ℕ) (count : ℕ) (joint : Joint) (old new : Sight) : Type 0 where
  pub text : List ℕ
  pub drafted : IsDrafted old text new
  pub of : IsJointOf p b text joint
  pub joins : (parts : List (List ℕ)) → old.parts ≡ Some parts → length parts ≡ count → IsJointText p b parts text joint

-- the line of a fault; none of out of memory
abbrev pub fault_line : CertFault → Option ℕ
fault_line (numbered.BadHeader n) = Some n
fault_line (numbered.BadNumber n) = Some n
fault_line (numbered.RuleFails w n) = Some n
fault_line (numbered.KeepFails n) = Some n
fault_line (numbered.OverFails n) = Some n
fault_line (numbered.Missing n) = Some n
fault_line (numbered.Extra n) = Some n
fault_line (numbered.WrongBound n) = Some n
fault_line (numbered.NotShown n) = Some n
fault_line (numbered.BadLine n) = Some n
fault_line (numbered.LineTooLong n) = Some n
fault_line (numbered.TooLong n) = Some n
fault_line numbered.Memory = None

-- what comes of a verdict, and of a fault
abbrev pub IsToldJoint : Result told.Verdict CertFault → Result Joint Status → Type 0
IsToldJoint r (Ok (Whole w)) = r ≡ Ok w
IsToldJoint r (Ok (Dropped w)) = r ≡ Ok w
IsToldJoint r (Ok Crowded) = ⊥
IsToldJoint r (Ok (Refused line)) = (fault : CertFault) × (r ≡ Err fault) × (fault_line fault ≡ Some line)
IsToldJoint r (Err status) = status ≡ NoMemory

-- the run halts before anything came of it
pub record HaltsJoining (status : Status) (old new : Sight) : Type 0 where
  pub halted : IsHalted [] status old new
  pub script : new.script ≡ old.script

-- ---- ends

-- the certificates are refused with this text
abbrev pub IsRefusalWith : Result (Vec ℕ Global) AllocError → Course → Type 0
IsRefusalWith (Ok text) course = course ≡ says CertRefused text.items
IsRefusalWith (Err e) course = ⊥

-- so a run ends, whatever was drafted since some sight
abbrev pub EndsRefused : Result (Vec ℕ Global) AllocError → Sight → Sight → Status → Type 0
EndsRefused r mid new status = (old : Sight) (text : List ℕ) → IsDrafted old text mid → StartedEnds (IsRefusalWith r) old new status

-- it ends where the desk shows so many certificates, each is accepted, and there is none that joins them, which this line shows where they agree
abbrev pub EndsApart : ℕ → ℕ → Sight → Sight → Status → Type 0
EndsApart count line mid new status =
    (p : Problem) (b : Option ℕ) (parts : List (List ℕ)) (old : Sight) (text : List ℕ) → IsDrafted old text mid → old.parts ≡ Some parts → length parts ≡ count → AreAllAccepted p b parts →
    (AreAgreed parts → IsUnjoined p b parts line) → StartedEnds (CanJoin p b parts) old new status

-- and where this came of them
abbrev pub EndsAccepted : ℕ → Joint → Sight → Sight → Status → Type 0
EndsAccepted count joint mid new status =
    (p : Problem) (b : Option ℕ) (parts : List (List ℕ)) (old : Sight) (text : List ℕ) → IsDrafted old text mid → IsJointOf p b text joint → IsJointText p b parts text joint → old.parts ≡ Some parts → length parts ≡ count →
    AreAllAccepted p b parts → StartedEnds (CanJoin p b parts) old new status

-- it ends behind its draft, where the desk shows so many certificates
abbrev pub EndsOnJoint : Problem → Option ℕ → ℕ → Joint → Sight → Sight → Status → Type 0
EndsOnJoint p b count joint mid new status =
    (old : Sight) (text : List ℕ) (parts : List (List ℕ)) → IsDrafted old text mid → IsJointOf p b text joint → old.parts ≡ Some parts → length parts ≡ count → IsJointText p b parts text joint → StartedEnds (CanJoin p b parts) old new status

-- and behind its problem
abbrev pub EndsOnJoin : Problem → Option ℕ → ℕ → Sight → Sight → Status → Type 0
EndsOnJoin p b count old new status = (parts : List (List ℕ)) → old.parts ≡ Some parts → length parts ≡ count → StartedEnds (CanJoin p b parts) old new status
