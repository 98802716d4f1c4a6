-- A certificate that is written in pieces, and checked as it is written.
use Rattle.std.specs.Prelude.{◌≡◌, ℕ, Bool, true, false, List, ◌∷◌, ◌++◌, Option, Some, Result, Ok, Err, length}
use Rattle.desk.specs.declared.desk.Port.TheVariants.{Part}
use Rattle.desk.specs.Sight.{Sight, SideFailed, FailsOn}
use Rattle.desk.specs.Draft.{drafted, IsDrafted}
use Rattle.poly_graph.specs.ProblemViews.{Parts, problem_of}
use Rattle.cert_model.specs.Accepted.{verdict}
use Rattle.cert_check.specs.Feeding.{HasTaken, IsRefusalOrMemory}
use Rattle.cert_check.specs.declared.fault.CertFault.{CertFault}
use Rattle.cert_check.specs.declared.feed.Feed.{Feed}
use Rattle.cert_joined.specs.Covers.{AreTextsOf, Cover, IsCrowded, JoinsTexts}
use Rattle.cert_join.specs.declared.joiner.Joiner.{Joiner}
use Rattle.cert_join.specs.declared.stop.Stop.{Stop}
use Rattle.cert_join.specs.declared.stop.Stop.TheVariants.{Failed, Denied, Memory, Unlike, Crowded, Refused}
use Rattle.cert_join.specs.Heads.{AreJoinable}
use Rattle.cert_join.specs.Joining.{IsJoinText, IsJoining}

-- The text was drafted since this sight, and nothing else changed; a checker for this problem and bound took the same text, and met no fault in it.
pub record HasDrafted (s : Sight) (p : Parts) (b : Option ℕ) (text : List ℕ) (d : Sight) (f : Feed) : Type 0 where
  pub drafted : IsDrafted s text d
  pub taken : HasTaken p b text f

-- a certificate could not be read
pub record IsReadFailed (s d : Sight) : Type 0 where
  pub text : List ℕ
  pub side : SideFailed s.in_faults d.in_faults
  pub same : d ≡ record (drafted s text) { in_faults = d.in_faults }

-- the draft could not be written
pub record IsDraftFailed (s d : Sight) : Type 0 where
  pub text : List ℕ
  pub side : SideFailed s.out_faults d.out_faults
  pub same : d ≡ record (drafted s text) { out_faults = d.out_faults }

-- some text was drafted, and nothing else changed
abbrev pub IsSomeDrafted : Sight → Sight → Type 0
IsSomeDrafted s d = (text : List ℕ) × IsDrafted s text d

abbrev pub IsStopped : Sight → Stop → Sight → Type 0
IsStopped s Failed d = IsReadFailed s d
IsStopped s Denied d = IsDraftFailed s d
IsStopped s e d = IsSomeDrafted s d

-- the bytes are refused with this fault, or there was no memory
abbrev pub HasFault : Parts → Option ℕ → List ℕ → CertFault → Type 0
HasFault p b bytes fault = IsRefusalOrMemory (verdict (problem_of p) b bytes) fault

-- how a call ends that drafts more behind this text: where the checker refuses the text, so it does whatever follows
abbrev pub IsPut : {A : Type 0} → Sight → Parts → Option ℕ → List ℕ → Result A Stop → Sight → Feed → Type 0
IsPut s p b text (Ok x) d f = HasDrafted s p b text d f
IsPut s p b text (Err Unlike) d f = ⊥
IsPut s p b text (Err Crowded) d f = ⊥
IsPut s p b text (Err (Refused fault)) d f = IsSomeDrafted s d × ((rest : List ℕ) → HasFault p b (text ++ rest) fault)
IsPut s p b text (Err e) d f = IsStopped s e d

-- whatever was drafted before, this text is drafted behind it
abbrev pub Puts : {A : Type 0} → List ℕ → Sight → Feed → Result A Stop → Sight → Feed → Type 0
Puts text old f r new g = (s : Sight) (p : Parts) (b : Option ℕ) (before : List ℕ) → HasDrafted s p b before old f → IsPut s p b (before ++ text) r new g

-- ---- what joins certificates

-- the joiner goes on, or all is joined
abbrev pub HasJoined : List (List ℕ) → Cover → List Cover → Bool → List ℕ → List ℕ → Joiner → Type 0
HasJoined certs first covers false done held j = IsJoining certs first covers done held j
HasJoined certs first covers true done held j = IsJoinText covers done

-- From a joiner that drafted one text and holds another one to what it has drafted by now, and what it holds: where the desk shows certificates of
-- covers, it goes on to join them, or has.
pub record IsOn (s : Sight) (p : Parts) (b : Option ℕ) (before done held : List ℕ) (j : Joiner) (is_over : Bool) (d : Sight) (f : Feed) (new : Joiner) (left : List ℕ) : Type 0 where
  pub text : List ℕ
  pub by_now : HasDrafted s p b (before ++ text) d f
  pub joins : (certs : List (List ℕ)) (first : Cover) (others : List Cover) → s.parts ≡ Some certs → AreTextsOf (first ∷ others) certs →
      IsJoining certs first (first ∷ others) done held j → HasJoined certs first (first ∷ others) is_over text left new

-- Why what joins these covers is not written behind this text: they may not be joined, or have too many lemmas, or what joins
-- them is refused.
abbrev pub IsReason : Parts → Option ℕ → List ℕ → List Cover → Stop → Type 0
IsReason p b before covers Unlike = AreJoinable covers → ⊥
IsReason p b before covers Crowded = IsCrowded covers
IsReason p b before covers (Refused fault) = (text : List ℕ) × IsJoinText covers text × HasFault p b (before ++ text) fault
IsReason p b before covers e = Unit {0}

-- The same where the desk shows the certificates of covers, and from a joiner that drafted one text and holds another.
pub record IsStoppedOn (s : Sight) (p : Parts) (b : Option ℕ) (before done held : List ℕ) (j : Joiner) (e : Stop) (d : Sight) : Type 0 where
  pub stopped : IsStopped s e d
  pub reason : (certs : List (List ℕ)) (first : Cover) (others : List Cover) → s.parts ≡ Some certs → AreTextsOf (first ∷ others) certs →
      IsJoining certs first (first ∷ others) done held j → IsReason p b before (first ∷ others) e

abbrev pub IsStep : Sight → Parts → Option ℕ → List ℕ → List ℕ → List ℕ → Joiner → Result Bool Stop → Sight → Feed → Joiner → List ℕ → Type 0
IsStep s p b before done held j (Ok is_over) d f new left = IsOn s p b before done held j is_over d f new left
IsStep s p b before done held j (Err e) d f new left = IsStoppedOn s p b before done held j e d

-- whatever was drafted before
abbrev pub Steps : List ℕ → Joiner → Sight → Feed → Result Bool Stop → List ℕ → Joiner → Sight → Feed → Type 0
Steps held j old f r left new d g = (s : Sight) (p : Parts) (b : Option ℕ) (before done : List ℕ) → HasDrafted s p b (before ++ done) old f → IsStep s p b before done held j r d g new left

-- where all is joined
abbrev pub IsRun : {A : Type 0} → Sight → Parts → Option ℕ → List ℕ → List ℕ → List ℕ → Joiner → Result A Stop → Sight → Feed → Joiner → List ℕ → Type 0
IsRun s p b before done held j (Ok x) d f new left = IsOn s p b before done held j true d f new left
IsRun s p b before done held j (Err e) d f new left = IsStoppedOn s p b before done held j e d

abbrev pub Runs : {A : Type 0} → List ℕ → Joiner → Sight → Feed → Result A Stop → List ℕ → Joiner → Sight → Feed → Type 0
Runs held j old f r left new d g = (s : Sight) (p : Parts) (b : Option ℕ) (before done : List ℕ) → HasDrafted s p b (before ++ done) old f → IsRun s p b before done held j r d g new left

-- Behind this text one was drafted that joins the covers of the certificates, where the desk shows so many.
pub record IsWhole (s : Sight) (p : Parts) (b : Option ℕ) (count : ℕ) (before : List ℕ) (d : Sight) (f : Feed) : Type 0 where
  pub text : List ℕ
  pub by_now : HasDrafted s p b (before ++ text) d f
  pub joins : (certs : List (List ℕ)) → s.parts ≡ Some certs → length certs ≡ count → JoinsTexts certs text

-- There is none, where the desk shows so many certificates.
pub record IsUnwritten (s : Sight) (p : Parts) (b : Option ℕ) (count : ℕ) (before : List ℕ) (e : Stop) (d : Sight) : Type 0 where
  pub stopped : IsStopped s e d
  pub reason : (certs : List (List ℕ)) (first : Cover) (others : List Cover) → s.parts ≡ Some certs → length certs ≡ count → AreTextsOf (first ∷ others) certs →
      IsReason p b before (first ∷ others) e

-- how a call ends that joins so many certificates
abbrev pub IsJoinedBehind : {A : Type 0} → Sight → Parts → Option ℕ → ℕ → List ℕ → Result A Stop → Sight → Feed → Type 0
IsJoinedBehind s p b count before (Ok x) d f = IsWhole s p b count before d f
IsJoinedBehind s p b count before (Err e) d f = IsUnwritten s p b count before e d

-- whatever was drafted before
abbrev pub JoinsAll : {A : Type 0} → ℕ → Sight → Feed → Result A Stop → Sight → Feed → Type 0
JoinsAll count old f r new g = (s : Sight) (p : Parts) (b : Option ℕ) (before : List ℕ) → HasDrafted s p b before old f → IsJoinedBehind s p b count before r new g

-- how more of a certificate is read: nothing changes, or the side failed, or there was no memory
abbrev pub Reads : {A : Type 0} → Sight → Result A Stop → Sight → Type 0
Reads old (Ok x) new = new ≡ old
Reads old (Err Failed) new = FailsOn Part old new
Reads old (Err Memory) new = new ≡ old
Reads old (Err e) new = ⊥

-- a joiner goes on where the desk shows the certificates
abbrev pub Keeps : {A : Type 0} → Sight → Joiner → Result A Stop → Joiner → Type 0
Keeps old j (Ok x) new = (certs : List (List ℕ)) (first : Cover) (covers : List Cover) (done held : List ℕ) → old.parts ≡ Some certs → IsJoining certs first covers done held j → IsJoining certs first covers done held new
Keeps old j (Err e) new = Unit {0}
