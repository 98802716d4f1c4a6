-- The first five lines of certificates, which are read one after the other.
use Rattle.std.specs.Prelude.{◌≡◌, ◌+◌, ◌*◌, ◌<◌, ◌≤◌, ◌^◌, ◌≢◌, ℕ, zero, suc, List, [], ◌∷◌, ◌++◌, false, Some, None, Result, Ok, Err, IsTrue, cond, drop, take, map, length, nat_eq, slice_get}
use Rattle.std.specs.List.{AllByRecursion}
use Rattle.cert_read.specs.CertLine.{CertLine, version, margin, delta, bound, cover}
use Rattle.cert_read.specs.LineText.{line_text, text_of_lines}
use Rattle.cert_model.specs.Due.{is_version}
use Rattle.cert_joined.specs.Covers.{Cover, IsCrowded, cover_lines, joined_version, versions}
use Rattle.cert_join.specs.declared.heads.Heads.{Heads}
use Rattle.cert_join.specs.declared.joiner.Step.{Step}
use Rattle.cert_join.specs.declared.joiner.Step.TheVariants.{Over}
use Rattle.cert_join.specs.declared.stop.Unjoined.{Unjoined}
use Rattle.cert_join.specs.declared.stop.Unjoined.TheVariants.{Memory, Unlike, Crowded}
use Rattle.cert_join.specs.Ahead.{AreBefore}
use Rattle.cert_join.specs.Spot.{Spot, IsBefore}
use Rattle.cert_join.specs.Written.{texts_of, text_of, behind_header}

-- all lines of the certificate of a cover
abbrev pub all_lines : Cover → List (List ℕ)
all_lines c = texts_of (cover_lines c)

-- the lines ahead in each certificate: of so many the first five are read, and so many of the next one
abbrev pub ahead_of : ℕ → ℕ → List Cover → List (List (List ℕ))
ahead_of part row [] = []
ahead_of zero row (c ∷ covers) = drop row (all_lines c) ∷ map all_lines covers
ahead_of (suc part) row (c ∷ covers) = behind_header c ∷ ahead_of part row covers

-- ---- covers that may be joined

-- they have the first one's margin, delta and bound
pub record AreAlike (first : Cover) (covers : List Cover) : Type 0 where
  pub margin : AllByRecursion (λ (c : Cover). c.margin_bits ≡ first.margin_bits) covers
  pub delta : AllByRecursion (λ (c : Cover). c.delta_bits ≡ first.delta_bits) covers
  pub bound : AllByRecursion (λ (c : Cover). c.bound ≡ first.bound) covers

-- the same of all, and each has a version that is read
pub record AreJoinable (covers : List Cover) : Type 0 where
  pub alike : (first : Cover) (others : List Cover) → covers ≡ first ∷ others → AreAlike first covers
  pub versions : AllByRecursion (λ (c : Cover). IsTrue (is_version c.version)) covers

-- why the covers are not joined: for want of memory, or they may not be, or have too many lemmas
abbrev pub IsUnjoined : List Cover → Unjoined → Type 0
IsUnjoined covers Memory = Unit {0}
IsUnjoined covers Unlike = AreJoinable covers → ⊥
IsUnjoined covers Crowded = IsCrowded covers

-- ---- what was read

-- how many lines
abbrev pub lines_read : Heads → ℕ
lines_read h = 5 * h.part + h.row

-- how many certificates had their first line read, where so many were read whole, and so many lines of the next one
abbrev pub firsts : ℕ → ℕ → ℕ
firsts part zero = part
firsts part (suc row) = suc part

-- line k was kept of the first certificate, and is the same in each of which it was read
pub record IsKept (f : Cover → CertLine) (k : ℕ) (covers : List Cover) (count : ℕ) (text : List ℕ) : Type 0 where
  pub new : count ≤ k → text ≡ []
  pub kept : (i : ℕ) (c : Cover) → slice_get covers i ≡ Some c → 5 * i + k < count → text ≡ line_text (f c)

abbrev pub margin_line : Cover → CertLine
margin_line c = margin c.margin_bits

abbrev pub delta_line : Cover → CertLine
delta_line c = delta c.delta_bits

abbrev pub bound_line : Cover → CertLine
bound_line c = bound c.bound

pub record HasRead (covers : List Cover) (h : Heads) : Type 0 where
  pub row : h.row < 5
  pub version : h.version ≡ joined_version (versions (take (firsts h.part h.row) covers))
  pub margin : IsKept margin_line 1 covers (lines_read h) h.margin.items
  pub delta : IsKept delta_line 2 covers (lines_read h) h.delta.items
  pub bound : IsKept bound_line 3 covers (lines_read h) h.bound.items
  pub point : h.point ≡ None
  pub counts : h.counts.items ≡ map (λ c. length c.lemmas) (take h.part covers)

-- the certificates are those of covers, and were read so far
pub record IsReading (certs : List (List ℕ)) (covers : List Cover) (h : Heads) (spots : List Spot) : Type 0 where
  pub before : AreBefore certs (ahead_of h.part h.row covers) spots
  pub read : HasRead covers h

-- ---- a line

-- the line of a kept text, where line k is it and the next one to be read is this
pub record TakesText (k row part : ℕ) (line old new : List ℕ) : Type 0 where
  pub first : row ≡ k → part ≡ 0 → new ≡ old ++ line
  pub alike : row ≡ k → 0 < part → (new ≡ old) × (line ≡ old)
  pub other : row ≢ k → new ≡ old

-- the lines before the last one leave what is known of the kinds
pub record TakesLine (line : List ℕ) (old new : Heads) : Type 0 where
  pub part : new.part ≡ old.part
  pub row : new.row ≡ old.row
  pub version : old.row ≡ 0 → (n : ℕ) → n < 2 ^ 32 → line ≡ line_text (version n) → new.version ≡ cond (nat_eq n 5) 5 old.version
  pub same_version : 0 < old.row → new.version ≡ old.version
  pub margin : TakesText 1 old.row old.part line old.margin.items new.margin.items
  pub delta : TakesText 2 old.row old.part line old.delta.items new.delta.items
  pub bound : TakesText 3 old.row old.part line old.bound.items new.bound.items
  pub early : old.row < 4 → (new.point ≡ old.point) × (new.counts.items ≡ old.counts.items)
  pub last : 4 ≤ old.row → (n : ℕ) → n < 2 ^ 32 → line ≡ line_text (cover n) →
      (new.point ≡ old.point) × (new.counts.items ≡ old.counts.items ++ (n ∷ []))

-- the line may not stand there: no version that is read, another text than the first certificate's, no cover
pub record IsUnlike (line : List ℕ) (h : Heads) : Type 0 where
  pub version : h.row ≡ 0 → (n : ℕ) → n < 2 ^ 32 → line ≡ line_text (version n) → is_version n ≡ false
  pub margin : h.row ≡ 1 → (0 < h.part) × (line ≢ h.margin.items)
  pub delta : h.row ≡ 2 → (0 < h.part) × (line ≢ h.delta.items)
  pub bound : h.row ≡ 3 → (0 < h.part) × (line ≢ h.bound.items)
  pub kind : 4 ≤ h.row → (n : ℕ) → n < 2 ^ 32 → line ≢ line_text (cover n)

-- the place behind a line
abbrev pub IsBehind : Heads → Heads → Type 0
IsBehind old new = (old.row < 4 → new ≡ record old { row = suc old.row }) × (4 ≤ old.row → new ≡ record old { part = suc old.part; row = 0 })

-- what became of the certificate of this cover, which is the one that was to be read
pub record HasReadOf (cert : List ℕ) (covers : List Cover) (c : Cover) (old new : Heads) (s : Spot) : Type 0 where
  pub read : HasRead covers new
  pub ahead : ℕ
  pub before : IsBefore cert (drop ahead (all_lines c)) s
  pub place : (rest : List Cover) → ahead_of new.part new.row rest ≡ ahead_of old.part ahead rest

abbrev pub ReadsOf : List ℕ → List Cover → Cover → Heads → Result Step Unjoined → Heads → Spot → Type 0
ReadsOf cert covers c old (Ok Over) new s = ⊥
ReadsOf cert covers c old (Ok x) new s = HasReadOf cert covers c old new s
ReadsOf cert covers c old (Err e) new s = IsUnjoined covers e

-- ---- all lines

-- the first four lines of the certificate that joins those of covers, of which this is the first
abbrev pub head_lines : List Cover → Cover → List CertLine
head_lines covers c = version (joined_version (versions covers)) ∷ margin_line c ∷ delta_line c ∷ bound_line c ∷ []

-- the text of the first four lines
abbrev pub head_text : Heads → List ℕ
head_text h = text_of_lines (line_text (version h.version) ∷ h.margin.items ∷ h.delta.items ∷ h.bound.items ∷ [])

pub record AreHeadsRead (certs : List (List ℕ)) (covers : List Cover) (h : Heads) (spots : List Spot) : Type 0 where
  pub before : AreBefore certs (map behind_header covers) spots
  pub point : h.point ≡ None
  pub counts : h.counts.items ≡ map (λ c. length c.lemmas) covers
  pub alike : (c : Cover) (rest : List Cover) → covers ≡ c ∷ rest → AreAlike c covers
  pub text : (c : Cover) (rest : List Cover) → covers ≡ c ∷ rest → head_text h ≡ text_of (head_lines covers c)

-- how a step ends
abbrev pub ReadsHeads : List (List ℕ) → List Cover → Result Step Unjoined → Heads → List Spot → Type 0
ReadsHeads certs covers (Ok Over) h spots = AreHeadsRead certs covers h spots
ReadsHeads certs covers (Ok x) h spots = IsReading certs covers h spots
ReadsHeads certs covers (Err e) h spots = IsUnjoined covers e
