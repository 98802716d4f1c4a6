-- What the calls answer.
use Rattle.std.specs.Prelude.{◌≡◌, ℕ, List, ◌∷◌, Option, Some, None, length, map}
use Rattle.desk.specs.declared.desk.Denied.{Denied}
use Rattle.desk.specs.declared.desk.Denied.TheVariants as denied
use Rattle.desk.specs.declared.desk.Port.TheVariants.{Part}
use Rattle.desk.specs.Sight.{Sight, FailsOn}
use Rattle.cert_read.specs.CertLine.{Parsed, line, parsed}
use Rattle.cert_read.specs.Reading.{lines_ahead}
use Rattle.cert_read.specs.State.{Reading}
use Rattle.cert_read.specs.Views.{line_of}
use Rattle.cert_read.specs.declared.line.Line.{Line}
use Rattle.cert_parting.specs.declared.parting.Place.{Place}
use Rattle.cert_parting.specs.Parting.{AreAgreed, IsFirstApart}

-- the first of these is no line of a certificate, or there is none
abbrev pub IsSilent : List Parsed → Type 0
IsSilent (line l ∷ ls) = ⊥
IsSilent ls = Unit {0}

-- what the next of these lines says, behind which those are ahead that follow it
abbrev pub SaysNext : List (List ℕ) → Reading → Option Line → Type 0
SaysNext ls new (Some said) = (l : List ℕ) × (rest : List (List ℕ)) × (ls ≡ l ∷ rest) × (parsed l ≡ line (line_of said)) × (lines_ahead new ≡ rest)
SaysNext ls new None = IsSilent (map parsed ls)

-- a certificate could not be read, or there was no memory
abbrev pub IsUnread : Denied → Sight → Sight → Type 0
IsUnread denied.Failed old new = FailsOn Part old new
IsUnread denied.Memory old new = new ≡ old

-- the first of these that parts from the first one; none where all agree
abbrev pub IsParting : List (List ℕ) → Option Place → Type 0
IsParting parts None = AreAgreed parts
IsParting parts (Some place) = IsFirstApart parts place.number place.line

-- so it is where the desk shows so many
abbrev pub IsPartingOn : ℕ → Sight → Option Place → Type 0
IsPartingOn count d x = (parts : List (List ℕ)) → d.parts ≡ Some parts → length parts ≡ count → IsParting parts x
