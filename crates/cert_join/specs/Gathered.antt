-- Places in several certificates, by their numbers, and what is done to those of some of them.
use Rattle.std.specs.Prelude.{◌≡◌, ◌<◌, ℕ, List, [], ◌∷◌, Bool, true, false, ◌||◌, None, Some, cond, map, nat_eq, length, get_or}
use Rattle.std.specs.List.{AllByRecursion}
use Rattle.std.specs.Prelude.{Vec}
use Rattle.cover_model.specs.Rules.{Line}
use Rattle.cover_model.specs.Derivation.{Tree, leaf}
use Rattle.cert_read.specs.CertLine.{rule_line}
use Rattle.cert_read.specs.LineText.{IsSpelled}
use Rattle.cert_joined.specs.Covers.{line_by, numbered}
use Rattle.cert_joined.specs.Joined.{first_line, leaves_at_once}
use Rattle.cert_join.specs.Kinds.{rule_text}
use Rattle.cert_join.specs.Spot.{Spot, IsBefore, IsReady, line_in}

-- where no certificate is
abbrev pub nowhere : Spot
nowhere = record { unread = []; behind = 0; ended = false; size = None }

abbrev pub spot_at : List Spot → ℕ → Spot
spot_at spots i = get_or spots i nowhere

-- ---- some certificates, by their numbers

abbrev pub is_in : ℕ → List ℕ → Bool
is_in i [] = false
is_in i (p ∷ parts) = nat_eq i p || is_in i parts

-- each at most once
abbrev pub AreDistinct : List ℕ → Type 0
AreDistinct [] = Unit {0}
AreDistinct (p ∷ parts) = (is_in p parts ≡ false) × AreDistinct parts

-- ---- where the places stand

-- each in its certificate, before these lines of it
abbrev pub Stand : (ℕ → List ℕ) → (ℕ → List (List ℕ)) → List Spot → Type 0
Stand cert ahead spots = (i : ℕ) → i < length spots → IsBefore (cert i) (ahead i) (spot_at spots i)

-- the next lines of these are known, or that there are none
abbrev pub AllReady : List ℕ → List Spot → Type 0
AllReady parts spots = (i : ℕ) → i < length spots → is_in i parts ≡ true → IsReady (spot_at spots i)

-- these certificates are there
abbrev pub AllThere : List ℕ → List Spot → Type 0
AllThere parts spots = (i : ℕ) → is_in i parts ≡ true → i < length spots

-- so are those of each of these places
abbrev pub AreThere : List (List ℕ) → List Spot → Type 0
AreThere parts spots = AllByRecursion (λ (now : List ℕ). AllThere now spots) parts

-- these are at the same places, whatever is known of their next lines
pub record AreResized (old new : List Spot) : Type 0 where
  pub count : length new ≡ length old
  pub each : (i : ℕ) → spot_at new i ≡ record (spot_at old i) { size = (spot_at new i).size }

-- the place is behind the next line, where that is known
abbrev pub Passed : Spot → Spot → Type 0
Passed s t = (cert l : List ℕ) (ls : List (List ℕ)) → IsBefore cert (l ∷ ls) s → line_in s ≡ Some l → IsBefore cert ls t

abbrev pub PassedIf : Bool → Spot → Spot → Type 0
PassedIf true s t = Passed s t
PassedIf false s t = t ≡ s

-- those of these certificates are behind their next lines, the others are where they were
pub record ArePassed (parts : List ℕ) (old new : List Spot) : Type 0 where
  pub count : length new ≡ length old
  pub each : (i : ℕ) → i < length old → PassedIf (is_in i parts) (spot_at old i) (spot_at new i)

-- ---- trees at one place, each with the number of its certificate

abbrev pub Meeting : Type 0
Meeting = List (ℕ × Tree)

abbrev pub parts_of : Meeting → List ℕ
parts_of place = map (λ (x : ℕ × Tree). x.0) place

-- the line leaves its state open or stuck
abbrev pub leaves : Line → Bool
leaves l = leaves_at_once (leaf l)

-- its first line does
abbrev pub does_leave : (ℕ × Tree) → Bool
does_leave x = leaves (first_line x.1)

-- those that do not
abbrev pub going : Meeting → Meeting
going [] = []
going (x ∷ place) = cond (does_leave x) (going place) (x ∷ going place)

-- those that do
abbrev pub leaving : Meeting → Meeting
leaving [] = []
leaving (x ∷ place) = cond (does_leave x) (x ∷ leaving place) (leaving place)

-- the first line is the next one of its certificate, and can be spelled
abbrev pub IsNextOf : List Spot → (ℕ × Tree) → Type 0
IsNextOf spots x = (x.0 < length spots → line_in (spot_at spots x.0) ≡ Some (rule_text (first_line x.1))) × IsSpelled (rule_line (first_line x.1))

abbrev pub AreNext : List Spot → Meeting → Type 0
AreNext spots place = AllByRecursion (IsNextOf spots) place

-- ---- the numbers that lemmas have

abbrev pub lists_of : {Z : Type 0} → List (Vec ℕ Z) → List (List ℕ)
lists_of vs = map (λ v. v.items) vs

-- of the lemmas of one certificate
abbrev pub numbers_at : List (List ℕ) → ℕ → List ℕ
numbers_at numbers i = get_or numbers i []

-- the text of a line of this certificate, where lemmas have these numbers
abbrev pub text_at : List (List ℕ) → ℕ → Line → List ℕ
text_at numbers i l = rule_text (line_by (numbered (numbers_at numbers i)) l)

-- the first lines of all have the same text as this one
abbrev pub AreAlike : List (List ℕ) → (ℕ × Tree) → Meeting → Type 0
AreAlike numbers x place = AllByRecursion (λ (y : ℕ × Tree). text_at numbers y.0 (first_line y.1) ≡ text_at numbers x.0 (first_line x.1)) place
