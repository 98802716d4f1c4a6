-- What `join` may do: one certificate of several, which is accepted, or why there is none.
use Rattle.std.specs.Prelude.{◌≡◌, ◌⊎◌, ◌++◌, ℕ, suc, List, [], ◌∷◌, Option, codes, decimal, length, map}
use Rattle.std.specs.List.{AllByRecursion}
use Rattle.desk.specs.declared.desk.Port.TheVariants.{Answer, Draft, Part, Script}
use Rattle.command_line.specs.Words.{Join}
use Rattle.poly_graph.specs.Problem.{Problem}
use Rattle.cover_model.specs.State.{Loosenings}
use Rattle.cert_model.specs.Due.{CertFault, Value}
use Rattle.cert_model.specs.Accepted.{IsAccepted, certificate_text, refused, verdict}
use Rattle.cert_model.specs.AnswerText.{check_text, text_line, verdict_text}
use Rattle.cert_joined.specs.Covers.{AreTextsOf, Cover, IsCrowded, IsJoinOf, JoinsTexts, cover_lines}
use Rattle.cert_parting.specs.Parting.{AreAgreed, IsFirstApart}
use Rattle.check_run.specs.declared.status.Status.TheVariants.{Answered, CertRefused}
use Rattle.check_run.specs.Course.{Course, Start, says}

-- ---- the certificates

-- the starts of the ports of these certificates, in their order
abbrev pub part_starts : List (List ℕ) → List Start
part_starts names = map (λ name. (Part, name)) names

-- and then of a draft
abbrev pub several_starts : List (List ℕ) → List ℕ → List Start
several_starts names out = part_starts names ++ (Draft, out) ∷ []

-- the script's before them
abbrev pub join_starts : Join → List Start
join_starts words = (Script, words.script) ∷ several_starts words.certs words.out

-- the covers whose texts these are have more states of lemmas than a certificate may have lemmas
abbrev pub AreCrowded : List (List ℕ) → Type 0
AreCrowded parts = (first : Cover) (others : List Cover) → AreTextsOf (first ∷ others) parts → IsCrowded (first ∷ others)

-- the line of a cover that says how many lemmas it has
abbrev pub lemmas_line : ℕ
lemmas_line = 5

module _ (p : Problem) (b : Option ℕ) where
  abbrev pub IsAcceptedAlone : List ℕ → Type 0
  IsAcceptedAlone cert = (s : Loosenings) × (v : Value) × IsAccepted p b cert s v

  -- each by itself
  abbrev pub AreAllAccepted : List (List ℕ) → Type 0
  AreAllAccepted parts = AllByRecursion IsAcceptedAlone parts

  -- Certificate k, from 1 on, has this fault at this line, and all before it are accepted.
  pub record IsFirstRefused (parts : List (List ℕ)) (k : ℕ) (f : CertFault) (n : ℕ) : Type 0 where
    pub before : List (List ℕ)
    pub cert : List ℕ
    pub behind : List (List ℕ)
    pub all : parts ≡ before ++ cert ∷ behind
    pub number : k ≡ suc (length before)
    pub accepted : AreAllAccepted before
    pub refuses : verdict p b cert ≡ refused f n

  -- ---- certificates that are not joined

  -- what joins their covers has this fault at line n
  abbrev pub HasJoinedFault : List (List ℕ) → CertFault → ℕ → Type 0
  HasJoinedFault parts f n = (first : Cover) (others : List Cover) → AreTextsOf (first ∷ others) parts →
      (joined : Cover) × IsJoinOf (first ∷ others) joined × (verdict p b (certificate_text (cover_lines joined)) ≡ refused f n)

  -- their covers have too many lemmas, which its line of their number shows; or what joins them has a fault at line n
  abbrev pub IsUnjoined : List (List ℕ) → ℕ → Type 0
  IsUnjoined parts n = ((n ≡ lemmas_line) × AreCrowded parts) ⊎ ((f : CertFault) × HasJoinedFault parts f n)

-- ---- answers

-- certificate k
abbrev pub part_line : ℕ → List ℕ
part_line k = text_line (codes "certificate " ++ decimal k)

abbrev pub not_joined_line : ℕ → List ℕ
not_joined_line n = text_line (codes "not joined line " ++ decimal n)

-- certificate k has this fault at line n
abbrev pub refused_part_text : ℕ → CertFault → ℕ → List ℕ
refused_part_text k f n = part_line k ++ verdict_text (refused f n)

-- line n of certificate k does not go together with the others
abbrev pub apart_text : ℕ → ℕ → List ℕ
apart_text k n = part_line k ++ not_joined_line n

-- Why the certificates are not joined, by the text that says it.
pub data IsNotJoined (p : Problem) (b : Option ℕ) (parts : List (List ℕ)) (text : List ℕ) : Type 0 where
  -- one is refused
  one_refused : (k : ℕ) (f : CertFault) (n : ℕ) → IsFirstRefused p b parts k f n → text ≡ refused_part_text k f n → IsNotJoined p b parts text
  -- each is accepted, and this is the first whose margin or delta is not that of the first one, and the line that says so
  apart : (k n : ℕ) → AreAllAccepted p b parts → IsFirstApart parts k n → text ≡ apart_text k n → IsNotJoined p b parts text
  -- each is accepted, all have one margin and delta, and yet no certificate joins them, as this line of it shows
  joined_refused : (n : ℕ) → AreAllAccepted p b parts → AreAgreed parts → IsUnjoined p b parts n → text ≡ not_joined_line n → IsNotJoined p b parts text

-- a certificate that took the name of its draft, and then an answer
abbrev pub keeps : List ℕ → List ℕ → Course
keeps cert text = record { status = Answered; starts = (Answer, codes "-") ∷ []; cert = cert; answer = text }

-- What was joined is accepted, joins the covers of the certificates, and its verdict is answered; or there is none, and the answer says why.
pub data CanJoin (p : Problem) (b : Option ℕ) (parts : List (List ℕ)) (course : Course) : Type 0 where
  joins : (cert : List ℕ) (s : Loosenings) (v : Value) → IsAccepted p b cert s v → JoinsTexts parts cert → course ≡ keeps cert (check_text s v) → CanJoin p b parts course
  refuses : (text : List ℕ) → IsNotJoined p b parts text → course ≡ says CertRefused text → CanJoin p b parts course
