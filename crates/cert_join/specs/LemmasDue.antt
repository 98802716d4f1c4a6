-- What is left of the lemmas of several certificates, and what is written of them.
use Rattle.std.specs.Prelude.{◌≡◌, ◌⊎◌, ℕ, suc, ◌+◌, List, [], ◌∷◌, ◌++◌, false, cond, length, map, drop, nat_eq, Some, Result, Ok, Err, slice_get, get_or}
use Rattle.std.specs.List.{AllByRecursion}
use Rattle.std.specs.declared.alloc.AllocError.{AllocError}
use Rattle.cover_model.specs.Derivation.{Tree, tree_lines}
use Rattle.cert_read.specs.CertLine.{CertLine, tree_word, end_word, lemma, real_interval, bool_value, yes_list, no_list, rule_line}
use Rattle.cert_read.specs.LineText.{IsSpelled, line_text}
use Rattle.cert_model.specs.Written.{rule_lines}
use Rattle.cert_joined.specs.Covers.{Cover, Lemma, IsBoxLine, lemmas_lines, numbered}
use Rattle.cert_join.specs.Written.{behind_header, behind_lemmas, new_ones, text_of, texts_of, written_from}
use Rattle.cert_join.specs.Ahead.{AreBefore}
use Rattle.cert_join.specs.Kinds.{renumbered}
use Rattle.cert_join.specs.Spot.{Spot, IsBefore}
use Rattle.cert_join.specs.declared.joiner.Step.{Step}
use Rattle.cert_join.specs.declared.joiner.Step.TheVariants.{Read, On, Over}
use Rattle.cert_join.specs.declared.lemmas.Lemmas.{Lemmas}

-- ---- in one certificate

-- a line of a lemma behind its first
abbrev pub IsInner : CertLine → Type 0
IsInner (real_interval l h) = Unit {0}
IsInner (bool_value w) = Unit {0}
IsInner (yes_list js) = Unit {0}
IsInner (no_list js) = Unit {0}
IsInner (rule_line l) = Unit {0}
IsInner l = ⊥

-- what is left of a certificate's lemmas: the lines of the one that was begun, and the others
pub record Rest : Type 0 where
  pub middle : List CertLine
  pub lemmas : List Lemma

-- in the form that they have in a certificate, where so many were begun
pub record IsRest (begun : ℕ) (r : Rest) : Type 0 where
  pub inner : AllByRecursion IsInner r.middle
  pub spelled : AllByRecursion IsSpelled r.middle
  pub boxes : AllByRecursion (λ (x : Lemma). AllByRecursion IsBoxLine x.box_lines) r.lemmas
  pub lemmas_spelled : AllByRecursion IsSpelled (lemmas_lines begun r.lemmas)

-- the lines behind the lemmas
abbrev pub tree_part : Tree → List CertLine
tree_part t = rule_lines (tree_lines t) ++ (end_word ∷ [])

-- all lines that are ahead
abbrev pub lines_ahead : ℕ → Rest → Tree → List CertLine
lines_ahead begun r t = r.middle ++ (lemmas_lines begun r.lemmas ++ (tree_word ∷ tree_part t))

-- those of the lemmas that are written
abbrev pub new_left : List ℕ → Lemmas → Rest → List Lemma
new_left numbers s r = new_ones numbers s.next (drop s.begun numbers) r.lemmas

-- the lines that are written of what is left
abbrev pub lines_due : List ℕ → Lemmas → Rest → List CertLine
lines_due numbers s r = cond s.is_written (map (renumbered (numbered numbers)) r.middle) [] ++ lemmas_lines s.next (new_left numbers s r)

-- the number that is the next behind them
abbrev pub next_behind : List ℕ → Lemmas → Rest → ℕ
next_behind numbers s r = s.next + length (new_left numbers s r)

-- ---- single lines

-- the line as bytes, with its break
abbrev pub whole_line : CertLine → List ℕ
whole_line l = line_text l ++ (10 ∷ [])

-- a lemma with this number was begun, whose first line is written where the number is the next one
abbrev pub begun_with : ℕ → Lemmas → Lemmas
begun_with n s = record s { begun = s.begun + 1; is_written = nat_eq n s.next; next = cond (nat_eq n s.next) (s.next + 1) s.next }

abbrev pub IsBegun : ℕ → Lemmas → Lemmas → List ℕ → List ℕ → Type 0
IsBegun n s s' old new = (s' ≡ begun_with n s) × (new ≡ old ++ cond (nat_eq n s.next) (whole_line (lemma n)) [])

-- that with the number of the next lemma
abbrev pub IsNextBegun : List ℕ → Lemmas → Lemmas → List ℕ → List ℕ → Type 0
IsNextBegun numbers s s' old new = (n : ℕ) × (slice_get numbers s.begun ≡ Some n) × IsBegun n s s' old new

-- a line of the lemma that was begun, which is written where that is
abbrev pub IsTaken : List ℕ → CertLine → Lemmas → Lemmas → List ℕ → List ℕ → Type 0
IsTaken numbers l s s' old new = (s' ≡ s) × (new ≡ old ++ cond s.is_written (whole_line (renumbered (numbered numbers) l)) [])

-- ---- a step within one certificate

-- it goes on with what is left now, and wrote the lines that are due before that
pub record GoesOn (cert : List ℕ) (t : Tree) (numbers : List ℕ) (s s' : Lemmas) (r : Rest) (spot : Spot) (old new : List ℕ) : Type 0 where
  pub rest : Rest
  pub is_rest : IsRest s'.begun rest
  pub kept : s'.begun + length rest.lemmas ≡ s.begun + length r.lemmas
  pub before : IsBefore cert (texts_of (lines_ahead s'.begun rest t)) spot
  pub part : s'.part ≡ s.part
  pub written : List ℕ
  pub appended : new ≡ old ++ written
  pub due : text_of (lines_due numbers s r) ≡ written ++ text_of (lines_due numbers s' rest)
  pub next : next_behind numbers s' rest ≡ next_behind numbers s r

-- nothing was left of its lemmas, and the next certificate is begun
pub record IsBehind (cert : List ℕ) (t : Tree) (numbers : List ℕ) (s s' : Lemmas) (r : Rest) (spot : Spot) (old new : List ℕ) : Type 0 where
  pub before : IsBefore cert (texts_of (tree_part t)) spot
  pub state : s' ≡ record { part = s.part + 1; begun = 0; is_written = false; next = s.next }
  pub same : new ≡ old
  pub due : lines_due numbers s r ≡ []
  pub next : next_behind numbers s r ≡ s.next

-- more has to be read first
pub record Waits (cert : List ℕ) (t : Tree) (s s' : Lemmas) (r : Rest) (spot : Spot) (old new : List ℕ) : Type 0 where
  pub before : IsBefore cert (texts_of (lines_ahead s.begun r t)) spot
  pub state : s' ≡ s
  pub same : new ≡ old

abbrev pub StepsWithin : List ℕ → Tree → List ℕ → Lemmas → Lemmas → Rest → Spot → List ℕ → List ℕ → Result Step AllocError → Type 0
StepsWithin cert t numbers s s' r spot old new (Ok On) = GoesOn cert t numbers s s' r spot old new ⊎ IsBehind cert t numbers s s' r spot old new
StepsWithin cert t numbers s s' r spot old new (Ok (Read part)) = Waits cert t s s' r spot old new
StepsWithin cert t numbers s s' r spot old new (Ok Over) = ⊥
StepsWithin cert t numbers s s' r spot old new (Err e) = Unit {0}

-- ---- in all certificates

-- what is left: the covers whose lemmas are behind, the one that is gone through, with what is left of it, and the later ones; or all are behind
pub data LemmasLeft : Type 0 where
  within : List Cover → Cover → Rest → List Cover → LemmasLeft
  none : List Cover → LemmasLeft

abbrev pub all_lemmas : Cover → Rest
all_lemmas c = record { middle = []; lemmas = c.lemmas }

-- all lemmas of later covers
abbrev pub all_left : List Cover → List Cover → LemmasLeft
all_left done [] = none done
all_left done (c ∷ later) = within done c (all_lemmas c) later

abbrev pub covers_of : LemmasLeft → List Cover
covers_of (within done c r later) = done ++ (c ∷ later)
covers_of (none done) = done

-- the lines that are ahead in each certificate
abbrev pub each_ahead : ℕ → LemmasLeft → List (List (List ℕ))
each_ahead begun (within done c r later) = map behind_lemmas done ++ (texts_of (lines_ahead begun r c.tree) ∷ map behind_header later)
each_ahead begun (none done) = map behind_lemmas done

-- the lemmas of the cover can be spelled
abbrev pub HasLemmas : Cover → Type 0
HasLemmas c = IsRest 0 (all_lemmas c)

abbrev pub IsLeft : Lemmas → LemmasLeft → Type 0
IsLeft s (within done c r later) =
    (s.part ≡ length done) × IsRest s.begun r × AllByRecursion HasLemmas later × (s.begun + length r.lemmas ≡ length c.lemmas)
IsLeft s (none done) = s.part ≡ length done

-- each cover has as many numbers as lemmas
abbrev pub AreAsLong : List (List ℕ) → List Cover → Type 0
AreAsLong numbers covers = (i : ℕ) (c : Cover) → slice_get covers i ≡ Some c → length (get_or numbers i []) ≡ length c.lemmas

-- the state, and the places in the certificates, where this is left; each cover has its numbers
pub record AreLemmasDue (certs numbers : List (List ℕ)) (f : LemmasLeft) (s : Lemmas) (spots : List Spot) : Type 0 where
  pub before : AreBefore certs (each_ahead s.begun f) spots
  pub left : IsLeft s f
  pub numbered : length numbers ≡ length (covers_of f)
  pub long : AreAsLong numbers (covers_of f)

-- the lines that are written of later covers, by their numbers
abbrev pub later_due : ℕ → List (List ℕ) → List Cover → List CertLine
later_due next numbers later = lemmas_lines next (written_from next numbers later)

-- the lines that are written of what is left
abbrev pub lemmas_due : List (List ℕ) → Lemmas → LemmasLeft → List CertLine
lemmas_due numbers s (within done c r later) =
    let own = get_or numbers (length done) [] in
    lines_due own s r ++ later_due (next_behind own s r) (drop (suc (length done)) numbers) later
lemmas_due numbers s (none done) = []

-- ---- a step

pub record LemmasGoOn (certs numbers : List (List ℕ)) (s s' : Lemmas) (f : LemmasLeft) (spots : List Spot) (old new : List ℕ) : Type 0 where
  pub left : LemmasLeft
  pub due : AreLemmasDue certs numbers left s' spots
  pub covers : covers_of left ≡ covers_of f
  pub written : List ℕ
  pub appended : new ≡ old ++ written
  pub writes : text_of (lemmas_due numbers s f) ≡ written ++ text_of (lemmas_due numbers s' left)

-- nothing changed but that a line may be known
pub record LemmasStay (certs numbers : List (List ℕ)) (s s' : Lemmas) (f : LemmasLeft) (spots : List Spot) (old new : List ℕ) : Type 0 where
  pub due : AreLemmasDue certs numbers f s' spots
  pub state : s' ≡ s
  pub same : new ≡ old

abbrev pub StepsLemmas : List (List ℕ) → List (List ℕ) → Lemmas → Lemmas → LemmasLeft → List Spot → List ℕ → List ℕ → Result Step AllocError → Type 0
StepsLemmas certs numbers s s' f spots old new (Ok On) = LemmasGoOn certs numbers s s' f spots old new
StepsLemmas certs numbers s s' f spots old new (Ok (Read part)) = LemmasStay certs numbers s s' f spots old new
StepsLemmas certs numbers s s' f spots old new (Ok Over) = LemmasStay certs numbers s s' f spots old new × (f ≡ none (covers_of f))
StepsLemmas certs numbers s s' f spots old new (Err e) = Unit {0}
