-- How far certificates are joined: what was written, and what is ahead in each.
use Rattle.std.specs.Prelude.{◌≡◌, ◌<◌, ◌^◌, ℕ, zero, suc, List, [], ◌∷◌, ◌++◌, Some, Result, Ok, Err, drop, length, map, get_or, slice_get}
use Rattle.std.specs.declared.alloc.AllocError.{AllocError}
use Rattle.cover_model.specs.Derivation.{Tree}
use Rattle.cert_read.specs.CertLine.{CertLine, cover, tree_word}
use Rattle.cert_joined.specs.Joined.{Joins}
use Rattle.cert_joined.specs.Covers.{Cover, Lemma, AreAllLemmas, IsJoinOf, cover_lines, lemmas_lines, number_at, trees_by}
use Rattle.cert_join.specs.declared.heads.Heads.{Heads as HeadsRead}
use Rattle.cert_join.specs.declared.joiner.Joiner.{Joiner}
use Rattle.cert_join.specs.declared.joiner.Stage.{Stage}
use Rattle.cert_join.specs.declared.joiner.Stage.TheVariants.{Heads, Point, Numbering, Lemmas, Trees, Ends}
use Rattle.cert_join.specs.declared.joiner.Step.{Step}
use Rattle.cert_join.specs.declared.joiner.Step.TheVariants.{Over}
use Rattle.cert_join.specs.declared.stop.Unjoined.{Unjoined}
use Rattle.cert_join.specs.declared.stop.Unjoined.TheVariants.{Memory}
use Rattle.cert_join.specs.declared.lemmas.Lemmas.{Lemmas as LemmasRead}
use Rattle.cert_join.specs.declared.trees.Task.TheVariants.{Compare}
use Rattle.cert_join.specs.declared.trees.Trees.{Trees as TreesRead}
use Rattle.cert_join.specs.Ahead.{AreBefore}
use Rattle.cert_join.specs.Due.{Course, IsNextDue, stacked, tree_text}
use Rattle.cert_join.specs.Gathered.{lists_of, spot_at}
use Rattle.cert_join.specs.Heads.{AreAlike, AreHeadsRead, IsReading, IsUnjoined, head_lines, head_text}
use Rattle.cert_join.specs.LemmasDue.{AreLemmasDue, LemmasLeft, covers_of, lemmas_due}
use Rattle.cert_join.specs.Numbered.{AreNumbered, IsNumbering}
use Rattle.cert_join.specs.Spot.{IsPieceAt, Spot}
use Rattle.cert_join.specs.Written.{behind_lemmas, text_of, written_from}

-- the text is that of a cover that joins these
abbrev pub IsJoinText : List Cover → List ℕ → Type 0
IsJoinText covers text = (joined : Cover) × IsJoinOf covers joined × (text ≡ text_of (cover_lines joined))

-- the lines before the main tree of the cover that joins these, of which this is the first, with these lemmas
abbrev pub lines_before_tree : List Cover → Cover → List Lemma → List CertLine
lines_before_tree covers c xs = (head_lines covers c ++ (cover (length xs) ∷ [])) ++ lemmas_lines 0 xs

-- so many numbers, from 0 on
abbrev pub first_numbers : ℕ → List ℕ
first_numbers zero = []
first_numbers (suc n) = first_numbers n ++ (n ∷ [])

-- of so many certificates all stand at the first place, and nothing was read of them
abbrev pub IsFirstOf : ℕ → TreesRead → Type 0
IsFirstOf count t = (t.task ≡ Compare) × (stacked t.places.items ≡ first_numbers count ∷ [])

-- The covers have the first one's margin, delta and bound, and their lemmas these numbers.
pub record AreSettled (first : Cover) (covers : List Cover) (numbers : List (List ℕ)) : Type 0 where
  pub alike : AreAlike first covers
  pub lemmas : AreAllLemmas covers numbers (written_from 0 numbers covers)
  pub many : length numbers ≡ length covers
  pub few : (i k : ℕ) → number_at numbers i k < 2 ^ 32

-- The headers were read, and nothing written.
pub record AreAtNumbers (certs : List (List ℕ)) (first : Cover) (covers : List Cover) (h : HeadsRead) : Type 0 where
  pub alike : AreAlike first covers
  pub text : head_text h ≡ text_of (head_lines covers first)

-- The lemmas are written, so far.
pub record AreAtLemmas (certs : List (List ℕ)) (first : Cover) (covers : List Cover) (written : List ℕ) (numbers : List (List ℕ)) (s : LemmasRead) (spots : List Spot) : Type 0 where
  pub settled : AreSettled first covers numbers
  pub left : LemmasLeft
  pub same : covers_of left ≡ covers
  pub due : AreLemmasDue certs numbers left s spots
  pub whole : text_of (lines_before_tree covers first (written_from 0 numbers covers)) ≡ written ++ text_of (lemmas_due numbers s left)

-- All are, and the main trees are ahead.
pub record AreLemmasWritten (certs : List (List ℕ)) (first : Cover) (covers : List Cover) (written : List ℕ) (numbers : List (List ℕ)) (spots : List Spot) : Type 0 where
  pub settled : AreSettled first covers numbers
  pub before : AreBefore certs (map behind_lemmas covers) spots
  pub whole : text_of (lines_before_tree covers first (written_from 0 numbers covers)) ≡ written

-- what is joined where the trees are
pub record IsCourseOf (certs : List (List ℕ)) (first : Cover) (covers : List Cover) (done : List ℕ) (numbers : List (List ℕ)) (k : Course) : Type 0 where
  pub cert_is : (i : ℕ) → k.cert i ≡ get_or certs i []
  pub numbers_are : k.numbers ≡ numbers
  pub trees_are : k.trees ≡ trees_by numbers covers
  pub done_is : k.done ≡ done
  pub front_is : k.front ≡ text_of (lines_before_tree covers first (written_from 0 numbers covers)) ++ text_of (tree_word ∷ [])

-- The main trees are written, so far.
pub record AreAtTrees (certs : List (List ℕ)) (first : Cover) (covers : List Cover) (done text : List ℕ) (numbers : List (List ℕ)) (t : TreesRead) (spots : List Spot) : Type 0 where
  pub settled : AreSettled first covers numbers
  pub course : Course
  pub is : IsCourseOf certs first covers done numbers course
  pub due : IsNextDue course t.task (stacked t.places.items) text spots

-- How far the certificates of covers are joined, of which this is the first: the text that was drafted, and that which is held.
abbrev pub IsAt : List (List ℕ) → Cover → List Cover → List ℕ → List ℕ → List (List ℕ) → Stage → List Spot → Type 0
IsAt certs first covers done text numbers (Heads h) spots = (done ++ text ≡ []) × IsReading certs covers h spots
IsAt certs first covers done text numbers (Point part) spots = ⊥
IsAt certs first covers done text numbers (Numbering h n) spots = (done ++ text ≡ []) × AreAtNumbers certs first covers h × IsNumbering certs covers n spots
IsAt certs first covers done text numbers (Lemmas s) spots = AreAtLemmas certs first covers (done ++ text) numbers s spots
IsAt certs first covers done text numbers (Trees t) spots = AreAtTrees certs first covers done text numbers t spots
IsAt certs first covers done text numbers (Ends part is_read) spots = IsJoinText covers (done ++ text)

-- the same where the stage is over
abbrev pub IsOver : List (List ℕ) → Cover → List Cover → List ℕ → List ℕ → List (List ℕ) → Stage → List Spot → Type 0
IsOver certs first covers done text numbers (Heads h) spots = (done ++ text ≡ []) × AreHeadsRead certs covers h spots
IsOver certs first covers done text numbers (Point part) spots = ⊥
IsOver certs first covers done text numbers (Numbering h n) spots = (done ++ text ≡ []) × AreAtNumbers certs first covers h × AreNumbered certs covers n spots
IsOver certs first covers done text numbers (Lemmas s) spots = AreLemmasWritten certs first covers (done ++ text) numbers spots
IsOver certs first covers done text numbers (Trees t) spots =
    AreSettled first covers numbers × ((u : Tree) × Joins (trees_by numbers covers) u
    × (done ++ text ≡ (text_of (lines_before_tree covers first (written_from 0 numbers covers)) ++ text_of (tree_word ∷ [])) ++ tree_text u))
IsOver certs first covers done text numbers (Ends part is_read) spots = IsJoinText covers (done ++ text)

abbrev pub IsAfterStep : List (List ℕ) → Cover → List Cover → List ℕ → Step → List ℕ → List (List ℕ) → Stage → List Spot → Type 0
IsAfterStep certs first covers done Over text numbers stage spots = IsOver certs first covers done text numbers stage spots
IsAfterStep certs first covers done step text numbers stage spots = IsAt certs first covers done text numbers stage spots

-- what a step comes to, where it answers one
abbrev pub Within : List (List ℕ) → Cover → List Cover → List ℕ → Result Step Unjoined → List ℕ → List (List ℕ) → Stage → List Spot → Type 0
Within certs first covers done (Ok step) text numbers stage spots = IsAfterStep certs first covers done step text numbers stage spots
Within certs first covers done (Err e) text numbers stage spots = IsUnjoined covers e

-- what a step comes to that fails for want of memory alone
abbrev pub IsInMemory : Result Step AllocError → Result Step Unjoined → Type 0
IsInMemory (Ok step) r = r ≡ Ok step
IsInMemory (Err e) r = r ≡ Err Memory

-- the same of a whole joiner
pub record IsJoining (certs : List (List ℕ)) (first : Cover) (covers : List Cover) (done text : List ℕ) (j : Joiner) : Type 0 where
  pub many : length j.cursors.items ≡ length certs
  pub at : IsAt certs first covers done text (lists_of j.numbers.items) j.stage j.cursors.items

-- behind a step
abbrev pub HasStepped : List (List ℕ) → Cover → List Cover → List ℕ → Result Step Unjoined → List ℕ → Joiner → Type 0
HasStepped certs first covers done (Ok Over) text j = IsJoinText covers (done ++ text)
HasStepped certs first covers done (Ok step) text j = IsJoining certs first covers done text j
HasStepped certs first covers done (Err e) text j = IsUnjoined covers e

-- the bytes stand where more of the certificate with this number is read
pub record IsPiece (certs : List (List ℕ)) (part : ℕ) (piece : List ℕ) (j : Joiner) : Type 0 where
  pub cert : List ℕ
  pub there : slice_get certs part ≡ Some cert
  pub at : IsPieceAt (drop (spot_at j.cursors.items part).behind cert) piece
