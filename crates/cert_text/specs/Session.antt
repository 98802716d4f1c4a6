-- The certificate of several checks, of their books: a part for each, the point where its book keeps one, else the book's lemmas and tree.
use Rattle.std.specs.Prelude.{◌≡◌, ◌⊎◌, ℕ, List, [], ◌∷◌, ◌++◌, Bool, cond, Some, None, All, IsTrue, length, nat_eq, slice_get}
use Rattle.interval_model.specs.Space.{Space}
use Rattle.poly_graph.specs.Problem.{first_crossed}
use Rattle.poly_graph.specs.ProblemViews.{Parts}
use Rattle.problem_session.specs.Session.{problems_of}
use Rattle.cover_model.specs.State.{State, Loosenings, in_version}
use Rattle.cover_model.specs.Honest.{is_honest, not_shown}
use Rattle.cover_model.specs.Derivation.{Tree}
use Rattle.cover_data.specs.declared.margins.Options.{Options}
use Rattle.cover_data.specs.Margins.{margins_of, loosenings_of}
use Rattle.cert_read.specs.CertLine.{CertLine, tree_word, end_word}
use Rattle.cert_model.specs.Due.{Standing, Value, at_point, left_open}
use Rattle.cert_model.specs.Session.{AreAccepted, session_standing}
use Rattle.cert_model.specs.SessionLaws.{WrittenEnd, written_tree, written_crossing, WrittenPart, written_cover, written_point, end_lines, part_lines, parts_lines}
use Rattle.cert_model.specs.Standing.{Stands, branches_of}
use Rattle.cert_model.specs.Written.{LemmaTree, lemmas_lines}
use Rattle.cover_book.specs.Model.{BookModel, problem_in, loosenings_in}
use Rattle.cover_book.specs.Steps.{IsLive}
use Rattle.cover_book.specs.Tree.{lemma_trees}
use Rattle.cover_book.specs.Laws.{IsTreeOfBook}
use Rattle.cover_book.specs.Session.{AreBooksOf}
use Rattle.cert_text.specs.Lines.{HasAppended}
use Rattle.cert_text.specs.Means.{AreHonestButOpen}

-- ---- the parts of books, as the code writes them

-- a tree of the book, or the first axis whose bounds cross
abbrev pub IsEndOf : BookModel → WrittenEnd → Type 0
IsEndOf b (written_tree t) = (left : List Standing) × IsTreeOfBook b t left
IsEndOf b (written_crossing i) = first_crossed (problem_in b) ≡ Some i

-- the lemmas from this number on, the tree and the end
abbrev pub body_lines : ℕ → List LemmaTree → WrittenEnd → List CertLine
body_lines first lemmas end = lemmas_lines first lemmas ++ (tree_word ∷ (end_lines end ++ (end_word ∷ [])))

-- the lemmas that a book learned, its tree and the end were appended
abbrev pub HasAppendedBody : List ℕ → BookModel → List ℕ → Type 0
HasAppendedBody old b new = (end : WrittenEnd) × IsEndOf b end × HasAppended old (body_lines (length b.kept) (lemma_trees b) end) new

abbrev pub IsPartOf : BookModel → WrittenPart → Type 0
IsPartOf b (written_point space) = b.point ≡ Some space
IsPartOf b (written_cover kept lemmas end) = (b.point ≡ None) × (kept ≡ b.kept) × (lemmas ≡ lemma_trees b) × IsEndOf b end

-- the part of a book was appended
abbrev pub HasAppendedPart : List ℕ → BookModel → List ℕ → Type 0
HasAppendedPart old b new = (x : WrittenPart) × IsPartOf b x × HasAppended old (part_lines x) new

abbrev pub ArePartsOf : List BookModel → List WrittenPart → Type 0
ArePartsOf [] [] = Unit {0}
ArePartsOf (b ∷ books) (x ∷ parts) = IsPartOf b x × ArePartsOf books parts
ArePartsOf _ _ = ⊥

-- the parts of books were appended, in order
abbrev pub HasAppendedParts : List ℕ → List BookModel → List ℕ → Type 0
HasAppendedParts old books new = (parts : List WrittenPart) × ArePartsOf books parts × HasAppended old (parts_lines parts) new

-- ---- what they mean

-- Of the lines of a book's main tree where they stand: there are as many branches as the book counts; each line but an open one is honest; and
-- all are where at each live node the form may hold and is not sure at the middle.
pub record StandsHonestly (b : BookModel) (lines : List Stands) : Type 0 where
  pub branches : branches_of lines ≡ b.branches
  pub ends : AreHonestButOpen b lines
  pub all : ((n : ℕ) (S : State) → IsLive b n S → IsTrue (not_shown (problem_in b) (loosenings_in b) S)) →
      All (λ (x : Stands). IsTrue (is_honest (problem_in b) b.options.least_bits x.loosenings x.line.state x.line.does)) lines

-- the point that the book keeps
pub record IsPointPart (b : BookModel) (v : Value) (lines : List Stands) : Type 0 where
  pub space : Space
  pub point : b.point ≡ Some space
  pub value : v ≡ at_point space
  pub standing : lines ≡ []

-- nothing, since the bounds of the first such axis cross
pub record IsCrossedPart (b : BookModel) (v : Value) (lines : List Stands) : Type 0 where
  pub no_point : b.point ≡ None
  pub axis : ℕ
  pub first : first_crossed (problem_in b) ≡ Some axis
  pub value : v ≡ left_open []
  pub standing : lines ≡ []

-- the states that a tree of the book leaves, in the tree's order
pub record IsTreePart (b : BookModel) (v : Value) (lines : List Stands) : Type 0 where
  pub no_point : b.point ≡ None
  pub tree : Tree
  pub left : List Standing
  pub is_tree : IsTreeOfBook b tree left
  pub value : v ≡ left_open left
  pub standing : StandsHonestly b lines

-- what a part's value and the lines of its main tree tell of a book
abbrev pub TellsOf : BookModel → Value → List Stands → Type 0
TellsOf b v lines = IsPointPart b v lines ⊎ (IsCrossedPart b v lines ⊎ IsTreePart b v lines)

-- the version of a certificate of several checks whose parts have the lines of this version
abbrev pub session_version : ℕ → ℕ
session_version v = cond (nat_eq v 2) 3 v

-- the margin and delta of options, in the version for several checks
abbrev pub session_loosenings : Options → Loosenings
session_loosenings o = in_version (session_version o.version) (loosenings_of (margins_of o))

-- the text is accepted for the problems, with a value for each book
pub record IsSessionText (o : Options) (ps : List (Parts × Bool)) (books : List BookModel) (text : List ℕ) : Type 0 where
  pub values : List Value
  pub accepted : AreAccepted (problems_of ps) o.bound text (session_loosenings o) values
  pub count : length values ≡ length books
  pub each : (k : ℕ) (b : BookModel) (v : Value) → slice_get books k ≡ Some b → slice_get values k ≡ Some v → TellsOf b v (session_standing (problems_of ps) o.bound text k)

-- of the books of two checks or more, of which the first opened with no lemmas
abbrev pub IsSessionCertificateOf : List BookModel → List ℕ → Type 0
IsSessionCertificateOf books text = (o : Options) (c d : Parts × Bool) (later : List (Parts × Bool)) → AreBooksOf o [] (c ∷ d ∷ later) books → IsSessionText o (c ∷ d ∷ later) books text
