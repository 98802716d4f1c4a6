-- What the certificates that are written of a book and of a point mean.
use Rattle.std.specs.Prelude.{◌≡◌, ◌⊎◌, ℕ, List, [], All, Some, IsTrue}
use Rattle.interval_model.specs.Space.{Space}
use Rattle.poly_graph.specs.Problem.{Problem, first_crossed}
use Rattle.cover_model.specs.State.{State}
use Rattle.cover_model.specs.Rules.{open_line}
use Rattle.cover_model.specs.Honest.{is_honest, not_shown}
use Rattle.cover_model.specs.Derivation.{Tree, tree_lines}
use Rattle.cover_model.specs.Fits.{IsShownAt}
use Rattle.cover_data.specs.declared.margins.Options.{Options}
use Rattle.cover_data.specs.Margins.{AreMargins, margins_of, loosenings_of}
use Rattle.cert_model.specs.Due.{Standing, left_open, at_point}
use Rattle.cert_model.specs.Accepted.{IsAccepted}
use Rattle.cert_model.specs.Standing.{Stands, standing, IsHonest, branches}
use Rattle.cover_book.specs.Model.{BookModel, problem_in, loosenings_in}
use Rattle.cover_book.specs.Steps.{IsLive}
use Rattle.cover_book.specs.Laws.{IsTreeOfBook}
use Rattle.cert_model.specs.Written.{rule_lines}
use Rattle.cert_text.specs.Lines.{HasAppended}
use Rattle.cert_text.specs.Texts.{book_text, crossed_text}

-- each of these lines but an open one is honest
abbrev pub AreHonestButOpen : BookModel → List Stands → Type 0
AreHonestButOpen b lines = All (λ (x : Stands). (x.line.does ≡ open_line → ⊥) → IsTrue (is_honest (problem_in b) b.options.least_bits x.loosenings x.line.state x.line.does)) lines

abbrev pub EndsHonestly : BookModel → List ℕ → Type 0
EndsHonestly b text = AreHonestButOpen b (standing (problem_in b) b.options.bound text)

-- the text of a tree of the book: it is accepted, its value is the states that stay, in the tree's order, and it is honest where the live nodes are
pub record IsTreeText (b : BookModel) (bytes : List ℕ) : Type 0 where
  pub tree : Tree
  pub left : List Standing
  pub is_tree : IsTreeOfBook b tree left
  pub text : bytes ≡ book_text b tree
  pub accepted : IsAccepted (problem_in b) b.options.bound bytes (loosenings_in b) (left_open left)
  pub branches : branches (problem_in b) b.options.bound bytes ≡ b.branches
  pub ends_honestly : EndsHonestly b bytes
  pub honest : ((n : ℕ) (S : State) → IsLive b n S → IsTrue (not_shown (problem_in b) (loosenings_in b) S)) → IsHonest (problem_in b) b.options.bound b.options.least_bits bytes

-- the text that the bounds of the first such axis cross: it is accepted with nothing left, and no line of it stands at a state
pub record IsCrossedText (b : BookModel) (bytes : List ℕ) : Type 0 where
  pub axis : ℕ
  pub first : first_crossed (problem_in b) ≡ Some axis
  pub text : bytes ≡ crossed_text b axis
  pub accepted : IsAccepted (problem_in b) b.options.bound bytes (loosenings_in b) (left_open [])
  pub standing : standing (problem_in b) b.options.bound bytes ≡ []

-- the one where the declared box is empty, the other where it is not
abbrev pub IsCertificateOf : BookModel → List ℕ → Type 0
IsCertificateOf b text = IsCrossedText b text ⊎ IsTreeText b text

-- the lines of a tree of the book were appended
abbrev pub HasAppendedTreeOf : List ℕ → BookModel → List ℕ → Type 0
HasAppendedTreeOf old b new = (t : Tree) × (left : List Standing) × IsTreeOfBook b t left × HasAppended old (rule_lines (tree_lines t)) new

-- ---- of a point

-- at margins of these options at which the point is shown, the text is accepted and its value is the point
abbrev pub IsPointCertificate : Problem → Options → Space → List ℕ → Type 0
IsPointCertificate p o x text =
    AreMargins (margins_of o) → IsShownAt p (loosenings_of (margins_of o)) x → IsAccepted p o.bound text (loosenings_of (margins_of o)) (at_point x)
