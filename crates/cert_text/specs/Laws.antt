-- What the certificate of a book is, where it opened in the root state with no lemmas.
use Rattle.std.specs.Prelude.{◌≡◌, ◌↔◌, ℕ, List, [], false, Option, Some, IsTrue}
use Rattle.interval_model.specs.Space.{Space}
use Rattle.poly_graph.specs.Problem.{Problem, first_crossed}
use Rattle.cover_model.specs.State.{State, Loosenings}
use Rattle.cover_model.specs.Honest.{not_shown}
use Rattle.cover_model.specs.Derivation.{Tree}
use Rattle.cover_model.specs.Fits.{IsShownAt}
use Rattle.cert_model.specs.Due.{Standing, at_point, left_open}
use Rattle.cert_model.specs.Accepted.{IsAccepted, is_header}
use Rattle.cert_model.specs.Standing.{standing, IsHonest, branches}
use Rattle.cert_model.specs.AnswerText.{has_open}
use Rattle.cert_model.specs.Written.{point_lines}
use Rattle.cert_model.specs.Laws.{CanBeWritten, point_text}
use Rattle.cover_book.specs.Model.{BookModel, IsOfRoot, problem_in, loosenings_in}
use Rattle.cover_book.specs.Verdict.{has_live, has_stuck}
use Rattle.cover_book.specs.Steps.{IsLive}
use Rattle.cover_book.specs.Keeps.{IsBook}
use Rattle.cover_book.specs.Laws.{IsTreeOfBook}
use Rattle.cert_text.specs.Means.{EndsHonestly}
use Rattle.cert_text.specs.Texts.{book_lines, crossed_lines, book_text, crossed_text}

-- The text of a book's tree is accepted, and its value is the states that stay, in the tree's order.
abbrev pub BookTextIsAccepted : Type 0
BookTextIsAccepted = (b : BookModel) (t : Tree) (left : List Standing) → IsTreeOfBook b t left → IsOfRoot b → b.kept ≡ [] → CanBeWritten (book_lines b t) →
    IsAccepted (problem_in b) b.options.bound (book_text b t) (loosenings_in b) (left_open left)

-- It has as many branches as the book counts.
abbrev pub BookTextBranches : Type 0
BookTextBranches = (b : BookModel) (t : Tree) (left : List Standing) → IsTreeOfBook b t left → IsOfRoot b → b.kept ≡ [] → CanBeWritten (book_lines b t) → branches (problem_in b) b.options.bound (book_text b t) ≡ b.branches

-- Each line of its main tree but an open one is honest.
abbrev pub BookTextEndsHonestly : Type 0
BookTextEndsHonestly = (b : BookModel) (t : Tree) (left : List Standing) → IsTreeOfBook b t left → IsOfRoot b → b.kept ≡ [] → CanBeWritten (book_lines b t) → EndsHonestly b (book_text b t)

-- It is honest where at each live node the form may hold and is not sure at the middle.
abbrev pub BookTextIsHonest : Type 0
BookTextIsHonest = (b : BookModel) → IsBook b → (t : Tree) (left : List Standing) → IsTreeOfBook b t left → IsOfRoot b → b.kept ≡ [] → CanBeWritten (book_lines b t) →
    ((n : ℕ) (S : State) → IsLive b n S → IsTrue (not_shown (problem_in b) (loosenings_in b) S)) → IsHonest (problem_in b) b.options.bound b.options.least_bits (book_text b t)

-- Where the bounds of an axis cross, the text that says so is accepted with nothing left, and no line of it stands at a state.
abbrev pub CrossedTextIsAccepted : Type 0
CrossedTextIsAccepted = (b : BookModel) → IsBook b → b.kept ≡ [] → (i : ℕ) → first_crossed (problem_in b) ≡ Some i → CanBeWritten (crossed_lines b i) →
    IsAccepted (problem_in b) b.options.bound (crossed_text b i) (loosenings_in b) (left_open []) × (standing (problem_in b) b.options.bound (crossed_text b i) ≡ [])

-- The text of a point that is shown is accepted with the point.
abbrev pub PointTextIsAccepted : Type 0
PointTextIsAccepted = (p : Problem) (bound : Option ℕ) (s : Loosenings) → IsTrue (is_header s) → (space : Space) → IsShownAt p s space → CanBeWritten (point_lines s bound space) →
    IsAccepted p bound (point_text s bound space) s (at_point space)

-- an open state is left exactly where a node is live, and nothing exactly where no node is live or stuck
pub record MatchesNodes (b : BookModel) (left : List Standing) : Type 0 where
  pub live : has_open left ≡ has_live b
  pub nothing : (left ≡ []) ↔ ((has_live b ≡ false) × (has_stuck b ≡ false))

-- What is left of a book's tree tells of its nodes.
abbrev pub LeftMatchesNodes : Type 0
LeftMatchesNodes = (b : BookModel) → IsBook b → (t : Tree) (left : List Standing) → IsTreeOfBook b t left → MatchesNodes b left
