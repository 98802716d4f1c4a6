-- What a search is asked for, and what is answered of the book that it left.
use Rattle.std.specs.Prelude.{◌≡◌, ◌≢◌, ◌++◌, ℕ, List, [], ◌∷◌, Bool, IsTrue}
use Rattle.std.specs.List.{AllByRecursion}
use Rattle.command_line.specs.declared.request.Options.{Options}
use Rattle.poly_graph.specs.Problem.{Problem}
use Rattle.cover_model.specs.Derivation.{Tree}
use Rattle.cert_model.specs.Due.{Standing, Value, left_open}
use Rattle.cert_model.specs.AnswerText.{solve_text}
use Rattle.cert_model.specs.Least.{is_lines_version}
use Rattle.cover_data.specs.declared.margins.Options as cover
use Rattle.cover_data.specs.Margins.{options_in}
use Rattle.cover_book.specs.declared.verdict.BookVerdict.TheVariants.{NotYet}
use Rattle.cover_book.specs.Model.{BookModel, problem_in}
use Rattle.cover_book.specs.Keeps.{IsCrossed}
use Rattle.cover_book.specs.Laws.{IsTreeOfBook}
use Rattle.cover_book.specs.Verdict.{verdict_of}
use Rattle.cover_book.specs.Left.{LeavesDue}
use Rattle.dpoly.specs.declared.answers.SearchAnswer.{SearchAnswer}
use Rattle.cert_model.specs.Standing.{Stands}
use Rattle.cert_text.specs.Session.{TellsOf}
use Rattle.check_run.specs.Answer.{loosenings_of, solve_texts, AreAnswers, IsAnswer}

-- the words' options, as a search takes them that may go over to version 5
abbrev pub search_options : Options → cover.Options
search_options options = record {
  delta_bits = options.delta_bits;
  margin_bits = options.margin_bits;
  least_bits = options.least_bits;
  version = 5;
  budget = options.budget;
  workers = options.workers;
  bound = options.bound;
}

-- a search with these options left the book, in version 2 or 5
pub record IsLeftBy (options : Options) (b : BookModel) : Type 0 where
  pub version : IsTrue (is_lines_version b.options.version)
  pub asked : b.options ≡ options_in b.options.version (search_options options)
  pub ended : verdict_of b ≢ NotYet
  pub due : LeavesDue b

-- the text is that of what the tree of the book leaves, and of nothing where the declared box is empty
pub record SaysLeft (options : Options) (b : BookModel) (text : List ℕ) : Type 0 where
  pub tree : (t : Tree) (left : List Standing) → IsTreeOfBook b t left → text ≡ solve_text (problem_in b) options.budget (loosenings_of options) (left_open left)
  pub crossed : IsCrossed b → text ≡ solve_text (problem_in b) options.budget (loosenings_of options) (left_open [])

-- the text is that of each value which tells of the book
abbrev pub SaysOf : Options → BookModel → List ℕ → Type 0
SaysOf options b text = (v : Value) (lines : List Stands) → TellsOf b v lines → text ≡ solve_text (problem_in b) options.budget (loosenings_of options) v

-- these values tell of the books
abbrev pub AreTold : List BookModel → List Value → Type 0
AreTold [] [] = Unit {0}
AreTold (b ∷ books) (v ∷ values) = ((lines : List Stands) × TellsOf b v lines) × AreTold books values
AreTold _ _ = ⊥

-- their texts, one after the other
abbrev pub book_texts : Options → List BookModel → List Value → List ℕ
book_texts options (b ∷ books) (v ∷ values) = solve_text (problem_in b) options.budget (loosenings_of options) v ++ book_texts options books values
book_texts options _ _ = []

-- the text is those of the values that tell of the books
abbrev pub SayOf : Options → List BookModel → List ℕ → Type 0
SayOf options books text = (values : List Value) → AreTold books values → text ≡ book_texts options books values

-- searches with these options left the books
abbrev pub AreLeftBy : Options → List BookModel → Type 0
AreLeftBy options books = AllByRecursion (IsLeftBy options) books

-- the certificate answers the problem, and the text is that of its value
pub record IsSearchAnswer (p : Problem) (options : Options) (told : SearchAnswer) : Type 0 where
  pub value : Value
  pub answer : IsAnswer p options told.cert.items value
  pub text : told.text.items ≡ solve_text p options.budget (loosenings_of options) value

-- the certificate answers the problems, and the text is those of its values
pub record AreSearchAnswers (ps : List (Problem × Bool)) (options : Options) (told : SearchAnswer) : Type 0 where
  pub values : List Value
  pub answers : AreAnswers ps options told.cert.items values
  pub text : told.text.items ≡ solve_texts options.budget (loosenings_of options) ps values
