-- What is answered of what a search for a least value finds.
use Rattle.std.specs.Prelude.{◌≡◌, ◌⊎◌, ℕ, List, [], ◌∷◌, Some}
use Rattle.std.specs.Option.{option_map}
use Rattle.command_line.specs.declared.request.Options.{Options}
use Rattle.command_line.specs.Words.{Minimize}
use Rattle.dyadic.specs.Views.{dyadic_of}
use Rattle.poly_graph.specs.Problem.{Problem}
use Rattle.poly_graph.specs.ProblemViews.{Parts, problem_of}
use Rattle.cert_model.specs.Due.{Standing, left_open}
use Rattle.cert_model.specs.Least.{Least, least, IsGoalAccepted}
use Rattle.goal_limit.specs.Limits.{has_room}
use Rattle.cert_model.specs.AnswerText.{solve_text}
use Rattle.cover_data.specs.declared.margins.Options as cover
use Rattle.cover_data.specs.Margins.{margins_of, options_in, loosenings_of as of_margins}
use Rattle.least_search.specs.Found.{bound_of}
use Rattle.least_search.specs.declared.found.Ending.{Ending}
use Rattle.least_search.specs.declared.found.Ending.TheVariants.{Minimum, Budget, Width, Limit}
use Rattle.least_search.specs.declared.found.Lower.{Lower}
use Rattle.least_search.specs.declared.found.Lower.TheVariants as shown
use Rattle.least_search.specs.declared.found.Found.{Found}
use Rattle.least_text.specs.Means.{open_root}
use Rattle.check_run.specs.declared.minimized.Cause as tells
use Rattle.check_run.specs.declared.minimized.Cause.TheVariants.{Near, Spent, Narrow, NoLimit}
use Rattle.check_run.specs.Answer.{loosenings_of, IsAnswer}
use Rattle.check_run.specs.Minimized.{Cause, IsLeastAnswer, minimize_text}
use Rattle.dpoly.specs.declared.answers.SearchAnswer.{SearchAnswer}
use Rattle.dpoly.specs.Search.{search_options}

-- ---- the searches

-- the words' options, as the first search takes them
abbrev pub first_options : Options → cover.Options
first_options options = options_in 2 (search_options options)

-- ---- the value of the certificate

-- the leaves that are over the bound
abbrev pub overs_of : Problem → Lower → List Standing
overs_of p (shown.Root low) = open_root p ∷ []
overs_of p (shown.Limit b k d) = []

abbrev pub value_of : Problem → Found → Least
value_of p f = record { lower = option_map dyadic_of (bound_of f.lower); over = overs_of p f.lower; point = Some f.point }

-- for these options, in the version of what was found, the certificate is accepted with the value of that
abbrev pub IsAcceptedFor : Parts → ℕ → cover.Options → Found → List ℕ → Type 0
IsAcceptedFor q g o f cert =
    IsGoalAccepted (problem_of q) g (has_room (problem_of q)) o.bound cert (of_margins (margins_of (options_in f.version o))) (least (value_of (problem_of q) f))

-- ---- answers

-- what is told of an ending
abbrev pub told_cause : Ending → tells.Cause
told_cause Minimum = Near
told_cause Budget = Spent
told_cause Width = Narrow
told_cause Limit = NoLimit

-- the certificate answers the problem with a least value, and the text is that of it
pub record IsFoundAnswer (p : Problem) (g : ℕ) (words : Minimize) (told : SearchAnswer) : Type 0 where
  pub cause : Cause
  pub value : Least
  pub answer : IsLeastAnswer p g words told.cert.items cause value
  pub text : told.text.items ≡ minimize_text p g words.options.budget cause value

-- the certificate answers the problem with a cover, and the text is that of what it leaves
pub record IsLeftAnswer (p : Problem) (options : Options) (told : SearchAnswer) : Type 0 where
  pub left : List Standing
  pub answer : IsAnswer p options told.cert.items (left_open left)
  pub text : told.text.items ≡ solve_text p options.budget (loosenings_of options) (left_open left)

-- the one where a point was found, the other where none was
abbrev pub IsMinimizeAnswer : Problem → ℕ → Minimize → SearchAnswer → Type 0
IsMinimizeAnswer p g words told = IsFoundAnswer p g words told ⊎ IsLeftAnswer p words.options told
