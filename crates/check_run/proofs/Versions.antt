-- What a value says, and how it is told, is the same in every version of the format.
use Rattle.std.proofs.Common.{◌≡◌, ℕ, List, [], ◌∷◌, Option, refl}
use Rattle.script_model.specs.Script.{Command}
use Rattle.poly_graph.specs.Problem.{Problem}
use Rattle.cover_model.specs.State.{Loosenings, in_version}
use Rattle.cert_model.specs.Due.{Value, at_point, left_open}
use Rattle.cert_model.specs.AnswerText.{solve_text}
use Rattle.smt_script.specs.Levels.{Asked}
use Rattle.check_run.specs.Headline.{AreTrueValues, IsTrueValue}

pub value_again : (bound : Option ℕ) (v : ℕ) (s : Loosenings) (commands : List Command) (x : Value) → IsTrueValue bound (in_version v s) commands x → IsTrueValue bound s commands x
value_again bound v s commands (at_point space) h = record { satisfies = h.satisfies; near = h.near }
value_again bound v s commands (left_open []) h = h
value_again bound v s commands (left_open (x ∷ left)) h = tt

pub values_again : (bound : Option ℕ) (v : ℕ) (s : Loosenings) (asked : List Asked) (values : List Value) → AreTrueValues bound (in_version v s) asked values → AreTrueValues bound s asked values
values_again bound v s [] [] h = tt
values_again bound v s (a ∷ asked) (x ∷ values) h = (value_again bound v s a.script x h.0, values_again bound v s asked values h.1)
values_again bound v s [] (x ∷ values) h = absurd h
values_again bound v s (a ∷ asked) [] h = absurd h

pub text_again : (p : Problem) (budget v : ℕ) (s : Loosenings) (x : Value) → solve_text p budget (in_version v s) x ≡ solve_text p budget s x
text_again p budget v s (at_point space) = refl
text_again p budget v s (left_open []) = refl
text_again p budget v s (left_open (x ∷ left)) = refl
