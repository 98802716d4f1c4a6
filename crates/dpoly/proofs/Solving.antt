-- From a certificate to the end of a run.
use Rattle.std.proofs.Common.{◌≡◌, ℕ, List, [], Bool, length, refl, ap, subst, ◌∙◌}
use Rattle.desk.specs.Sight.{Sight}
use Rattle.command_line.specs.declared.request.Options.{Options}
use Rattle.poly_graph.specs.Problem.{Problem}
use Rattle.cert_model.specs.Due.{Value}
use Rattle.cert_model.specs.AnswerText.{solve_text}
use Rattle.check_run.specs.declared.status.Status.{Status}
use Rattle.check_run.specs.Answer.{demo_text, loosenings_of, solve_texts, AreAnswers, IsAnswer}
use Rattle.check_run.specs.Course.{gives, Ends, RunEnds, on_course}
use Rattle.check_run.specs.Can.{CanSolve, CanDemo}

-- what is written is the certificate, and then a text
pub written : (name cert cert' text text' : List ℕ) (old new : Sight) (status : Status) → cert ≡ cert' → text ≡ text' → Ends (gives name cert text) old new status → Ends (gives name cert' text') old new status
written name cert cert' text text' old new status e e' ends =
    let P : List ℕ → Type 0 = λ c. Ends (gives name c text) old new status in
    let Q : List ℕ → Type 0 = λ t. Ends (gives name cert' t) old new status in
    subst Q e' (subst P e ends)

pub solved : (ps : List (Problem × Bool)) (o : Options) (name bytes cert text answer : List ℕ) (values : List Value) (old new : Sight) (status : Status)
    → AreAnswers ps o cert values → bytes ≡ cert → text ≡ solve_texts o.budget (loosenings_of o) ps values → answer ≡ text
    → Ends (gives name bytes answer) old new status → RunEnds (CanSolve ps o name) [] old new status
solved ps o name bytes cert text answer values old new status is e e' e'' ends =
    on_course (gives name cert (solve_texts o.budget (loosenings_of o) ps values)) (cert, values, is, refl) (written name bytes cert answer _ old new status e (e'' ∙ e') ends)

pub demonstrated : (p : Problem) (o : Options) (name script bytes cert told text answer : List ℕ) (value : Value) (old new : Sight) (status : Status)
    → IsAnswer p o cert value → told ≡ solve_text p o.budget (loosenings_of o) value → bytes ≡ cert → text ≡ demo_text (length script) (length p.atoms) told → answer ≡ text
    → Ends (gives name bytes answer) old new status → RunEnds (CanDemo p o name script) [] old new status
demonstrated p o name script bytes cert told text answer value old new status is says e e' e'' ends =
    on_course (gives name cert (demo_text (length script) (length p.atoms) (solve_text p o.budget (loosenings_of o) value))) (cert, value, is, refl)
    (written name bytes cert answer _ old new status e (e'' ∙ e' ∙ ap (demo_text (length script) (length p.atoms)) says) ends)
