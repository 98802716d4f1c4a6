use Rattle.std.proofs.Common.{ℕ, List, [], ◌∷◌, ◌++◌, subst, sym}
use Rattle.smt_script.specs.Views.{command_of, sort_of, parameter_of}
use Rattle.smt_script.specs.declared.command.Command.{Command}
use Rattle.smt_script.specs.declared.command.Command.TheVariants as commands
use Rattle.smt_sexp.specs.Arena.{expression_at}
use Rattle.smt_sexp.specs.Views.{place_of}
use Rattle.script_model.specs.Script as model
use Rattle.script_model.specs.Declared.{bounding}
use Rattle.script_forms.specs.Work.{as_work}
use Rattle.problem_build.specs.Goal.{goal_meaning}
use Rattle.std.proofs.Common.{map}
use Rattle.value_build.specs.Making.{Making}
use Rattle.problem_build.specs.BuildAnswers.{IsBuildingError, found_by}
use Rattle.problem_build.specs.Names.{work_at, bounding_at}
use Rattle.problem_build.specs.Standing.{IsDone, Adds, walk_of}
use Rattle.problem_build.proofs.Standing as standing
use Rattle.problem_build.proofs.commands.make.Goals as goal

pub returns-in_ok-add_sort-in-Declare : goal.returns-in_ok-add_sort-in-Declare
returns-in_ok-add_sort-in-Declare c = λ script names done.
    let d = c.in-Declare in
    let s = c.args.sexps.now in
    let m = c.args.maker.now in
    let made = c.args.claims.now.items in
    subst (λ (x : Command). IsDone (script ++ (command_of s x ∷ [])) c.add_sort.new.self made × Adds m c.add_sort.new.self made made) (sym d.is)
    (subst (λ (m1 : Making). IsDone (script ++ (command_of s (commands.Declare d.field-0 d.field-1 d.sort) ∷ [])) m1 made × Adds m m1 made made) (sym c.in_ok-add_sort-in-Declare.ensures.added)
    (standing.made_declared s script m c.args.top.now made names done (place_of d.field-0) d.field-1.now (sort_of d.sort), standing.adds_sort m (sort_of d.sort) made))

pub returns-in_ok-push-in-Ok : goal.returns-in_ok-push-in-Ok
returns-in_ok-push-in-Ok c = λ script names done.
    let d = c.in-Assert in
    let s = c.args.sexps.now in
    let m = c.args.maker.now in
    let m1 = c.assertion.new.maker in
    let made = c.args.claims.now.items in
    let e = expression_at s d.body in
    let a = c.in-Ok.ensures.asserts in
    subst (λ (x : Command). IsDone (script ++ (command_of s x ∷ [])) m1 c.push.new.self.items × Adds m m1 made c.push.new.self.items) (sym d.is)
    (subst (λ (xs : List (ℕ × ℕ)). IsDone (script ++ (model.claim (place_of d.place) e ∷ [])) m1 xs × Adds m m1 made xs) (sym c.in_ok-push-in-Ok.ensures.items) (
      standing.made_claimed s script m c.args.top.now made names done (place_of d.place) (model.claim (place_of d.place) e) (work_at s c.args.top.now d.body) (bounding_at s c.args.top.now d.body)
          (standing.claim_here s c.args.top.now (place_of d.place) d.body) m1 c.in-Ok.made a c.assertion.ensures.sorts,
      standing.adds_claim m m1 (work_at s c.args.top.now d.body) (bounding_at s c.args.top.now d.body) c.in-Ok.made made a.1 c.assertion.ensures.sorts c.in-Ok.ensures.empty,
    ))

pub returns-in-Err : goal.returns-in-Err
returns-in-Err c = λ script names done rest.
    let d = c.in-Assert in
    let s = c.args.sexps.now in
    let e = expression_at s d.body in
    subst (λ (x : Command). IsBuildingError c.building_error.result (found_by (walk_of (script ++ (command_of s x ∷ rest))))) (sym d.is)
    (c.building_error.ensures (walk_of (script ++ (model.claim (place_of d.place) e ∷ rest)))
    (standing.stopped s script c.args.maker.now c.args.top.now c.args.claims.now.items names done (place_of d.place) (model.claim (place_of d.place) e) (work_at s c.args.top.now d.body) (bounding_at s c.args.top.now d.body)
    (standing.claim_here s c.args.top.now (place_of d.place) d.body) rest c.assertion.new.maker c.in-Err.stop c.in-Err.ensures.asserts))

pub returns-in_ok-push-in-Ok-goal_claim : goal.returns-in_ok-push-in-Ok-goal_claim
returns-in_ok-push-in-Ok-goal_claim c = λ script names done.
    let d = c.in-Minimize in
    let s = c.args.sexps.now in
    let at = place_of d.place in
    let m = c.args.maker.now in
    let m1 = c.goal_claim.new.maker in
    let made = c.args.claims.now.items in
    let w = goal_meaning as_work at (work_at s c.args.top.now d.body) in
    let b = goal_meaning bounding at (bounding_at s c.args.top.now d.body) in
    let a = c.in-Ok-goal_claim.ensures.asserts in
    subst (λ (x : Command). IsDone (script ++ (command_of s x ∷ [])) m1 c.push-in-Ok-goal_claim.new.self.items × Adds m m1 made c.push-in-Ok-goal_claim.new.self.items) (sym d.is)
    (subst (λ (xs : List (ℕ × ℕ)). IsDone (script ++ (model.minimize at (expression_at s d.body) ∷ [])) m1 xs × Adds m m1 made xs) (sym c.in_ok-push-in-Ok-goal_claim.ensures.items) (
      standing.made_claimed s script m c.args.top.now made names done at (model.minimize at (expression_at s d.body)) w b
          (standing.goal_here s c.args.top.now at d.body) m1 c.in-Ok-goal_claim.made a c.goal_claim.ensures.sorts,
      standing.adds_claim m m1 w b c.in-Ok-goal_claim.made made a.1 c.goal_claim.ensures.sorts c.in-Ok-goal_claim.ensures.empty,
    ))

pub returns-in-Err-goal_claim : goal.returns-in-Err-goal_claim
returns-in-Err-goal_claim c = λ script names done rest.
    let d = c.in-Minimize in
    let s = c.args.sexps.now in
    let at = place_of d.place in
    let minimized : model.Command = model.minimize at (expression_at s d.body) in
    subst (λ (x : Command). IsBuildingError c.building_error-in-Err-goal_claim.result (found_by (walk_of (script ++ (command_of s x ∷ rest))))) (sym d.is)
    (c.building_error-in-Err-goal_claim.ensures (walk_of (script ++ (minimized ∷ rest)))
    (standing.stopped s script c.args.maker.now c.args.top.now c.args.claims.now.items names done at minimized
    (goal_meaning as_work at (work_at s c.args.top.now d.body)) (goal_meaning bounding at (bounding_at s c.args.top.now d.body))
    (standing.goal_here s c.args.top.now at d.body) rest c.goal_claim.new.maker c.in-Err-goal_claim.stop c.in-Err-goal_claim.ensures.asserts))

pub returns-in-Define : goal.returns-in-Define
returns-in-Define c = λ script names done.
    let d = c.in-Define in
    let s = c.args.sexps.now in
    let m = c.args.maker.now in
    let made = c.args.claims.now.items in
    subst (λ (x : Command). IsDone (script ++ (command_of s x ∷ [])) m made × Adds m m made made) (sym d.is)
    (standing.made_defined s script m c.args.top.now made names done (place_of d.field-0) d.field-1.now (map parameter_of d.field-2.items) (sort_of d.field-3) (expression_at s d.field-4), standing.adds_nothing m made)

pub returns-in-Check : goal.returns-in-Check
returns-in-Check c = λ script names done.
    let d = c.in-Check in
    let s = c.args.sexps.now in
    let m = c.args.maker.now in
    let made = c.args.claims.now.items in
    subst (λ (x : Command). IsDone (script ++ (command_of s x ∷ [])) m made × Adds m m made made) (sym d.is)
    (standing.made_checked s script m c.args.top.now made names done (place_of d.field-0), standing.adds_nothing m made)

pub returns-in-Ineffective : goal.returns-in-Ineffective
returns-in-Ineffective c = λ script names done.
    let d = c.in-Ineffective in
    let s = c.args.sexps.now in
    let m = c.args.maker.now in
    let made = c.args.claims.now.items in
    subst (λ (x : Command). IsDone (script ++ (command_of s x ∷ [])) m made × Adds m m made made) (sym d.is)
    (standing.made_ineffective s script m c.args.top.now made names done (place_of d.field-0), standing.adds_nothing m made)
