use Rattle.std.proofs.Common.{◌≡◌, ◌+◌, ℕ, suc, List, [], ◌∷◌, ◌++◌, subst, sym, arith}
use Rattle.smt_script.specs.Views.{command_of, sort_of}
use Rattle.smt_script.specs.declared.command.Command.{Command}
use Rattle.smt_sexp.specs.Views.{place_of}
use Rattle.smt_sexp.specs.Arena.{expression_at}
use Rattle.problem_build.specs.Standing.{IsNamed}
use Rattle.problem_build.specs.declared.top.Known.TheVariants as known
use Rattle.problem_build.specs.declared.top.Top.{Top}
use Rattle.problem_build.proofs.Standing as standing
use Rattle.problem_build.proofs.named.Named.add.Goals as goal

pub returns-in_ok-push-in-Declare : goal.returns-in_ok-push-in-Declare
returns-in_ok-push-in-Declare c = λ s script h.
    let d = c.in-Declare in
    let axis = c.args.self.now.axis in
    let next : axis + 1 ≡ suc axis = omega arith in
    subst (λ (n : ℕ). IsNamed s (script ++ (command_of s c.args.command.now ∷ [])) c.push.new.self n) (sym next)
    (subst (λ (x : List Top). IsNamed s (script ++ (command_of s c.args.command.now ∷ [])) x (suc axis)) (sym c.in_ok-push-in-Declare.ensures.added)
    (subst (λ (x : Command). IsNamed s (script ++ (command_of s x ∷ [])) (c.args.self.now.top ++ (record { name = d.name; known = known.Constant axis d.sort } ∷ [])) (suc axis)) (sym d.is) (standing.top_declared s script c.args.self.now.top h.names (place_of d.field-0) d.name d.sort axis h.counted)))

pub returns-in_ok-push-in-Define : goal.returns-in_ok-push-in-Define
returns-in_ok-push-in-Define c = λ s script h.
    let d = c.in-Define in
    let axis = c.args.self.now.axis in
    subst (λ (x : List Top). IsNamed s (script ++ (command_of s c.args.command.now ∷ [])) x axis) (sym c.in_ok-push-in-Define.ensures.added)
    (subst (λ (x : Command). IsNamed s (script ++ (command_of s x ∷ [])) (c.args.self.now.top ++ (record { name = d.name; known = known.Function c.as_slice.result d.body } ∷ [])) axis) (sym d.is)
    (standing.top_defined s script c.args.self.now.top h.names (place_of d.field-0) d.name d.parameters.items c.as_slice.result (sort_of d.field-3) d.body axis c.as_slice.ensures.value h.counted))

pub returns-in-Assert : goal.returns-in-Assert
returns-in-Assert c = λ s script h.
    subst (λ (x : Command). IsNamed s (script ++ (command_of s x ∷ [])) c.args.self.now.top c.args.self.now.axis) (sym c.in-Assert.is)
    (standing.top_claimed s script c.args.self.now.top h.names c.args.self.now.axis h.counted (place_of c.in-Assert.field-0) (expression_at s c.in-Assert.field-1))

pub returns-in-Minimize : goal.returns-in-Minimize
returns-in-Minimize c = λ s script h.
    subst (λ (x : Command). IsNamed s (script ++ (command_of s x ∷ [])) c.args.self.now.top c.args.self.now.axis) (sym c.in-Minimize.is)
    (standing.top_minimized s script c.args.self.now.top h.names c.args.self.now.axis h.counted (place_of c.in-Minimize.field-0) (expression_at s c.in-Minimize.field-1))

pub returns-in-Check : goal.returns-in-Check
returns-in-Check c = λ s script h.
    subst (λ (x : Command). IsNamed s (script ++ (command_of s x ∷ [])) c.args.self.now.top c.args.self.now.axis) (sym c.in-Check.is)
    (standing.top_checked s script c.args.self.now.top h.names c.args.self.now.axis h.counted (place_of c.in-Check.field-0))

pub returns-in-Ineffective : goal.returns-in-Ineffective
returns-in-Ineffective c = λ s script h.
    subst (λ (x : Command). IsNamed s (script ++ (command_of s x ∷ [])) c.args.self.now.top c.args.self.now.axis) (sym c.in-Ineffective.is)
    (standing.top_same s script c.args.self.now.top h.names c.args.self.now.axis h.counted (place_of c.in-Ineffective.field-0))
