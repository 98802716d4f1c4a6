use Rattle.std.proofs.Common.{ℕ, take, refl, subst, ◌∙◌, arith}
use Rattle.smt_script.specs.Views.{commands_in}
use Rattle.problem_build.specs.Standing.{IsNamed}
use Rattle.problem_build.proofs.Past as past
use Rattle.problem_build.proofs.progress.Progress.go_on.Goals as goal

pub first_names-requires-clause-within : goal.first_names-requires-clause-within
first_names-requires-clause-within c =
    let within = past.begun_within (commands_in c.args.script.now) c.args.self.now c.requires.begun c.args.script.now.commands.items c.args.script.now.sexps.now refl in
    omega (arith, within, c.len.ensures ∙ c.args.self.now.before.ok.0)

pub add_rest-requires-clause-begun : goal.add_rest-requires-clause-begun
add_rest-requires-clause-begun c =
    let s = c.args.script.now.sexps.now in
    let script = commands_in c.args.script.now in
    let named = c.in_ok-named.named in
    past.begun_with script c.args.self.now c.requires.begun s named.top named.axis
    (subst (λ (n : ℕ). IsNamed s (take n script) named.top named.axis) (c.len.ensures ∙ c.args.self.now.before.ok.0) c.in_ok-named.ensures)

pub add_rest-requires-clause-within : goal.add_rest-requires-clause-within
add_rest-requires-clause-within c = past.begun_within (commands_in c.args.script.now) c.args.self.now c.requires.begun c.args.script.now.commands.items c.args.script.now.sexps.now refl
