use Rattle.std.proofs.Common.{◌∷◌, [], List, subst, sym}
use Rattle.script_model.specs.Script.{Command, check}
use Rattle.smt_script.specs.Views.{commands_in}
use Rattle.smt_sexp.specs.Views.{place_of}
use Rattle.problem_build.specs.Changes.{IsChangeAnswer}
use Rattle.problem_build.specs.Progress.{IsBegun, IsBuiltBy}
use Rattle.problem_build.proofs.Going.{pushed_is}
use Rattle.problem_build.proofs.Past.{kept_begins}
use Rattle.problem_build.proofs.session.change_here.Goals as goal

pub change-change-requires-clause-begun : goal.change-change-requires-clause-begun
change-change-requires-clause-begun c =
    let force = c.args.force.now in
    let k = c.requires.kept in
    let built = c.back_to.ensures.built k.script k.built k.few in
    subst (λ (cs : List Command). IsBegun cs c.back_to.new.self) (sym (pushed_is force c.push.new.self.items c.args.place c.in_ok-push.ensures.items))
    (kept_begins c.args.kept (commands_in force.script) (check (place_of c.args.place) ∷ []) c.back_to.new.self (subst (λ (cs : List Command). IsBuiltBy cs c.back_to.new.self) k.same built))

pub returns-clause-changes : goal.returns-clause-changes
returns-clause-changes c = λ p s.
    subst (λ (cs : List Command). IsChangeAnswer c.args.bound cs p c.change-change.new.self.maker.made c.change-change.result) (pushed_is c.args.force.now c.push.new.self.items c.args.place c.in_ok-push.ensures.items)
    (c.change-change.ensures.changes p (c.back_to.ensures.starts p s))
