use Rattle.std.proofs.Common.{◌≡◌, List, ◌∷◌, ◌++◌, length, map, sym, subst, true, false}
use Rattle.script_forms.specs.Walk.{most_size}
use Rattle.script_roots.specs.Tree.{definition}
use Rattle.script_roots.specs.Fresh.{Asserted, asserted, asserted_from}
use Rattle.smt_sexp.specs.Arena.{expression_at}
use Rattle.smt_sexp.specs.Views.{place_of}
use Rattle.smt_script.specs.Views.{command_of, parameter_of}
use Rattle.smt_script.specs.declared.command.Command.{Command}
use Rattle.smt_script.specs.declared.command.Parameter.{Parameter}
use Rattle.root_rewriting.specs.Ahead.{reached_here, top_bodies}
use Rattle.root_rewriting.specs.Asserted.{IsAt}
use Rattle.root_rewriting.specs.TreeNames.{top_names, tree_here}
use Rattle.script_roots.specs.Reached.{definition_body, first_beyond, reached_from, too_many}
use Rattle.root_rewriting.specs.declared.unfold.top.Known.TheVariants as known
use Rattle.root_rewriting.specs.declared.unfold.top.Top.{Top}
use Rattle.root_rewriting.proofs.Asserting as steps
use Rattle.root_rewriting.proofs.unfold.assertions.Progress.add.Goals as goal

pub returns-in_ok-push-in-Declare-clause-goes : goal.returns-in_ok-push-in-Declare-clause-goes
returns-in_ok-push-in-Declare-clause-goes c = λ script left at.
    let s = c.args.sexps.now in
    let p = c.args.self.now in
    let d = c.in-Declare in
    let here = subst (λ (x : Command). IsAt s script (command_of s x ∷ left) p) d.is at in
    let t : Top = record { name = d.name; known = known.Constant d.place d.name } in
    record {
      done = here.done;
      are = here.are;
      split = subst (λ (ts : List Top). asserted script ≡ here.done ++ asserted_from (top_names s ts (length ts)) left) (sym c.in_ok-push-in-Declare.ensures.added) (steps.at_named s script left p.top here.done t here.split);
      within = here.within;
      counted = subst (λ (ts : List Top). too_many script ≡ first_beyond most_size p.unfolded.reached (reached_from (top_bodies s ts (length ts)) left)) (sym c.in_ok-push-in-Declare.ensures.added)
          (steps.counted_named s left p.top t p.unfolded.reached (too_many script) here.counted);
    }

pub returns-in_ok-push-in-Define-clause-goes : goal.returns-in_ok-push-in-Define-clause-goes
returns-in_ok-push-in-Define-clause-goes c = λ script left at.
    let s = c.args.sexps.now in
    let p = c.args.self.now in
    let d = c.in-Define in
    let here = subst (λ (x : Command). IsAt s script (command_of s x ∷ left) p) d.is at in
    let t : Top = record { name = d.name; known = known.Function c.as_slice.result d.body } in
    let names = top_names s p.top (length p.top) in
    let split = subst (λ (ps : List Parameter). asserted script ≡ here.done ++ asserted_from ((d.name.now, definition names (map parameter_of ps) (expression_at s d.body)) ∷ names) left) (sym c.as_slice.ensures.value) here.split in
    let bodies = top_bodies s p.top (length p.top) in
    let counted = subst (λ (ps : List Parameter). too_many script ≡ first_beyond most_size p.unfolded.reached (reached_from ((d.name.now, definition_body bodies (map parameter_of ps) (expression_at s d.body)) ∷ bodies) left)) (sym c.as_slice.ensures.value)
    here.counted in
    record {
      done = here.done;
      are = here.are;
      split = subst (λ (ts : List Top). asserted script ≡ here.done ++ asserted_from (top_names s ts (length ts)) left) (sym c.in_ok-push-in-Define.ensures.added) (steps.at_named s script left p.top here.done t split);
      within = here.within;
      counted = subst (λ (ts : List Top). too_many script ≡ first_beyond most_size p.unfolded.reached (reached_from (top_bodies s ts (length ts)) left)) (sym c.in_ok-push-in-Define.ensures.added)
          (steps.counted_named s left p.top t p.unfolded.reached (too_many script) counted);
    }

pub returns-in-Assert-clause-goes : goal.returns-in-Assert-clause-goes
returns-in-Assert-clause-goes c = λ script left at.
    let s = c.args.sexps.now in
    let p = c.args.self.now in
    let d = c.in-Assert in
    let here = subst (λ (x : Command). IsAt s script (command_of s x ∷ left) p) d.is at in
    let a : Asserted = record { at = place_of d.place; is_goal = false; tree = tree_here s p.top d.body } in
    steps.at_asserted s script left p c.claim.new.self d.place (reached_here s p.top d.body) c.claim.result here.done a here.split c.claim.ensures.top here.within here.counted c.claim.ensures.counts (c.claim.ensures.asserts here.done here.are)

pub returns-in-Minimize-clause-goes : goal.returns-in-Minimize-clause-goes
returns-in-Minimize-clause-goes c = λ script left at.
    let s = c.args.sexps.now in
    let p = c.args.self.now in
    let d = c.in-Minimize in
    let here = subst (λ (x : Command). IsAt s script (command_of s x ∷ left) p) d.is at in
    let a : Asserted = record { at = place_of d.place; is_goal = true; tree = tree_here s p.top d.body } in
    steps.at_asserted s script left p c.claim-in-Minimize.new.self d.place (reached_here s p.top d.body) c.claim-in-Minimize.result here.done a here.split c.claim-in-Minimize.ensures.top here.within here.counted c.claim-in-Minimize.ensures.counts (c.claim-in-Minimize.ensures.asserts here.done here.are)

pub returns-in-Check-clause-goes : goal.returns-in-Check-clause-goes
returns-in-Check-clause-goes c = λ script left at.
    let s = c.args.sexps.now in
    let p = c.args.self.now in
    let d = c.in-Check in
    let here = subst (λ (x : Command). IsAt s script (command_of s x ∷ left) p) d.is at in
    record { done = here.done; are = here.are; split = here.split; within = here.within; counted = here.counted }

pub returns-in-Ineffective-clause-goes : goal.returns-in-Ineffective-clause-goes
returns-in-Ineffective-clause-goes c = λ script left at.
    let s = c.args.sexps.now in
    let p = c.args.self.now in
    let d = c.in-Ineffective in
    let here = subst (λ (x : Command). IsAt s script (command_of s x ∷ left) p) d.is at in
    record { done = here.done; are = here.are; split = here.split; within = here.within; counted = here.counted }

pub returns-in-Assert-clause-place : goal.returns-in-Assert-clause-place
returns-in-Assert-clause-place c = λ script left at.
    let s = c.args.sexps.now in
    let p = c.args.self.now in
    let d = c.in-Assert in
    let here = subst (λ (x : Command). IsAt s script (command_of s x ∷ left) p) d.is at in
    steps.first_asserted s script left p c.claim.new.self d.place (reached_here s p.top d.body) c.claim.result here.counted c.claim.ensures.counts

pub returns-in-Minimize-clause-place : goal.returns-in-Minimize-clause-place
returns-in-Minimize-clause-place c = λ script left at.
    let s = c.args.sexps.now in
    let p = c.args.self.now in
    let d = c.in-Minimize in
    let here = subst (λ (x : Command). IsAt s script (command_of s x ∷ left) p) d.is at in
    steps.first_asserted s script left p c.claim-in-Minimize.new.self d.place (reached_here s p.top d.body) c.claim-in-Minimize.result here.counted c.claim-in-Minimize.ensures.counts
