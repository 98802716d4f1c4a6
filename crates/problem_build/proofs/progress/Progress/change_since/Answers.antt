use Rattle.std.proofs.Common.{ℕ, List, sym, ◌∙◌, subst}
use Rattle.std.specs.Prelude.{reverse}
use Rattle.smt_script.specs.Views.{commands_in}
use Rattle.term_build.specs.Built.{BuilderModel}
use Rattle.value_build.specs.Making.{Making}
use Rattle.value_build.specs.Marks.{counts_in}
use Rattle.problem_build.specs.Changes.{IsSince, IsWithin}
use Rattle.problem_build.specs.Progress.{IsState, Went}
use Rattle.problem_build.proofs.Changed.{starts_taken, within_more}
use Rattle.problem_build.proofs.Past as past
use Rattle.problem_build.proofs.progress.Progress.change_since.Goals as goal

pub conclude-requires-clause-done : goal.conclude-requires-clause-done
conclude-requires-clause-done c = subst (λ (xs : List (ℕ × ℕ)). IsState (commands_in c.args.script.now) c.args.self.now.maker xs) (sym c.as_slice.ensures.value) (past.built_state (commands_in c.args.script.now) c.args.self.now c.requires.built)

pub undo-requires : goal.undo-requires
undo-requires c =
    let script = commands_in c.args.script.now in
    let m = c.args.self.now.maker in
    let state = subst (λ (xs : List (ℕ × ℕ)). IsState script m xs) (sym c.as_slice.ensures.value) (past.built_state script c.args.self.now c.requires.built) in
    past.root_back_made script m c.conclude.new.maker c.as_slice.result.now c.in_ok-end.end.root c.mark-mark.result c.mark-mark.ensures.counts state c.in_ok-end.ensures.0

pub returns-clause-stays : goal.returns-clause-stays
returns-clause-stays c =
    let script = commands_in c.args.script.now in
    let m = c.args.self.now.maker in
    let state = subst (λ (xs : List (ℕ × ℕ)). IsState script m xs) (sym c.as_slice.ensures.value) (past.built_state script c.args.self.now c.requires.built) in
    let back = past.root_back script m c.conclude.new.maker c.as_slice.result.now c.in_ok-end.end.root c.mark-mark.result c.mark-mark.ensures.counts state c.in_ok-end.ensures.0 in
    subst (λ (x : Making). Went script (reverse c.args.self.now.before.items) x c.args.self.now.claims.items) (sym (c.undo.ensures ∙ back)) c.requires.built

pub returns-clause-same : goal.returns-clause-same
returns-clause-same c =
    let script = commands_in c.args.script.now in
    let m = c.args.self.now.maker in
    let state = subst (λ (xs : List (ℕ × ℕ)). IsState script m xs) (sym c.as_slice.ensures.value) (past.built_state script c.args.self.now c.requires.built) in
    c.undo.ensures ∙ past.root_back script m c.conclude.new.maker c.as_slice.result.now c.in_ok-end.end.root c.mark-mark.result c.mark-mark.ensures.counts state c.in_ok-end.ensures.0

pub returns-clause-changes : goal.returns-clause-changes
returns-clause-changes c =
    let script = commands_in c.args.script.now in
    let m = c.args.self.now.maker in
    let state = subst (λ (xs : List (ℕ × ℕ)). IsState script m xs) (sym c.as_slice.ensures.value) (past.built_state script c.args.self.now c.requires.built) in
    let back = past.root_back script m c.conclude.new.maker c.as_slice.result.now c.in_ok-end.end.root c.mark-mark.result c.mark-mark.ensures.counts state c.in_ok-end.ensures.0 in
    record {
      all = c.conclude.new.maker.made;
      end = c.in_ok-end.end;
      starts = starts_taken (counts_in c.mark-mark.result) c.conclude.new.maker m back;
      since = subst (λ (b : BuilderModel). IsSince c.args.kept b c.in_ok-end.end c.in_ok-change.change) c.builder.ensures c.in_ok-change.ensures;
      problem = c.in_ok-end.ensures.1;
      shared = c.in_ok-end.ensures.0.is_made.shared;
    }

pub made_since-requires : goal.made_since-requires
made_since-requires c =
    let script = commands_in c.args.script.now in
    let m = c.args.self.now.maker in
    let state = subst (λ (xs : List (ℕ × ℕ)). IsState script m xs) (sym c.as_slice.ensures.value) (past.built_state script c.args.self.now c.requires.built) in
    let back = past.root_back script m c.conclude.new.maker c.as_slice.result.now c.in_ok-end.end.root c.mark-mark.result c.mark-mark.ensures.counts state c.in_ok-end.ensures.0 in
    subst (λ (b : BuilderModel). IsWithin c.args.kept b) (sym c.builder.ensures) (within_more c.args.kept c.conclude.new.maker.made m.made c.requires.within (starts_taken (counts_in c.mark-mark.result) c.conclude.new.maker m back))
