use Rattle.std.proofs.Common.{◌≡◌, ◌-◌, arith, List, ◌∷◌, ◌++◌, length, map, take, drop, ap, sym, ◌∙◌, subst, append-nil}
use Rattle.std.proofs.lemmas.Result.{err_from_is_err_and}
use Rattle.sort_check.proofs.Lists.{split_first}
use Rattle.script_forms.specs.Walk.{most_size}
use Rattle.script_roots.specs.Fresh.{Asserted, asserted_from}
use Rattle.smt_script.specs.Views.{command_of, commands_in}
use Rattle.smt_script.specs.declared.command.Command.{Command}
use Rattle.root_rewriting.specs.Ahead.{top_bodies}
use Rattle.root_rewriting.specs.Asserted.{AreAsserted, IsAt}
use Rattle.root_rewriting.specs.TreeNames.{top_names}
use Rattle.root_rewriting.specs.Nodes.{trees_in}
use Rattle.script_roots.specs.Reached.{first_beyond, reached_from}
use Rattle.root_rewriting.proofs.TreeLists.{none_left}
use Rattle.root_rewriting.proofs.unfold.assertions.asserted.Goals as goal

pub loop-rest-init : goal.loop-rest-init
loop-rest-init c =
    let s = c.args.script.now.sexps.now in
    subst (λ (cs : List Command). IsAt s (commands_in c.args.script.now) (map (command_of s) cs) c.new-progress.result) (sym c.as_slice-rest.ensures.value) (c.new-progress.ensures s (commands_in c.args.script.now))

pub loop-rest-preserved : goal.loop-rest-preserved
loop-rest-preserved c =
    let s = c.args.script.now.sexps.now in
    let rest = c.loop-rest.rest.now in
    let later = take (length rest - 1) (drop 1 rest) in
    let is : rest ≡ c.command-item.result ∷ later = split_first rest c.command-item.result (omega (arith, c.in-len1-up.len_at_least)) (grind (arith, c.command-item.is, c.in-len1-up.len_at_least)) in
    c.in_ok-add.ensures.goes (commands_in c.args.script.now) (map (command_of s) later)
    (subst (λ (cs : List Command). IsAt s (commands_in c.args.script.now) (map (command_of s) cs) c.loop-rest.progress) is c.loop-rest.invariant)

pub returns-clause-reads : goal.returns-clause-reads
returns-clause-reads c =
    let s = c.args.script.now.sexps.now in
    let p = c.loop-rest.progress in
    let i = c.loop-rest.invariant in
    let none = none_left c.loop-rest.rest.now c.in_default.len_below in
    subst (λ (all : List Asserted). AreAsserted (trees_in p.unfolded.trees) p.assertions.items all)
    (sym (i.split ∙ ap (λ cs. i.done ++ asserted_from (top_names s p.top (length p.top)) (map (command_of s) cs)) none ∙ append-nil i.done)) i.are

pub returns-clause-within : goal.returns-clause-within
returns-clause-within c =
    let s = c.args.script.now.sexps.now in
    let p = c.loop-rest.progress in
    let none = none_left c.loop-rest.rest.now c.in_default.len_below in
    c.loop-rest.invariant.counted ∙ ap (λ cs. first_beyond most_size p.unfolded.reached (reached_from (top_bodies s p.top (length p.top)) (map (command_of s) cs))) none

pub returns-in_err-add-clause-place : goal.returns-in_err-add-clause-place
returns-in_err-add-clause-place c =
    let s = c.args.script.now.sexps.now in
    let rest = c.loop-rest.rest.now in
    let later = take (length rest - 1) (drop 1 rest) in
    let is : rest ≡ c.command-item.result ∷ later = split_first rest c.command-item.result (omega (arith, c.in-len1-up.len_at_least)) (grind (arith, c.command-item.is, c.in-len1-up.len_at_least)) in
    let p = err_from_is_err_and c.from_residual.result c.from_residual.ensures.1 in
    rw (p.1, p.2) (c.in_err-add.ensures.place (commands_in c.args.script.now) (map (command_of s) later)
    (subst (λ (cs : List Command). IsAt s (commands_in c.args.script.now) (map (command_of s) cs) c.loop-rest.progress) is c.loop-rest.invariant))
