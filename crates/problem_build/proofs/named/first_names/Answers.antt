use Rattle.std.proofs.Common.{◌≡◌, ap, sym, ◌∙◌, arith, ◌∷◌, [], ◌++◌, map, length, ◌-◌, take, drop, append_assoc, append-nil, subst, List}
use Rattle.std.proofs.lemmas.List.{take-map, take-append-drop}
use Rattle.script_model.specs.Script.{Command}
use Rattle.smt_script.specs.Views.{command_of, commands_in}
use Rattle.sort_check.proofs.Lists.{split_first}
use Rattle.problem_build.specs.Standing.{IsNamed}
use Rattle.problem_build.proofs.Few.{few_before}
use Rattle.problem_build.proofs.Standing.{none_left}
use Rattle.problem_build.proofs.named.first_names.Goals as goal

pub loop-rest-init : goal.loop-rest-init
loop-rest-init c =
    let s = c.args.script.now.sexps.now in
    ([], take-map (command_of s) c.args.count c.args.script.now.commands.items ∙ ap (λ xs. map (command_of s) (take c.args.count xs)) (sym c.deref.ensures.value), c.new-named.ensures s)

pub add-requires : goal.add-requires
add-requires c =
    let script = commands_in c.args.script.now in
    let i = c.loop-rest.invariant in
    let left = map (command_of c.args.script.now.sexps.now) c.loop-rest.rest.now in
    let split : script ≡ i.0 ++ (left ++ drop c.args.count script) =
    sym (take-append-drop c.args.count script) ∙ ap (λ xs. xs ++ drop c.args.count script) i.1 ∙ append_assoc i.0 left (drop c.args.count script) in
    record { few = omega (arith, few_before script i.0 (left ++ drop c.args.count script) c.requires.sorted split, i.2.counted) }

pub loop-rest-preserved : goal.loop-rest-preserved
loop-rest-preserved c =
    let s = c.args.script.now.sexps.now in
    let seen = command_of s in
    let i = c.loop-rest.invariant in
    let later = map seen (take (length c.loop-rest.rest.now - 1) (drop 1 c.loop-rest.rest.now)) in
    let rest_is : map seen c.loop-rest.rest.now ≡ seen c.command-item.result ∷ later = ap (map seen) (split_first c.loop-rest.rest.now c.command-item.result (omega (arith, c.in-len1-up.len_at_least)) (grind (arith, c.command-item.is, c.in-len1-up.len_at_least))) in (
      i.0 ++ (seen c.command-item.result ∷ []),
      i.1 ∙ ap (λ xs. i.0 ++ xs) rest_is ∙ sym (append_assoc i.0 (seen c.command-item.result ∷ []) later),
      c.in_ok-add.ensures s i.0 i.2,
    )

pub returns : goal.returns
returns c =
    let s = c.args.script.now.sexps.now in
    let i = c.loop-rest.invariant in
    subst (λ (cs : List Command). IsNamed s cs c.loop-rest.named.top c.loop-rest.named.axis)
    (sym (i.1 ∙ ap (λ xs. i.0 ++ xs) (none_left (command_of s) c.loop-rest.rest.now c.in_default.len_below) ∙ append-nil i.0)) i.2
