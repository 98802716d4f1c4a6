use Rattle.std.proofs.Common.{◌≡◌, ap, sym, ◌∙◌, arith, ◌∷◌, [], ◌++◌, map, length, ◌-◌, take, drop, append_assoc, append-nil, subst, List}
use Rattle.std.proofs.Math.Seq.{take-length}
use Rattle.std.proofs.lemmas.List.{drop-map, length-drop}
use Rattle.std.proofs.lemmas.Result.{err_from_is_err_and}
use Rattle.script_model.specs.Script.{Command}
use Rattle.smt_script.specs.Views.{command_of, commands_in}
use Rattle.sort_check.proofs.Lists.{split_first}
use Rattle.problem_build.specs.BuildAnswers.{IsBuildingError, found_by}
use Rattle.problem_build.specs.Progress.{IsBuiltBy}
use Rattle.problem_build.specs.Standing.{walk_of}
use Rattle.problem_build.specs.Changes.{parts_of_made}
use Rattle.problem_build.proofs.Changed.{starts_on, starts_self}
use Rattle.problem_build.proofs.Few.{few_before}
use Rattle.problem_build.proofs.Past as past
use Rattle.problem_build.proofs.Standing.{none_left}
use Rattle.problem_build.proofs.progress.Progress.add_rest.Goals as goal

pub loop-rest-init : goal.loop-rest-init
loop-rest-init c =
    let s = c.args.script.now.sexps.now in
    let seen = command_of s in
    let items = c.args.script.now.commands.items in
    let p = c.args.self.now in
    let b = c.requires.begun in
    let n = c.len.result in
    let count = c.len.ensures ∙ p.before.ok.0 in
    let left : b.left ≡ map seen (drop n c.deref.result.now) =
    sym (past.left_of (commands_in c.args.script.now) b.first b.left p b.split b.built) ∙ ap (λ k. drop k (map seen items)) (sym count) ∙ drop-map seen n items ∙ ap (λ xs. map seen (drop n xs)) (sym c.deref.ensures.value) in
    let whole : drop n c.deref.result.now ≡ take (length c.deref.result.now - n) (drop n c.deref.result.now) =
    sym (take-length (drop n c.deref.result.now)) ∙ ap (λ k. take k (drop n c.deref.result.now)) (length-drop n c.deref.result.now) in
    (b.first, b.split ∙ ap (λ xs. b.first ++ xs) (left ∙ ap (map seen) whole), b.built, b.named, starts_self p.maker.made)

pub add-requires : goal.add-requires
add-requires c = let i = c.loop-rest.invariant in past.fits_built c.args.script.now.sexps.now i.0 c.loop-rest.self c.loop-rest.named.top c.loop-rest.named.axis i.2 i.3

pub add-requires-in-len1-up : goal.add-requires-in-len1-up
add-requires-in-len1-up c = let i = c.loop-rest.invariant in
    record { few = omega (arith, few_before (commands_in c.args.script.now) i.0 (map (command_of c.args.script.now.sexps.now) c.loop-rest.rest.now) c.requires.sorted i.1, i.3.counted) }

pub loop-rest-preserved : goal.loop-rest-preserved
loop-rest-preserved c =
    let s = c.args.script.now.sexps.now in
    let seen = command_of s in
    let i = c.loop-rest.invariant in
    let later = map seen (take (length c.loop-rest.rest.now - 1) (drop 1 c.loop-rest.rest.now)) in
    let rest_is : map seen c.loop-rest.rest.now ≡ seen c.command-item.result ∷ later = ap (map seen) (split_first c.loop-rest.rest.now c.command-item.result (omega (arith, c.in-len1-up.len_at_least)) (grind (arith, c.command-item.is, c.in-len1-up.len_at_least))) in (
      i.0 ++ (seen c.command-item.result ∷ []),
      i.1 ∙ ap (λ xs. i.0 ++ xs) rest_is ∙ sym (append_assoc i.0 (seen c.command-item.result ∷ []) later),
      (c.in_ok-add.ensures i.0 i.3.names i.2).0,
      c.in_ok-add-2.ensures s i.0 i.3,
      starts_on (parts_of_made c.add.new.self.maker.made) c.loop-rest.self.maker.made c.args.self.now.maker.made (c.in_ok-add.ensures i.0 i.3.names i.2).1 i.4,
    )

pub returns : goal.returns
returns c =
    let s = c.args.script.now.sexps.now in
    let i = c.loop-rest.invariant in (
      subst (λ (cs : List Command). IsBuiltBy cs c.loop-rest.self)
          (sym (i.1 ∙ ap (λ xs. i.0 ++ xs) (none_left (command_of s) c.loop-rest.rest.now c.in_default.len_below) ∙ append-nil i.0)) i.2,
      i.4,
    )

pub returns-in_err-add : goal.returns-in_err-add
returns-in_err-add c =
    let s = c.args.script.now.sexps.now in
    let seen = command_of s in
    let i = c.loop-rest.invariant in
    let later = map seen (take (length c.loop-rest.rest.now - 1) (drop 1 c.loop-rest.rest.now)) in
    let rest_is : map seen c.loop-rest.rest.now ≡ seen c.command-item.result ∷ later = ap (map seen) (split_first c.loop-rest.rest.now c.command-item.result (omega (arith, c.in-len1-up.len_at_least)) (grind (arith, c.command-item.is, c.in-len1-up.len_at_least))) in
    let p = err_from_is_err_and c.from_residual.result c.from_residual.ensures.1 in
    rw (p.1, p.2) (subst (λ (cs : List Command). IsBuildingError c.in_err-add.field-0.0 (found_by (walk_of cs))) (sym (i.1 ∙ ap (λ xs. i.0 ++ xs) rest_is)) (c.in_err-add.ensures i.0 i.3.names i.2 later))
