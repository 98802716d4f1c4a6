use Rattle.std.proofs.Common.{◌≡◌, ap, ◌∙◌, sym, subst, arith, append-nil, List, [], ◌∷◌, ◌++◌, map, refl, true}
use Rattle.std.specs.Prelude.{cond, Some, None, nat_lt, suc}
use Rattle.script_model.specs.Reading.{value, meaning}
use Rattle.script_model.specs.Sexp as sexp
use Rattle.smt_sexp.specs.Arena.{expression_at}
use Rattle.smt_sexp.specs.Views.{place_of}
use Rattle.smt_script.specs.Views.{sort_of, parameter_of}
use Rattle.script_model.specs.Script.{Command}
use Rattle.sort_check.specs.Sorts.{Finding, of_sort, then_on, too_many_axes, sort_fault_from, room_for, signature, sorting, taken_parameter, wants}
use Rattle.sort_check.specs.Views.{Knows, around, named_of}
use Rattle.sort_check.specs.declared.names.Known.TheVariants as known
use Rattle.sort_check.proofs.Known.{knows_more}
use Rattle.sort_check.proofs.commands.step.Goals as goal

pub returns-in_ok-insert-in-Declare : goal.returns-in_ok-insert-in-Declare
returns-in_ok-insert-in-Declare c = λ names knows.
    let at = place_of c.in-Declare.place in
    let x = c.in-Declare.name.now in
    let s = value (of_sort (sort_of c.in-Declare.sort)) in
    let room : nat_lt c.args.count 1024 ≡ true = grind (arith, c.if-count-ge-MOST_AXES.false) in
    rw (c.in-Declare.is) (
      subst (λ y. Knows c.insert.new.self ((y, s) ∷ names)) c.as_slice.ensures
          (knows_more c.args.top.now c.insert.new.self names c.as_slice.result.now (known.Value c.in-Declare.sort) knows c.in_ok-insert-in-Declare.ensures.updates),
      omega arith,
      (λ rest. ap (λ f. then_on f (then_on (room_for c.args.count at) (sort_fault_from (suc c.args.count) ((x, s) ∷ names) rest))) (c.in_ok-is_new-in-Declare.ensures names knows) ∙
          ap (λ b. then_on (cond b None (Some (at, too_many_axes))) (sort_fault_from (suc c.args.count) ((x, s) ∷ names) rest)) room),
      omega (arith, c.if-count-ge-MOST_AXES.false),
    )

pub returns-in_ok-insert-in-Define : goal.returns-in_ok-insert-in-Define
returns-in_ok-insert-in-Define c = λ names knows.
    let d = c.in-Define in
    let s = sort_of d.sort in
    let e = expression_at c.args.sexps.now d.body in
    let new = c.insert-in-Define.new.self in
    let same = c.in_ok-locals-in-Define.ensures ∙ ap (λ ps. c.are_new.new.before ++ ps) c.new.ensures ∙ append-nil c.are_new.new.before ∙ c.in_ok-are_new-in-Define.ensures.names ∙ c.as_slice-in-Define.ensures.value in
    let taken = taken_parameter [] (map parameter_of d.parameters.items) in
    let wanted = wants (sexp.place_of e) s (meaning sorting (around d.parameters.items names) e) in
    let after : List Command → Finding = λ rest. sort_fault_from c.args.count ((d.name.now, signature (map parameter_of d.parameters.items) s) ∷ names) rest in
    rw (c.in-Define.is) (
      subst (λ ps. Knows new ((d.name.now, signature (map parameter_of ps) s) ∷ names)) c.as_slice-in-Define-3.ensures.value
          (subst (λ y. Knows new ((y, named_of (known.Function c.as_slice-in-Define-3.result d.sort)) ∷ names)) c.as_slice-in-Define-2.ensures
          (knows_more c.args.top.now new names c.as_slice-in-Define-2.result.now (known.Function c.as_slice-in-Define-3.result d.sort) knows c.in_ok-insert-in-Define.ensures.updates)),
      refl,
      (λ rest. ap (λ f. then_on f (then_on taken (then_on wanted (after rest)))) (c.in_ok-is_new-in-Define.ensures names knows) ∙
          ap (λ f. then_on f (then_on wanted (after rest))) (ap (λ ps. taken_parameter [] (map parameter_of ps)) (sym c.as_slice-in-Define.ensures.value) ∙ c.in_ok-are_new-in-Define.ensures.fault) ∙
          ap (λ f. then_on f (after rest)) (ap (λ ps. wants (sexp.place_of e) s (meaning sorting (around ps names) e)) (sym same) ∙ c.in_ok-wanted-in-Define.ensures names knows)),
      omega (arith, c.requires),
    )
