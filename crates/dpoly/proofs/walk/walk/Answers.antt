use Rattle.std.proofs.Common.{ℕ, ◌+◌, ◌<◌, length, sym, subst, refl, arith}
use Rattle.cert_resume.specs.Request.{share_of}
use Rattle.cert_resume.specs.declared.going.Going.{Going}
use Rattle.cert_resume.proofs.Matches.{none_of, some_of}
use Rattle.cert_resume.proofs.Walked.{Walked, none_walked, line_walked, point_walked, state_walked, all_walked, place_within, state_within, few_others, walked_searchable}
use Rattle.dpoly.proofs.walk.walk.Goals as goal
use Rattle.dpoly.proofs.walk.walk.Goals.{then-is_leaving+in_ok-point+in-None, else-is_leaving+in_ok-append_rule}

pub loop-rule-init : goal.loop-rule-init
loop-rule-init g c = λ can. none_walked c.args.task.now.problem.now c.args.task.now.options (share_of c.args.task.now.share) c.args.going.now.lemmas.items c.args.main.now c.args.left.now can c.args.going.now c.requires.begun refl

pub bounds-left-place : goal.bounds-left-place
bounds-left-place g c = place_within c.args.task.now.problem.now c.args.task.now.options (share_of c.args.task.now.share) c.args.going.now.lemmas.items c.args.main.now c.args.left.now c.requires.can c.loop-rule.rule-index c.loop-rule.place c.loop-rule.going c.rule-item.result (c.loop-rule.invariant c.requires.can) (omega (arith, c.loop-rule-test.true)) c.rule-item.is (sym c.if-is_leaving.ensures)

pub offset_bounds-left-place : goal.offset_bounds-left-place
offset_bounds-left-place g c = let k : c.loop-rule.place < length c.args.left.now = place_within c.args.task.now.problem.now c.args.task.now.options (share_of c.args.task.now.share) c.args.going.now.lemmas.items c.args.main.now c.args.left.now c.requires.can c.loop-rule.rule-index c.loop-rule.place c.loop-rule.going c.rule-item.result (c.loop-rule.invariant c.requires.can) (omega (arith, c.loop-rule-test.true)) c.rule-item.is (sym c.if-is_leaving.ensures) in omega (arith, k)

pub pass_leaf-requires-clause-searchable : goal.pass_leaf-requires-clause-searchable
pass_leaf-requires-clause-searchable g c = λ κs lives. walked_searchable c.args.task.now.problem.now c.args.task.now.options (share_of c.args.task.now.share) c.args.going.now.lemmas.items c.args.main.now c.args.left.now c.requires.can c.loop-rule.rule-index c.loop-rule.place c.loop-rule.going (c.loop-rule.invariant c.requires.can)

pub pass_leaf-requires-clause-may : goal.pass_leaf-requires-clause-may
pass_leaf-requires-clause-may g c = λ κs lives. (c.loop-rule.invariant c.requires.can).gone.may

pub pass_leaf-requires-clause-state : goal.pass_leaf-requires-clause-state
pass_leaf-requires-clause-state g c = λ κs lives. state_within c.args.task.now.problem.now c.args.task.now.options (share_of c.args.task.now.share) c.args.going.now.lemmas.items c.args.main.now c.args.left.now c.requires.can c.loop-rule.place c.index-left-place.result (place_within c.args.task.now.problem.now c.args.task.now.options (share_of c.args.task.now.share) c.args.going.now.lemmas.items c.args.main.now c.args.left.now c.requires.can c.loop-rule.rule-index c.loop-rule.place c.loop-rule.going c.rule-item.result (c.loop-rule.invariant c.requires.can) (omega (arith, c.loop-rule-test.true)) c.rule-item.is (sym c.if-is_leaving.ensures)) c.index-left-place.is

pub pass_leaf-requires-clause-room : goal.pass_leaf-requires-clause-room
pass_leaf-requires-clause-room g c =
    let k : c.loop-rule.place < length c.args.left.now = place_within c.args.task.now.problem.now c.args.task.now.options (share_of c.args.task.now.share) c.args.going.now.lemmas.items c.args.main.now c.args.left.now c.requires.can c.loop-rule.rule-index c.loop-rule.place c.loop-rule.going c.rule-item.result (c.loop-rule.invariant c.requires.can) (omega (arith, c.loop-rule-test.true)) c.rule-item.is (sym c.if-is_leaving.ensures) in
    omega (arith, k, few_others c.args.task.now.problem.now c.args.task.now.options (share_of c.args.task.now.share) c.args.going.now.lemmas.items c.args.main.now c.args.left.now c.requires.can c.loop-rule.rule-index c.loop-rule.place c.loop-rule.going (c.loop-rule.invariant c.requires.can) k)

pub overflow_add-place : goal.overflow_add-place
overflow_add-place g c = let k : c.loop-rule.place < length c.args.left.now = place_within c.args.task.now.problem.now c.args.task.now.options (share_of c.args.task.now.share) c.args.going.now.lemmas.items c.args.main.now c.args.left.now c.requires.can c.loop-rule.rule-index c.loop-rule.place c.loop-rule.going c.rule-item.result (c.loop-rule.invariant c.requires.can) (omega (arith, c.loop-rule-test.true)) c.rule-item.is (sym c.if-is_leaving.ensures) in omega (arith, k)

pub loop-rule-preserved : goal.loop-rule-preserved
loop-rule-preserved g c = λ can. elim c.if-is_leaving.branch [
  | then-is_leaving+in_ok-point+in-None w ↦
      subst (λ (n : ℕ). Walked c.args.task.now.problem.now c.args.task.now.options (share_of c.args.task.now.share) c.args.going.now.lemmas.items c.args.main.now c.args.left.now can (c.loop-rule.rule-index + 1) n c.if-is_leaving.going) (sym w.place-is)
      (subst (λ (x : Going). Walked c.args.task.now.problem.now c.args.task.now.options (share_of c.args.task.now.share) c.args.going.now.lemmas.items c.args.main.now c.args.left.now can (c.loop-rule.rule-index + 1) (c.loop-rule.place + 1) x) (sym w.going-is)
      (state_walked c.args.task.now.problem.now c.args.task.now.options (share_of c.args.task.now.share) c.args.going.now.lemmas.items c.args.main.now c.args.left.now can c.loop-rule.rule-index c.loop-rule.place c.loop-rule.going w.pass_leaf.new.going c.rule-item.result w.index-left-place.result
      (c.loop-rule.invariant can) (omega (arith, c.loop-rule-test.true)) c.rule-item.is (sym w.if-is_leaving.ensures) w.index-left-place.is (none_of _ _ _ w.in-None.is w.in_ok-point.ensures)))
  | else-is_leaving+in_ok-append_rule w ↦
      subst (λ (n : ℕ). Walked c.args.task.now.problem.now c.args.task.now.options (share_of c.args.task.now.share) c.args.going.now.lemmas.items c.args.main.now c.args.left.now can (c.loop-rule.rule-index + 1) n c.if-is_leaving.going) (sym w.place-is)
      (subst (λ (x : Going). Walked c.args.task.now.problem.now c.args.task.now.options (share_of c.args.task.now.share) c.args.going.now.lemmas.items c.args.main.now c.args.left.now can (c.loop-rule.rule-index + 1) c.loop-rule.place x) (sym w.going-is)
      (line_walked c.args.task.now.problem.now c.args.task.now.options (share_of c.args.task.now.share) c.args.going.now.lemmas.items c.args.main.now c.args.left.now can c.loop-rule.rule-index c.loop-rule.place c.loop-rule.going c.rule-item.result w.append_rule.new.text
      (c.loop-rule.invariant can) (omega (arith, c.loop-rule-test.true)) c.rule-item.is (sym w.if-is_leaving.ensures) w.in_ok-append_rule.ensures))
]

pub returns : goal.returns
returns g c = all_walked c.args.task.now.problem.now c.args.task.now.options (share_of c.args.task.now.share) c.args.going.now.lemmas.items c.args.main.now c.args.left.now c.requires.can c.loop-rule.rule-index c.loop-rule.place c.loop-rule.going
    (c.loop-rule.invariant c.requires.can) (omega (arith, c.loop-rule-test.false))

pub returns-in-Some : goal.returns-in-Some
returns-in-Some g c =
    point_walked c.args.task.now.problem.now c.args.task.now.options (share_of c.args.task.now.share) c.args.going.now.lemmas.items c.args.main.now c.args.left.now c.requires.can c.loop-rule.rule-index c.loop-rule.place c.loop-rule.going c.pass_leaf.new.going c.in-Some.point (c.loop-rule.invariant c.requires.can) (some_of _ _ _ c.in-Some.point c.in-Some.is c.in_ok-point.ensures)
