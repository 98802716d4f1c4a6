use Rattle.std.proofs.Common.{◌≡◌, ◌<◌, ◌≤◌, length, map, get_or, ◌∙◌, sym, ap, arith}
use Rattle.std.proofs.lemmas.List.{length-map, get_or-map}
use Rattle.poly_graph.specs.MarkViews.{mark_of}
use Rattle.poly_graph.specs.declared.mark.Mark.TheVariants.{Yes}
use Rattle.cert_check.specs.Changed.{placed}
use Rattle.cert_check.proofs.Placed.{same_step, other_step, last_step}
use Rattle.cert_check.proofs.changes.marks_apart.Goals.{then-not-is_same_mark+in_ok-push, else-not-is_same_mark}
use Rattle.cert_check.proofs.changes.marks_apart.Goals as goal

pub loop-j-preserved : goal.loop-j-preserved
loop-j-preserved c =
    let from = c.args.from.now in let to = c.args.to.now in let j = c.loop-j.j in
    let a = get_or from j Yes in let b = get_or to j Yes in
    let inside : j < length (map mark_of to) = omega (arith, c.loop-j-test.true, length-map to mark_of) in
    let before : j < length from = omega (arith, c.loop-j-test.true, c.requires.same) in
    let same : length (map mark_of from) ≡ length (map mark_of to) = omega (arith, c.requires.same, length-map from mark_of, length-map to mark_of) in
    elim c.if-not-is_same_mark.branch [
      | then-not-is_same_mark+in_ok-push w ↦
          other_step mark_of c.loop-j.apart.items c.if-not-is_same_mark.apart.items j b (map mark_of from) (map mark_of to)
          c.loop-j.invariant inside same (sym (get_or-map mark_of to j Yes (mark_of b) c.loop-j-test.true)) (ap (λ v. v.items) w.apart-is ∙ w.in_ok-push.ensures.items)
      | else-not-is_same_mark w ↦
          ap (λ v. placed mark_of v.items (map mark_of from)) w.apart-is ∙ same_step mark_of c.loop-j.apart.items j a b (map mark_of from) (map mark_of to)
          c.loop-j.invariant inside same (sym (get_or-map mark_of from j Yes (mark_of a) before)) (sym (get_or-map mark_of to j Yes (mark_of b) c.loop-j-test.true))
          (c.is_same_mark.ensures w.if-not-is_same_mark.false)
    ]

pub returns : goal.returns
returns c =
    let from = c.args.from.now in let to = c.args.to.now in
    let outside : length (map mark_of to) ≤ c.loop-j.j = omega (arith, c.loop-j-test.false, length-map to mark_of) in
    let same : length (map mark_of from) ≡ length (map mark_of to) = omega (arith, c.requires.same, length-map from mark_of, length-map to mark_of) in
    last_step mark_of c.loop-j.apart.items c.loop-j.j (map mark_of from) (map mark_of to) c.loop-j.invariant outside same
