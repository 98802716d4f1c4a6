use Rattle.std.proofs.Common.{suc, ◌<◌, ◌≤◌, ◌∙◌, add-one, length, drop, map, ap, sym, arith, Bool, ◌&&◌}
use Rattle.poly_graph.specs.declared.mark.Mark.TheVariants.{Yes}
use Rattle.poly_graph.specs.MarkViews.{mark_of}
use Rattle.poly_graph.specs.Marks.{marks_within}
use Rattle.cover_data.proofs.Withins.{within_step, within_end}
use Rattle.cover_data.proofs.has_marks.has_marks.Goals as goal

pub returns-then-not-is_within : goal.returns-then-not-is_within
returns-then-not-is_within c =
    let xs = c.args.marks.now in let ys = c.args.others.now in let j = c.loop-j.j in
    let inside : j < length ys = omega (arith, c.loop-j-test.true, c.requires) in
    sym (c.loop-j.invariant ∙ within_step xs ys j Yes c.loop-j-test.true inside ∙
    ap (λ (b : Bool). b && marks_within (drop (suc j) (map mark_of xs)) (drop (suc j) (map mark_of ys))) (sym c.is_within.ensures ∙ c.if-not-is_within.true))

pub loop-j-preserved : goal.loop-j-preserved
loop-j-preserved c =
    let xs = c.args.marks.now in let ys = c.args.others.now in let j = c.loop-j.j in
    let inside : j < length ys = omega (arith, c.loop-j-test.true, c.requires) in
    rw add-one (c.loop-j.invariant ∙ within_step xs ys j Yes c.loop-j-test.true inside ∙
    ap (λ (b : Bool). b && marks_within (drop (suc j) (map mark_of xs)) (drop (suc j) (map mark_of ys))) (sym c.is_within.ensures ∙ c.if-not-is_within.false))

pub returns : goal.returns
returns c =
    let xs = c.args.marks.now in let ys = c.args.others.now in let j = c.loop-j.j in
    let past : length xs ≤ j = omega (arith, c.loop-j-test.false) in
    sym (c.loop-j.invariant ∙ within_end xs ys j past)
