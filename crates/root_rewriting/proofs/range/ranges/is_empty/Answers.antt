use Rattle.std.proofs.Common.{Some, ap, arith, sym, ◌∙◌}
use Rattle.std.proofs.lemmas.Option.{slice_get-get_or}
use Rattle.interval_model.specs.Interval.{is_nothing}
use Rattle.script_roots.specs.TreeBounds.{range_of}
use Rattle.smt_script.specs.Views.{sort_of}
use Rattle.root_rewriting.specs.Bounds.{range_with}
use Rattle.root_rewriting.proofs.Counted.{emptiness_more}
use Rattle.root_rewriting.proofs.Tightest.{range_by}
use Rattle.root_rewriting.proofs.range.ranges.is_empty.Goals as goal

pub loop-axis-preserved : goal.loop-axis-preserved
loop-axis-preserved c = λ es h. let k = c.loop-axis.axis in let x = c.index-constants-axis.result in let b = c.index-bounds-axis.result in let n = h.count in
    c.either-empty.ensures ∙ emptiness_more c.args.constants.now k x c.loop-axis-test.true c.index-constants-axis.is (range_of c.args.bound es) c.loop-axis.empty c.is_nothing-here.result (c.loop-axis.invariant es h)
    (c.is_nothing-here.ensures ∙ ap is_nothing (c.range.ensures ∙ ap (λ t. range_with c.args.bound t (sort_of x.sort))
    (h.are k b (slice_get-get_or c.args.bounds.now k b (omega (arith, c.loop-axis-test.true, n)) ∙ ap (λ d. Some d) (sym c.index-bounds-axis.is))) ∙ range_by c.args.bound es k (sort_of x.sort)))
