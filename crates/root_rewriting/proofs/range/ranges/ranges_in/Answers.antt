use Rattle.std.proofs.Common.{Some, [], ap, arith, cond, map, subst, sym, ◌∙◌}
use Rattle.std.proofs.lemmas.List.{take_all}
use Rattle.std.proofs.lemmas.Option.{slice_get-get_or}
use Rattle.interval_model.specs.Interval.{Interval, nothing}
use Rattle.ival.specs.Views.{interval_of}
use Rattle.script_roots.specs.TreeBounds.{in_box, range_of, ranges_from}
use Rattle.smt_script.specs.Views.{sort_of}
use Rattle.root_rewriting.specs.Bounds.{range_with}
use Rattle.root_rewriting.specs.Constants.{constant_of}
use Rattle.root_rewriting.specs.Enclosures.{KnowsRanges}
use Rattle.root_rewriting.proofs.Counted.{range_more}
use Rattle.root_rewriting.proofs.RangeNames.{knows_none}
use Rattle.root_rewriting.proofs.Tightest.{range_by}
use Rattle.root_rewriting.proofs.range.ranges.ranges_in.Goals as goal

pub loop-axis-init : goal.loop-axis-init
loop-axis-init c = λ es h. knows_none interval_of c.new-ranges.result c.new-ranges.ensures.empty

pub loop-axis-preserved : goal.loop-axis-preserved
loop-axis-preserved c = λ es h. let k = c.loop-axis.axis in let x = c.index-constants-axis.result in let b = c.index-bounds-axis.result in let n = h.count in
    range_more c.args.constants.now k x c.loop-axis-test.true c.index-constants-axis.is (in_box c.args.empty (range_of c.args.bound es))
    c.loop-axis.ranges c.insert.new.self c.as_slice.result.now c.range_in.result (c.loop-axis.invariant es h) c.as_slice.ensures c.in_ok-insert.ensures.updates
    (c.range_in.ensures ∙ ap (λ (i : Interval). cond c.args.empty nothing i) (ap (λ t. range_with c.args.bound t (sort_of x.sort))
    (h.are k b (slice_get-get_or c.args.bounds.now k b (omega (arith, c.loop-axis-test.true, n)) ∙ ap (λ d. Some d) (sym c.index-bounds-axis.is))) ∙ range_by c.args.bound es k (sort_of x.sort)))

pub returns : goal.returns
returns c = λ es h. subst (λ cs. KnowsRanges c.loop-axis.ranges (ranges_from (in_box c.args.empty (range_of c.args.bound es)) 0 [] (map constant_of cs)))
    (take_all c.loop-axis.axis c.args.constants.now (omega (arith, c.loop-axis-test.false))) (c.loop-axis.invariant es h)
