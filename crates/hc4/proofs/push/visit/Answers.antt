use Rattle.std.proofs.Common.{◌<◌, ◌≤◌, ◌≢◌, length, Option, subst, ap, sym, ◌∙◌, arith}
use Rattle.poly_graph.specs.Views.{node_of}
use Rattle.ival.specs.Views.{interval_of}
use Rattle.ival.specs.RowViews.{rows_of}
use Rattle.ival.specs.Options.{option_at}
use Rattle.ival.proofs.Optional.{unset_option}
use Rattle.interval_model.specs.Interval.{Interval}
use Rattle.hc4.specs.Pushed.{IsPassed}
use Rattle.hc4.proofs.Pushes.{no_child, passed_by, kept_not}
use Rattle.hc4.proofs.push.visit.Goals as goal

pub returns : goal.returns
returns c =
    let n = c.args.n in let old = c.args.scratch.now in let before = c.pass.new.scratch in let new = c.unmark.new.self in
    let es = rows_of c.args.rows.now in let node = node_of c.args.node in let i = interval_of c.args.narrowed in
    let inside : n < length (rows_of before) = omega (arith, c.requires.rows, c.requires.scratch, c.pass.ensures.count) in
    let gone = unset_option before new n inside c.unmark.ensures.rows c.unmark.ensures.marks in
    record {
      below = λ s l. let other : s ≢ n = omega arith in
          subst (λ (o : Option Interval). IsPassed es n s node i (option_at old s) o) (sym (gone.1 s other)) (c.pass.ensures.all s);
      at = gone.0 ∙ sym (kept_not c.args.node c.in_default.not-Var (option_at old n));
      above = λ k l. let other : k ≢ n = omega arith in let past : n ≤ k = omega arith in
          gone.1 k other ∙ passed_by es n k node i (option_at old k) (option_at before k) (no_child n k node c.requires.order past) (c.pass.ensures.all k);
      count = ap length c.unmark.ensures.rows ∙ c.pass.ensures.count;
    }
