use Rattle.std.proofs.Common.{map}
use Rattle.std.proofs.lemmas.Result.{err_from_is_err_and}
use Rattle.poly_graph.specs.ProblemViews.{axis_of}
use Rattle.script_forms.specs.Walk.{walked}
use Rattle.smt_script.specs.Views.{commands_in}
use Rattle.problem_build.proofs.Finishing as finishing
use Rattle.problem_build.proofs.script.conclude.Goals as goal

pub axes_of-requires : goal.axes_of-requires
axes_of-requires c = record { within = finishing.ended_before (commands_in c.args.script.now) c.args.maker.now c.make_root.new.maker c.args.made.now c.in_ok-root.root c.requires.done c.in_ok-root.ensures }

pub returns-in_err-root : goal.returns-in_err-root
returns-in_err-root c =
    let p = err_from_is_err_and c.from_residual.result c.from_residual.ensures.1 in
    rw (p.1, p.2) (finishing.found_first c.in_err-root.field-0.0 (walked (commands_in c.args.script.now)) _ c.in_err-root.ensures)

pub returns-in_err-axes : goal.returns-in_err-axes
returns-in_err-axes c =
    let p = err_from_is_err_and c.from_residual-in_err-axes.result c.from_residual-in_err-axes.ensures.1 in
    rw (p.1, p.2) (finishing.ended_refused (commands_in c.args.script.now) c.args.maker.now c.make_root.new.maker c.args.made.now c.in_ok-root.root c.requires.done c.in_ok-root.ensures c.args.bound c.in_err-axes.field-0.0 c.in_err-axes.ensures)

pub returns : goal.returns
returns c = (
  c.in_ok-root.ensures,
  finishing.ended (commands_in c.args.script.now) c.args.maker.now c.make_root.new.maker c.args.made.now c.in_ok-root.root c.requires.done c.in_ok-root.ensures c.args.bound (map axis_of c.in_ok-axes.axes.items) c.in_ok-axes.ensures,
)
