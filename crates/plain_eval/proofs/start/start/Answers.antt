use Rattle.std.proofs.Common.{List, ℕ, length, ap, sym, ◌∙◌, arith}
use mathlib.Core.Path.{fun_ext}
use Rattle.dyadic.specs.declared.dy.Dy.{Dy}
use Rattle.dyadic.specs.Rounding.{two_to_minus}
use Rattle.cover_model.specs.Combination.{allowed_range, central_range, marked_range, root_adjoints}
use Rattle.cover_model.specs.Views.{multipliers_of}
use Rattle.poly_graph.specs.ProblemViews.{problem_of}
use Rattle.ival.specs.RowViews.{rows_of}
use Rattle.ival.proofs.Optional.{drop_all, no_option}
use Rattle.plain_eval.proofs.start.start.Goals as goal

pub loop-i-init : goal.loop-i-init
loop-i-init c =
    let p = problem_of c.args.problem.now in let ms = c.args.multipliers.now in let none = sym (drop_all ms (length ms) (omega arith)) in
    record {
      count = ap length c.clear_marks.ensures.rows ∙ c.requires.linear;
      roots = fun_ext (λ k. no_option c.clear_marks.new.self k (c.clear_marks.ensures.marks k)) ∙ ap (λ (xs : List (ℕ × Dy)). root_adjoints p (multipliers_of xs)) none;
      central = c.only-central.ensures ∙ ap (λ (xs : List (ℕ × Dy)). central_range p (rows_of c.args.centre_rows.now) (multipliers_of xs)) none;
      allowed = c.only-allowed.ensures ∙ ap (λ (xs : List (ℕ × Dy)). allowed_range (marked_range p (two_to_minus c.args.loosen) c.args.lits.now) (multipliers_of xs)) none;
    }
