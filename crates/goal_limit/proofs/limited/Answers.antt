use Rattle.std.proofs.Common.{sym, ap₂, ◌∙◌}
use Rattle.dyadic.specs.Views.{dyadic_of}
use Rattle.dyadic.specs.Fraction.{Fraction}
use Rattle.dyadic.proofs.Equal.{both_pass}
use Rattle.poly_graph.specs.ProblemViews.{problem_of}
use Rattle.cert_model.specs.Limited.{is_limit, with_limit}
use Rattle.goal_limit.specs.Limits.{has_room}
use Rattle.goal_limit.proofs.limited.Goals as goal

pub returns-in_ok-extended-in-Some : goal.returns-in_ok-extended-in-Some
returns-in_ok-extended-in-Some c = let q = c.args.problem.now in let h = c.in-Some.ensures in (
  both_pass (has_room (problem_of q)) (is_limit (problem_of q) c.args.bits (dyadic_of c.args.limit)) (sym c.if-not-has_room.ensures) h.limit,
  c.in_ok-extended-in-Some.ensures ∙ ap₂ (λ (a b : Fraction). with_limit (problem_of q) c.args.goal a b) h.scale_is h.offset_is,
)
