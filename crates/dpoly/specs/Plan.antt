-- What `plan` answers of a script's checks.
use Rattle.std.specs.Prelude.{◌≡◌, ℕ, List, Bool}
use Rattle.poly_graph.specs.Problem.{Problem}
use Rattle.width_plan.specs.Plan.{Answer, IsPlan}
use Rattle.check_run.specs.Can.{ArePlans, plan_text, plan_texts}

-- the text is that of the problem's plan for this delta and margin
pub record IsPlanText (p : Problem) (delta_bits margin_bits : ℕ) (text : List ℕ) : Type 0 where
  pub answer : Answer
  pub plan : IsPlan p delta_bits margin_bits answer
  pub text_is : text ≡ plan_text answer

-- the text is those of the problems' plans, one after the other
pub record ArePlanTexts (ps : List (Problem × Bool)) (delta_bits margin_bits : ℕ) (text : List ℕ) : Type 0 where
  pub answers : List Answer
  pub plans : ArePlans ps delta_bits margin_bits answers
  pub text_is : text ≡ plan_texts answers
