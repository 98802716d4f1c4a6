-- What the least width of a plan says of certificates.
use Rattle.std.specs.Prelude.{◌≡◌, ◌⊎◌, ℕ, List, [], Bool, Option, Some, IsTrue, slice_get}
use Rattle.poly_graph.specs.Problem.{Problem, IsProblem}
use Rattle.cover_model.specs.State.{Loosenings}
use Rattle.cert_model.specs.Due.{Standing, Value, left_open}
use Rattle.cert_model.specs.Accepted.{IsAccepted}
use Rattle.cert_model.specs.Session.{AreAccepted, IsHonestPart}
use Rattle.cert_model.specs.AnswerText.{has_open, solve_text, unsat_text, budget_text}
use Rattle.cert_model.specs.Standing.{IsHonest}
use Rattle.width_plan.specs.Plan.{IsPlan, least_bits}

-- Where the plan of a problem, for a certificate's margin and delta, is a number of bits, and the certificate is accepted and
-- honest at that width, it leaves nothing, or some state that is open: not stuck states alone, which is what `unknown width`
-- is answered for.
abbrev pub LeavesNoneStuck : Type 0
LeavesNoneStuck = (p : Problem) → IsProblem p → (bound : Option ℕ) (cert : List ℕ) (s : Loosenings) (left : List Standing) (bits : ℕ) → IsPlan p s.delta_bits s.margin_bits (least_bits bits) →
    IsAccepted p bound cert s (left_open left) → IsHonest p bound bits cert → (left ≡ []) ⊎ IsTrue (has_open left)

-- So the answer of a search that goes down to that width is `unsat` or `unknown budget` where it is no point.
abbrev pub NeverAnswersWidth : Type 0
NeverAnswersWidth = (p : Problem) → IsProblem p → (bound : Option ℕ) (cert : List ℕ) (s : Loosenings) (left : List Standing) (bits budget : ℕ) → IsPlan p s.delta_bits s.margin_bits (least_bits bits) →
    IsAccepted p bound cert s (left_open left) → IsHonest p bound bits cert →
    (solve_text p budget s (left_open left) ≡ unsat_text s) ⊎ (solve_text p budget s (left_open left) ≡ budget_text budget)

-- ---- the same of a part, where there are several checks

-- The value of part k, whose problem is p, which the plan's width is honest for.
pub record IsPlannedPart (ps : List (Problem × Bool)) (bound : Option ℕ) (cert : List ℕ) (s : Loosenings) (k : ℕ) (p : Problem) (left : List Standing) (bits : ℕ) : Type 0 where
  pub values : List Value
  pub accepted : AreAccepted ps bound cert s values
  pub in_force : Bool
  pub problem : slice_get ps k ≡ Some (p, in_force)
  pub whole : IsProblem p
  pub value : slice_get values k ≡ Some (left_open left)
  pub plan : IsPlan p s.delta_bits s.margin_bits (least_bits bits)
  pub honest : IsHonestPart ps bound bits cert k p

abbrev pub PartLeavesNoneStuck : Type 0
PartLeavesNoneStuck = (ps : List (Problem × Bool)) (bound : Option ℕ) (cert : List ℕ) (s : Loosenings) (k : ℕ) (p : Problem) (left : List Standing) (bits : ℕ) →
    IsPlannedPart ps bound cert s k p left bits → (left ≡ []) ⊎ IsTrue (has_open left)

abbrev pub PartNeverAnswersWidth : Type 0
PartNeverAnswersWidth = (ps : List (Problem × Bool)) (bound : Option ℕ) (cert : List ℕ) (s : Loosenings) (k : ℕ) (p : Problem) (left : List Standing) (bits budget : ℕ) →
    IsPlannedPart ps bound cert s k p left bits →
    (solve_text p budget s (left_open left) ≡ unsat_text s) ⊎ (solve_text p budget s (left_open left) ≡ budget_text budget)
