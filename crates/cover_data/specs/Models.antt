-- Lemmas and kept patches as the definitions see them.
use Rattle.std.specs.Prelude.{ℕ, List, Option}
use Rattle.cover_model.specs.State.{State}
use Rattle.cover_model.specs.Rules.{Line}

-- a lemma's number and its state
pub record LemmaModel : Type 0 where
  pub id : ℕ
  pub state : State

-- a run of rules: where it begins, its steps, the lemmas that they and the end quote, in their order, its end, and the state that the steps reach
pub record KeptModel : Type 0 where
  pub first : State
  pub steps : List Line
  pub quoted : List LemmaModel
  pub end : Option Line
  pub reached : State
