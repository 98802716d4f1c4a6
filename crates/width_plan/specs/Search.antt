-- What the parts of a plan's search answer.
use Rattle.std.specs.Prelude.{◌≡◌, ◌<◌, ℕ, length, not, Option, Some, None, IsTrue}
use Rattle.dyadic.specs.Rounding.{Ext, at, end_of, end_at_most, ext_at_most}
use Rattle.interval_model.specs.Space.{Space}
use Rattle.poly_graph.specs.Problem.{Problem}
use Rattle.width_plan.specs.Plan.{gap, fits, is_far}

-- it compares with each width as delta minus margin does
abbrev pub IsGap : ℕ → ℕ → Ext → Type 0
IsGap delta_bits margin_bits e = (w : Ext) → ext_at_most e w ≡ end_at_most (at (gap delta_bits margin_bits)) (end_of w)

-- atom j is the first that the bits do not fit
pub record IsFirstMisfit (p : Problem) (delta_bits margin_bits bits j : ℕ) : Type 0 where
  pub is_atom : j < length p.atoms
  pub misfit : IsTrue (not (fits p delta_bits margin_bits bits j))
  pub first : (i : ℕ) → i < j → IsTrue (fits p delta_bits margin_bits bits i)

-- the first atom that the bits do not fit, if there is one
abbrev pub FirstMisfit : Problem → ℕ → ℕ → ℕ → Option ℕ → Type 0
FirstMisfit p delta_bits margin_bits bits None = (j : ℕ) → j < length p.atoms → IsTrue (fits p delta_bits margin_bits bits j)
FirstMisfit p delta_bits margin_bits bits (Some j) = IsFirstMisfit p delta_bits margin_bits bits j

-- the first axis that reaches too far, if there is one
abbrev pub FirstFar : Space → ℕ → Option ℕ → Type 0
FirstFar box bits None = (i : ℕ) → IsTrue (not (is_far box bits i))
FirstFar box bits (Some axis) = IsTrue (is_far box bits axis) × ((i : ℕ) → i < axis → IsTrue (not (is_far box bits i)))
