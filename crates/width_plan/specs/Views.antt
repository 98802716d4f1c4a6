-- The answer of the code as the definitions see it.
use Rattle.width_plan.specs.declared.plan.Plan.{Plan}
use Rattle.width_plan.specs.declared.plan.Plan.TheVariants.{Least, NoAtom, NoAxis}
use Rattle.width_plan.specs.Plan.{Answer, least_bits, no_atom, no_axis}

abbrev pub answer_of : Plan → Answer
answer_of (Least bits) = least_bits bits
answer_of (NoAtom atom) = no_atom atom
answer_of (NoAxis axis) = no_axis axis
