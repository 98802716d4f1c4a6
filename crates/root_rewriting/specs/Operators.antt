-- The steps of arithmetic.
use Rattle.interval_model.specs.Interval.{Interval, interval_product, interval_sum}
use Rattle.script_roots.specs.Ranges.{difference_range, quotient_range}
use Rattle.root_rewriting.specs.declared.range.operators.Step.{Step}
use Rattle.root_rewriting.specs.declared.range.operators.Step.TheVariants.{Sum, Difference, Product, Quotient}

abbrev pub step_range : Step → Interval → Interval → Interval
step_range Sum = interval_sum
step_range Difference = difference_range
step_range Product = interval_product
step_range Quotient = quotient_range
