-- What is declared of a Real constant with both ends.
use Rattle.std.proofs.Common.{◌≡◌, Bool, false, cond, ◌||◌, Option, Some, None, refl, ap₂, sym, subst}
use Rattle.std.specs.Prelude.{Ok}
use Rattle.dyadic.specs.Point.{real_sort}
use Rattle.dyadic.specs.Views.{fraction_of_frac}
use Rattle.dyadic.specs.declared.frac.Frac.{Frac}
use Rattle.dyadic.proofs.SizePositive.{size_positive}
use Rattle.script_model.specs.Declared.{bound_too_wide, too_wide_end}
use Rattle.poly_graph.specs.declared.axis.Declared.TheVariants.{Real}
use Rattle.declared_box.specs.Axes.{Declares}
use Rattle.declared_box.specs.Views.{interval_of}
use Rattle.declared_box.specs.declared.interval.Interval.{Interval}
use Rattle.declared_box.proofs.Same.{same_number_refl}
use Rattle.declared_box.proofs.Widths.{bound_of_end}

both-ends : (l h : Frac) → too_wide_end (fraction_of_frac l) ≡ false → too_wide_end (fraction_of_frac h) ≡ false → Declares real_sort (interval_of (record { low = Some l; high = Some h })) (Ok (Real l h))
both-ends l h e f =
    let left = size_positive l.d l.lowest.positive in let right = size_positive h.d h.lowest.positive in
    let low = same_number_refl (fraction_of_frac l) left in let high = same_number_refl (fraction_of_frac h) right in (
      ap₂ (λ (a b : Bool). cond (a || b) (Some bound_too_wide) None) e f,
      ((left, low.below, low.above), (right, high.below, high.above)),
      (bound_of_end (fraction_of_frac l) left e, bound_of_end (fraction_of_frac h) right f),
      refl,
    )

pub real_between_ends : (ends : Interval) (l h : Frac) → ends.low ≡ Some l → ends.high ≡ Some h → too_wide_end (fraction_of_frac l) ≡ false → too_wide_end (fraction_of_frac h) ≡ false →
    Declares real_sort (interval_of ends) (Ok (Real l h))
real_between_ends ends l h i j e f = subst (λ (x : Option Frac). Declares real_sort (interval_of (record { low = x; high = ends.high })) (Ok (Real l h))) (sym i)
    (subst (λ (x : Option Frac). Declares real_sort (interval_of (record { low = Some l; high = x })) (Ok (Real l h))) (sym j) (both-ends l h e f))
