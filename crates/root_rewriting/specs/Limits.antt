-- What bounds a constant, as it is written.
use Rattle.dyadic.specs.Views.{ext_of}
use Rattle.script_model.specs.Sexp.{Place, Sexp}
use Rattle.script_roots.specs.Rewritten.{high_at, low_at, whole_or_too_wide}
use Rattle.root_rewriting.specs.declared.claims.Limit.{Limit}
use Rattle.root_rewriting.specs.declared.claims.Limit.TheVariants.{Whole, Low, High}

abbrev pub limit_at : Place → Limit → Sexp
limit_at at (Whole bound) = whole_or_too_wide at bound
limit_at at (Low end) = low_at at (ext_of end)
limit_at at (High end) = high_at at (ext_of end)
