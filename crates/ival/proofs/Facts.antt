-- What holds of each interval, domain and space of the code.
use Rattle.std.proofs.Common.{ℕ, zero, suc, List, [], ◌∷◌, map, get_or, IsTrue, refl}
use Rattle.ival.specs.declared.ends.Ival.{Ival}
use Rattle.ival.specs.declared.ends.Ival.TheVariants.{Empty, Between}
use Rattle.ival.specs.declared.domain.Truths.TheVariants.{False, True, Either}
use Rattle.ival.specs.declared.domain.Domain.{Domain}
use Rattle.ival.specs.declared.domain.Domain.TheVariants.{Real, Bool}
use Rattle.ival.specs.declared.row_parts.Rows.{Rows}
use Rattle.ival.specs.declared.space.Space.{Space}
use Rattle.dyadic.specs.declared.dy.Dy.{Dy}
use Rattle.dyadic.specs.declared.dy.Ext.{Ext}
use Rattle.dyadic.specs.declared.dy.Ext.TheVariants.{NegInf, Fin, PosInf}
use Rattle.dyadic.specs.Rounding.{IsOnGrid}
use Rattle.interval_model.specs.Interval.{IsProper, nothing}
use Rattle.interval_model.specs.Space.{axis_interval, is_upright, is_upright_domain}
use Rattle.dyadic.specs.Views.{dyadic_of, ext_of}
use Rattle.dyadic.proofs.Equal.{both_pass}
use Rattle.dyadic.proofs.Floors
use Rattle.dyadic.proofs.Rounds.{IsExtOnGrid}
use Rattle.interval_model.proofs.InversesSquares.{IsKept}
use Rattle.ival.specs.Views.{interval_of}
use Rattle.ival.specs.RowViews.{rows_of}
use Rattle.ival.specs.SpaceViews.{domain_of, space_of}
use Rattle.ival.proofs.Proper.{proper_of}

-- a number of the code lies on the grid
pub number_on_grid : (a : Dy) → IsOnGrid (dyadic_of a)
number_on_grid a = Floors.number_on_grid a

end_on_grid : (e : Ext) → IsExtOnGrid (ext_of e)
end_on_grid NegInf = tt
end_on_grid (Fin a) = number_on_grid a
end_on_grid PosInf = tt

pub interval_kept : (i : Ival) → IsKept (interval_of i)
interval_kept Empty = tt
interval_kept (Between e) = (end_on_grid e.low, end_on_grid e.high)

pub interval_proper : (i : Ival) → IsProper (interval_of i)
interval_proper Empty = tt
interval_proper (Between e) = proper_of (ext_of e.low) (ext_of e.high) e.proper

domain-upright : (d : Domain) → IsTrue (is_upright_domain (domain_of d))
domain-upright (Real r) = r.upright
domain-upright (Bool False) = refl
domain-upright (Bool True) = refl
domain-upright (Bool Either) = refl

list-upright : (ds : List Domain) → IsTrue (is_upright (map domain_of ds))
list-upright [] = refl
list-upright (d ∷ ds) = both_pass (is_upright_domain (domain_of d)) (is_upright (map domain_of ds)) (domain-upright d) (list-upright ds)

pub space_upright : (s : Space) → IsTrue (is_upright (space_of s))
space_upright s = list-upright s.axes.items

list-kept : (ds : List Domain) (axis : ℕ) → IsKept (axis_interval (map domain_of ds) axis)
list-kept [] axis = tt
list-kept (Real r ∷ ds) zero = (number_on_grid r.low, number_on_grid r.high)
list-kept (Bool False ∷ ds) zero = tt
list-kept (Bool True ∷ ds) zero = tt
list-kept (Bool Either ∷ ds) zero = tt
list-kept (d ∷ ds) (suc axis) = list-kept ds axis

pub space_kept : (s : Space) (axis : ℕ) → IsKept (axis_interval (space_of s) axis)
space_kept s axis = list-kept s.axes.items axis

list-proper : (is : List Ival) (k : ℕ) → IsProper (get_or (map interval_of is) k nothing)
list-proper [] k = tt
list-proper (i ∷ is) zero = interval_proper i
list-proper (i ∷ is) (suc k) = list-proper is k

pub rows_proper : (r : Rows) (k : ℕ) → IsProper (get_or (rows_of r) k nothing)
rows_proper r k = list-proper r.intervals.items k
