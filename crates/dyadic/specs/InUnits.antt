-- The rounding of a fraction of units, said of the code's numbers.
use Rattle.std.specs.Prelude.{◌≡◌, ℕ, ℤ, neg_ℤ}
use Rattle.dyadic.specs.declared.dy.Ext.{Ext}
use Rattle.dyadic.specs.declared.dy.Ext.TheVariants.{NegInf, Fin, PosInf}
use Rattle.dyadic.specs.Signed.{IsFloor, IsCeiling, IsBelowGrid, IsAboveGrid}
use Rattle.dyadic.specs.Views.{units_of}

-- r is n / d units rounded down, or minus infinity where no number of the grid is that low
abbrev pub IsDownAt : ℤ → ℕ → Ext → Type 0
IsDownAt n d NegInf = IsBelowGrid n d
IsDownAt n d (Fin r) = IsFloor n d (units_of r)
IsDownAt n d PosInf = ⊥

abbrev pub IsUpAt : ℤ → ℕ → Ext → Type 0
IsUpAt n d NegInf = ⊥
IsUpAt n d (Fin r) = IsCeiling n d (units_of r)
IsUpAt n d PosInf = IsAboveGrid n d

-- b is the opposite of a
abbrev pub IsFlipped : Ext → Ext → Type 0
IsFlipped NegInf b = b ≡ PosInf
IsFlipped (Fin a) NegInf = ⊥
IsFlipped (Fin a) (Fin b) = units_of b ≡ neg_ℤ (units_of a)
IsFlipped (Fin a) PosInf = ⊥
IsFlipped PosInf b = b ≡ NegInf
