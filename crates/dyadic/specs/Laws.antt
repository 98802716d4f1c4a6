-- What is proved of rounding, roots and the text of numbers.
use Rattle.std.specs.Prelude.{◌≡◌, ℕ, ◌^◌, ◌≤◌, pos, ◌≤ℤ◌, IsTrue}
use Rattle.dyadic.specs.Fraction.{Fraction, IsFraction, at_most, product_of}
use Rattle.dyadic.specs.Rounding.{Dyadic, exact, IsOnGrid, finite, ext_at_most, IsDown, IsUp, down, up, root_down, root_up}
use Rattle.dyadic.specs.NumberText.{number, number_text, number_spelling}

-- A fraction rounded down is the greatest number of the grid that is not above it, or minus infinity where there is none.
abbrev pub DownIsNearest : Type 0
DownIsNearest = (q : Fraction) → IsFraction q → IsDown q (down q)

-- Rounded up it is the least number of the grid that is not below it, or plus infinity where there is none.
abbrev pub UpIsNearest : Type 0
UpIsNearest = (q : Fraction) → IsFraction q → IsUp q (up q)

-- The greater of two fractions is rounded down to the greater number.
abbrev pub DownRises : Type 0
DownRises = (p q : Fraction) → IsFraction p → IsFraction q → IsTrue (at_most p q) → IsTrue (ext_at_most (down p) (down q))

-- The same of rounding up.
abbrev pub UpRises : Type 0
UpRises = (p q : Fraction) → IsFraction p → IsFraction q → IsTrue (at_most p q) → IsTrue (ext_at_most (up p) (up q))

-- the square of s is not above d
abbrev pub squares_below : Dyadic → Dyadic → Type 0
squares_below s d = IsTrue (at_most (product_of (exact s) (exact s)) (exact d))

-- the square of s is not below d
abbrev pub squares_above : Dyadic → Dyadic → Type 0
squares_above s d = IsTrue (at_most (exact d) (product_of (exact s) (exact s)))

-- r is the greatest number of the grid whose square is not above d
pub record IsRootBelow (d : Dyadic) (r : Dyadic) : Type 0 where
  pub on_grid : IsOnGrid r
  pub plus : pos 0 ≤ℤ r.units
  pub below : squares_below r d
  pub greatest : (s : Dyadic) → IsOnGrid s → squares_below s d → IsTrue (at_most (exact s) (exact r))

-- r is the least number of the grid, from 0 on, whose square is not below d
pub record IsRootAbove (d : Dyadic) (r : Dyadic) : Type 0 where
  pub on_grid : IsOnGrid r
  pub plus : pos 0 ≤ℤ r.units
  pub above : squares_above r d
  pub least : (s : Dyadic) → IsOnGrid s → pos 0 ≤ℤ s.units → squares_above s d → IsTrue (at_most (exact r) (exact s))

-- Of each number from 0 up to the greatest of the grid, given in units, the root rounded down is the nearest below.
abbrev pub RootDownIsNearest : Type 0
RootDownIsNearest = (n : ℕ) → n ≤ 2 ^ 242 → (r : Dyadic) × (root_down (record { units = pos n }) ≡ finite r) × IsRootBelow (record { units = pos n }) r

-- The root rounded up is the nearest above.
abbrev pub RootUpIsNearest : Type 0
RootUpIsNearest = (n : ℕ) → n ≤ 2 ^ 242 → (r : Dyadic) × (root_up (record { units = pos n }) ≡ finite r) × IsRootAbove (record { units = pos n }) r

-- The spelling of a number of the grid reads back as that number.
abbrev pub SpellingReadsBack : Type 0
SpellingReadsBack = (d : Dyadic) → IsOnGrid d → number_text (number_spelling d) ≡ number d
