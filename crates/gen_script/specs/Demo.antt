-- The script of a seed: atoms over x and y from 0 to 1, each of which asks that 0 be an eighth of a number.
use Rattle.std.specs.Prelude.{ℕ, zero, suc, ◌+◌, ◌*◌, ◌/◌, ◌%◌, ◌^◌, List, [], ◌++◌, codes, decimal}

-- the number after this one: D. E. Knuth's linear congruential sequence for MMIX, modulo 2 ^ 64
abbrev pub next_number : ℕ → ℕ
next_number number = (number * 6364136223846793005 + 1442695040888963407) % 2 ^ 64

-- the coefficient that a number gives, from 1 to 1000
abbrev pub coefficient : ℕ → ℕ
coefficient number = 1 + (number / 2 ^ 33) % 1000

-- the line of the atom with this coefficient
abbrev pub atom_line : ℕ → List ℕ
atom_line factor = codes "(assert (= (- (* " ++ decimal factor ++ codes " x y) (* " ++ decimal factor ++ codes " y x)) (/ "
    ++ decimal factor ++ codes " 8)))\n"

-- the lines of the atoms that the numbers after this one give
unfoldable pub atom_lines : ℕ → ℕ → List ℕ
atom_lines number zero = []
atom_lines number (suc left) = atom_line (coefficient (next_number number)) ++ atom_lines (next_number number) left

abbrev pub head : List ℕ
head = codes "(set-logic QF_NRA)\n(declare-const x Real)\n(declare-const y Real)\n(assert (<= 0 x 1))\n(assert (<= 0 y 1))\n"

abbrev pub tail : List ℕ
tail = codes "(check-sat)\n(exit)\n"

-- the script of a seed with so many atoms
abbrev pub demo_script : ℕ → ℕ → List ℕ
demo_script seed size = head ++ atom_lines seed size ++ tail
