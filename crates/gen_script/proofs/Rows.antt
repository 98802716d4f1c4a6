-- The script of seed 1 with one atom.
use Rattle.std.proofs.Common.{◌≡◌, refl, length, codes}
use Rattle.std.specs.Fmt.{digits}
use Rattle.gen_script.specs.Demo.{next_number, coefficient, atom_lines, demo_script}

first_number : next_number 1 ≡ 7806831264735756412
first_number = refl

first_coefficient : coefficient (next_number 1) ≡ 775
first_coefficient = refl

whole_length : length (demo_script 1 1) ≡ 175
unfolding atom_lines digits
whole_length = refl

whole_text : demo_script 1 1 ≡ codes "(set-logic QF_NRA)\n(declare-const x Real)\n(declare-const y Real)\n(assert (<= 0 x 1))\n(assert (<= 0 y 1))\n(assert (= (- (* 775 x y) (* 775 y x)) (/ 775 8)))\n(check-sat)\n(exit)\n"
unfolding atom_lines digits
whole_text = refl
