-- The text of a number: `0`, or `mbe` for m * 2^e with m odd, in one spelling.
use Rattle.std.specs.Prelude.{ℕ, zero, suc, ◌+◌, ◌-◌, ◌*◌, ◌/◌, ◌%◌, ◌^◌, Bool, true, false, cond, not, ◌&&◌, ◌||◌, nat_eq, nat_le, nat_lt, Option, Some, None, List, [], ◌∷◌, ◌++◌, length, slice_index, ℤ, pos, negsuc, ◌-ℤ◌}
use Rattle.std.specs.Str.{all_ascii_digits}
use Rattle.std.specs.Str.Parse.{digits_value}
use Rattle.std.specs.Fmt.{decimal, signed_decimal}
use Rattle.dyadic.specs.Rounding.{Dyadic}
use Rattle.dyadic.specs.Signed.{signed_of}

-- what a text is: a number, or why it is none
pub data NumberText : Type 0 where
  number : Dyadic → NumberText
  not_a_number not_canonical not_representable : NumberText

-- ---- reading

abbrev pub are_digits : List ℕ → Bool
are_digits ds = nat_lt 0 (length ds) && all_ascii_digits ds

-- the text without a minus sign in front, and whether there was one
abbrev pub after_sign : (Bool → List ℕ → NumberText) → List ℕ → NumberText
after_sign f [] = f false []
after_sign f (b ∷ bs) = cond (nat_eq b 45) (f true bs) (f false (b ∷ bs))

abbrev pub put_first : ℕ → Option (List ℕ × List ℕ) → Option (List ℕ × List ℕ)
put_first b None = None
put_first b (Some p) = Some ((b ∷ p.0), p.1)

-- the bytes before the first `b`, and those after it
abbrev pub halves : List ℕ → Option (List ℕ × List ℕ)
halves [] = None
halves (b ∷ bs) = cond (nat_eq b 98) (Some ([], bs)) (put_first b (halves bs))

-- an odd number without a leading zero, and an exponent without one that is not -0
abbrev pub is_canonical : List ℕ → Bool → List ℕ → Bool
is_canonical ds t es = not (nat_eq (slice_index ds 0) 48) && nat_eq (slice_index ds (length ds - 1) % 2) 1 &&
    (not (nat_eq (slice_index es 0) 48) || (nat_eq (length es) 1 && not t))

-- an odd size of m * 2^k units, where it is kept
abbrev pub of_shift : Bool → ℕ → ℕ → NumberText
of_shift s m k = cond (nat_le m (2 ^ 62) && nat_le (m * 2 ^ k) (2 ^ 242)) (number (record { units = signed_of s (m * 2 ^ k) })) not_representable

-- m * 2^e or m * 2^-e, for m odd
abbrev pub of_exponent : Bool → ℕ → Bool → ℕ → NumberText
of_exponent s m true e = cond (nat_le e 120) (of_shift s m (120 - e)) not_representable
of_exponent s m false e = cond (nat_le e 122) (of_shift s m (120 + e)) not_representable

abbrev pub of_parts : Bool → List ℕ → Bool → List ℕ → NumberText
of_parts s ds t es = cond (are_digits ds && are_digits es)
    (cond (is_canonical ds t es) (of_exponent s (digits_value 10 ds) t (digits_value 10 es)) not_canonical)
    not_a_number

abbrev pub of_halves : Bool → Option (List ℕ × List ℕ) → NumberText
of_halves s None = not_a_number
of_halves s (Some p) = after_sign (of_parts s p.0) p.1

abbrev pub of_rest : Bool → List ℕ → NumberText
of_rest s rest = of_halves s (halves rest)

abbrev pub is_nought : List ℕ → Bool
is_nought (b ∷ []) = nat_eq b 48
is_nought _ = false

-- what the bytes are
abbrev pub number_text : List ℕ → NumberText
number_text bs = cond (is_nought bs) (number (record { units = pos 0 })) (after_sign of_rest bs)

-- ---- writing

-- `mbe` for m * 2^k units
abbrev pub parts_text : ℕ → ℕ → List ℕ
parts_text m k = decimal m ++ 98 ∷ signed_decimal (pos k -ℤ pos 120)

-- the same with the m that is left when twos are taken out, at most so many
abbrev pub odd_text : ℕ → ℕ → ℕ → List ℕ
odd_text zero m k = parts_text m k
odd_text (suc most) m k = cond (nat_eq (m % 2) 1) (parts_text m k) (odd_text most (m / 2) (k + 1))

abbrev pub units_text : ℤ → List ℕ
units_text (pos zero) = 48 ∷ []
units_text (pos (suc n)) = odd_text 242 (suc n) 0
units_text (negsuc n) = 45 ∷ odd_text 242 (suc n) 0

-- the one spelling of a number of the grid
abbrev pub number_spelling : Dyadic → List ℕ
number_spelling d = units_text d.units
