-- What some texts are.
use Rattle.std.proofs.Common.{◌≡◌, refl, ◌*◌, ◌^◌, pos, codes, neg_ℤ}
use Rattle.dyadic.specs.NumberText.{number_text, number, not_a_number, not_canonical, not_representable}

three_quarters : number_text (codes "-3b-2") ≡ number (record { units = neg_ℤ (pos (3 * 2 ^ 118)) })
three_quarters = refl

five : number_text (codes "5") ≡ not_a_number
five = refl

nought : number_text (codes "0") ≡ number (record { units = pos 0 })
nought = refl

minus_nought : number_text (codes "-0") ≡ not_a_number
minus_nought = refl

even : number_text (codes "2b-1") ≡ not_canonical
even = refl

leading : number_text (codes "01b0") ≡ not_canonical
leading = refl

even_nought : number_text (codes "0b0") ≡ not_canonical
even_nought = refl

minus_exponent : number_text (codes "1b-0") ≡ not_canonical
minus_exponent = refl

greatest : number_text (codes "1b122") ≡ number (record { units = pos (2 ^ 242) })
greatest = refl

accepted : number_text (codes "3b120") ≡ number (record { units = pos (3 * 2 ^ 240) })
accepted = refl

too_large : number_text (codes "1b123") ≡ not_representable
too_large = refl

too_many : number_text (codes "3b121") ≡ not_representable
too_many = refl

too_fine : number_text (codes "1b-121") ≡ not_representable
too_fine = refl

far : number_text (codes "1b-99999999999999999999999999") ≡ not_representable
far = refl
