use Rattle.std.proofs.Common.{◌%◌, ◌<◌, sym, ap, ◌∙◌, refl, subst}
use Rattle.std.specs.Str.Parse.{digits_value}
use Rattle.dyadic.specs.NumberText.{of_exponent, number}
use Rattle.dyadic.proofs.Spellings.{spelling_read, odd_value}
use Rattle.dyadic.proofs.Texts.{too_many_bits, too_far, too_fine, by_shift, kept_shift, out_of_range}
use Rattle.dyadic.proofs.reading.number_of.Goals as goal

pub returns-in_default : goal.returns-in_default
returns-in_default c = too_many_bits c.args.negative (digits_value 10 c.args.digits.now) c.args.below (digits_value 10 c.args.exponent.now) c.in_default.ensures

pub returns-in_default-number_from : goal.returns-in_default-number_from
returns-in_default-number_from c = too_far c.args.negative (digits_value 10 c.args.digits.now) c.args.below (digits_value 10 c.args.exponent.now) c.in_default-number_from.ensures

pub returns-in_default-shift_of : goal.returns-in_default-shift_of
returns-in_default-shift_of c =
    let over = c.in_default-shift_of.ensures in
    let power = c.in-Some-number_from.ensures.0 in
    too_fine c.args.negative (digits_value 10 c.args.digits.now) c.args.below (digits_value 10 c.args.exponent.now) over.0 (subst (λ n. 120 < n) power over.1)

pub invariant_of-size : goal.invariant_of-size
invariant_of-size c =
    let odd = c.in-Some.ensures in
    record { spelled = spelling_read c.in-Some.odd c.in-Some-shift_of.shift (ap (λ n. n % 2) odd.0 ∙ odd_value c.args.digits.now c.requires.digits c.requires.canonical.odd) odd.1 (c.if-is_in_range.ensures.0 refl) }

pub returns-then-is_in_range : goal.returns-then-is_in_range
returns-then-is_in_range c =
    let m = c.in-Some.odd in
    let e = c.in-Some-number_from.power in
    let k = c.in-Some-shift_of.shift in
    let odd = c.in-Some.ensures in
    let power = c.in-Some-number_from.ensures in
    ap (λ z. number (record { units = z })) c.signed.ensures
    ∙ sym (kept_shift c.args.negative m k odd.1 (c.if-is_in_range.ensures.0 refl))
    ∙ sym (by_shift c.args.negative m c.args.below e k power.1 c.in-Some-shift_of.ensures)
    ∙ ap (λ n. of_exponent c.args.negative n c.args.below e) odd.0
    ∙ ap (λ n. of_exponent c.args.negative (digits_value 10 c.args.digits.now) c.args.below n) power.0

pub returns-else-is_in_range : goal.returns-else-is_in_range
returns-else-is_in_range c =
    let m = c.in-Some.odd in
    let e = c.in-Some-number_from.power in
    let k = c.in-Some-shift_of.shift in
    let odd = c.in-Some.ensures in
    let power = c.in-Some-number_from.ensures in
    out_of_range c.args.negative m k (λ h. let g = c.if-is_in_range.ensures.1 h in cc)
    ∙ sym (by_shift c.args.negative m c.args.below e k power.1 c.in-Some-shift_of.ensures)
    ∙ ap (λ n. of_exponent c.args.negative n c.args.below e) odd.0
    ∙ ap (λ n. of_exponent c.args.negative (digits_value 10 c.args.digits.now) c.args.below n) power.0
