use Rattle.std.proofs.Common.{sym, ◌∙◌, refl}
use Rattle.dyadic.proofs.Texts.{shaped_text, unshaped_text, canonical_parts, other_parts}
use Rattle.dyadic.proofs.read.read_dy.Goals as goal

pub returns-in_default : goal.returns-in_default
returns-in_default c = sym (unshaped_text c.args.text.now (sym c.if-is_nought.ensures) c.in_default.ensures)

pub returns-then-not-is_canonical : goal.returns-then-not-is_canonical
returns-then-not-is_canonical c =
    let p = c.in-Some.parts in
    let shape = c.in-Some.ensures in
    sym (shaped_text c.args.text.now p.negative p.digits.now p.below p.exponent.now shape
    ∙ other_parts p.negative p.digits.now p.below p.exponent.now shape.digits shape.exponent (λ k. let e = c.if-not-is_canonical.ensures.1 k in cc))

pub returns-in-Some-number_of : goal.returns-in-Some-number_of
returns-in-Some-number_of c =
    let p = c.in-Some.parts in
    let shape = c.in-Some.ensures in
    c.in-Some-number_of.ensures
    ∙ sym (shaped_text c.args.text.now p.negative p.digits.now p.below p.exponent.now shape
    ∙ canonical_parts p.negative p.digits.now p.below p.exponent.now shape.digits shape.exponent (c.if-not-is_canonical.ensures.0 refl))

pub returns-in-None : goal.returns-in-None
returns-in-None c =
    let p = c.in-Some.parts in
    let shape = c.in-Some.ensures in
    c.in-None.ensures
    ∙ sym (shaped_text c.args.text.now p.negative p.digits.now p.below p.exponent.now shape
    ∙ canonical_parts p.negative p.digits.now p.below p.exponent.now shape.digits shape.exponent (c.if-not-is_canonical.ensures.0 refl))
