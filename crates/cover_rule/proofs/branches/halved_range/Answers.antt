use Rattle.std.proofs.Common.{◌≡◌, ◌<◌, ◌∙◌, length, Bool, cond, Some, None, refl, ap, sym, arith}
use Rattle.std.proofs.lemmas.List.{get_or_default}
use Rattle.dyadic.specs.Rounding.{mid}
use Rattle.dyadic.specs.Views.{dyadic_of}
use Rattle.interval_model.specs.Space.{Domain}
use Rattle.ival.specs.declared.domain.Domain.TheVariants.{Bool as code_bool}
use Rattle.ival.specs.declared.domain.Truths.{Truths}
use Rattle.ival.specs.declared.domain.Truths.TheVariants.{False as only_false, True as only_true, Either as either}
use Rattle.ival.specs.SpaceViews.{space_of, domain_of}
use Rattle.cover_rule.specs.Refusals.{half_of}
use Rattle.cover_rule.proofs.Cuts.{cuts_at, no_cut, no_cut_beyond}
use Rattle.cover_rule.proofs.branches.halved_range.Goals as goal

pub returns-then-axis-len-clause-none : goal.returns-then-axis-len-clause-none
returns-then-axis-len-clause-none c = λ h. no_cut_beyond c.args.axis (space_of c.args.space.now) (λ k. omega (arith, k, c.if-axis-len.true, c.len.ensures))

pub returns-then-can_be_halved-clause-found : goal.returns-then-can_be_halved-clause-found
returns-then-can_be_halved-clause-found c =
    let s = space_of c.args.space.now in let axis = c.args.axis in let r = c.in-Real.range in
    let inside : axis < length s = omega (arith, c.if-axis-len.false, c.len.ensures) in
    cuts_at (dyadic_of r.low) (dyadic_of r.high) (sym c.can_be_halved.ensures ∙ c.if-can_be_halved.true) axis s
    (λ d. get_or_default s axis d (domain_of c.get.result) inside ∙ sym c.get.ensures ∙ ap domain_of c.in-Real.is) inside

pub returns-else-can_be_halved-clause-none : goal.returns-else-can_be_halved-clause-none
returns-else-can_be_halved-clause-none c = λ h.
    let s = space_of c.args.space.now in let axis = c.args.axis in let r = c.in-Real.range in
    let inside : axis < length s = omega (arith, c.if-axis-len.false, c.len.ensures) in
    no_cut axis s (λ (d : Domain). ap half_of (get_or_default s axis d (domain_of c.get.result) inside ∙ sym c.get.ensures ∙ ap domain_of c.in-Real.is)
    ∙ ap (λ (t : Bool). cond t (Some (mid (dyadic_of r.low) (dyadic_of r.high))) None) (sym c.can_be_halved.ensures ∙ c.if-can_be_halved.false))

half-bool : (t : Truths) → half_of (domain_of (code_bool t)) ≡ None
half-bool only_false = refl
half-bool only_true = refl
half-bool either = refl

pub returns-in-Bool-clause-none : goal.returns-in-Bool-clause-none
returns-in-Bool-clause-none c = λ h.
    let s = space_of c.args.space.now in let axis = c.args.axis in
    let inside : axis < length s = omega (arith, c.if-axis-len.false, c.len.ensures) in
    no_cut axis s (λ (d : Domain). ap half_of (get_or_default s axis d (domain_of c.get.result) inside ∙ sym c.get.ensures ∙ ap domain_of c.in-Bool.is) ∙ half-bool c.in-Bool.field-0)
