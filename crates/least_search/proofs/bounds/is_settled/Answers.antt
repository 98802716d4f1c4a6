use Rattle.std.proofs.Common.{sym, ◌∙◌, subst, option_map}
use Rattle.dyadic.proofs.NumberLaws.{ext_on_grid}
use Rattle.dyadic.specs.Views.{dyadic_of, ext_of}
use Rattle.cert_model.specs.Least.{IsSettled}
use Rattle.least_search.proofs.Near.{settled, settled_down}
use Rattle.least_search.proofs.bounds.is_settled.Goals as goal

pub returns-in-Some-clause-near : goal.returns-in-Some-clause-near
returns-in-Some-clause-near c h =
    let upper = ext_of c.args.upper in let gap = c.args.gap_bits in
    subst (λ o. IsSettled gap (option_map dyadic_of o) upper) (sym c.in-Some.is)
    (settled gap (dyadic_of c.in-Some.lower) (dyadic_of c.two_to_minus.result) (ext_of c.add_down.result) upper c.two_to_minus.ensures c.add_down.ensures (sym c.at_most.ensures ∙ h))

pub returns-in-Some-clause-far : goal.returns-in-Some-clause-far
returns-in-Some-clause-far c h =
    let upper = ext_of c.args.upper in let gap = c.args.gap_bits in
    c.at_most.ensures
    ∙ settled_down gap (dyadic_of c.in-Some.lower) (dyadic_of c.two_to_minus.result) (ext_of c.add_down.result) upper (ext_on_grid c.args.upper) c.two_to_minus.ensures c.add_down.ensures
    (subst (λ o. IsSettled gap (option_map dyadic_of o) upper) c.in-Some.is h)
