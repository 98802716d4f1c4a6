-- Behind the axes of the space stand those of the root from there on.
use Rattle.std.proofs.Common.{◌≡◌, ℕ, ◌-◌, List, ◌++◌, map, drop, length, ap, ap₂, sym, ◌∙◌, refl, arith}
use Rattle.std.proofs.lemmas.List.{map-append, drop-map, length-map}
use Rattle.interval_model.specs.Space as domains
use Rattle.ival.specs.declared.domain.Domain.{Domain}
use Rattle.ival.specs.SpaceViews.{domain_of}
use Rattle.cover_book.proofs.Carries.{rest_of}
use Rattle.cover_book.proofs.carry.grown_space.Goals as goal

pub returns : goal.returns
returns c =
    let own : List Domain = c.args.space.axes.items in let root : List Domain = c.args.root.now.axes.items in let read : List Domain = c.deref.result.now in
    let n : c.len.result ≡ length own = omega (arith, c.len.ensures) in
    let rest = rest_of read c.len.result (length read - c.len.result) refl ∙ ap₂ (λ (i : ℕ) (xs : List Domain). drop i xs) n c.deref.ensures.value in
    ap (map domain_of) (c.in_ok-extend_from_slice.ensures.items ∙ ap (λ (xs : List Domain). own ++ xs) rest) ∙ map-append domain_of own (drop (length own) root)
    ∙ ap (λ (xs : List domains.Domain). map domain_of own ++ xs) (sym (drop-map domain_of (length own) root) ∙ ap (λ i. drop i (map domain_of root)) (sym (length-map own domain_of)))
