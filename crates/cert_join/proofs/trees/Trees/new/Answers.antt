use Rattle.std.proofs.Common.{◌≡◌, ◌∙◌, ◌++◌, ◌∷◌, ◌+◌, ℕ, suc, List, [], Vec, Global, refl, ap, arith}
use Rattle.cert_join.specs.Due.{stacked}
use Rattle.cert_join.specs.Joining.{first_numbers}
use Rattle.cert_join.proofs.trees.Trees.new.Goals as goal

pub loop-part-init : goal.loop-part-init
loop-part-init c = c.new-all.ensures.items

pub loop-part-preserved : goal.loop-part-preserved
loop-part-preserved c =
    let e : suc c.loop-part.part ≡ c.loop-part.part + 1 = omega arith in
    c.in-Ok.ensures.items ∙ ap (λ (ns : List ℕ). ns ++ (c.loop-part.part ∷ [])) c.loop-part.invariant ∙ ap first_numbers e

pub returns : goal.returns
returns c =
    let e : c.loop-part.part ≡ c.args.count = omega (arith, c.loop-part-test.false, c.loop-part.auto.part-end) in (
      refl,
      ap stacked (c.in-Ok-push.ensures.items ∙ ap (λ (vs : List (Vec ℕ Global)). vs ++ (c.loop-part.all ∷ [])) c.new-places.ensures.items)
          ∙ ap (λ (ns : List ℕ). ns ∷ []) (c.loop-part.invariant ∙ ap first_numbers e),
    )
