use Rattle.std.proofs.Common.{◌≡◌, ℕ, List, ◌∷◌, ◌++◌, take, drop, sym, subst, ◌∙◌}
use Rattle.square_model.specs.Polynomial.{with_axis}
use Rattle.squares.proofs.Placing.{inserted}
use Rattle.squares.proofs.monomial.insert_axis.Goals as goal

pub returns : goal.returns
returns c = let axis = c.args.axis in let place = c.place_of-place.result in
    c.in_ok-insert.ensures.items
    ∙ sym (subst (λ (m : List ℕ). with_axis axis m ≡ take place m ++ axis ∷ drop place m) c.deref.ensures.value
    (inserted axis c.deref.result.now place c.place_of-place.ensures.within c.place_of-place.ensures.before c.place_of-place.ensures.at))
