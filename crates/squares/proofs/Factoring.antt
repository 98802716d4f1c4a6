-- A factor behind the squares.
use Rattle.std.proofs.Common.{◌*◌, ◌<◌, length, Option, Some, None, ap, ◌∙◌, arith}
use Rattle.ival.specs.SpaceViews.{space_of}
use Rattle.ival.specs.declared.space.Space.{Space}
use Rattle.square_model.specs.Polynomial as model
use Rattle.square_model.specs.Polynomial.{polynomial_product}
use Rattle.square_model.specs.Block.{bound_polynomial, greatest_square}
use Rattle.square_model.specs.Steps.{Counted, counted}
use Rattle.squares.specs.Views.{terms_of}
use Rattle.squares.specs.Blocks.{ComesTo, IsFactored}
use Rattle.cover_line.specs.declared.block.Factor.{Factor}
use Rattle.cover_line.specs.declared.block.Factor.TheVariants.{One, BoundOf}
use Rattle.squares.specs.declared.budget.Budget.{Budget}
use Rattle.squares.specs.declared.polynomial.Polynomial.{Polynomial}

-- none is left where the squares take too many steps
pub none_factored : (space centre : Space) (f : Factor) (q : Counted) (old new : Budget) → old.left < q.steps → IsFactored space centre f q old new None
none_factored space centre One q old new h = h
none_factored space centre (BoundOf axis) q old new h = omega (arith, h)

-- the squares' steps come first
pub then_factored : (space centre : Space) (f : Factor) (q : Counted) (s : Polynomial) (old between new : Budget) (p : Option Polynomial) →
    ComesTo q old between (Some s) → IsFactored space centre f (counted (terms_of s)) between new p → IsFactored space centre f q old new p
then_factored space centre One q s old between new None h k = omega (arith, k)
then_factored space centre One q s old between new (Some p) h k = (k.0 ∙ h.0, omega (arith, h.1, k.1))
then_factored space centre (BoundOf axis) q s old between new None h k = let e = ap (λ (x : model.Polynomial). length (bound_polynomial axis (greatest_square (space_of space) (space_of centre) axis)) * length x) h.0 in omega (arith, h.1, k, e)
then_factored space centre (BoundOf axis) q s old between new (Some p) h k = let b = bound_polynomial axis (greatest_square (space_of space) (space_of centre) axis) in let e = ap (λ (x : model.Polynomial). length b * length x) h.0 in
    (k.0 ∙ ap (polynomial_product b) h.0, omega (arith, h.1, k.1, e))
