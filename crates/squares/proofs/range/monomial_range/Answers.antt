use Rattle.std.proofs.Common.{◌≡◌, suc, ◌+◌, ◌∷◌, get_or, drop, drop-cons, ap, sym, ◌∙◌, arith, ℕ}
use Rattle.square_model.specs.Polynomial.{Monomial}
use Rattle.squares.specs.Views.{apart_over, range_before}
use Rattle.squares.proofs.range.monomial_range.Goals as goal

pub loop-place-preserved : goal.loop-place-preserved
loop-place-preserved c =
    let place = c.loop-place.place in let m = c.args.monomial.now in let before = range_before (apart_over c.args.space.now c.args.centre.now) in
    let next : suc place ≡ place + 1 = omega arith in
    record {
      inside = omega (arith, c.loop-place-test.true);
      same = c.with_axis-factors.ensures (drop (place + 1) m)
          ∙ ap (λ (n : Monomial). before c.loop-place.factors n) (sym (drop-cons m place 0 c.loop-place-test.true ∙ ap (λ (k : ℕ). get_or m place 0 ∷ drop k m) next))
          ∙ c.loop-place.invariant.same;
    }
