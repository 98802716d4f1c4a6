-- Ranges of atoms' values by pairs of the code, and what a test by them tells.
use Rattle.std.proofs.Common.{◌≡◌, ℕ, List, [], ◌∷◌, map, length, Bool, IfOk, Result, Ok, Err, refl, ap, sym, ◌∙◌}
use Rattle.std.proofs.lemmas.List.{length-map}
use Rattle.dyadic.specs.Rounding.{Dyadic}
use Rattle.dyadic.specs.declared.dy.Dy.{Dy}
use Rattle.interval_model.specs.Interval.{Interval}
use Rattle.interval_model.specs.Space.{Space}
use Rattle.ival.specs.Views.{interval_of}
use Rattle.ival.specs.declared.ends.Ival.{Ival}
use Rattle.poly_graph.specs.Problem.{Problem}
use Rattle.square_model.specs.Block.{Block}
use Rattle.square_model.specs.Positive.{is_positive}
use Rattle.cover_model.specs.Views.{multipliers_of}

-- there is one for each pair
pub ranges_count : (f : ℕ → Interval) (is : List Ival) (ms : List (ℕ × Dy)) → map interval_of is ≡ map (λ (x : ℕ × Dy). f x.0) ms → length is ≡ length ms
ranges_count f is ms e = sym (length-map is interval_of) ∙ ap length e ∙ length-map ms (λ (x : ℕ × Dy). f x.0)

-- those of the pairs as the definitions see them
ranges-seen : (f : ℕ → Interval) (ms : List (ℕ × Dy)) → map (λ (x : ℕ × Dy). f x.0) ms ≡ map (λ (x : ℕ × Dyadic). f x.0) (multipliers_of ms)
ranges-seen f [] = refl
ranges-seen f (m ∷ ms) = ap (λ (is : List Interval). f m.0 ∷ is) (ranges-seen f ms)

-- what is told for all ranges that are these at the atoms is told for one's own
pub told_at : {E : Type 0} (p : Problem) (f : ℕ → Interval) (space centre middle : Space) (ms : List (ℕ × Dy)) (bs : List Block) (is js : List Ival) (r : Result Bool E) →
    is ≡ js → map interval_of js ≡ map (λ (x : ℕ × Dy). f x.0) ms → centre ≡ middle →
    IfOk r (λ b. (ranges : ℕ → Interval) → map interval_of is ≡ map (λ (x : ℕ × Dyadic). ranges x.0) (multipliers_of ms) → b ≡ is_positive p ranges space centre (multipliers_of ms) bs) →
    IfOk r (λ b. b ≡ is_positive p f space middle (multipliers_of ms) bs)
told_at p f space centre middle ms bs is js (Err e) same made about h = h
told_at p f space centre middle ms bs is js (Ok b) same made about h =
    h f (ap (λ (xs : List Ival). map interval_of xs) same ∙ made ∙ ranges-seen f ms)
    ∙ ap (λ (c : Space). is_positive p f space c (multipliers_of ms) bs) about
