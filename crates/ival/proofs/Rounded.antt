-- Rounding of ends that lie below each other, and of the lesser and the greater of two.
use Rattle.std.proofs.Common.{◌≡◌, Bool, true, false, cond, IsTrue, refl, ap, sym, ◌∙◌, true≢false}
use Rattle.dyadic.specs.Rounding.{Ext, below_all, finite, above_all, End, end_at_most, ext_at_most}
use Rattle.dyadic.specs.End.{lesser, greater, lesser_ext, greater_ext, rounded_down, rounded_up}
use Rattle.dyadic.proofs.Rounds.{same_units, exact_read}
use Rattle.interval_model.proofs.Ends.{Good, other_way}
use Rattle.interval_model.proofs.Isotone.{rounded_down_rises, rounded_up_rises}
use Rattle.ival.proofs.Corners.{IsAlike}

pub same_ext : (e f : Ext) → IsTrue (ext_at_most e f) → IsTrue (ext_at_most f e) → e ≡ f
same_ext below_all below_all h k = refl
same_ext (finite r) (finite s) h k = ap finite (same_units r s (exact_read r s h) (exact_read s r k))
same_ext above_all above_all h k = refl
same_ext below_all (finite s) h k = absurd (true≢false (sym k))
same_ext below_all above_all h k = absurd (true≢false (sym k))
same_ext (finite r) below_all h k = absurd (true≢false (sym h))
same_ext (finite r) above_all h k = absurd (true≢false (sym k))
same_ext above_all below_all h k = absurd (true≢false (sym h))
same_ext above_all (finite s) h k = absurd (true≢false (sym h))

pub down_alike : (e f : End) → Good e → Good f → IsAlike e f → rounded_down e ≡ rounded_down f
down_alike e f i j a = same_ext (rounded_down e) (rounded_down f) (rounded_down_rises e f i j a.0) (rounded_down_rises f e j i a.1)

pub up_alike : (e f : End) → Good e → Good f → IsAlike e f → rounded_up e ≡ rounded_up f
up_alike e f i j a = same_ext (rounded_up e) (rounded_up f) (rounded_up_rises e f i j a.0) (rounded_up_rises f e j i a.1)

pub down_lesser : (e f : End) → Good e → Good f → lesser_ext (rounded_down e) (rounded_down f) ≡ rounded_down (lesser e f)
down_lesser e f i j = go (end_at_most e f) refl (ext_at_most (rounded_down e) (rounded_down f)) refl
  where
    go : (t : Bool) → end_at_most e f ≡ t → (u : Bool) → ext_at_most (rounded_down e) (rounded_down f) ≡ u → cond u (rounded_down e) (rounded_down f) ≡ rounded_down (cond t e f)
    go true h true k = refl
    go true h false k = absurd (true≢false (sym (rounded_down_rises e f i j h) ∙ k))
    go false h true k = same_ext (rounded_down e) (rounded_down f) k (rounded_down_rises f e j i (other_way e f h))
    go false h false k = refl

pub up_greater : (e f : End) → Good e → Good f → greater_ext (rounded_up e) (rounded_up f) ≡ rounded_up (greater e f)
up_greater e f i j = go (end_at_most e f) refl (ext_at_most (rounded_up e) (rounded_up f)) refl
  where
    go : (t : Bool) → end_at_most e f ≡ t → (u : Bool) → ext_at_most (rounded_up e) (rounded_up f) ≡ u → cond u (rounded_up f) (rounded_up e) ≡ rounded_up (cond t f e)
    go true h true k = refl
    go true h false k = absurd (true≢false (sym (rounded_up_rises e f i j h) ∙ k))
    go false h true k = sym (same_ext (rounded_up e) (rounded_up f) k (rounded_up_rises f e j i (other_way e f h)))
    go false h false k = refl
