-- Small steps on tests.
use Rattle.std.proofs.Common.{◌≡◌, ◌⊎◌, inl, inr, Bool, true, false, not, ◌||◌, IsTrue, refl, ap, sym, true≢false}

pub either_true : (x y : Bool) → IsTrue (x || y) → IsTrue x ⊎ IsTrue y
either_true true y h = inl refl
either_true false y h = inr h

pub or_first : (x y : Bool) → IsTrue x → IsTrue (x || y)
or_first x y h = ap (λ b. b || y) h

pub or_second : (x y : Bool) → IsTrue y → IsTrue (x || y)
or_second true y h = refl
or_second false y h = h

pub not_both : (b : Bool) → IsTrue b → IsTrue (not b) → ⊥
not_both true h k = true≢false (sym k)
not_both false h k = true≢false (sym h)

pub not_false : (b : Bool) → b ≡ false → IsTrue (not b)
not_false b h = ap not h

pub decided : (b : Bool) → IsTrue b ⊎ IsTrue (not b)
decided true = inl refl
decided false = inr refl

pub implied : (x y : Bool) → IsTrue (not x || y) → IsTrue x → IsTrue y
implied true y h k = h
implied false y h k = absurd (true≢false (sym k))

pub implies_itself : (x : Bool) → IsTrue (not x || x)
implies_itself true = refl
implies_itself false = refl
