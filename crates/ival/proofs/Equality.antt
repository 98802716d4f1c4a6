-- Numbers are the same where their spellings are.
use Rattle.std.proofs.Common.{◌≡◌, ℕ, ℤ, Bool, ◌&&◌, ◌^◌, pos, ◌*ℤ◌, IsTrue, eqb, eqb-true, eq-eqb, refl, sym, ap, ap₂, subst, true≢false}
use Rattle.std.specs.Cmp.{signed_Decides}
use Rattle.std.specs.Ordering.{int_eq}
use Rattle.dyadic.specs.declared.dy.Dy.{Dy}
use Rattle.dyadic.specs.contracts.dy.ExtPartialEq.TheImpl as ext_eq
use Rattle.dyadic.specs.declared.dy.Ext.{Ext}
use Rattle.dyadic.specs.declared.dy.Ext.TheVariants.{NegInf, Fin, PosInf}
use Rattle.dyadic.specs.Rounding.{Dyadic, finite}
use Rattle.dyadic.specs.Views.{dyadic_of, ext_of}
use Rattle.interval_model.specs.Interval.{between}
use Rattle.ival.specs.contracts.ends.IvalPartialEq.TheImpl as ival_eq
use Rattle.ival.specs.declared.ends.Ival.{Ival}
use Rattle.ival.specs.declared.ends.Ival.TheVariants.{Empty, Between}
use Rattle.ival.specs.Views.{interval_of}
use Rattle.dyadic.specs.Mantissa.{mantissa}
use Rattle.dyadic.proofs.NumberLaws.{dyadic_injective}
use Rattle.dyadic.proofs.Equal.{both_true, both_pass}
use Rattle.interval_model.specs.Space.{real_domain}

abbrev pub same_spelled : Dy → Dy → Bool
same_spelled a b = eqb a.low b.low && (int_eq a.high b.high && eqb a.shift b.shift)

pub same_number : (a b : Dy) → IsTrue (same_spelled a b) → dyadic_of a ≡ dyadic_of b
same_number a b h =
    let p = both_true (eqb a.low b.low) (int_eq a.high b.high && eqb a.shift b.shift) h in
    let q = both_true (int_eq a.high b.high) (eqb a.shift b.shift) p.1 in
    let low : a.low ≡ b.low = eqb-true a.low b.low p.0 in
    let high : a.high ≡ b.high = (signed_Decides a.high b.high).0 q.0 in
    let shift : a.shift ≡ b.shift = eqb-true a.shift b.shift q.1 in
    ap (λ (z : ℤ). record { units = z }) (ap₂ (λ (m : ℤ) (k : ℕ). m *ℤ pos (2 ^ k)) (ap₂ mantissa high low) shift)

pub spelled_so : (a b : Dy) → dyadic_of a ≡ dyadic_of b → IsTrue (same_spelled a b)
spelled_so a b e =
    let same : a ≡ b = dyadic_injective a b (ap (λ (d : Dyadic). d.units) e) in
    subst (λ (x : Dy). IsTrue (same_spelled a x)) same
    (both_pass (eqb a.low a.low) (int_eq a.high a.high && eqb a.shift a.shift) (eq-eqb a.low a.low refl)
    (both_pass (int_eq a.high a.high) (eqb a.shift a.shift) ((signed_Decides a.high a.high).1 refl) (eq-eqb a.shift a.shift refl)))

-- ---- intervals that are spelled alike

same-end : (a b : Ext) → IsTrue ((ext_eq.ghosts).eq a b) → ext_of a ≡ ext_of b
same-end NegInf NegInf h = refl
same-end NegInf (Fin b) h = absurd (true≢false (sym h))
same-end NegInf PosInf h = absurd (true≢false (sym h))
same-end (Fin a) NegInf h = absurd (true≢false (sym h))
same-end (Fin a) (Fin b) h = ap finite (same_number a b h)
same-end (Fin a) PosInf h = absurd (true≢false (sym h))
same-end PosInf NegInf h = absurd (true≢false (sym h))
same-end PosInf (Fin b) h = absurd (true≢false (sym h))
same-end PosInf PosInf h = refl

pub same_interval : (i j : Ival) → IsTrue ((ival_eq.ghosts).eq i j) → interval_of i ≡ interval_of j
same_interval Empty Empty h = refl
same_interval Empty (Between b) h = absurd (true≢false (sym h))
same_interval (Between a) Empty h = absurd (true≢false (sym h))
same_interval (Between a) (Between b) h =
    let p = both_true ((ext_eq.ghosts).eq a.low b.low) ((ext_eq.ghosts).eq a.high b.high) h in
    ap₂ between (same-end a.low b.low p.0) (same-end a.high b.high p.1)

-- ---- the ends of a Real domain

pub same_ends : (l h l' h' : Dyadic) → real_domain l h ≡ real_domain l' h' → (l ≡ l') × (h ≡ h')
same_ends l h l' h' e = (let p : l ≡ l' = cc in p, let q : h ≡ h' = cc in q)
