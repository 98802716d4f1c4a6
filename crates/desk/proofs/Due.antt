-- A listed fault is found by `==`.
use Rattle.std.proofs.Common.{◌≡◌, ℕ, List, true, refl, ap, Contains, sym, subst, true≢false}
use Rattle.std.proofs.lemmas.Bool.{eqb-true, eq-eqb}
use Rattle.std.proofs.lemmas.Map.Views.{Contains-from_any}
use Rattle.std.proofs.lemmas.List.Folds.{list_any_at}
use Rattle.std.specs.List.{list_any}
use Rattle.desk.specs.declared.desk.Port.{Port}
use Rattle.desk.specs.declared.desk.Port.TheVariants.{Script, CertIn, Part, Answer, CertOut, Draft}
use Rattle.desk.specs.declared.calls.Fault.{Fault}
use Rattle.desk.specs.contracts.calls.FaultPartialEq.TheImpl.{ghosts}

abbrev fault : Port → ℕ → Fault
fault p n = record { port = p; call = n }

-- equal faults are the same
same : (p q : Port) (m n : ℕ) → ghosts.eq (fault p m) (fault q n) ≡ true → fault p m ≡ fault q n
same Script Script m n h = ap (fault Script) (eqb-true m n h)
same CertIn CertIn m n h = ap (fault CertIn) (eqb-true m n h)
same Part Part m n h = ap (fault Part) (eqb-true m n h)
same Answer Answer m n h = ap (fault Answer) (eqb-true m n h)
same CertOut CertOut m n h = ap (fault CertOut) (eqb-true m n h)
same Draft Draft m n h = ap (fault Draft) (eqb-true m n h)
same p q m n h = absurd (true≢false (sym h))

itself : (p : Port) (n : ℕ) → ghosts.eq (fault p n) (fault p n) ≡ true
itself Script n = eq-eqb n n refl
itself CertIn n = eq-eqb n n refl
itself Part n = eq-eqb n n refl
itself Answer n = eq-eqb n n refl
itself CertOut n = eq-eqb n n refl
itself Draft n = eq-eqb n n refl

-- `contains` finds what is listed, and nothing else
pub due : (faults : List Fault) (f : Fault) → list_any (λ y. ghosts.eq y f) faults ≡ true → Contains faults f
due faults f h = Contains-from_any {eq = λ x y. ghosts.eq y x} (λ x y e. sym (same y.port x.port y.call x.call e)) f faults h

pub found : (faults : List Fault) (f : Fault) → Contains faults f → list_any (λ y. ghosts.eq y f) faults ≡ true
found faults f h = list_any_at (λ y. ghosts.eq y f) faults h.0 f h.1 (subst (λ (y : Fault). ghosts.eq y f ≡ true) (sym h.2) (itself f.port f.call))
