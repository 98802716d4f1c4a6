-- A table after one literal is made true, and a table where nothing is known.
use Rattle.std.proofs.Common.{◌≡◌, ◌∙◌, ◌⊎◌, inl, inr, refl, sym, ap, ap₂, subst, Bool, true, false, not, IsTrue, true≢false}
use Rattle.poly_graph.proofs.Bools.{not_both}
use Rattle.clause_search.specs.declared.literal.Variable.{Variable}
use Rattle.clause_search.specs.declared.literal.Literal.{Literal}
use Rattle.clause_search.specs.Encoding.{literal}
use Rattle.clause_search.specs.declared.table.Value.{Value}
use Rattle.clause_search.specs.declared.table.Value.TheVariants.{Open, True, False}
use Rattle.clause_search.specs.declared.table.Table.{Table}
use Rattle.clause_search.specs.Table.{opposite, value_at, value_for, stands, is_true, is_open, SetsOne, AreOpen}

-- ---- small steps

pub stands_for : (b : Bool) → IsTrue (stands (value_for b) b)
stands_for true = refl
stands_for false = refl

stands-same : (b p : Bool) → IsTrue (stands (value_for b) p) → p ≡ b
stands-same true p h = h
stands-same false true h = absurd (true≢false (sym h))
stands-same false false h = refl

same-or-other : (b p : Bool) → (p ≡ b) ⊎ (p ≡ not b)
same-or-other true true = inl refl
same-or-other true false = inr refl
same-or-other false true = inr refl
same-or-other false false = inl refl

pub not_not : (b : Bool) → not (not b) ≡ b
not_not true = refl
not_not false = refl

-- a value that is known stands in one way
pub open_or_stands : (v : Value) (p : Bool) → IsTrue (stands v p) ⊎ (IsTrue (stands v (not p)) ⊎ IsTrue (is_open v))
open_or_stands Open p = inr (inr refl)
open_or_stands True true = inl refl
open_or_stands True false = inr (inl refl)
open_or_stands False true = inr (inl refl)
open_or_stands False false = inl refl

pub stands_once : (v : Value) (p : Bool) → IsTrue (stands v p) → IsTrue (stands v (not p)) → ⊥
stands_once Open p h k = true≢false (sym h)
stands_once True p h k = not_both p h k
stands_once False p h k = not_both p (sym (not_not p) ∙ k) h

pub open_stands_not : (v : Value) (p : Bool) → IsTrue (is_open v) → IsTrue (stands v p) → ⊥
open_stands_not Open p h k = true≢false (sym k)
open_stands_not True p h k = true≢false (sym h)
open_stands_not False p h k = true≢false (sym h)

pub open_is : (v : Value) → IsTrue (is_open v) → v ≡ Open
open_is Open h = refl
open_is True h = absurd (true≢false (sym h))
open_is False h = absurd (true≢false (sym h))

pub same_literal : (l m : Literal) → m.variable ≡ l.variable → m.positive ≡ l.positive → m ≡ l
same_literal l m e f = ap₂ (λ (v : Variable) (p : Bool). literal v p) e f

-- ---- one literal made true

module _ (t u : Table) (l : Literal) (sets : SetsOne t u l.variable (value_for l.positive)) where
  pub sets_there : IsTrue (is_true u l)
  sets_there = ap (λ (v : Value). stands v l.positive) sets.there ∙ stands_for l.positive

  -- nothing else becomes true
  pub sets_only : (m : Literal) → IsTrue (is_true u m) → IsTrue (is_true t m) ⊎ (m ≡ l)
  sets_only m h = elim (sets.others m.variable) [
    | inl e ↦ inr (same_literal l m (sym e) (stands-same l.positive m.positive (sym (ap (λ (v : Value). stands v m.positive) (ap (value_at u) (sym e) ∙ sets.there)) ∙ h)))
    | inr e ↦ inl (sym (ap (λ (v : Value). stands v m.positive) e) ∙ h)
  ]

  -- what was true stays so, unless it was the opposite
  pub sets_still : (IsTrue (is_true t (opposite l)) → ⊥) → (m : Literal) → IsTrue (is_true t m) → IsTrue (is_true u m)
  sets_still free m h = elim (sets.others m.variable) [
    | inl e ↦ elim (same-or-other l.positive m.positive) [
      | inl p ↦ subst (λ (k : Literal). IsTrue (is_true u k)) (sym (same_literal l m (sym e) p)) sets_there
      | inr p ↦ absurd (free (subst (λ (k : Literal). IsTrue (is_true t k)) (same_literal (opposite l) m (sym e) p) h))
    ]
    | inr e ↦ ap (λ (v : Value). stands v m.positive) e ∙ h
  ]

-- where nothing is known, no literal is true
pub none_true : (t : Table) → AreOpen t → (l : Literal) → IsTrue (is_true t l) → ⊥
none_true t o l h = true≢false (sym h ∙ ap (λ (v : Value). stands v l.positive) (o l.variable))
