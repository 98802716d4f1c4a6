-- Intervals that may be absent, place by place.
use Rattle.std.proofs.Common.{◌≡◌, ◌≢◌, ℕ, zero, suc, ◌<◌, ◌≤◌, Option, get_or-set_same, get_or-set_other, List, [], ◌∷◌, length, set, get_or, drop, Bool, true, false, Some, None, inl, inr, refl, ap, ap₂, sym, ◌∙◌, arith}
use Rattle.std.proofs.lemmas.Bool.{cases_lt}
use Rattle.std.proofs.lemmas.List.{get_or_past}
use Rattle.interval_model.specs.Interval.{Interval, nothing}
use Rattle.ival.specs.declared.row_parts.Rows.{Rows}
use Rattle.ival.specs.RowViews.{rows_of, marks_of, is_marked}
use Rattle.ival.specs.Options.{kept, options, options_of, option_at}
use Rattle.ival.proofs.MarkWords.{length_marks}

length-options : (marks : List Bool) (is : List Interval) → length marks ≡ length is → length (options marks is) ≡ length is
length-options [] [] h = refl
length-options (m ∷ marks) (i ∷ is) h = let e = length-options marks is (omega arith) in omega (arith, e)
length-options [] (i ∷ is) h = absurd (omega arith)
length-options (m ∷ marks) [] h = refl

options-at : (marks : List Bool) (is : List Interval) (k : ℕ) → k < length is → length marks ≡ length is → get_or (options marks is) k None ≡ kept (is_marked marks k) (get_or is k nothing)
options-at [] (i ∷ is) k l h = absurd (omega arith)
options-at marks [] k l h = absurd (omega arith)
options-at (m ∷ marks) (i ∷ is) zero l h = refl
options-at (m ∷ marks) (i ∷ is) (suc k) l h = options-at marks is k (omega arith) (omega arith)

pub options_set : (marks : List Bool) (is : List Interval) (k : ℕ) (i : Interval) → options (set marks k true) (set is k i) ≡ set (options marks is) k (Some i)
options_set [] is k i = refl
options_set (m ∷ marks) [] k i = none (m ∷ marks) k
  where
    none : (ms : List Bool) (k : ℕ) → options (set ms k true) [] ≡ []
    none [] k = refl
    none (m ∷ ms) zero = refl
    none (m ∷ ms) (suc k) = refl
options_set (m ∷ marks) (j ∷ is) zero i = refl
options_set (m ∷ marks) (j ∷ is) (suc k) i = ap (λ xs. kept m j ∷ xs) (options_set marks is k i)

pub drop_all : {X : Type 0} (xs : List X) (k : ℕ) → length xs ≤ k → drop k xs ≡ []
drop_all [] zero h = refl
drop_all [] (suc k) h = refl
drop_all (x ∷ xs) zero h = absurd (omega arith)
drop_all (x ∷ xs) (suc k) h = drop_all xs k (omega arith)

-- ---- of rows

pub length_options : (r : Rows) → length (options_of r) ≡ length (rows_of r)
length_options r = length-options (marks_of r) (rows_of r) (length_marks r)

pub option_is : (r : Rows) (k : ℕ) → option_at r k ≡ kept (is_marked (marks_of r) k) (get_or (rows_of r) k nothing)
option_is r k = elim (cases_lt k (length (rows_of r))) [
  | inl h ↦ options-at (marks_of r) (rows_of r) k h (length_marks r)
  | inr h ↦ get_or_past (options_of r) k None (omega (arith, h, length_options r))
      ∙ ap (λ (m : Bool). kept m (get_or (rows_of r) k nothing)) (sym (get_or_past (marks_of r) k false (omega (arith, h, length_marks r))))
]

-- one interval put there, and one taken away
pub set_option : (r r' : Rows) (s : ℕ) (i : Interval) → s < length (rows_of r) → rows_of r' ≡ set (rows_of r) s i → marks_of r' ≡ set (marks_of r) s true →
    (option_at r' s ≡ Some i) × ((k : ℕ) → k ≢ s → option_at r' k ≡ option_at r k)
set_option r r' s i l e f =
    let new : options_of r' ≡ set (options_of r) s (Some i) = ap₂ (λ (ms : List Bool) (is : List Interval). options ms is) f e ∙ options_set (marks_of r) (rows_of r) s i in
    let inside : s < length (options_of r) = omega (arith, l, length_options r) in (
      ap (λ (os : List (Option Interval)). get_or os s None) new ∙ get_or-set_same (options_of r) s (Some i) None inside,
      λ k o. ap (λ (os : List (Option Interval)). get_or os k None) new ∙ get_or-set_other (options_of r) s k (Some i) None o,
    )

pub unset_option : (r r' : Rows) (s : ℕ) → s < length (rows_of r) → rows_of r' ≡ rows_of r → marks_of r' ≡ set (marks_of r) s false →
    (option_at r' s ≡ None) × ((k : ℕ) → k ≢ s → option_at r' k ≡ option_at r k)
unset_option r r' s l e f =
    let inside : s < length (marks_of r) = omega (arith, l, length_marks r) in (
      option_is r' s ∙ ap (λ (m : Bool). kept m (get_or (rows_of r') s nothing)) (ap (λ (ms : List Bool). is_marked ms s) f ∙ get_or-set_same (marks_of r) s false false inside),
      λ k o. option_is r' k
          ∙ ap₂ (λ (m : Bool) (i : Interval). kept m i) (ap (λ (ms : List Bool). is_marked ms k) f ∙ get_or-set_other (marks_of r) s k false false o) (ap (λ (is : List Interval). get_or is k nothing) e)
          ∙ sym (option_is r k),
    )

pub no_option : (r : Rows) (k : ℕ) → is_marked (marks_of r) k ≡ false → option_at r k ≡ None
no_option r k h = option_is r k ∙ ap (λ (m : Bool). kept m (get_or (rows_of r) k nothing)) h

pub has_option : (r : Rows) (k : ℕ) → is_marked (marks_of r) k ≡ true → option_at r k ≡ Some (get_or (rows_of r) k nothing)
has_option r k h = option_is r k ∙ ap (λ (m : Bool). kept m (get_or (rows_of r) k nothing)) h
