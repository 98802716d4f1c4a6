-- What is left in a share.
use Rattle.std.proofs.Common.{◌≡◌, ℕ, List, [], ◌∷◌, ◌++◌, Bool, true, false, cond, ◌||◌, is_some, None, refl, ap, sym, ◌∙◌, subst, true≢false}
use Rattle.std.proofs.lemmas.List.{append-nil}
use Rattle.cover_model.specs.State.{State}
use Rattle.cert_model.specs.Due.{Standing}
use Rattle.cert_model.specs.AnswerText.{is_open, has_open}
use Rattle.cover_book.specs.Keeps.{IsBook}
use Rattle.cover_book.specs.Model.{BookModel}
use Rattle.cover_book.specs.Verdict.{verdict_of, has_live, has_stuck, may_branch}
use Rattle.cover_book.specs.declared.verdict.BookVerdict.{BookVerdict}
use Rattle.cover_book.specs.declared.verdict.BookVerdict.TheVariants.{DeltaSat, UnknownBudget, NotYet, UnknownWidth, Unsat}
use Rattle.cert_text.specs.Stuck.{IsFirstStuck}
use Rattle.cert_text.proofs.Leftovers.{left_tells_of_nodes}
use Rattle.cert_resume.specs.Answer.{TellsOfOwn}
use Rattle.cert_resume.specs.Going.{IsOwnOf, JoinsOwn}
use Rattle.cert_resume.specs.declared.answer.Own.{Own}
use Rattle.cert_resume.specs.declared.answer.Own.TheVariants as own

-- ---- states behind others

or-assoc : (a b c : Bool) → (a || (b || c)) ≡ ((a || b) || c)
or-assoc true b c = refl
or-assoc false b c = refl

open-append : (xs ys : List Standing) → has_open (xs ++ ys) ≡ (has_open xs || has_open ys)
open-append [] ys = refl
open-append (x ∷ xs) ys = ap (λ (t : Bool). is_open x.does || t) (open-append xs ys) ∙ or-assoc (is_open x.does) (has_open xs) (has_open ys)

or-first : (a b : Bool) → a ≡ true → (a || b) ≡ true
or-first a b e = ap (λ (t : Bool). t || b) e

or-second : (a b : Bool) → b ≡ true → (a || b) ≡ true
or-second true b e = refl
or-second false b e = e

or-none : (a b : Bool) → a ≡ false → b ≡ false → (a || b) ≡ false
or-none a b e f = ap (λ (t : Bool). t || b) e ∙ f

pub open_first : (xs ys : List Standing) → has_open xs ≡ true → has_open (xs ++ ys) ≡ true
open_first xs ys e = open-append xs ys ∙ or-first (has_open xs) (has_open ys) e

pub open_second : (xs ys : List Standing) → has_open ys ≡ true → has_open (xs ++ ys) ≡ true
open_second xs ys e = open-append xs ys ∙ or-second (has_open xs) (has_open ys) e

pub open_either : (xs ys : List Standing) → has_open (xs ++ ys) ≡ true → (has_open xs ≡ false) → has_open ys ≡ true
open_either xs ys e f = sym (open-append xs ys ∙ ap (λ (t : Bool). t || has_open ys) f) ∙ e

pub nothing_joins : (y : Own) → JoinsOwn own.Nothing y y
nothing_joins y xs ys h k = subst (λ (zs : List Standing). TellsOfOwn y (zs ++ ys)) (sym h) k

pub open_joins : (y : Own) → JoinsOwn own.Open y own.Open
open_joins y xs ys h k = open_first xs ys h

pub second_open_joins : (x : Own) → JoinsOwn x own.Open own.Open
second_open_joins x xs ys h k = open_second xs ys k

pub stuck_joins : (j : ℕ) (S : State) (y : Own) → (y ≡ own.Open → ⊥) → JoinsOwn (own.Stuck j S) y (own.Stuck j S)
stuck_joins j S own.Open n xs ys h k = absurd (n refl)
stuck_joins j S own.Nothing n xs ys h k =
    subst (λ (zs : List Standing). TellsOfOwn (own.Stuck j S) (xs ++ zs)) (sym k) (subst (TellsOfOwn (own.Stuck j S)) (sym (append-nil xs)) h)
stuck_joins j S (own.Stuck i T) n xs ys h k =
    (open-append xs ys ∙ or-none (has_open xs) (has_open ys) h.0 k.0, (h.1.0 ++ ys, ap (λ (zs : List Standing). zs ++ ys) h.1.1))

-- ---- a book

tells-none : (b : BookModel) → b.point ≡ None → verdict_of b ≡ cond (has_live b) (cond (may_branch b) NotYet UnknownBudget) (cond (has_stuck b) UnknownWidth Unsat)
tells-none b e = ap (λ o. cond (is_some o) DeltaSat (cond (has_live b) (cond (may_branch b) NotYet UnknownBudget) (cond (has_stuck b) UnknownWidth Unsat))) e

unsat-only : (live may stuck : Bool) → cond live (cond may NotYet UnknownBudget) (cond stuck UnknownWidth Unsat) ≡ Unsat → (live ≡ false) × (stuck ≡ false)
unsat-only true true s e = absurd (cc)
unsat-only true false s e = absurd (cc)
unsat-only false m true e = absurd (cc)
unsat-only false m false e = (refl, refl)

width-only : (live may stuck : Bool) → cond live (cond may NotYet UnknownBudget) (cond stuck UnknownWidth Unsat) ≡ UnknownWidth → (live ≡ false) × (stuck ≡ true)
width-only true true s e = absurd (cc)
width-only true false s e = absurd (cc)
width-only false m true e = (refl, refl)
width-only false m false e = absurd (cc)

live-else : (live may stuck : Bool) (v : BookVerdict) → v ≡ cond live (cond may NotYet UnknownBudget) (cond stuck UnknownWidth Unsat) → (v ≡ UnknownWidth → ⊥) → (v ≡ Unsat → ⊥) → live ≡ true
live-else true m s v e n k = refl
live-else false m true v e n k = absurd (n e)
live-else false m false v e n k = absurd (k e)

module _ (b : BookModel) (w : IsBook b) (none : b.point ≡ None) where
  pub unsat_leaves : verdict_of b ≡ Unsat → IsOwnOf b own.Nothing
  unsat_leaves e t left i = let f = unsat-only (has_live b) (may_branch b) (has_stuck b) (sym (tells-none b none) ∙ e) in
      (left_tells_of_nodes b w t left i).nothing.1 f

  pub none_stuck : verdict_of b ≡ UnknownWidth → has_stuck b ≡ false → IsOwnOf b own.Nothing
  none_stuck e k = let f = width-only (has_live b) (may_branch b) (has_stuck b) (sym (tells-none b none) ∙ e) in absurd (true≢false (sym f.1 ∙ k))

  pub stuck_leaves : verdict_of b ≡ UnknownWidth → (j : ℕ) (S : State) → IsFirstStuck b j S → IsOwnOf b (own.Stuck j S)
  stuck_leaves e j S h t left i = let f = width-only (has_live b) (may_branch b) (has_stuck b) (sym (tells-none b none) ∙ e) in
      ((left_tells_of_nodes b w t left i).live ∙ f.0, h.ahead f.0 t left i)

  pub live_leaves : (verdict_of b ≡ UnknownWidth → ⊥) → (verdict_of b ≡ Unsat → ⊥) → IsOwnOf b own.Open
  live_leaves n k t left i =
      (left_tells_of_nodes b w t left i).live ∙ live-else (has_live b) (may_branch b) (has_stuck b) (verdict_of b) (tells-none b none) n k
