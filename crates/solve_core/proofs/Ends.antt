-- A search that is over.
use Rattle.std.proofs.Common.{◌≡◌, inl, inr, ℕ, suc, ◌<◌, List, [], ◌∷◌, Bool, true, false, cond, Option, Some, None, refl, ap, sym, subst, arith}
use Rattle.std.specs.Prelude.{slice_get, is_some}
use Rattle.std.specs.List.{list_any, Contains}
use Rattle.std.proofs.lemmas.Bool.{ltb-true}
use Rattle.cover_model.specs.State.{State}
use Rattle.interval_model.specs.Space.{Space}
use Rattle.cover_data.specs.Models.{LemmaModel}
use Rattle.cover_book.specs.declared.verdict.BookVerdict.TheVariants.{DeltaSat, UnknownBudget, NotYet, UnknownWidth, Unsat}
use Rattle.cover_book.specs.Model.{NodeModel, live_node, crossed_node, closed_node, parted_node, stuck_node, BookModel}
use Rattle.cover_book.specs.Verdict.{is_live, has_live, has_stuck, may_branch, verdict_of}
use Rattle.solve_core.specs.declared.search.Search.{Search}
use Rattle.cover_book.specs.Left.{IsLeftLive, LeavesDue}
use Rattle.solve_core.specs.Search.{EachWaits, IsUnderWay, IsSearch, IsOver}

none-contained : (n : ℕ) → Contains [] n → ⊥
none-contained n c = absurd (omega (arith, c.1))

-- the same book, lemmas and waiting nodes
pub same_search : (s t : Search) → t.book ≡ s.book → t.lemmas ≡ s.lemmas → t.waiting.items ≡ s.waiting.items → IsSearch s s.waiting.items → IsSearch t t.waiting.items
same_search s t e f g h =
    subst (λ (ns : List ℕ). IsUnderWay t.book ns t.lemmas.items) (sym g)
    (subst (λ (b : BookModel). IsUnderWay b s.waiting.items t.lemmas.items) (sym e)
    (subst (λ (ls : List LemmaModel). IsUnderWay s.book s.waiting.items ls) (sym (ap (λ v. v.items) f)) h))

pub leaves_due : (s : Search) → IsSearch s s.waiting.items → IsOver s → LeavesDue s.book
leaves_due s h o e n S k = elim (subst (λ (xs : List ℕ). EachWaits s.book xs) (o e) (h.waits e) n S k) [ inl c ↦ absurd (none-contained n c) | inr w ↦ w ]

-- some node is live where the test says so
live-there : (nodes : List NodeModel) → list_any is_live nodes ≡ true → (n : ℕ) × (S : State) × (slice_get nodes n ≡ Some (live_node S))
live-there [] h = cc
live-there (live_node S ∷ nodes) h = (0, S, refl)
live-there (crossed_node i ∷ nodes) h = let k = live-there nodes h in (suc k.0, k.1, k.2)
live-there (closed_node ls l ∷ nodes) h = let k = live-there nodes h in (suc k.0, k.1, k.2)
live-there (parted_node ls l c ∷ nodes) h = let k = live-there nodes h in (suc k.0, k.1, k.2)
live-there (stuck_node ls l S ∷ nodes) h = let k = live-there nodes h in (suc k.0, k.1, k.2)

by-tests : (p l m t : Bool) → (p ≡ false → l ≡ true → m ≡ true → ⊥) → cond p DeltaSat (cond l (cond m NotYet UnknownBudget) (cond t UnknownWidth Unsat)) ≡ NotYet → ⊥
by-tests true l m t h e = cc
by-tests false true true t h e = h refl refl refl
by-tests false true false t h e = cc
by-tests false false m true h e = cc
by-tests false false m false h e = cc

no-point : (o : Option Space) → is_some o ≡ false → o ≡ None
no-point None h = refl
no-point (Some x) h = cc

pub not_not_yet : (b : BookModel) → LeavesDue b → verdict_of b ≡ NotYet → ⊥
not_not_yet b h = by-tests (is_some b.point) (has_live b) (may_branch b) (has_stuck b) (λ e f g.
    let k = live-there b.nodes f in
    let w : IsLeftLive b k.1 = h (no-point b.point e) k.0 k.1 k.2 in
    let less : b.branches < b.options.budget = ltb-true b.branches b.options.budget g in
    absurd (omega (arith, less, w.spent)))
