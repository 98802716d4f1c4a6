-- A point that is shown for a problem with a limit of its goal is shown for the problem, and so is the point of a book of it.
use Rattle.std.proofs.Common.{◌≡◌, ℕ, ◌<◌, List, length, Bool, true, ◌&&◌, ◌||◌, IsTrue, Option, Some, refl, ap, ap₂, sym, ◌∙◌, subst}
use Rattle.std.specs.Prelude.{IfSome}
use Rattle.dyadic.specs.Point.{Sort}
use Rattle.dyadic.specs.Rounding.{Dyadic}
use Rattle.dyadic.proofs.Equal.{both_true}
use Rattle.interval_model.specs.Interval.{within}
use Rattle.interval_model.specs.Space.{Space}
use Rattle.poly_graph.specs.Form.{Form, Forms, yes_form, no_form, atom_is, bool_is, all_form, any_form, no_forms, more_forms, form_truth, all_truth, any_truth}
use Rattle.poly_graph.specs.Problem.{Problem, IsProblem, IsForm, AreForms, sorts_of_axes}
use Rattle.poly_graph.specs.ProblemViews.{Parts, problem_of, IsWhole}
use Rattle.poly_graph.specs.Term.{Term, Kind}
use Rattle.cover_model.specs.Space.{enclosure, range, IsGridSpace}
use Rattle.cover_model.specs.State.{Loosenings, delta_of, sure_at, domain_is, sure}
use Rattle.cover_model.specs.Fits.{IsShownAt}
use Rattle.cover_data.specs.Margins.{loosenings_of, margins_in}
use Rattle.cover_data.specs.declared.margins.Margins.{Margins}
use Rattle.cert_model.specs.Limited.{is_limit, limited}
use Rattle.cert_model.proofs.Limited.{limited_term}
use Rattle.goal_limit.specs.Limits.{has_room, takes_limit}
use Rattle.cover_book.specs.Keeps.{IsBook}
use Rattle.cover_book.specs.Model.{BookModel, problem_in, loosenings_in, margins_of}
use Rattle.dyadic.specs.Views.{dyadic_of}
use Rattle.least_search.specs.declared.aim.Aim.{Aim}
use Rattle.least_search.specs.declared.limits.Limited.{Limited}
use Rattle.least_search.specs.Aims.{IsReady}
use Rattle.least_search.specs.Found.{IsSearchOf, IsShownFor}

-- forms over atoms that agree where the form names them
module _ (sorts : List Sort) (n : ℕ) (a b : ℕ → Bool) (c : ℕ → Bool → Bool) (f : (j : ℕ) → j < n → a j ≡ b j) where
  mutual
    same-truth : (φ : Form ℕ) → IsForm sorts n φ → form_truth a c φ ≡ form_truth b c φ
    same-truth yes_form i = refl
    same-truth no_form i = refl
    same-truth (atom_is j) i = f j i
    same-truth (bool_is axis v) i = refl
    same-truth (all_form φs) i = all-same φs i
    same-truth (any_form φs) i = any-same φs i

    all-same : (φs : Forms ℕ) → AreForms sorts n φs → all_truth a c φs ≡ all_truth b c φs
    all-same no_forms i = refl
    all-same (more_forms φ φs) i = ap₂ (λ x y. x && y) (same-truth φ i.0) (all-same φs i.1)

    any-same : (φs : Forms ℕ) → AreForms sorts n φs → any_truth a c φs ≡ any_truth b c φs
    any-same no_forms i = refl
    any-same (more_forms φ φs) i = ap₂ (λ x y. x || y) (same-truth φ i.0) (any-same φs i.1)

module _ (p : Problem) (good : IsProblem p) (g : ℕ) (there : g < length p.atoms) (k : ℕ) (d : Dyadic) (fits : IsTrue (is_limit p k d)) where
  abbrev new : Problem
  new = limited p g k d

  same-sure : (m : Dyadic) (x : Space) (j : ℕ) → j < length p.atoms → sure_at new m x j ≡ sure_at p m x j
  same-sure m x j h = let e = limited_term p good g there k d fits j h in
      ap₂ (λ (t : Term) (kind : Kind). within (enclosure x t) (range m kind)) e.0 (ap (λ (a : ℕ × Kind). a.1) e.1)

  still-sure : (s : Loosenings) (x : Space) → IsTrue (sure new s x) → IsTrue (sure p s x)
  still-sure s x h =
      let atoms : ℕ → Bool = sure_at new (delta_of s) x in
      let both = both_true (form_truth atoms (domain_is x) p.form) (atoms (length p.atoms) && true) h in
      sym (same-truth (sorts_of_axes p.axes) (length p.atoms) atoms (sure_at p (delta_of s) x) (domain_is x) (same-sure (delta_of s) x) p.form good.form) ∙ both.0

  shown-for : (s : Loosenings) (x : Space) → IsShownAt (limited p g k d) s x → IsShownAt p s x
  shown-for s x h = record { single = h.single; surely = still-sure s x h.surely; near = h.near }

-- the limit is one
is-one : (p : Problem) (k : ℕ) (d : Dyadic) → takes_limit p k d ≡ true → IsTrue (is_limit p k d)
is-one p k d h = (both_true (has_room p) (is_limit p k d) h).1

-- a point is shown in one version as in another
shown-again : (p : Problem) (m : Margins) (v : ℕ) (x : Space) → IsShownAt p (loosenings_of (margins_in v m)) x → IsShownAt p (loosenings_of m) x
shown-again p m v x h = record { single = h.single; surely = h.surely; near = h.near }

-- what a book of the problem with a limit shows is shown for the problem
shown-before : (q : Parts) → IsWhole q → (g : ℕ) → g < length q.atoms → (k : ℕ) (d : Dyadic) → takes_limit (problem_of q) k d ≡ true → (p : Problem) → p ≡ limited (problem_of q) g k d →
    (m n : Margins) (v : ℕ) → m ≡ margins_in v n → (x : Space) → IsShownAt p (loosenings_of m) x → IsShownAt (problem_of q) (loosenings_of n) x
shown-before q w g there k d takes p e m n v f x h =
    shown-for (problem_of q) w.problem g there k d (is-one (problem_of q) k d takes) (loosenings_of n) x
    (subst (λ (r : Problem). IsShownAt r (loosenings_of n) x) e (shown-again p n v x (subst (λ (l : Margins). IsShownAt p (loosenings_of l) x) f h)))

-- ---- books with a point

book-shows : (b : BookModel) → IsBook b → (x : Space) → b.point ≡ Some x → IsShownAt (problem_in b) (loosenings_in b) x
book-shows b w x e = (subst (λ (o : Option Space). IfSome o (λ (y : Space). IsShownAt (problem_in b) (loosenings_in b) y × IsGridSpace y)) e w.point).0

-- the point of a book of the problem with a limit is one of the problem
pub point_of : (a : Aim) → IsReady a → (l : Limited) (b : BookModel) → IsSearchOf a l b → (x : Space) → b.point ≡ Some x → IsShownFor a x
point_of a r l b s x e =
    shown-before a.problem.now r.whole a.goal r.goal l.bits (dyadic_of l.limit) s.takes (problem_in b) s.problem
    (margins_of b.options) (margins_of a.options.now) b.options.version s.margins x (book-shows b s.book x e)
