-- A book with the lemmas of another one is a book.
use Rattle.std.proofs.Common.{◌≡◌, ℕ, zero, suc, ◌<◌, ◌≤◌, ◌-◌, List, [], ◌∷◌, ◌++◌, map, length, Bool, true, false, not, ◌&&◌, cond, Option, Some, None, IsTrue, All, refl, ap, sym, ◌∙◌, subst, take, drop, replicate, length-append, arith}
use Rattle.std.specs.Prelude.{is_some, slice_get, slice_set}
use Rattle.std.specs.List.{AllByRecursion}
use Rattle.std.proofs.lemmas.Option.{slice_get-get_or, slice_get_within, get_or_from_slice_get}
use Rattle.std.proofs.lemmas.List.{length-map, length-drop}
use Rattle.std.proofs.Math.Seq.{take-length}
use Rattle.std.proofs.lemmas.List.Elements.{All-nil, All-append, All-map, All-weaker, All-from_recursion}
use Rattle.dyadic.proofs.Equal.{both_true}
use Rattle.interval_model.specs.Space.{Space}
use Rattle.poly_graph.specs.Marks.{Mark, unmarked, mark_at}
use Rattle.poly_graph.specs.Problem.{Axis, Problem, IsProblem, sorts_of_axes, sorts_of_problem, first_crossed}
use Rattle.poly_graph.specs.ProblemViews.{Parts, IsWhole, problem_of}
use Rattle.cover_model.specs.Carried.{GoesOnFrom, carried}
use Rattle.cover_model.specs.Fits.{FitsAxes, FitsProblem}
use Rattle.cover_model.specs.Root.{root_domain, root_space}
use Rattle.cover_model.specs.State.{State, Loosenings}
use Rattle.cover_model.proofs.Carried.{carried_lemma_holds}
use Rattle.cert_model.specs.Due.{is_some_axis, is_crossed_box}
use Rattle.cert_model.specs.Session.{kept_by}
use Rattle.cert_model.specs.Written.{AreLemmaTrees}
use Rattle.cert_model.proofs.Carries.{carried_fits}
use Rattle.cover_book.specs.Model.{LearnedLemma, BookModel, problem_in, loosenings_in, lemma_states_in, kept_from}
use Rattle.cover_book.specs.Steps.{most_lemmas}
use Rattle.cover_book.specs.Tree.{lemma_tree}
use Rattle.cover_book.specs.Keeps.{IsKeptLemma, IsBook}
use Rattle.cover_book.specs.Laws.{CarriedIsBook}
use Rattle.cover_book.proofs.Lookups.{states_count}
use Rattle.cover_book.proofs.Meaning.{lemmas_hold}
use Rattle.cover_book.proofs.Opens.{opens_as_book}

-- ---- all lemmas of a book are such as another one may open with

learned-fit : (p : Problem) (s : Loosenings) (before : List State) (xs : List LearnedLemma) → AreLemmaTrees p s before (map lemma_tree xs) → AllByRecursion (FitsProblem p) (map (λ (x : LearnedLemma). x.state) xs)
learned-fit p s before [] h = tt
learned-fit p s before (x ∷ xs) h = (record { axes = h.0.fits; marks = h.0.marks }, learned-fit p s (before ++ (x.state ∷ [])) xs h.1)

all-fit : (b : BookModel) → IsBook b → All (FitsProblem (problem_in b)) (lemma_states_in b)
all-fit b w = let p = problem_in b in let s = loosenings_in b in All-append (FitsProblem p) b.kept (map (λ (x : LearnedLemma). x.state) b.lemmas)
    (All-weaker (IsKeptLemma p s) (FitsProblem p) (λ L h. h.fits) b.kept w.kept)
    (All-from_recursion (FitsProblem p) (map (λ (x : LearnedLemma). x.state) b.lemmas) (learned-fit p s b.kept b.lemmas w.lemmas))

pub all_lemmas : (b : BookModel) → IsBook b → All (IsKeptLemma (problem_in b) (loosenings_in b)) (lemma_states_in b)
all_lemmas b w = λ k d h. record {
  fits = all-fit b w k d h;
  lemma = lemmas_hold b w k _ (slice_get-get_or (lemma_states_in b) k d h);
}

-- ---- a state of the earlier problem, carried

-- a space that fits the axes has one domain for each of them
axes-count : (axes : List Axis) (space : Space) → FitsAxes axes space → length space ≡ length axes
axes-count [] (d ∷ space) h = elim h [ ]
axes-count (a ∷ axes) [] h = elim h [ ]
axes-count [] [] h = refl
axes-count (a ∷ axes) (d ∷ space) h = ap suc (axes-count axes space h.1)

sorts-count : (axes : List Axis) → length (sorts_of_axes axes) ≡ length axes
sorts-count [] = refl
sorts-count (a ∷ axes) = ap suc (sorts-count axes)

module _ (p q : Problem) (is_p : IsProblem p) (is_q : IsProblem q) (on : GoesOnFrom p q) (s : Loosenings) (not_crossed : first_crossed q ≡ None) where
  carried-keeps : (L : State) → IsKeptLemma p s L → IsKeptLemma q s (carried q L)
  carried-keeps L h = record {
    fits = carried_fits p q is_q on not_crossed L h.fits;
    lemma = carried_lemma_holds p q is_p on s L h.fits h.lemma;
  }

-- ---- what is written of it in code

-- each lemma has as many axes and atoms as the earlier problem, so no more than the later one
pub carried_room : (b : BookModel) → IsBook b → (q : Problem) → GoesOnFrom (problem_in b) q → (i : ℕ) (L : State) → slice_get (lemma_states_in b) i ≡ Some L →
    (length L.space ≤ length (root_space q)) × (length L.marks ≤ length q.atoms)
carried_room b w q on i L e =
    let p = problem_in b in
    let f : FitsProblem p L = subst (FitsProblem p) (get_or_from_slice_get (lemma_states_in b) i L L e) (all-fit b w i L (slice_get_within (lemma_states_in b) i L e)) in
    let axes : length (sorts_of_problem q) ≡ length (sorts_of_problem p ++ on.new_sorts) = ap (λ xs. length xs) on.sorts in
    let atoms : length q.atoms ≡ length (p.atoms ++ on.new_atoms) = ap (λ xs. length xs) on.atoms in (
      omega (arith, axes-count p.axes L.space f.axes, axes, length-append (sorts_of_problem p) on.new_sorts, sorts-count p.axes, sorts-count q.axes, length-map q.axes (λ (a : Axis). root_domain a.declared)),
      omega (arith, f.marks, atoms, length-append p.atoms on.new_atoms),
    )

-- all that stands from a place on
pub rest_of : {X : Type 0} (xs : List X) (n k : ℕ) → k ≡ length xs - n → take k (drop n xs) ≡ drop n xs
rest_of xs n k e = ap (λ i. take i (drop n xs)) (e ∙ sym (length-drop n xs)) ∙ take-length (drop n xs)

pub next_mark : (marks : List Mark) (j n : ℕ) → j < length marks → length marks ≤ n →
    slice_set (take j marks ++ replicate (n - j) unmarked) j (mark_at marks j) ≡ take (suc j) marks ++ replicate (n - suc j) unmarked
next_mark [] j n h k = absurd (omega (arith, h))
next_mark (m ∷ marks) j zero h k = absurd (omega (arith, k))
next_mark (m ∷ marks) zero (suc n) h k = let e : suc n - 0 ≡ suc n = omega arith in let f : suc n - 1 ≡ n = omega arith in
    ap (λ i. slice_set (replicate i unmarked) 0 m) e ∙ sym (ap (λ i. m ∷ replicate i unmarked) f)
next_mark (m ∷ marks) (suc j) (suc n) h k = let e : suc n - suc j ≡ n - j = omega arith in let f : suc n - suc (suc j) ≡ n - suc j = omega arith in
    ap (λ i. slice_set (m ∷ (take j marks ++ replicate i unmarked)) (suc j) (mark_at marks j)) e ∙ ap (λ ms. m ∷ ms) (next_mark marks j n (omega (arith, h)) (omega (arith, k)))
    ∙ sym (ap (λ i. m ∷ (take (suc j) marks ++ replicate i unmarked)) f)

pub next_mapped : {X Y : Type 0} (f : X → Y) (xs : List X) (i : ℕ) (x : X) → slice_get xs i ≡ Some x → map f (take i xs) ++ (f x ∷ []) ≡ map f (take (suc i) xs)
next_mapped f [] i x e = cc
next_mapped f (y ∷ xs) zero x e = let q : y ≡ x = cc in ap (λ z. f z ∷ []) (sym q)
next_mapped f (y ∷ xs) (suc i) x e = ap (λ ys. f y ∷ ys) (next_mapped f xs i x e)

-- ---- the book

either : (F : List State → Type 0) (t : Bool) (xs ys : List State) → (IsTrue t → F xs) → F ys → F (cond t xs ys)
either F true xs ys f g = f refl
either F false xs ys f g = g

none-crossed : (o : Option ℕ) → IsTrue (not (is_some_axis o)) → o ≡ None
none-crossed None h = refl
none-crossed (Some i) h = cc

module _ (b : BookModel) (w : IsBook b) (q : Parts) (is_q : IsWhole q) (on : GoesOnFrom (problem_in b) (problem_of q)) where
  abbrev MayOpen : List State → Type 0
  MayOpen kept = All (IsKeptLemma (problem_of q) (loosenings_in b)) kept × (length kept ≤ most_lemmas)

  with-none : MayOpen []
  with-none = (All-nil (IsKeptLemma (problem_of q) (loosenings_in b)), omega arith)

  with-all : IsTrue (not (is_crossed_box (problem_of q))) → MayOpen (map (carried (problem_of q)) (lemma_states_in b))
  with-all h = let p = problem_in b in let s = loosenings_in b in let xs = lemma_states_in b in (
    All-map (IsKeptLemma (problem_of q) s) (carried (problem_of q)) xs
        (All-weaker (IsKeptLemma p s) (λ L. IsKeptLemma (problem_of q) s (carried (problem_of q) L))
        (carried-keeps p (problem_of q) w.whole.problem is_q.problem on s (none-crossed (first_crossed (problem_of q)) h)) xs (all_lemmas b w)),
    omega (arith, length-map xs (carried (problem_of q)), states_count b, w.few_lemmas),
  )

  with-kept : MayOpen (kept_by true (problem_in b) (lemma_states_in b) (problem_of q))
  with-kept = either MayOpen (true && not (is_crossed_box (problem_in b)) && not (is_crossed_box (problem_of q))) (map (carried (problem_of q)) (lemma_states_in b)) []
      (λ t. with-all (both_true (not (is_crossed_box (problem_in b))) (not (is_crossed_box (problem_of q))) t).1) with-none

  pub may_open : MayOpen (kept_from b q)
  may_open = either MayOpen (is_some b.point) [] (kept_by true (problem_in b) (lemma_states_in b) (problem_of q)) (λ t. with-none) with-kept

pub carried_is_book : CarriedIsBook
carried_is_book b w q is_q m on = let k = may_open b w q is_q on in opens_as_book q b.options is_q (kept_from b q) m k.0 k.1
