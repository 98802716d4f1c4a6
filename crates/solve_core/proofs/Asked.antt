-- The lemmas that a book gives.
use Rattle.std.proofs.Common.{◌≡◌, ℕ, zero, suc, ◌+◌, append-nil, ◌++◌, List, [], ◌∷◌, All, drop, Some, refl, ap, sym, ◌∙◌, subst, arith}
use Rattle.std.specs.Prelude.{slice_get}
use Rattle.std.specs.List.{AllByRecursion}
use Rattle.std.proofs.lemmas.List.Elements.{All-nil, All-cons, All-drop, recursion_from_All}
use Rattle.poly_graph.specs.Problem.{Problem}
use Rattle.poly_graph.specs.ProblemViews.{Parts}
use Rattle.cover_model.specs.State.{State, Loosenings, IsLemma}
use Rattle.cover_model.specs.Fits.{FitsProblem}
use Rattle.cover_data.specs.declared.margins.Margins.{Margins}
use Rattle.cover_data.specs.Models.{LemmaModel}
use Rattle.cover_data.specs.Runs.{AreKept}
use Rattle.cover_book.specs.declared.calls.Call.{Call}
use Rattle.cover_book.specs.declared.calls.Call.TheVariants.{LemmasFrom}
use Rattle.cover_book.specs.declared.calls.Reply.{Reply}
use Rattle.cover_book.specs.declared.calls.Reply.TheVariants.{Lemmas}
use Rattle.cover_book.specs.Keeps.{IsBook, IsKeptLemma}
use Rattle.cover_book.specs.Model.{BookModel, problem_in, margins_of, loosenings_in, lemma_states_in, numbered, numbered_from}
use Rattle.cover_book.proofs.Carries.{all_lemmas}
use Rattle.book_lock.specs.declared.shared.SharedBook.{SharedBook}
use Rattle.book_lock.specs.Shared.{BookSeat, first_of, IsSeatOf, IsReply}
use Rattle.book_lock.proofs.Histories.{reply_is_of_book}
use Rattle.box_worker.specs.Worked.{AreLemmasFor}
use Rattle.lemma_shelf.specs.Lemmas.{IsLemmaOf, Appends}
use Rattle.solve_core.specs.Askers.{IsAsker}
use Rattle.solve_core.proofs.Together.{part_stays}

abbrev Holds : Problem → Loosenings → LemmaModel → Type 0
Holds p s L = FitsProblem p L.state × IsLemma p s L.state

each-holds : (p : Problem) (s : Loosenings) (xs : List State) (i : ℕ) → AllByRecursion (IsKeptLemma p s) xs → AreLemmasFor p s (numbered_from i xs)
each-holds p s [] i h = All-nil (Holds p s)
each-holds p s (L ∷ xs) i h = All-cons (Holds p s) (record { id = i; state = L }) (numbered_from (suc i) xs) (h.0.fits, h.0.lemma) (each-holds p s xs (suc i) h.1)

-- the lemmas of a book are states of its problem of which no point meets the form
pub numbered_hold : (b : BookModel) → IsBook b → AreLemmasFor (problem_in b) (loosenings_in b) (numbered b)
numbered_hold b w = let P = IsKeptLemma (problem_in b) (loosenings_in b) in each-holds (problem_in b) (loosenings_in b) (lemma_states_in b) zero (recursion_from_All P (lemma_states_in b) (all_lemmas b w))

-- it keeps them under their numbers
abbrev Kept : List State → LemmaModel → Type 0
Kept states l = slice_get states l.id ≡ Some l.state

each-kept : (states xs : List State) (i : ℕ) → ((j : ℕ) (S : State) → slice_get xs j ≡ Some S → slice_get states (i + j) ≡ Some S) → AreKept states (numbered_from i xs)
each-kept states [] i h = All-nil (Kept states)
each-kept states (L ∷ xs) i h =
    let here : i + zero ≡ i = omega arith in
    All-cons (Kept states) (record { id = i; state = L }) (numbered_from (suc i) xs) (subst (λ (k : ℕ). slice_get states k ≡ Some L) here (h zero L refl))
    (each-kept states xs (suc i) (λ j S e. let next : i + suc j ≡ suc i + j = omega arith in subst (λ (k : ℕ). slice_get states k ≡ Some S) next (h (suc j) S e)))

-- from a number on, too
pub handed_hold : (b : BookModel) → IsBook b → (k : ℕ) (lemmas : List LemmaModel) → lemmas ≡ drop k (numbered b) → AreLemmasFor (problem_in b) (loosenings_in b) lemmas
handed_hold b w k lemmas e = subst (AreLemmasFor (problem_in b) (loosenings_in b)) (sym e) (All-drop (Holds (problem_in b) (loosenings_in b)) k (numbered b) (numbered_hold b w))

pub handed_kept : (b : BookModel) (k : ℕ) (lemmas : List LemmaModel) → lemmas ≡ drop k (numbered b) → AreKept (lemma_states_in b) lemmas
handed_kept b k lemmas e = let xs = lemma_states_in b in
    subst (AreKept xs) (sym e) (All-drop (Kept xs) k (numbered b) (each-kept xs xs zero (λ j S h. let z : j ≡ zero + j = omega arith in subst (λ (i : ℕ). slice_get xs i ≡ Some S) z h)))

-- so a shared book gives lemmas of its problem
pub given_lemmas : (p : Parts) (m : Margins) (s : SharedBook) (seat seat' : BookSeat) (i : ℕ) (v : _) → IsAsker p m s seat → IsReply seat (LemmasFrom i) (Lemmas v) seat' → All (IsLemmaOf p m) v.items
given_lemmas p m s seat seat' i v a r =
    let t = reply_is_of_book (first_of s) seat seat' (LemmasFrom i) (Lemmas v) a.book a.seat.0.1 r in
    let all : AreLemmasFor (problem_in t.0) (loosenings_in t.0) (drop i (numbered t.0)) = All-drop (Holds (problem_in t.0) (loosenings_in t.0)) i (numbered t.0) (numbered_hold t.0 t.2.book) in
    let here : All (IsLemmaOf t.0.problem (margins_of t.0.options)) v.items = subst (All (IsLemmaOf t.0.problem (margins_of t.0.options))) (sym t.3.0) all in
    let e : t.0.problem ≡ p = t.2.problem ∙ sym a.problem in
    let f : margins_of t.0.options ≡ m = ap margins_of t.2.options ∙ sym a.margins in
    subst (λ (q : Parts). All (IsLemmaOf q m) v.items) e (subst (λ (n : Margins). All (IsLemmaOf t.0.problem n) v.items) f here)

-- after a call it asks on
pub asks_on : (p : Parts) (m : Margins) (s : SharedBook) (seat seat' : BookSeat) (c : Call) (r : Reply) → IsAsker p m s seat → IsSeatOf s seat' → IsReply seat c r seat' → IsAsker p m s seat'
asks_on p m s seat seat' c r a own x = record { book = a.book; seat = part_stays s seat seat' c r a.seat own x; problem = a.problem; margins = a.margins }

pub appends_given : (p : Parts) (m : Margins) (old more new : List LemmaModel) → All (IsLemmaOf p m) more → new ≡ old ++ more → Appends p m old new
appends_given p m old more new h e = record { more = more; items = e; lemmas = h }

pub appends_nothing : (p : Parts) (m : Margins) (old new : List LemmaModel) → new ≡ old → Appends p m old new
appends_nothing p m old new e = record { more = []; items = e ∙ sym (append-nil old); lemmas = All-nil (IsLemmaOf p m) }
