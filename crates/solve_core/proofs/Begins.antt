-- A search as it begins.
use Rattle.std.proofs.Common.{◌≡◌, inl, ℕ, zero, suc, ◌+◌, List, [], ◌∷◌, drop, Some, refl, ap, sym, ◌∙◌, subst, arith}
use Rattle.std.specs.Prelude.{slice_get}
use Rattle.std.specs.List.{Contains}
use Rattle.std.proofs.lemmas.List.Elements.{Contains-append_right}
use Rattle.cover_model.specs.State.{State}
use Rattle.cover_book.specs.Keeps.{IsBook}
use Rattle.cover_book.specs.Model.{NodeModel, live_node, crossed_node, closed_node, parted_node, stuck_node, BookModel, numbered}
use Rattle.cover_book.specs.Verdict.{live_numbers, live_numbers_after}
use Rattle.solve_core.specs.declared.search.Search.{Search}
use Rattle.solve_core.specs.Search.{EachWaits, IsSearch}
use Rattle.solve_core.proofs.Asked.{handed_hold, handed_kept}

-- one more at the front
further : (xs : List ℕ) (y n : ℕ) → Contains xs n → Contains (y ∷ xs) n
further xs y n c = Contains-append_right (y ∷ []) xs n c

next : (k i : ℕ) (xs : List ℕ) → Contains xs (suc k + i) → Contains xs (k + suc i)
next k i xs c = let e : suc k + i ≡ k + suc i = omega arith in subst (Contains xs) e c

listed : (k : ℕ) (nodes : List NodeModel) (i : ℕ) (S : State) → slice_get nodes i ≡ Some (live_node S) → Contains (live_numbers k nodes) (k + i)
listed k [] i S e = cc
listed k (live_node T ∷ nodes) zero S e = (0, omega arith, omega arith)
listed k (live_node T ∷ nodes) (suc i) S e = further (live_numbers (suc k) nodes) k (k + suc i) (next k i (live_numbers (suc k) nodes) (listed (suc k) nodes i S e))
listed k (crossed_node a ∷ nodes) zero S e = cc
listed k (crossed_node a ∷ nodes) (suc i) S e = next k i (live_numbers (suc k) nodes) (listed (suc k) nodes i S e)
listed k (closed_node ls l ∷ nodes) zero S e = cc
listed k (closed_node ls l ∷ nodes) (suc i) S e = next k i (live_numbers (suc k) nodes) (listed (suc k) nodes i S e)
listed k (parted_node ls l c ∷ nodes) zero S e = cc
listed k (parted_node ls l c ∷ nodes) (suc i) S e = next k i (live_numbers (suc k) nodes) (listed (suc k) nodes i S e)
listed k (stuck_node ls l T ∷ nodes) zero S e = cc
listed k (stuck_node ls l T ∷ nodes) (suc i) S e = next k i (live_numbers (suc k) nodes) (listed (suc k) nodes i S e)

none-dropped : (nodes : List NodeModel) → drop 0 nodes ≡ nodes
none-dropped [] = refl
none-dropped (x ∷ nodes) = refl

-- each live node is one of the live numbers
pub all_wait : (b : BookModel) (waiting : List ℕ) → waiting ≡ live_numbers_after b 0 → EachWaits b waiting
all_wait b waiting e n S h =
    let z : 0 + n ≡ n = omega arith in
    let c : Contains (live_numbers 0 b.nodes) n = subst (Contains (live_numbers 0 b.nodes)) z (listed 0 b.nodes n S h) in
    let f : waiting ≡ live_numbers 0 b.nodes = e ∙ ap (live_numbers 0) (none-dropped b.nodes) in
    inl (subst (λ (ns : List ℕ). Contains ns n) (sym f) c)

-- a search with lemmas of the book
pub begun : (s : Search) → IsBook s.book → (k : ℕ) → s.lemmas.items ≡ drop k (numbered s.book) → (waiting : List ℕ) → EachWaits s.book waiting → IsSearch s waiting
begun s w k e waiting h = record {
  waits = λ _. h;
  kept = handed_kept s.book k s.lemmas.items e;
  usable = handed_hold s.book w k s.lemmas.items e;
}
