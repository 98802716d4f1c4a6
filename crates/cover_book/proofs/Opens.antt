-- A book opens as one, in the root state or in another.
use Rattle.std.proofs.Common.{◌≡◌, ◌⊎◌, inl, inr, ℕ, zero, suc, ◌+◌, ◌≤◌, List, [], ◌∷◌, length, Bool, true, false, not, cond, Option, Some, None, IsTrue, All, refl, sym, subst, arith}
use Rattle.std.specs.Prelude.{slice_get}
use Rattle.std.proofs.lemmas.List.Elements.{All-nil}
use Rattle.poly_graph.specs.Problem.{Axis, Problem, is_crossed, crossed_in, crosses, first_crossed_from, first_crossed}
use Rattle.poly_graph.specs.ProblemViews.{Parts, IsWhole, problem_of}
use Rattle.cover_model.specs.Space.{IsGridSpace}
use Rattle.cover_model.specs.State.{State, root_state, covers}
use Rattle.cover_model.specs.Rules.{open_line}
use Rattle.cover_model.specs.Derivation.{leaf}
use Rattle.cover_model.specs.Fits.{FitsProblem}
use Rattle.cover_model.proofs.Lies.{covers_itself}
use Rattle.cover_data.specs.declared.margins.Options.{Options}
use Rattle.cover_data.specs.Margins.{loosenings_of}
use Rattle.cert_model.proofs.Carries.{root_fits}
use Rattle.cover_book.specs.Model.{LearnedLemma, NodeModel, live_node, BookModel, margins_of, lemma_states_in, first_node, opening_with, opening_at}
use Rattle.cover_book.specs.Limits.{IsWithinLimits}
use Rattle.cover_book.specs.Steps.{most_lemmas}
use Rattle.cover_book.specs.Tree.{of_live, occurrences}
use Rattle.cover_book.specs.Keeps.{IsNodeOf, IsCovered, IsCrossed, IsKeptLemma, IsBook}
use Rattle.cover_book.specs.Laws.{OpeningIsBook, RootedIsBook}
use Rattle.cover_book.proofs.Lists.{occurs_here}
use Rattle.cover_book.proofs.Changed.{branches_leaf}

-- ---- axes whose bounds cross

here-first : (t : Bool) (i k : ℕ) (o : Option ℕ) → cond t (Some k) o ≡ Some i → (IsTrue t × (i ≡ k)) ⊎ (IsTrue (not t) × (o ≡ Some i))
here-first true i k o h = inl (refl, cc)
here-first false i k o h = inr (refl, h)

crossed-at : (axes : List Axis) (k i : ℕ) → first_crossed_from k axes ≡ Some i → (j : ℕ) × (i ≡ k + j) × IsTrue (crossed_in axes j)
crossed-at [] k i h = cc
crossed-at (a ∷ axes) k i h = elim (here-first (is_crossed a.declared) i k (first_crossed_from (suc k) axes) h) [
  | inl e ↦ (0, omega (arith, e.1), e.0)
  | inr e ↦ let f = crossed-at axes (suc k) i e.1 in (suc f.0, omega (arith, f.1), f.2)
]

pub first_crosses : (p : Problem) (i : ℕ) → first_crossed p ≡ Some i → IsTrue (crosses p i)
first_crosses p i h = let f = crossed-at p.axes 0 i h in subst (λ (j : ℕ). IsTrue (crosses p j)) (omega (arith, f.1)) f.2

-- ---- a book with node 0 alone

module _ (p : Parts) (o : Options) (w : IsWhole p) (kept : List State) where
  abbrev root : State
  root = root_state (problem_of p)

  -- what is asked of the lemmas
  abbrev MayKeep : Type 0
  MayKeep = All (IsKeptLemma (problem_of p) (loosenings_of (margins_of o))) kept

  abbrev alone : State → NodeModel → BookModel
  alone S x = record { problem = p; options = o; root = S; nodes = x ∷ []; kept = kept; lemmas = []; branches = 0; point = None }

  alone-is-book : IsWithinLimits p o → MayKeep → length kept ≤ most_lemmas → (S : State) (x : NodeModel) → IsCrossed (alone S x) ⊎ IsCovered (alone S x) → IsBook (alone S x)
  alone-is-book m k f S x h = record {
    whole = w;
    limits = m;
    kept = k;
    lemmas = tt;
    lemma_grids = All-nil (λ (y : LearnedLemma). IsGridSpace y.state.space);
    few_lemmas = omega (arith, f);
    budget = omega arith;
    count = omega arith;
    point = tt;
    nodes = h;
  }

  only-first : (S : State) (n : ℕ) (T : State) → slice_get (S ∷ []) n ≡ Some T → (n ≡ 0) × (S ≡ T)
  only-first S zero T e = (refl, cc)
  only-first S (suc n) T e = cc

  -- live in this state
  covered : (S : State) → FitsProblem (problem_of p) S → IsTrue (covers root S) → first_crossed (problem_of p) ≡ None → IsCovered (opening_at p o kept S)
  covered S fits within e = let opened = opening_at p o kept S in record {
    not_crossed = e;
    firsts = S ∷ [];
    count = refl;
    root = refl;
    fits = λ n T f. let q = only-first S n T f in subst (λ (U : State). FitsProblem (problem_of p) U × IsTrue (covers root U)) q.1 (fits, within);
    each = λ n T x f g. let q = only-first S n T f in
        let k : slice_get opened.nodes 0 ≡ Some x = subst (λ (i : ℕ). slice_get opened.nodes i ≡ Some x) q.0 g in let c : live_node S ≡ x = cc in
        subst (λ (y : NodeModel). IsNodeOf (problem_of p) (margins_of o) (lemma_states_in opened) (S ∷ []) T y) c (sym q.1);
    tree = leaf open_line;
    numbers = 0 ∷ [];
    left = _;
    is_tree = of_live refl;
    once = λ n k. let q : n ≡ 0 = omega (arith, k) in subst (λ (i : ℕ). occurrences i (0 ∷ []) ≡ 1) (sym q) (occurs_here 0 []);
    branches = branches_leaf open_line;
  }

  pub opens_in_state : IsWithinLimits p o → MayKeep → length kept ≤ most_lemmas → (S : State) → FitsProblem (problem_of p) S → IsTrue (covers root S) →
      first_crossed (problem_of p) ≡ None → IsBook (opening_at p o kept S)
  opens_in_state m k f S fits within e = alone-is-book m k f S (live_node S) (inr (covered S fits within e))

  -- live in the root state, or crossed
  opens : (x : Option ℕ) → first_crossed (problem_of p) ≡ x → IsCrossed (alone root (first_node x root)) ⊎ IsCovered (alone root (first_node x root))
  opens None e = inr (covered root (root_fits (problem_of p) w.problem e) (covers_itself root) e)
  opens (Some i) e = inl (record { axis = i; first = e; nodes = refl; branches = refl; no_point = refl })

  pub opens_as_book : IsWithinLimits p o → MayKeep → length kept ≤ most_lemmas → IsBook (opening_with p o kept)
  opens_as_book m k f = let x = first_crossed (problem_of p) in alone-is-book m k f root (first_node x root) (opens x refl)

pub opening_is_book : OpeningIsBook
opening_is_book p o w m = opens_as_book p o w [] m (All-nil (IsKeptLemma (problem_of p) (loosenings_of (margins_of o)))) (omega arith)

pub rooted_is_book : RootedIsBook
rooted_is_book p o kept S w m f k fits within e = opens_in_state p o w kept m k f S fits within e
