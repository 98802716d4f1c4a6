-- What a book means: its live and stuck nodes cover the declared box, and its tree is a lawful and honest one.
use Rattle.std.proofs.Common.{◌≡◌, inl, inr, ℕ, zero, suc, List, [], ◌∷◌, ◌++◌, Some, None, IsTrue, All, refl, ap, sym, ◌∙◌, subst, arith}
use Rattle.std.specs.Prelude.{slice_get}
use Rattle.std.specs.List.{AllByRecursion}
use Rattle.std.proofs.lemmas.Option.{slice_get_within, get_or_from_slice_get}
use Rattle.std.proofs.lemmas.Bool.{le-leb}
use Rattle.std.proofs.lemmas.List.{length-map}
use Rattle.std.proofs.lemmas.List.Elements.{All-from_recursion}
use Rattle.dyadic.specs.Point.{Coordinate}
use Rattle.dyadic.proofs.Equal.{both_true, both_pass}
use Rattle.poly_graph.specs.Problem.{Problem, first_crossed}
use Rattle.cover_model.specs.State.{State, Loosenings, IsPointOf, IsLemma, root_state, covers}
use Rattle.interval_model.specs.Space.{space_within}
use Rattle.poly_graph.specs.Marks.{marks_within}
use Rattle.cover_model.specs.Rules.{open_line}
use Rattle.cover_model.specs.Honest.{is_honest}
use Rattle.cover_model.specs.Derivation.{Tree, Lawful, Among, here, later, AreLemmas}
use Rattle.cover_model.specs.Fits.{FitsProblem}
use Rattle.cover_model.proofs.Lies.{covers_through}
use Rattle.cover_model.proofs.Root.{root_has, crossed_is_empty}
use Rattle.cover_model.proofs.Sound.{tree_keeps}
use Rattle.cert_model.specs.Accepted.{is_header, loosenings_fit}
use Rattle.cert_model.specs.Due.{Standing, is_version}
use Rattle.cert_model.specs.Derived.{AreDerived, states_of}
use Rattle.cert_model.specs.Written.{LemmaTree, lemma_states, AreLemmaTrees, left_standing, tree_standing}
use Rattle.cert_model.proofs.Means.{lemmas_after}
use Rattle.cover_book.specs.Model.{NodeModel, live_node, crossed_node, stuck_node, BookModel, problem_in, margins_of, loosenings_in, lemma_states_in}
use Rattle.cover_book.specs.Tree.{TreeOf, of_live, of_closed, of_stuck, of_parted, lemma_trees, lemma_tree, cover_lemmas}
use Rattle.cover_book.specs.Keeps.{IsCovered, IsCrossed, IsKeptLemma, IsBook}
use Rattle.cover_book.specs.Laws.{IsLeft, BookCatches, NodesLieWithin, IsTreeOfBook, BookHasTree, TreeIsHonest, RootedTreeIsCover}
use Rattle.cover_book.proofs.Lists.{some_at, all_append}
use Rattle.cover_book.proofs.Facts.{IsGood, node_good}
use Rattle.cover_book.proofs.Kept.{never_live, same_states}
use Rattle.cover_book.proofs.Opens.{first_crosses}

-- ---- lemmas

derived : (p : Problem) (s : Loosenings) (before : List State) (xs : List LemmaTree) → AreLemmaTrees p s before xs → AreDerived p s before (lemma_states xs)
derived p s before [] h = tt
derived p s before (x ∷ xs) h = ((x.tree, h.0.lawful), derived p s (before ++ (x.state ∷ [])) xs h.1)

kept-hold : (p : Problem) (s : Loosenings) (kept : List State) → All (IsKeptLemma p s) kept → AreLemmas p s kept
kept-hold p s kept h i L e = subst (IsLemma p s) (get_or_from_slice_get kept i L L e) (h i L (slice_get_within kept i L e)).lemma

-- no point of a lemma's state meets the form
pub lemmas_hold : (b : BookModel) → IsBook b → AreLemmas (problem_in b) (loosenings_in b) (lemma_states_in b)
lemmas_hold b w = subst (AreLemmas (problem_in b) (loosenings_in b)) (same_states b)
    (lemmas_after (problem_in b) w.whole.problem (loosenings_in b) b.kept (lemma_states (lemma_trees b)) (kept-hold (problem_in b) (loosenings_in b) b.kept w.kept)
    (derived (problem_in b) (loosenings_in b) b.kept (lemma_trees b) w.lemmas))

-- ---- live and stuck nodes

abbrev StaysAt : BookModel → Standing → Type 0
StaysAt b x = (n : ℕ) × IsLeft b n x.state

each-stays : (b : BookModel) {n : ℕ} {t : Tree} {ns : List ℕ} {xs : List Standing} → TreeOf b.nodes n t ns xs → AllByRecursion (StaysAt b) xs
each-stays b (of_live {n = n} {S = S} e) = ((n, inl e), tt)
each-stays b (of_closed e) = tt
each-stays b (of_stuck {n = n} {steps = ls} {l = l} {S = S} e) = ((n, inr (ls, l, e)), tt)
each-stays b (of_parted {xs = xs} {ys = ys} e f g) = all_append (StaysAt b) xs ys (each-stays b f) (each-stays b g)

among-some : (b : BookModel) (point : List Coordinate) (xs : List Standing) → AllByRecursion (StaysAt b) xs → Among (problem_in b) (loosenings_in b) point (states_of xs) →
    (n : ℕ) × (S : State) × IsLeft b n S × IsPointOf (problem_in b) (loosenings_in b) S point
among-some b point [] h a = elim a [ ]
among-some b point (x ∷ xs) h (here i) = (h.0.0, x.state, h.0.1, i)
among-some b point (x ∷ xs) h (later a) = among-some b point xs h.1 a

-- nothing is asked of the lines
abbrev Any : Standing → Type 0
Any x = Unit {0}

any-good : (b : BookModel) (w : IsBook b) (h : IsCovered b) → Lawful (problem_in b) (loosenings_in b) (lemma_states_in b) b.root h.tree (states_of h.left)
any-good b w h = (node_good b w.whole h Any (λ x q i. tt) (λ n S e. tt) h.is_tree b.root h.root).lawful

pub book_catches : BookCatches
book_catches b w r point q i m = elim w.nodes [
  | inl c ↦ absurd (crossed_is_empty (problem_in b) c.axis point q (first_crosses (problem_in b) c.axis c.first) i)
  | inr h ↦ among-some b point h.left (each-stays b h.is_tree)
      (tree_keeps (problem_in b) (loosenings_in b) w.whole.problem (lemma_states_in b) (lemmas_hold b w) (any-good b w h) point
      (subst (λ (S : State). IsPointOf (problem_in b) (loosenings_in b) S point) (sym r) (root_has (problem_in b) w.whole.problem (loosenings_in b) point q i)) m)
]

-- ---- within the root

never-stuck : (i n : ℕ) (x : NodeModel) → slice_get (crossed_node i ∷ []) n ≡ Some x → x ≡ crossed_node i
never-stuck i zero x e = cc
never-stuck i (suc n) x e = cc

covers-space : (A B : State) → IsTrue (covers A B) → IsTrue (space_within B.space A.space)
covers-space A B h = (both_true (space_within B.space A.space) (marks_within A.marks B.marks) h).0

first-of : (b : BookModel) (h : IsCovered b) (n : ℕ) (x : NodeModel) → slice_get b.nodes n ≡ Some x → (S : State) × (slice_get h.firsts n ≡ Some S)
first-of b h n x e = some_at h.firsts n (omega (arith, h.count, slice_get_within b.nodes n x e))

never-left : (b : BookModel) → IsCrossed b → (n : ℕ) (S : State) → IsLeft b n S → ⊥
never-left b c n S (inl e) = never_live b c n S e
never-left b c n S (inr e) = let q = never-stuck c.axis n (stuck_node e.0 e.1 S) (subst (λ (xs : List NodeModel). slice_get xs n ≡ Some (stuck_node e.0 e.1 S)) c.nodes e.2) in cc

left-within : (b : BookModel) → IsBook b → (h : IsCovered b) (n : ℕ) (S : State) → IsLeft b n S → FitsProblem (problem_in b) S × IsTrue (covers (root_state (problem_in b)) S)
left-within b w h n S (inl e) = let f = first-of b h n (live_node S) e in let q : f.0 ≡ S = h.each n f.0 (live_node S) f.1 e in
    subst (λ (T : State). FitsProblem (problem_in b) T × IsTrue (covers (root_state (problem_in b)) T)) q (h.fits n f.0 f.1)
left-within b w h n S (inr e) = let f = first-of b h n (stuck_node e.0 e.1 S) e.2 in let k = h.each n f.0 (stuck_node e.0 e.1 S) f.1 e.2 in
    let r = k.0.is_run.sound in
    subst (λ (T : State). FitsProblem (problem_in b) T × IsTrue (covers (root_state (problem_in b)) T)) k.1
    (r.reached, covers_through (root_state (problem_in b)) k.0.run.first k.0.run.reached (subst (λ (T : State). IsTrue (covers (root_state (problem_in b)) T)) (sym k.0.first) (h.fits n f.0 f.1).1) r.within)

pub nodes_lie_within : NodesLieWithin
nodes_lie_within b w n S l = elim w.nodes [
  | inl c ↦ absurd (never-left b c n S l)
  | inr h ↦ let k = left-within b w h n S l in (k.0, covers-space (root_state (problem_in b)) S k.1)
]

-- ---- the tree

pub fits_limits : (b : BookModel) → IsBook b → IsTrue (loosenings_fit b.options.margin_bits b.options.delta_bits)
fits_limits b w = let m = w.limits.margins in let d = b.options.delta_bits in let g = b.options.margin_bits in
    both_pass _ _ (both_pass _ _ (both_pass _ _ (le-leb 1 d m.some_delta) (le-leb d 30 m.few_delta)) (le-leb (suc d) g m.above_delta)) (le-leb g 60 m.few_margin)

header_fits : (b : BookModel) → IsBook b → IsTrue (is_header (loosenings_in b))
header_fits b w = both_pass (is_version b.options.version) (loosenings_fit b.options.margin_bits b.options.delta_bits)
    (elim w.limits.margins.version_is [ inl e ↦ ap is_version e | inr e ↦ ap is_version e ]) (fits_limits b w)

module _ (b : BookModel) (w : IsBook b) (h : IsCovered b) where
  abbrev but_open : Standing → Type 0
  but_open x = (x.does ≡ open_line → ⊥) → IsTrue (is_honest (problem_in b) b.options.least_bits (loosenings_in b) x.state x.does)

  abbrev its_good : IsGood (problem_in b) (margins_of b.options) (lemma_states_in b) but_open (λ x q i. λ r. i) b.root h.tree h.left
  its_good = node_good b w.whole h but_open (λ x q i. λ r. i) (λ n S e. λ r. absurd (r refl)) h.is_tree b.root h.root

  covered-tree : IsTreeOfBook b h.tree h.left
  covered-tree = record {
    numbers = h.numbers;
    is_tree = h.is_tree;
    loosenings = header_fits b w;
    few = omega (arith, length-map b.lemmas lemma_tree, w.few_lemmas);
    lemmas = w.lemmas;
    not_crossed = h.not_crossed;
    states = states_of h.left;
    lawful = subst (λ (ys : List State). Lawful (problem_in b) (loosenings_in b) ys b.root h.tree (states_of h.left)) (sym (same_states b)) its_good.lawful;
    names = its_good.names;
    stands = ap (λ (ys : List State). left_standing (problem_in b) (loosenings_in b) ys b.root h.tree) (same_states b) ∙ its_good.left;
    branches = h.branches;
    once = h.once;
    honest = subst (λ (ys : List State). All but_open (tree_standing (problem_in b) (loosenings_in b) ys b.root h.tree)) (sym (same_states b))
        (All-from_recursion but_open (tree_standing (problem_in b) (loosenings_in b) (lemma_states_in b) b.root h.tree) its_good.all);
  }

some-none : (p : Problem) (i : ℕ) → first_crossed p ≡ Some i → first_crossed p ≡ None → ⊥
some-none p i e f = cc

pub book_has_tree : BookHasTree
book_has_tree b w e = elim w.nodes [ inl c ↦ absurd (some-none (problem_in b) c.axis c.first e) | inr h ↦ (h.tree, h.left, covered-tree b w h) ]

pub tree_is_honest : TreeIsHonest
tree_is_honest b w t left i f = elim w.nodes [
  | inl c ↦ absurd (some-none (problem_in b) c.axis c.first i.not_crossed)
  | inr h ↦
      let P : Standing → Type 0 = λ (x : Standing). IsTrue (is_honest (problem_in b) b.options.least_bits (loosenings_in b) x.state x.does) in
      subst (λ (ys : List State). All P (tree_standing (problem_in b) (loosenings_in b) ys b.root t)) (sym (same_states b))
      (All-from_recursion P (tree_standing (problem_in b) (loosenings_in b) (lemma_states_in b) b.root t)
      (node_good b w.whole h P (λ x q j. j) f i.is_tree b.root h.root).all)
]

pub rooted_tree_is_cover : RootedTreeIsCover
rooted_tree_is_cover b t left r i = record {
  loosenings = i.loosenings;
  count = i.few;
  lemma_trees = i.lemmas;
  not_crossed = i.not_crossed;
  left = i.states;
  lawful = subst (λ (S : State). Lawful (problem_in b) (loosenings_in b) (cover_lemmas b) S t i.states) r i.lawful;
  names = i.names;
}
