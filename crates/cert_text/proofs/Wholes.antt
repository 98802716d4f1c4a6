-- The whole texts: a header, a body and an end, behind one another.
use Rattle.std.proofs.Common.{◌≡◌, inl, inr, ℕ, zero, suc, ◌<◌, ◌≤◌, ◌^◌, List, [], ◌∷◌, ◌++◌, map, length, get_or, Option, Some, None, IsTrue, true≢false, ap, sym, ◌∙◌, subst, arith}
use Rattle.std.specs.Prelude.{slice_get}
use Rattle.std.specs.List.{AllByRecursion}
use Rattle.std.proofs.lemmas.List.{length-map}
use Rattle.interval_model.specs.Space.{Space}
use Rattle.poly_graph.specs.Problem.{Axis, Problem, crossed_in, first_crossed}
use Rattle.cover_model.specs.State.{State, Loosenings}
use Rattle.cover_model.specs.Derivation.{Tree}
use Rattle.cert_read.specs.CertLine.{CertLine, cover, point_word, tree_word, end_word, crossing}
use Rattle.cover_model.specs.Fits.{IsShownAt}
use Rattle.cert_model.specs.Accepted.{IsAccepted, most_bytes}
use Rattle.cert_model.specs.Due.{Standing, at_point, left_open}
use Rattle.cert_model.specs.Laws.{CanBeWritten}
use Rattle.cert_model.specs.SessionLaws.{WrittenEnd, written_tree, written_crossing, end_lines}
use Rattle.cert_model.specs.Standing.{standing, IsHonest, branches}
use Rattle.cert_model.specs.Written.{AreLemmaTrees, cover_lines, lemmas_lines, point_line, point_lines}
use Rattle.cover_data.specs.declared.margins.Margins.{Margins}
use Rattle.cover_data.specs.declared.margins.Options.{Options}
use Rattle.cover_data.specs.Margins.{AreMargins, loosenings_of}
use Rattle.cover_data.specs.Views.{step_line, end_line}
use Rattle.cover_book.specs.declared.node.Learned.{Learned}
use Rattle.cover_book.specs.Model.{NodeModel, crossed_node, BookModel, IsOfRoot, LearnedLemma, lemma_count, problem_in, margins_of, loosenings_in}
use Rattle.cover_book.specs.declared.node.Node.{Node}
use Rattle.cover_book.specs.declared.node.Node.TheVariants.{Live, Crossed, Closed, Parted, Stuck}
use Rattle.cover_book.specs.Views.{learned_of, node_of}
use Rattle.cover_book.specs.Tree.{TreeOf, of_live, of_closed, of_stuck, of_parted, lemma_tree, lemma_trees}
use Rattle.cover_book.specs.Keeps.{IsBook, IsCrossed, IsCovered}
use Rattle.cover_book.specs.Laws.{IsTreeOfBook}
use Rattle.cover_book.proofs.Meaning.{book_has_tree}
use Rattle.cover_book.proofs.Opens.{first_crosses}
use Rattle.cert_text.specs.Texts.{book_lines, crossed_lines, book_text, crossed_text}
use Rattle.cert_text.specs.Lines.{HasAppended, most_atoms}
use Rattle.cert_text.specs.Session.{IsEndOf, body_lines, HasAppendedBody}
use Rattle.cert_text.specs.Parts.{header_lines, whole_point, HasShortLines, learned_lines, HasAppendedTree, HasAppendedCover, IsCountedCrossing}
use Rattle.cert_text.specs.Means.{EndsHonestly, HasAppendedTreeOf, IsTreeText, IsCrossedText, IsCertificateOf}
use Rattle.cert_text.proofs.Spelling.{both_appended}
use Rattle.cert_text.proofs.Counted.{few_numbers}
use Rattle.cert_text.proofs.GroupWords.{end_few}
use Rattle.cert_text.proofs.Margins.{header_fits}
use Rattle.cert_text.proofs.Proved.{book_text_is_accepted, book_text_branches, book_text_ends_honestly, book_text_is_honest, crossed_text_is_accepted, point_text_is_accepted}

-- ---- what a book has

short-lines : (p : Problem) (s : Loosenings) (before : List State) (xs : List Learned) → length p.atoms ≤ most_atoms → AreLemmaTrees p s before (map lemma_tree (map learned_of xs)) → AllByRecursion HasShortLines xs
short-lines p s before [] h g = tt
short-lines p s before (x ∷ xs) h g = (
  record { marks = omega (arith, h, g.0.marks); end = end_few p s before x.state (map step_line x.lines.steps.items) (end_line x.lines.end) g.0.lawful },
  short-lines p s (before ++ (x.state ∷ [])) xs h g.1,
)

pub lemmas_short : (b : BookModel) → IsBook b → (xs : List Learned) → map learned_of xs ≡ b.lemmas → AllByRecursion HasShortLines xs
lemmas_short b w xs e = short-lines (problem_in b) (loosenings_in b) b.kept xs w.limits.atoms
    (subst (λ (ys : List LearnedLemma). AreLemmaTrees (problem_in b) (loosenings_in b) b.kept (map lemma_tree ys)) (sym e) w.lemmas)

crossed-within : (axes : List Axis) (i : ℕ) → IsTrue (crossed_in axes i) → i < length axes
crossed-within [] i h = absurd (true≢false (sym h))
crossed-within (a ∷ axes) zero h = omega arith
crossed-within (a ∷ axes) (suc i) h = omega (arith, crossed-within axes i h)

crossing-few : (b : BookModel) → IsBook b → IsCrossed b → (i : ℕ) → b.nodes ≡ crossed_node i ∷ [] → i < 2 ^ 32
crossing-few b w h i e = let f = h.nodes in let q : i ≡ h.axis = cc in
    omega (arith, q, w.limits.axes, crossed-within (problem_in b).axes h.axis (first_crosses (problem_in b) h.axis h.first))

never-crossed : (b : BookModel) → IsCovered b → (i : ℕ) → b.nodes ≡ crossed_node i ∷ [] → ⊥
never-crossed b h i e = h.each 0 b.root (crossed_node i) h.root (ap (λ (xs : List NodeModel). slice_get xs 0) e)

pub crossing_counts : (b : BookModel) → IsBook b → (nodes : List NodeModel) → nodes ≡ b.nodes → IsCountedCrossing nodes
crossing_counts b w nodes e i f = elim w.nodes [
  | inl h ↦ crossing-few b w h i (sym e ∙ f)
  | inr h ↦ absurd (never-crossed b h i (sym e ∙ f))
]

-- ---- the body

body-end : (b : BookModel) → IsBook b → (old new : List ℕ) → HasAppendedCover old b.nodes new → (e : WrittenEnd) × IsEndOf b e × HasAppended old (end_lines e) new
body-end b w old new a = elim w.nodes [
  | inl h ↦ (written_crossing h.axis, h.first, a.crossing h.axis h.nodes)
  | inr h ↦ by-tree (book_has_tree b w h.not_crossed)
]
  where
    by-tree : ((t : Tree) × (left : List Standing) × IsTreeOfBook b t left) → (e : WrittenEnd) × IsEndOf b e × HasAppended old (end_lines e) new
    by-tree f = (written_tree f.0, (f.1, f.2), a.tree f.0 f.2.numbers f.1 f.2.is_tree (few_numbers b f.0 f.1 f.2))

-- the lemmas that it learned
pub lemmas_of_appended : (b : BookModel) (xs : List Learned) (q : ℕ) (t0 t1 : List ℕ) → map learned_of xs ≡ b.lemmas → q ≡ length b.kept → HasAppended t0 (learned_lines q xs) t1 →
    HasAppended t0 (lemmas_lines (length b.kept) (lemma_trees b)) t1
lemmas_of_appended b xs q t0 t1 these first h =
    subst (λ (n : ℕ). HasAppended t0 (lemmas_lines n (lemma_trees b)) t1) first (subst (λ (ys : List LearnedLemma). HasAppended t0 (lemmas_lines q (map lemma_tree ys)) t1) these h)

-- the tree
pub tree_of_appended : (b : BookModel) → IsBook b → (old new : List ℕ) → HasAppendedTree old b.nodes new → first_crossed (problem_in b) ≡ None → HasAppendedTreeOf old b new
tree_of_appended b w old new a e = let f = book_has_tree b w e in (f.0, f.1, f.2, a f.0 f.2.numbers f.1 f.2.is_tree (few_numbers b f.0 f.1 f.2))

pub body_appended : (b : BookModel) → IsBook b → (t0 t1 t2 t3 t4 : List ℕ) →
    HasAppended t0 (lemmas_lines (length b.kept) (lemma_trees b)) t1 → HasAppended t1 (tree_word ∷ []) t2 → HasAppendedCover t2 b.nodes t3 → HasAppended t3 (end_word ∷ []) t4 → HasAppendedBody t0 b t4
body_appended b w t0 t1 t2 t3 t4 l t c e =
    let f = body-end b w t2 t3 c in (
      f.0,
      f.1,
      both_appended t0 t1 t4 (lemmas_lines (length b.kept) (lemma_trees b)) (tree_word ∷ (end_lines f.0 ++ (end_word ∷ []))) l
          (both_appended t1 t2 t4 (tree_word ∷ []) (end_lines f.0 ++ (end_word ∷ [])) t (both_appended t2 t3 t4 (end_lines f.0) (end_word ∷ []) f.2 e)),
    )

-- ---- the certificate of a book that opened with no lemmas

can-be : (ls : List CertLine) (text : List ℕ) → HasAppended [] ls text → length text ≤ most_bytes → CanBeWritten ls
can-be ls text a h = (a.spelled, subst (λ (t : List ℕ). length t ≤ most_bytes) a.written h)

module _ (b : BookModel) (w : IsBook b) (none : b.kept ≡ []) (rooted : IsOfRoot b) (text : List ℕ) (short : length text ≤ most_bytes) where
  tree-text : (t : Tree) (left : List Standing) → IsTreeOfBook b t left → HasAppended [] (book_lines b t) text → IsTreeText b text
  tree-text t left i all =
      let can : CanBeWritten (book_lines b t) = can-be (book_lines b t) text all short in
      let same : book_text b t ≡ text = sym all.written in
      record {
        tree = t;
        left = left;
        is_tree = i;
        text = all.written;
        accepted = subst (λ (x : List ℕ). IsAccepted (problem_in b) b.options.bound x (loosenings_in b) (left_open left)) same (book_text_is_accepted b t left i rooted none can);
        branches = subst (λ (x : List ℕ). branches (problem_in b) b.options.bound x ≡ b.branches) same (book_text_branches b t left i rooted none can);
        ends_honestly = subst (EndsHonestly b) same (book_text_ends_honestly b t left i rooted none can);
        honest = λ f. subst (IsHonest (problem_in b) b.options.bound b.options.least_bits) same (book_text_is_honest b w t left i rooted none can f);
      }

  crossed-text : (i : ℕ) → first_crossed (problem_in b) ≡ Some i → HasAppended [] (crossed_lines b i) text → IsCrossedText b text
  crossed-text i e all =
      let same : crossed_text b i ≡ text = sym all.written in
      let law = crossed_text_is_accepted b w none i e (can-be (crossed_lines b i) text all short) in
      record {
        axis = i;
        first = e;
        text = all.written;
        accepted = subst (λ (x : List ℕ). IsAccepted (problem_in b) b.options.bound x (loosenings_in b) (left_open [])) same law.0;
        standing = subst (λ (x : List ℕ). standing (problem_in b) b.options.bound x ≡ []) same law.1;
      }

  by-end : (e : WrittenEnd) → IsEndOf b e → HasAppended [] (cover_lines (loosenings_in b) b.options.bound (lemma_trees b) (end_lines e)) text → IsCertificateOf b text
  by-end (written_tree t) i a = inr (tree-text t i.0 i.1 a)
  by-end (written_crossing i) e a = inl (crossed-text i e a)

  -- what the code wrote is the book's certificate
  pub certificate : (o : Options) (k : ℕ) (t0 t1 t2 : List ℕ) → t0 ≡ [] → o ≡ b.options → k ≡ lemma_count b → HasAppended t0 (header_lines (loosenings_of (margins_of o)) o.bound) t1 → HasAppended t1 (cover k ∷ []) t2 →
      HasAppendedBody t2 b text → IsCertificateOf b text
  certificate o k t0 t1 t2 start same count h c f =
      let many : k ≡ length (lemma_trees b) = omega (arith, count, length-map b.lemmas lemma_tree, ap (λ (xs : List State). length xs) none) in
      let first : length b.kept ≡ 0 = ap (λ (xs : List State). length xs) none in
      let body : HasAppended t2 (body_lines 0 (lemma_trees b) f.0) text = subst (λ (n : ℕ). HasAppended t2 (body_lines n (lemma_trees b) f.0) text) first f.2 in
      let all : HasAppended t0 (header_lines (loosenings_of (margins_of o)) o.bound ++ (cover k ∷ body_lines 0 (lemma_trees b) f.0)) text =
      both_appended t0 t1 text (header_lines (loosenings_of (margins_of o)) o.bound) _ h (both_appended t1 t2 text (cover k ∷ []) (body_lines 0 (lemma_trees b) f.0) c body) in
      by-end f.0 f.1
      (subst (λ (n : ℕ). HasAppended [] (header_lines (loosenings_in b) b.options.bound ++ (cover n ∷ body_lines 0 (lemma_trees b) f.0)) text) many
      (subst (λ (p : Options). HasAppended [] (header_lines (loosenings_of (margins_of p)) p.bound ++ (cover k ∷ body_lines 0 (lemma_trees b) f.0)) text) same
      (subst (λ (a : List ℕ). HasAppended a (header_lines (loosenings_of (margins_of o)) o.bound ++ (cover k ∷ body_lines 0 (lemma_trees b) f.0)) text) start all)))

-- ---- points

pub whole_point_appended : (space : Space) (a b c d : List ℕ) → HasAppended a (point_word ∷ []) b → HasAppended b (map point_line space) c → HasAppended c (end_word ∷ []) d → HasAppended a (whole_point space) d
whole_point_appended space a b c d p x e = both_appended a b d (point_word ∷ []) _ p (both_appended b c d (map point_line space) (end_word ∷ []) x e)

pub point_written : (s : Loosenings) (bound : Option ℕ) (space space' : Space) (old a text : List ℕ) → old ≡ [] → space' ≡ space → HasAppended old (header_lines s bound) a → HasAppended a (whole_point space') text →
    HasAppended [] (point_lines s bound space) text
point_written s bound space space' old a text none same h x =
    subst (λ (o : List ℕ). HasAppended o (point_lines s bound space) text) none
    (subst (λ (y : Space). HasAppended old (point_lines s bound y) text) same (both_appended old a text (header_lines s bound) (whole_point space') h x))

pub point_means : (p : Problem) (m : Margins) (bound : Option ℕ) (space : Space) (text : List ℕ) → HasAppended [] (point_lines (loosenings_of m) bound space) text → length text ≤ most_bytes → AreMargins m →
    IsShownAt p (loosenings_of m) space → IsAccepted p bound text (loosenings_of m) (at_point space)
point_means p m bound space text a h k g = subst (λ (x : List ℕ). IsAccepted p bound x (loosenings_of m) (at_point space)) (sym a.written)
    (point_text_is_accepted p bound (loosenings_of m) (header_fits m k) space g (can-be (point_lines (loosenings_of m) bound space) text a h))

-- ---- what is appended to the body

no-tree : (nodes : List NodeModel) (i : ℕ) → nodes ≡ crossed_node i ∷ [] → {t : Tree} {ns : List ℕ} {xs : List Standing} → TreeOf nodes 0 t ns xs → ⊥
no-tree nodes i e (of_live f) = cc
no-tree nodes i e (of_closed f) = cc
no-tree nodes i e (of_stuck f) = cc
no-tree nodes i e (of_parted f g h) = cc

pub crossing_cover : (old new : List ℕ) (nodes : List NodeModel) (i : ℕ) → nodes ≡ crossed_node i ∷ [] → HasAppended old (crossing i ∷ []) new → HasAppendedCover old nodes new
crossing_cover old new nodes i e a = record {
  crossing = λ j f. let same : i ≡ j = cc in subst (λ (k : ℕ). HasAppended old (crossing k ∷ []) new) same a;
  tree = λ t ns xs w h. absurd (no-tree nodes i e w);
}

pub tree_cover : (old new : List ℕ) (nodes : List NodeModel) → ((i : ℕ) → nodes ≡ crossed_node i ∷ [] → ⊥) → HasAppendedTree old nodes new → HasAppendedCover old nodes new
tree_cover old new nodes h a = record { crossing = λ i e. absurd (h i e); tree = a }

-- ---- a node alone

pub one_node : (nodes : List Node) (x : Node) → length nodes ≡ 1 → x ≡ get_or nodes 0 x → map node_of nodes ≡ node_of x ∷ []
one_node [] x h e = absurd (omega (arith, h))
one_node (y ∷ []) x h e = ap (λ (z : Node). node_of z ∷ []) (sym e)
one_node (y ∷ z ∷ nodes) x h e = absurd (omega (arith, h))

pub crossed_is : (x : Node) (i : ℕ) → node_of x ≡ crossed_node i → x ≡ Crossed i
crossed_is (Live S) i e = cc
crossed_is (Crossed j) i e = cc
crossed_is (Closed ls) i e = cc
crossed_is (Parted ls c) i e = cc
crossed_is (Stuck ls S) i e = cc

pub many_nodes : (nodes : List Node) (i : ℕ) → (length nodes ≡ 1 → ⊥) → map node_of nodes ≡ crossed_node i ∷ [] → ⊥
many_nodes nodes i h e = h (omega (arith, length-map nodes node_of, ap (λ (xs : List NodeModel). length xs) e))
