-- A state that was searched on by a book of its own.
use Rattle.std.proofs.Common.{◌≡◌, inl, inr, ℕ, suc, ◌+◌, ◌≤◌, List, [], ◌∷◌, ◌++◌, length, All, true, Option, Some, None, true≢false, refl, ap, sym, ◌∙◌, subst, arith}
use Rattle.std.specs.Prelude.{slice_get, Vec}
use Rattle.std.specs.Global.{Global}
use Rattle.std.specs.List.{list_any}
use Rattle.std.specs.Option.{IfSome}
use Rattle.poly_graph.specs.ProblemViews.{Parts, problem_of}
use Rattle.cover_model.specs.State.{State}
use Rattle.cover_model.specs.Derivation.{Tree, Lawful}
use Rattle.cover_model.specs.Fits.{IsShownAt}
use Rattle.cover_data.specs.declared.margins.Options.{Options}
use Rattle.cover_data.specs.declared.stored.StoredState.{StoredState}
use Rattle.cover_data.specs.Margins.{margins_of, loosenings_of, options_in}
use Rattle.interval_model.specs.Space.{Space}
use Rattle.cert_model.specs.Accepted.{most_lemmas}
use Rattle.cert_model.specs.AnswerText.{has_open}
use Rattle.cert_model.specs.Due.{Standing}
use Rattle.cert_model.specs.Written.{AreLemmaTrees, IsHonestTree, LemmaTree, NamesWell, lemma_states, lemmas_lines, left_standing, tree_branches}
use Rattle.cover_book.specs.Keeps.{IsBook, IsKeptLemma}
use Rattle.cover_book.specs.Laws.{IsTreeOfBook}
use Rattle.cover_book.specs.Left.{LeavesDue}
use Rattle.cover_book.specs.Model.{BookModel, NodeModel, live_node, crossed_node, closed_node, parted_node, stuck_node, lemma_states_in, problem_in, loosenings_in}
use Rattle.cover_book.specs.Tree.{lemma_trees}
use Rattle.cover_book.specs.Verdict.{is_live}
use Rattle.cover_book.proofs.Carries.{all_lemmas}
use Rattle.cover_book.proofs.Kept.{same_states}
use Rattle.cover_book.proofs.Meaning.{tree_is_honest}
use Rattle.cert_text.specs.Lines.{HasAppended}
use Rattle.cert_text.proofs.Leftovers.{left_tells_of_nodes}
use Rattle.cert_resume.specs.Answer.{TellsOfOwn}
use Rattle.cert_resume.specs.Calls.{IsFoundPoint, IsOpened, IsPointNoted, with_budget}
use Rattle.cert_resume.specs.Going.{HasNoted, HasSearched, MayGoOn, options_now}
use Rattle.cert_resume.specs.Request.{IsVersionOn}
use Rattle.cert_resume.specs.Searched.{IsSearchedOn}
use Rattle.cert_resume.specs.declared.going.Going.{Going}

-- ---- the live nodes of a book

abbrev SomeLive : List NodeModel → Type 0
SomeLive nodes = (n : ℕ) × (S : State) × (slice_get nodes n ≡ Some (live_node S))

one-on : (x : NodeModel) (nodes : List NodeModel) → SomeLive nodes → SomeLive (x ∷ nodes)
one-on x nodes f = (suc f.0, f.1, f.2)

some-live : (nodes : List NodeModel) → list_any is_live nodes ≡ true → SomeLive nodes
some-live [] e = absurd (true≢false (sym e))
some-live (live_node S ∷ nodes) e = (0, S, refl)
some-live (crossed_node i ∷ nodes) e = one-on (crossed_node i) nodes (some-live nodes e)
some-live (closed_node steps l ∷ nodes) e = one-on (closed_node steps l) nodes (some-live nodes e)
some-live (parted_node steps l c ∷ nodes) e = one-on (parted_node steps l c) nodes (some-live nodes e)
some-live (stuck_node steps l S ∷ nodes) e = one-on (stuck_node steps l S) nodes (some-live nodes e)

-- ---- its tree

-- the tree and the lemmas, by the lemmas and the state that the book opened with
record TreeFacts (q : Parts) (o : Options) (kept : List State) (S : State) (xs : List LemmaTree) (t : Tree) (left : List Standing) : Type 0 where
  pub lemmas : AreLemmaTrees (problem_of q) (loosenings_of (margins_of o)) kept xs
  pub few : length (kept ++ lemma_states xs) ≤ most_lemmas
  pub may : All (IsKeptLemma (problem_of q) (loosenings_of (margins_of o))) (kept ++ lemma_states xs)
  pub rest : List State
  pub lawful : Lawful (problem_of q) (loosenings_of (margins_of o)) (kept ++ lemma_states xs) S t rest
  pub names : NamesWell (problem_of q) t
  pub stands : left_standing (problem_of q) (loosenings_of (margins_of o)) (kept ++ lemma_states xs) S t ≡ left
  pub honest : IsHonestTree (problem_of q) o.least_bits (loosenings_of (margins_of o)) (kept ++ lemma_states xs) S t

module _ (b : BookModel) (w : IsBook b) (none : b.point ≡ None) (due : LeavesDue b) (t : Tree) (left : List Standing) (i : IsTreeOfBook b t left) where
  tree-facts : TreeFacts b.problem b.options b.kept b.root (lemma_trees b) t left
  tree-facts = record {
    lemmas = i.lemmas;
    few = omega (arith, i.few, length-states b.kept (lemma_trees b));
    may = subst (All (IsKeptLemma (problem_in b) (loosenings_in b))) (sym (same_states b)) (all_lemmas b w);
    rest = i.states;
    lawful = i.lawful;
    names = i.names;
    stands = i.stands;
    honest = tree_is_honest b w t left i (λ n S l. (due none n S l).not_shown);
  }
    where
      length-map-states : (xs : List LemmaTree) → length (lemma_states xs) ≡ length xs
      length-map-states [] = refl
      length-map-states (x ∷ xs) = ap suc (length-map-states xs)

      length-states : (ks : List State) (xs : List LemmaTree) → length (ks ++ lemma_states xs) ≡ length ks + length xs
      length-states [] xs = omega (arith, length-map-states xs)
      length-states (k ∷ ks) xs = omega (arith, length-states ks xs)

  all-spent : has_open left ≡ true → b.options.budget ≤ b.branches
  all-spent e = let f = some-live b.nodes (sym (left_tells_of_nodes b w t left i).live ∙ e) in (due none f.0 f.1 f.2).spent

-- ---- all of it

-- a tree over all lemmas so far
record Stands (q : Parts) (o : Options) (S : State) (lemmas : List State) (t : Tree) (left : List Standing) : Type 0 where
  pub few : length lemmas ≤ most_lemmas
  pub may : All (IsKeptLemma (problem_of q) (loosenings_of (margins_of o))) lemmas
  pub rest : List State
  pub lawful : Lawful (problem_of q) (loosenings_of (margins_of o)) lemmas S t rest
  pub stands : left_standing (problem_of q) (loosenings_of (margins_of o)) lemmas S t ≡ left
  pub honest : IsHonestTree (problem_of q) o.least_bits (loosenings_of (margins_of o)) lemmas S t

-- the options and the version of a book that was searched on from one that opened in the version so far, where its version was taken over
module _ (q : Parts) (o : Options) (S : State) (lemmas : List State) (n : ℕ) (g g2 : Going) (b b' : BookModel) (opened : IsOpened q (options_now o g) lemmas n S b) (on : IsSearchedOn b b')
    (taken : g2.version ≡ b'.options.version) where
  options-on : b'.options ≡ with_budget (options_now o g2) n
  options-on = on.options ∙ ap (λ (x : BookModel). options_in b'.options.version x.options) opened ∙ ap (λ (v : ℕ). with_budget (options_in v o) n) (sym taken)

  version-on : IsVersionOn g.version g2.version
  version-on = elim on.version [ inl e ↦ inl (taken ∙ e ∙ ap (λ (x : BookModel). x.options.version) opened) | inr e ↦ inr (taken ∙ e) ]

module _ (q : Parts) (o : Options) (S : State) (g g2 : Going) (L1 L3 : Vec StoredState Global) (b b' : BookModel) (m : MayGoOn q (options_now o g) g) (opened : IsOpened q (options_now o g) g.lemmas.items g.budget S b) (on : IsSearchedOn b b')
    (noted : HasNoted b' (record g { lemmas = L1 }) g2) (all : L3.items ≡ lemma_states_in b') where
  abbrev xs : List LemmaTree
  xs = lemma_trees b'

  abbrev now : Options
  now = options_now o g2

  abbrev own : Options
  own = with_budget now g.budget

  same-problem : b'.problem ≡ q
  same-problem = on.problem ∙ ap (λ (x : BookModel). x.problem) opened

  same-options : b'.options ≡ own
  same-options = options-on q o S g.lemmas.items g.budget g g2 b b' opened on noted.version

  same-kept : b'.kept ≡ g.lemmas.items
  same-kept = on.kept ∙ ap (λ (x : BookModel). x.kept) opened

  same-root : b'.root ≡ S
  same-root = on.root ∙ ap (λ (x : BookModel). x.root) opened

  facts : TreeFacts q own g.lemmas.items S xs noted.tree noted.left
  facts =
      subst (λ (r : Parts). TreeFacts r own g.lemmas.items S xs noted.tree noted.left) same-problem
      (subst (λ (u : Options). TreeFacts b'.problem u g.lemmas.items S xs noted.tree noted.left) same-options
      (subst (λ (ks : List State). TreeFacts b'.problem b'.options ks S xs noted.tree noted.left) same-kept
      (subst (λ (T : State). TreeFacts b'.problem b'.options b'.kept T xs noted.tree noted.left) same-root
      (tree-facts b' noted.is_book noted.no_point on.left noted.tree noted.left noted.is_tree))))

  all-states : L3.items ≡ g.lemmas.items ++ lemma_states xs
  all-states = all ∙ sym (same_states b') ∙ ap (λ (ks : List State). ks ++ lemma_states xs) same-kept

  stands : Stands q now S L3.items noted.tree noted.left
  stands = subst (λ (ls : List State). Stands q now S ls noted.tree noted.left) (sym all-states)
      (record { few = facts.few; may = facts.may; rest = facts.rest; lawful = facts.lawful; stands = facts.stands; honest = facts.honest })

  branches : g2.budget + tree_branches noted.tree ≡ g.budget
  branches = omega (arith, noted.budget, noted.is_tree.branches)

  pub searched : HasSearched q now S g (record g2 { lemmas = L3 })
  searched = record {
    version = version-on q o S g.lemmas.items g.budget g g2 b b' opened on noted.version;
    may = record { kept = stands.may; few = stands.few; budget = omega (arith, m.budget, branches) };
    lemmas = xs;
    learns = record {
      learned = subst (λ (n : ℕ). HasAppended g.learned.items (lemmas_lines n xs) g2.learned.items) (ap (λ (ks : List State). length ks) same-kept) noted.learned;
      states = all-states;
      lemma_trees = facts.lemmas;
    };
    tree = noted.tree;
    main = noted.main;
    graft = λ l. record { left = stands.rest; lawful = stands.lawful; names = facts.names };
    honest = stands.honest;
    budget = branches;
    own = λ ys h. subst (λ (left : List Standing). TellsOfOwn g2.own (ys ++ left)) (sym stands.stands) (noted.own ys h);
    spent = λ e. omega (
      arith,
      branches,
      noted.budget,
      noted.is_tree.branches,
      ap (λ (u : Options). u.budget) same-options,
      all-spent b' noted.is_book noted.no_point on.left noted.tree noted.left noted.is_tree (ap has_open (sym stands.stands) ∙ e),
    );
    others = noted.others;
  }

-- ---- a point

if-some : {X : Type 0} (P : X → Type 0) (o : Option X) (x : X) → o ≡ Some x → IfSome o P → P x
if-some P None x e h = absurd (cc)
if-some P (Some y) x e h = let same : y ≡ x = cc in subst P same h

-- the point that a searched book keeps is shown
pub shown : (q : Parts) (o : Options) (S : State) (lemmas : List State) (n : ℕ) (g g2 : Going) (b b' : BookModel) → IsOpened q (options_now o g) lemmas n S b → IsSearchedOn b b' → IsBook b' →
    (x : Space) → IsPointNoted b' g2 x → IsFoundPoint q o g.version g2 x
shown q o S lemmas n g g2 b b' opened on w x e =
    let h : IsShownAt (problem_of b'.problem) (loosenings_of (margins_of b'.options)) x = (if-some _ b'.point x e.0 w.point).0 in (
      version-on q o S lemmas n g g2 b b' opened on e.1,
      subst (λ (r : Parts). IsShownAt (problem_of r) (loosenings_of (margins_of (options_now o g2))) x) (on.problem ∙ ap (λ (y : BookModel). y.problem) opened)
          (subst (λ (u : Options). IsShownAt (problem_of b'.problem) (loosenings_of (margins_of u)) x) (options-on q o S lemmas n g g2 b b' opened on e.1) h),
    )
