-- A book is one in version 5.
use Rattle.std.proofs.Common.{inl, inr, ℕ, ◌≤◌, List, [], ◌∷◌, ◌++◌, Option, Some, None, refl, arith}
use Rattle.std.specs.Prelude.{IfSome}
use Rattle.std.proofs.lemmas.List.Elements.{All-weaker}
use Rattle.interval_model.specs.Space.{Space}
use Rattle.cover_model.specs.Space.{IsGridSpace}
use Rattle.poly_graph.specs.Problem.{Problem}
use Rattle.cover_model.specs.State.{State, Loosenings, in_version}
use Rattle.cover_model.specs.Rules.{Line, closed, one, two, stays}
use Rattle.cover_model.specs.Derivation.{Tree, Lawful, at_closed, at_left, at_step, at_fork}
use Rattle.cover_model.specs.Fits.{IsShownAt}
use Rattle.cover_model.proofs.Later.{rule_later}
use Rattle.cert_model.specs.Written.{LemmaTree, AreLemmaTrees}
use Rattle.cover_data.specs.declared.margins.Margins.{Margins}
use Rattle.cover_data.specs.Margins.{loosenings_of, margins_in}
use Rattle.cover_data.proofs.Later.{lemma_in, shown_in, run_later}
use Rattle.cover_book.specs.Model.{NodeModel, live_node, crossed_node, closed_node, parted_node, stuck_node, BookModel, problem_in, margins_of, lemma_states_in, raised}
use Rattle.cover_book.specs.Keeps.{HasRun, IsNodeOf, IsCovered, IsCrossed, IsKeptLemma, IsBook}
use Rattle.cover_book.specs.Laws.{RaisedIsBook}
use Rattle.cover_book.specs.Limits.{IsWithinLimits}
use Rattle.cover_book.specs.Tree.{lemma_trees}

-- ---- trees

module _ (p : Problem) (s : Loosenings) (v : ℕ) (later : s.version ≤ v) where
  module _ (lemmas : List State) where
    lawful-later : {S : State} {t : Tree} {rest : List State} → Lawful p s lemmas S t rest → Lawful p (in_version v s) lemmas S t rest
    lawful-later (at_closed {S = S} {l = l} h) = at_closed (rule_later p s v later lemmas S l closed h)
    lawful-later (at_left {S = S} {l = l} h) = at_left (rule_later p s v later lemmas S l stays h)
    lawful-later (at_step {S = S} {S' = S'} {l = l} h r) = at_step (rule_later p s v later lemmas S l (one S') h) (lawful-later r)
    lawful-later (at_fork {S = S} {S' = T} {S'' = U} {l = l} h r r') = at_fork (rule_later p s v later lemmas S l (two T U) h) (lawful-later r) (lawful-later r')

  trees-later : (before : List State) (xs : List LemmaTree) → AreLemmaTrees p s before xs → AreLemmaTrees p (in_version v s) before xs
  trees-later before [] h = tt
  trees-later before (x ∷ xs) h =
      (record { fits = h.0.fits; marks = h.0.marks; lawful = lawful-later before h.0.lawful; names = h.0.names }, trees-later (before ++ (x.state ∷ [])) xs h.1)

-- ---- nodes

module _ (p : Problem) (m : Margins) (v : ℕ) (later : m.version ≤ v) where
  abbrev has-later : (lemmas : List State) (S : State) (steps : List Line) (l : Line) → HasRun p m lemmas S steps l → HasRun p (margins_in v m) lemmas S steps l
  has-later lemmas S steps l h = record {
    run = h.run;
    first = h.first;
    steps = h.steps;
    end = h.end;
    known = h.known;
    is_run = run_later p m v later h.run h.is_run;
    grid = h.grid;
    not_open = h.not_open;
  }

  node-later : (lemmas firsts : List State) (S : State) (x : NodeModel) → IsNodeOf p m lemmas firsts S x → IsNodeOf p (margins_in v m) lemmas firsts S x
  node-later lemmas firsts S (live_node T) h = h
  node-later lemmas firsts S (crossed_node i) h = h
  node-later lemmas firsts S (closed_node steps l) h = (has-later lemmas S steps l h.0, h.1)
  node-later lemmas firsts S (stuck_node steps l T) h = (has-later lemmas S steps l h.0, h.1, h.2, h.3)
  node-later lemmas firsts S (parted_node steps l c) h = (has-later lemmas S steps l h.0, h.1, h.2, h.3, h.4, h.5)

-- ---- the book

module _ (b : BookModel) (w : IsBook b) where
  abbrev p : Problem
  p = problem_in b

  abbrev m : Margins
  m = margins_of b.options

  at-most-5 : m.version ≤ 5
  at-most-5 = elim w.limits.margins.version_is [ inl e ↦ omega (arith, e) | inr e ↦ omega (arith, e) ]

  limits-later : IsWithinLimits b.problem (raised b).options
  limits-later = record {
    margins = record {
      some_delta = w.limits.margins.some_delta;
      few_delta = w.limits.margins.few_delta;
      above_delta = w.limits.margins.above_delta;
      few_margin = w.limits.margins.few_margin;
      few_least = w.limits.margins.few_least;
      version_is = inr refl;
    };
    budget = w.limits.budget;
    axes = w.limits.axes;
    atoms = w.limits.atoms;
  }

  kept-later : (L : State) → IsKeptLemma p (loosenings_of m) L → IsKeptLemma p (in_version 5 (loosenings_of m)) L
  kept-later L h = record { fits = h.fits; lemma = lemma_in p (loosenings_of m) 5 L h.lemma }

  point-later : (o : Option Space) → IfSome o (λ (x : Space). IsShownAt p (loosenings_of m) x × IsGridSpace x) →
      IfSome o (λ (x : Space). IsShownAt p (in_version 5 (loosenings_of m)) x × IsGridSpace x)
  point-later None h = h
  point-later (Some x) h = (shown_in p (loosenings_of m) 5 x h.0, h.1)

  crossed-later : IsCrossed b → IsCrossed (raised b)
  crossed-later h = record { axis = h.axis; first = h.first; nodes = h.nodes; branches = h.branches; no_point = h.no_point }

  covered-later : IsCovered b → IsCovered (raised b)
  covered-later h = record {
    not_crossed = h.not_crossed;
    firsts = h.firsts;
    count = h.count;
    root = h.root;
    fits = h.fits;
    each = λ n S x f g. node-later p m 5 at-most-5 (lemma_states_in b) h.firsts S x (h.each n S x f g);
    tree = h.tree;
    numbers = h.numbers;
    left = h.left;
    is_tree = h.is_tree;
    once = h.once;
    branches = h.branches;
  }

  is-raised : IsBook (raised b)
  is-raised = record {
    whole = w.whole;
    limits = limits-later;
    kept = All-weaker (IsKeptLemma p (loosenings_of m)) (IsKeptLemma p (in_version 5 (loosenings_of m))) kept-later b.kept w.kept;
    lemmas = trees-later p (loosenings_of m) 5 at-most-5 b.kept (lemma_trees b) w.lemmas;
    lemma_grids = w.lemma_grids;
    few_lemmas = w.few_lemmas;
    budget = w.budget;
    count = w.count;
    point = point-later b.point w.point;
    nodes = elim w.nodes [ inl h ↦ inl (crossed-later h) | inr h ↦ inr (covered-later h) ];
  }

pub raised_is_book : RaisedIsBook
raised_is_book b w = is-raised b w
