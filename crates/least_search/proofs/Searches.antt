-- The searches so far, what they leave of the budget, and what comes of one.
use Rattle.std.proofs.Common.{◌≡◌, ◌<◌, ◌≤◌, ℕ, ◌+◌, List, [], ◌∷◌, true, false, cond, Option, Some, None, refl, ap, sym, subst, ◌∙◌, arith}
use Rattle.std.specs.Prelude.{IfSome, is_some, option_map}
use Rattle.std.proofs.lemmas.List.Elements.{All-cons, All-nil}
use Rattle.dyadic.specs.Rounding.{Ext, ext_at_most, finite}
use Rattle.dyadic.specs.Views.{dyadic_of, ext_of}
use Rattle.dyadic.specs.declared.dy.Dy.{Dy}
use Rattle.dyadic.specs.declared.dy.Ext as code
use Rattle.interval_model.specs.Space.{Space}
use Rattle.poly_graph.specs.ProblemViews.{Parts, problem_of}
use Rattle.cover_data.specs.declared.margins.Options.{Options}
use Rattle.cover_data.specs.Margins.{margins_in, margins_of, options_in}
use Rattle.cert_model.specs.Due.{is_crossed_box}
use Rattle.cert_model.specs.Least.{lower_end, upper_at}
use Rattle.cover_book.specs.Model.{BookModel}
use Rattle.cover_book.specs.Verdict.{has_live, has_stuck, may_branch, verdict_of}
use Rattle.cover_book.specs.declared.verdict.BookVerdict.{BookVerdict}
use Rattle.cover_book.specs.declared.verdict.BookVerdict.TheVariants as verdict
use Rattle.goal_limit.specs.Lows.{root_low}
use Rattle.least_search.specs.Aims.{IsRootBound}
use Rattle.least_search.specs.declared.aim.Aim.{Aim}
use Rattle.least_search.specs.declared.bounds.Bounds.{Bounds}
use Rattle.least_search.specs.declared.found.Lower.TheVariants as shown
use Rattle.least_search.specs.declared.limits.Limited.{Limited}
use Rattle.least_search.specs.declared.limits.Phase.{Phase}
use Rattle.goal_limit.specs.Tries.{Span, is_between}
use Rattle.least_search.specs.Limits.{IsLimited, IsNotBelow, StaysAbove}
use Rattle.least_search.specs.Found.{AreBoundsOf, AreFar, AreUsed, Begins, BeginsFor, IsBookOf, IsLater, IsLimitSearch, IsLower, IsNextSearch, IsSearchOf, IsSearchVersion, IsShownFor, IsUsed, Leaves, low_end, span_of, span_to}
use Rattle.least_search.proofs.Near.{at_most_itself, at_most_through, between_above, between_wider}

-- ---- with better bounds

module _ (q : Parts) (g : ℕ) (o : Options) (low low' high high' : Ext) (rises : ext_at_most low low' ≡ true) (falls : ext_at_most high' high ≡ true) where
  kept-through : (x : Option Space) → IfSome x (λ y. ext_at_most high (upper_at (problem_of q) g y) ≡ true) → IfSome x (λ y. ext_at_most high' (upper_at (problem_of q) g y) ≡ true)
  kept-through None h = tt
  kept-through (Some y) h = at_most_through high' high (upper_at (problem_of q) g y) falls h

  used-stays : (b : BookModel) → IsUsed q g o low high b → IsUsed q g o low' high' b
  used-stays b h = record {
    bits = h.bits;
    limit = h.limit;
    searched = h.searched;
    best = h.best;
    shown = h.shown;
    between = h.between;
    closed = λ e. at_most_through (finite h.limit) low low' (h.closed e) rises;
    found = kept-through b.point h.found;
  }

  pub used_better : (first : BookModel) (later : List BookModel) → AreUsed q g o low high first later → AreUsed q g o low' high' first later
  used_better first later h = record {
    start = h.start;
    kept = h.kept;
    best = at_most_through high' high (upper_at (problem_of q) g h.start) falls h.best;
    all = λ k d i. used-stays _ (h.all k d i);
  }

-- ---- more searches

-- the first one
pub first_leaves : (q : Parts) (g : ℕ) (o : Options) (start : Space) (left : ℕ) → Begins q o start left → Leaves q g o left
first_leaves q g o start left h = record { first = h.first; is_first = h.is_first; later = []; are_later = All-nil (IsLater q g o); sum = omega (arith, h.sum) }

first-used : (q : Parts) (g : ℕ) (o : Options) (low : Ext) (start : Space) (left : ℕ) (h : Begins q o start left) → AreUsed q g o low (upper_at (problem_of q) g start) h.first []
first-used q g o low start left h = record {
  start = start;
  kept = h.kept;
  best = at_most_itself (upper_at (problem_of q) g start);
  all = All-nil (IsUsed q g o low (upper_at (problem_of q) g start));
}

-- one more
pub more_leaves : (q : Parts) (g : ℕ) (o : Options) (b : BookModel) (left rest : ℕ) → Leaves q g o left → IsLater q g o b → rest + (1 + b.branches) ≡ left → Leaves q g o rest
more_leaves q g o b left rest h l e = record {
  first = h.first;
  is_first = h.is_first;
  later = b ∷ h.later;
  are_later = All-cons (IsLater q g o) b h.later l h.are_later;
  sum = omega (arith, h.sum, e);
}

more-used : (q : Parts) (g : ℕ) (o : Options) (low high : Ext) (first b : BookModel) (later : List BookModel) → AreUsed q g o low high first later → IsUsed q g o low high b → AreUsed q g o low high first (b ∷ later)
more-used q g o low high first b later h u = record { start = h.start; kept = h.kept; best = h.best; all = All-cons (IsUsed q g o low high) b later u h.all }

-- the book of a problem with a limit, asked for with another budget
pub limit_search : (q : Parts) (g : ℕ) (o n : Options) (v : ℕ) (l : Limited) (b : BookModel) → IsLimited q g l → margins_of n ≡ margins_in v (margins_of o) → n.bound ≡ o.bound → IsBookOf l.problem n b →
    IsLimitSearch q g o l.bits (dyadic_of l.limit) b
limit_search q g o n v l b h m e s = record {
  takes = h.takes;
  problem = ap problem_of s.problem ∙ h.problem;
  margins = ap margins_of s.options ∙ ap (margins_in b.options.version) m;
  bound = ap (λ (x : Options). x.bound) s.options ∙ e;
  alone = s.alone;
  root = s.root;
  book = s.book;
  verdict = s.verdict;
  left = s.left;
}

-- a book has no more branches than it was given
pub few_branches : (p : Parts) (n : Options) (b : BookModel) → IsBookOf p n b → b.branches ≤ n.budget
few_branches p n b s = subst (λ (x : Options). b.branches ≤ x.budget) s.options s.book.budget

-- ---- books without a point

none-unless : (o : Option Space) (v : BookVerdict) → (cond (is_some o) verdict.DeltaSat v ≡ verdict.DeltaSat → ⊥) → o ≡ None
none-unless None v h = refl
none-unless (Some x) v h = absurd (h refl)

-- a book whose verdict tells of no point has none
no_point : (b : BookModel) → (verdict_of b ≡ verdict.DeltaSat → ⊥) → b.point ≡ None
no_point b h = none-unless b.point (cond (has_live b) (cond (may_branch b) verdict.NotYet verdict.UnknownBudget) (cond (has_stuck b) verdict.UnknownWidth verdict.Unsat)) h

closed-differs : verdict.Unsat ≡ verdict.DeltaSat → ⊥
closed-differs e = cc

spent-differs : verdict.UnknownBudget ≡ verdict.DeltaSat → ⊥
spent-differs e = cc

narrow-differs : verdict.UnknownWidth ≡ verdict.DeltaSat → ⊥
narrow-differs e = cc

pub closed_no_point : (b : BookModel) → verdict_of b ≡ verdict.Unsat → b.point ≡ None
closed_no_point b e = no_point b (λ d. closed-differs (sym e ∙ d))

pub budget_no_point : (b : BookModel) → verdict_of b ≡ verdict.UnknownBudget → b.point ≡ None
budget_no_point b e = no_point b (λ d. spent-differs (sym e ∙ d))

pub width_no_point : (b : BookModel) → verdict_of b ≡ verdict.UnknownWidth → b.point ≡ None
width_no_point b e = no_point b (λ d. narrow-differs (sym e ∙ d))

-- ---- bounds

-- those of the declared box and of the first point
pub first_bounds : (a : Aim) (b : Bounds) (low : Option Dy) → b.lower ≡ shown.Root low → IsRootBound (problem_of a.problem.now) a.goal (option_map dyadic_of low) → is_crossed_box (problem_of a.problem.now) ≡ false →
    IsShownFor a b.point → ext_of b.upper ≡ upper_at (problem_of a.problem.now) a.goal b.point → b.tried ≡ None → IsSearchVersion b.version → BeginsFor a b.point b.budget → AreBoundsOf a b
unfolding first_leaves
first_bounds a b low is bound clear sure upper none version begins =
    let q : Parts = a.problem.now in
    let ends : low_end b.lower ≡ lower_end (root_low (problem_of q) a.goal) = ap low_end is ∙ ap lower_end (bound clear) in
    record {
      version = version;
      lower = subst (IsLower q a.goal (options_in b.version a.options.now)) (sym is) bound;
      root = subst (λ (e : Ext). ext_at_most (lower_end (root_low (problem_of q) a.goal)) e ≡ true) (sym ends) (at_most_itself (lower_end (root_low (problem_of q) a.goal)));
      shown = sure;
      upper = upper;
      tried = subst (IsNotBelow (low_end b.lower)) (sym none) tt;
      searches = first_leaves q a.goal a.options.now b.point b.budget begins;
      used = subst (λ (e : Ext). AreUsed q a.goal a.options.now (low_end b.lower) e begins.first []) (sym upper) (first-used q a.goal a.options.now (low_end b.lower) b.point b.budget begins);
    }

-- with something else to search for
pub phased_bounds : (a : Aim) (b : Bounds) (p : Phase) → AreBoundsOf a b → AreBoundsOf a (record b { phase = p })
phased_bounds a b p h = record {
  version = h.version;
  lower = h.lower;
  root = h.root;
  shown = h.shown;
  upper = h.upper;
  tried = h.tried;
  searches = h.searches;
  used = h.used;
}

-- with a better point
pub better_bounds : (a : Aim) (b : Bounds) (x : Space) (e : code.Ext) → AreBoundsOf a b → IsShownFor a x → ext_of e ≡ upper_at (problem_of a.problem.now) a.goal x → ext_at_most (ext_of e) (ext_of b.upper) ≡ true →
    AreBoundsOf a (record b { point = x; upper = e })
better_bounds a b x e h sure is falls = record {
  version = h.version;
  lower = h.lower;
  root = h.root;
  shown = sure;
  upper = is;
  tried = h.tried;
  searches = h.searches;
  used = used_better a.problem.now a.goal a.options.now (low_end b.lower) (low_end b.lower) (ext_of b.upper) (ext_of e) (at_most_itself (low_end b.lower)) falls h.searches.first h.searches.later h.used;
}

module _ (a : Aim) (b : Bounds) (l : Limited) (book : BookModel) (h : AreBoundsOf a b) (s : IsNextSearch a b l book) where
  abbrev q : Parts
  q = a.problem.now

  abbrev limit : Ext
  limit = finite (dyadic_of l.limit)

  is-later : IsLater q a.goal a.options.now book
  is-later = (l.bits, dyadic_of l.limit, s.searched)

  -- the search, where these are the bounds behind it
  used-by : (low high : Ext) → (verdict_of book ≡ verdict.Unsat → ext_at_most limit low ≡ true) → IfSome book.point (λ x. ext_at_most high (upper_at (problem_of q) a.goal x) ≡ true) →
      IsUsed q a.goal a.options.now low high book
  used-by low high closed found = record {
    bits = l.bits;
    limit = dyadic_of l.limit;
    searched = s.searched;
    best = b.point;
    shown = h.shown;
    between =
        between_wider (span_of a.gap_bits b) (span_to (problem_of q) a.goal b.point) limit h.root
        (subst (λ (e : Ext). ext_at_most (ext_of b.upper) e ≡ true) h.upper (at_most_itself (ext_of b.upper))) s.between;
    closed = closed;
    found = found;
  }

  -- where it left nothing, its limit is the lower bound
  pub closed_bounds : (rest : ℕ) → book.options.version ≡ b.version → verdict_of book ≡ verdict.Unsat → b.tried ≡ None → rest + (1 + book.branches) ≡ b.budget → AreBoundsOf a (record b { lower = shown.Limit book l.bits l.limit; budget = rest })
  unfolding more_leaves
  closed_bounds rest same e none sum =
      let rises : ext_at_most (low_end b.lower) limit ≡ true = between_above (span_of a.gap_bits b) limit s.between in
      let before = used_better q a.goal a.options.now (low_end b.lower) limit (ext_of b.upper) (ext_of b.upper) rises (at_most_itself (ext_of b.upper)) h.searches.first h.searches.later h.used in
      let this = used-by limit (ext_of b.upper) (λ f. at_most_itself limit)
      (subst (λ (x : Option Space). IfSome x (λ y. ext_at_most (ext_of b.upper) (upper_at (problem_of q) a.goal y) ≡ true)) (sym (closed_no_point book e)) tt) in
      record {
        version = h.version;
        lower = record {
          takes = s.searched.takes;
          problem = s.searched.problem;
          margins = s.searched.margins ∙ ap (λ (v : ℕ). margins_in v (margins_of a.options.now)) same;
          bound = s.searched.bound;
          alone = s.searched.alone;
          root = s.searched.root;
          closed = e;
        };
        root = at_most_through (lower_end (root_low (problem_of q) a.goal)) (low_end b.lower) limit h.root rises;
        shown = h.shown;
        upper = h.upper;
        tried = subst (IsNotBelow limit) (sym none) tt;
        searches = more_leaves q a.goal a.options.now book b.budget rest h.searches is-later sum;
        used = more-used q a.goal a.options.now limit (ext_of b.upper) h.searches.first book h.searches.later before this;
      }

  -- else the bounds are these, which differ from those before by a point at most
  pub bounds_behind : (v : Bounds) (rest : ℕ) → AreBoundsOf a v → v.lower ≡ b.lower → v.budget ≡ b.budget → (verdict_of book ≡ verdict.Unsat → ⊥) →
      IfSome book.point (λ x. ext_at_most (ext_of v.upper) (upper_at (problem_of q) a.goal x) ≡ true) → rest + (1 + book.branches) ≡ b.budget → AreBoundsOf a (record v { budget = rest })
  unfolding more_leaves
  bounds_behind v rest k same left undecided found sum = record {
    version = k.version;
    lower = k.lower;
    root = k.root;
    shown = k.shown;
    upper = k.upper;
    tried = k.tried;
    searches = more_leaves q a.goal a.options.now book v.budget rest k.searches is-later (sum ∙ sym left);
    used = more-used q a.goal a.options.now (low_end v.lower) (ext_of v.upper) k.searches.first book k.searches.later k.used (used-by (low_end v.lower) (ext_of v.upper) (λ e. absurd (undecided e)) found);
  }

-- ---- what the next search is for

-- this changes no bound
pub planned_bounds : (a : Aim) (b new : Bounds) (l : Limited) → AreBoundsOf a b → new ≡ record b { phase = new.phase; tried = new.tried; patience = new.patience } → StaysAbove b.tried l.limit new.tried →
    is_between (span_of a.gap_bits b) (finite (dyadic_of l.limit)) ≡ true → AreBoundsOf a new
planned_bounds a b new l h same above between =
    let limit : Ext = finite (dyadic_of l.limit) in
    subst (AreBoundsOf a) (sym same) (record {
      version = h.version;
      lower = h.lower;
      root = h.root;
      shown = h.shown;
      upper = h.upper;
      tried = above (low_end b.lower) h.tried (between_above (span_of a.gap_bits b) limit between);
      searches = h.searches;
      used = h.used;
    })

pub planned_search : (a : Aim) (b new : Bounds) (l : Limited) (book : BookModel) → IsNextSearch a b l book → new ≡ record b { phase = new.phase; tried = new.tried; patience = new.patience } → IsNextSearch a new l book
planned_search a b new l book s same =
    subst (λ (x : Bounds). IsNextSearch a x l book) (sym same) (record { limited = s.limited; searched = s.searched; between = s.between; few = s.few })

pub planned_far : (a : Aim) (b new : Bounds) → AreFar (span_of a.gap_bits b) → new ≡ record b { phase = new.phase; tried = new.tried; patience = new.patience } → AreFar (span_of a.gap_bits new)
planned_far a b new far same = subst (λ (x : Bounds). AreFar (span_of a.gap_bits x)) (sym same) far

-- what the next search is, from bounds that may be nearer to each other
pub next_search : (a : Aim) (b : Bounds) (l : Limited) (book : BookModel) (s : Span) → IsLimited a.problem.now a.goal l → IsSearchOf a l book → ext_at_most (low_end b.lower) (lower_end s.low) ≡ true → s.high ≡ ext_of b.upper →
    is_between s (finite (dyadic_of l.limit)) ≡ true → book.branches < b.budget → IsNextSearch a b l book
next_search a b l book s limited searched low high between few = record {
  limited = limited;
  searched = searched;
  between =
      between_wider s (span_of a.gap_bits b) (finite (dyadic_of l.limit)) low
      (subst (λ (e : Ext). ext_at_most s.high e ≡ true) high (at_most_itself s.high)) between;
  few = few;
}
