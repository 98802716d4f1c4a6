-- Why a search for a least value ends, by the covers of its searches.
use Rattle.std.proofs.Common.{◌≡◌, ℕ, suc, ◌+◌, List, [], ◌∷◌, ◌++◌, Bool, true, false, cond, true≢false, IsTrue, Option, Some, None, refl, ap, sym, ◌∙◌, subst, arith}
use Rattle.std.specs.Prelude.{IfSome, is_some, sum_by}
use Rattle.std.specs.List.{All}
use Rattle.std.proofs.lemmas.List.Elements.{All-cons, All-head, All-nil, All-tail}
use Rattle.std.proofs.lemmas.List.Sums.{sum_by-cons}
use Rattle.command_line.specs.declared.request.Options.{Options}
use Rattle.dyadic.specs.Rounding.{Dyadic, ext_at_most, finite}
use Rattle.interval_model.specs.Space.{Space}
use Rattle.poly_graph.specs.Problem.{Problem, first_crossed}
use Rattle.poly_graph.specs.ProblemViews.{Parts, problem_of}
use Rattle.cover_model.specs.Fits.{IsShownAt}
use Rattle.cover_model.specs.Honest.{is_honest}
use Rattle.cover_model.specs.Space.{IsGridSpace}
use Rattle.cover_model.specs.State.{State, Loosenings, in_version, root_state}
use Rattle.cover_data.specs.declared.margins.Margins.{Margins}
use Rattle.cover_data.specs.Margins.{margins_in, margins_of, loosenings_of as of_margins}
use Rattle.cert_model.specs.AnswerText.{has_open}
use Rattle.cert_model.specs.Due.{Standing, is_crossed_box, is_some_axis}
use Rattle.cert_model.specs.Laws.{IsLawfulCover}
use Rattle.cert_model.specs.Least.{lower_end, upper_at}
use Rattle.cert_model.specs.Limited.{limited}
use Rattle.cert_model.specs.Written.{lemma_states, left_standing, tree_branches, tree_standing}
use Rattle.cover_book.specs.Keeps.{IsBook}
use Rattle.cover_book.specs.Left.{LeavesDue}
use Rattle.cover_book.specs.Model.{BookModel, IsOfRoot, loosenings_in, problem_in}
use Rattle.cover_book.specs.Tree.{cover_lemmas, lemma_trees}
use Rattle.cover_book.specs.Verdict.{has_live, has_stuck, may_branch, verdict_of}
use Rattle.cover_book.specs.declared.verdict.BookVerdict.TheVariants.{DeltaSat, NotYet, UnknownBudget, UnknownWidth, Unsat}
use Rattle.cover_book.proofs.Meaning.{book_has_tree, rooted_tree_is_cover, tree_is_honest}
use Rattle.cert_text.proofs.Leftovers.{left_tells_of_nodes}
use Rattle.goal_limit.specs.Tries.{Span, is_between}
use Rattle.least_search.specs.Found as found
use Rattle.least_search.specs.Limits.{target}
use Rattle.least_search.specs.declared.found.Ending.{Ending}
use Rattle.least_search.specs.declared.found.Ending.TheVariants.{Minimum, Budget, Width, Limit}
use Rattle.least_search.proofs.Targets.{target_is}
use Rattle.check_run.specs.Answer.{loosenings_of}
use Rattle.check_run.specs.Bounds.{cause_of}
use Rattle.check_run.specs.Causes.{AreUsed, HonestCover, IsHonestButOpen, IsHonestThroughout, IsLimitBetween, IsNarrow, IsUsed, LimitSearch, Searches, cost_of, left_by, left_of}
use Rattle.check_run.specs.Minimized.{IsCauseFor}
use Rattle.dpoly.specs.Minimize.{first_options, told_cause}
use Rattle.dpoly.proofs.SearchAnswers.{stuck_in_width}
use Rattle.dpoly.proofs.SessionAnswers.{lines_version}

-- ---- points

-- a point is shown in one version as in another
pub shown_again : (p : Problem) (s : Loosenings) (v w : ℕ) (x : Space) → IsShownAt p (in_version v s) x → IsShownAt p (in_version w s) x
shown_again p s v w x h = record { single = h.single; surely = h.surely; near = h.near }

some-again : (p : Problem) (s : Loosenings) (v w : ℕ) (o : Option Space) → IfSome o (IsShownAt p (in_version v s)) → IfSome o (IsShownAt p (in_version w s))
some-again p s v w None h = tt
some-again p s v w (Some x) h = shown_again p s v w x h

-- ---- the cover of a book

-- a cover of as many branches as the book counts, which leaves what the book does; without a point all its lines are honest
record BookCover (b : BookModel) (p : Problem) (s : Loosenings) (w : ℕ) : Type 0 where
  cover : HonestCover p s w
  branches : tree_branches cover.tree ≡ b.branches
  opens : has_open (left_by p s w cover) ≡ has_live b
  nothing : left_by p s w cover ≡ [] → has_stuck b ≡ false
  sure : IfSome b.point (IsShownAt p s)
  honest : b.point ≡ None → IsHonestThroughout p s w cover

sure-point : (p : Problem) (s : Loosenings) (o : Option Space) → IfSome o (λ (x : Space). IsShownAt p s x × IsGridSpace x) → IfSome o (IsShownAt p s)
sure-point p s None h = tt
sure-point p s (Some x) h = h.0

own_cover : (b : BookModel) → IsBook b → b.kept ≡ [] → IsOfRoot b → LeavesDue b → first_crossed (problem_in b) ≡ None → BookCover b (problem_in b) (loosenings_in b) b.options.least_bits
own_cover b w none rooted due clear =
    let f = book_has_tree b w clear in
    let p : Problem = problem_in b in
    let s : Loosenings = loosenings_in b in
    let own : cover_lemmas b ≡ lemma_states (lemma_trees b) = ap (λ (ks : List State). ks ++ lemma_states (lemma_trees b)) none in
    let tells = left_tells_of_nodes b w f.0 f.1 f.2 in
    let left : left_standing p s (lemma_states (lemma_trees b)) (root_state p) f.0 ≡ f.1 =
    ap (λ (ks : List State). left_standing p s ks (root_state p) f.0) (sym own) ∙ ap (λ (S : State). left_standing p s (cover_lemmas b) S f.0) (sym rooted) ∙ f.2.stands in
    let lines : List State → State → List Standing = λ ks S. tree_standing p s ks S f.0 in
    let Each : (Standing → Type 0) → List State → State → Type 0 = λ P ks S. All P (lines ks S) in
    let moved : (P : Standing → Type 0) → Each P (cover_lemmas b) b.root → Each P (lemma_states (lemma_trees b)) (root_state p) =
    λ P h. subst (λ (ks : List State). Each P ks (root_state p)) own (subst (λ (S : State). Each P (cover_lemmas b) S) rooted h) in
    record {
      cover = record {
        lemmas = lemma_trees b;
        tree = f.0;
        lawful = subst (λ (ks : List State). IsLawfulCover p s ks (lemma_trees b) f.0) none (rooted_tree_is_cover b f.0 f.1 rooted f.2);
        honest = moved (IsHonestButOpen p s b.options.least_bits) f.2.honest;
      };
      branches = f.2.branches;
      opens = ap has_open left ∙ tells.live;
      nothing = λ e. (tells.nothing.0 (sym left ∙ e)).1;
      sure = sure-point p s b.point w.point;
      honest = λ e. moved (λ (x : Standing). IsTrue (is_honest p b.options.least_bits s x.state x.does)) (tree_is_honest b w f.0 f.1 f.2 (λ n S live. (due e n S live).not_shown));
    }

-- the same by a problem and options of which the book is
cover_as : (b : BookModel) → IsBook b → b.kept ≡ [] → IsOfRoot b → LeavesDue b → (p : Problem) → problem_in b ≡ p → (o : Options) → margins_of b.options ≡ margins_in b.options.version (margins_of (first_options o)) → first_crossed p ≡ None →
    BookCover b p (in_version b.options.version (loosenings_of o)) o.least_bits
cover_as b w none rooted due p is o asked clear =
    let here : BookCover b (problem_in b) (loosenings_in b) b.options.least_bits = own_cover b w none rooted due (ap first_crossed is ∙ clear) in
    subst (λ (m : Margins). BookCover b p (of_margins m) m.least_bits) asked (subst (λ (q : Problem). BookCover b q (loosenings_in b) b.options.least_bits) is here)

-- ---- what a book without a point says, of which nothing is left

unsat-by : (p l m s : Bool) → p ≡ false → l ≡ false → s ≡ false → cond p DeltaSat (cond l (cond m NotYet UnknownBudget) (cond s UnknownWidth Unsat)) ≡ Unsat
unsat-by p l m s e f h = rw e (rw f (rw h refl))

unsat_book : (b : BookModel) → b.point ≡ None → has_live b ≡ false → has_stuck b ≡ false → verdict_of b ≡ Unsat
unsat_book b e f h = unsat-by (is_some b.point) (has_live b) (may_branch b) (has_stuck b) (ap (λ (o : Option Space). is_some o) e) f h

-- ---- the searches

module _ (q : Parts) (g : ℕ) (o : Options) (clear : first_crossed (problem_of q) ≡ None) where
  abbrev Limited : Type 0
  Limited = LimitSearch (problem_of q) g o

  -- a search with a limit, by its cover
  record LimitCover (b : BookModel) (d : Dyadic) : Type 0 where
    limit_search : Limited
    is_limit : limit_search.limit ≡ d
    is_point : limit_search.point ≡ b.point
    cost : tree_branches limit_search.cover.tree ≡ b.branches
    opens : has_open (left_of (problem_of q) g o limit_search) ≡ has_live b
    nothing : left_of (problem_of q) g o limit_search ≡ [] → has_stuck b ≡ false

  limit_cover : (b : BookModel) (k : ℕ) (d : Dyadic) → found.IsLimitSearch q g (first_options o) k d b → LimitCover b d
  limit_cover b k d h =
      let x = cover_as b h.book h.alone h.root h.left (limited (problem_of q) g k d) h.problem o h.margins clear in
      record {
        limit_search = record {
          version = b.options.version;
          is_version = lines_version b.options.version h.book.limits.margins.version_is;
          bits = k;
          limit = d;
          takes = h.takes;
          cover = x.cover;
          point = b.point;
          sure = some-again (limited (problem_of q) g k d) (loosenings_of o) b.options.version 2 b.point x.sure;
          honest = x.honest;
        };
        is_limit = refl;
        is_point = refl;
        cost = x.branches;
        opens = x.opens;
        nothing = x.nothing;
      }

  -- what it found is in the bounds
  module _ (s : Span) where
    limit_used : (b : BookModel) (h : found.IsUsed q g (first_options o) (lower_end s.low) s.high b) → IsUsed (problem_of q) g o s (limit_cover b h.bits h.limit h.searched).limit_search
    limit_used b h =
        let p : Problem = problem_of q in
        let x = limit_cover b h.bits h.limit h.searched in
        record {
          between = subst (IsLimitBetween p g o) (sym x.is_limit) (record { best = h.best; sure = h.shown; between = h.between });
          closed = λ none left.
              subst (λ (d : Dyadic). ext_at_most (finite d) (lower_end s.low) ≡ true) (sym x.is_limit)
              (h.closed (unsat_book b (sym x.is_point ∙ none) (sym x.opens ∙ ap has_open left) (x.nothing left)));
          found = subst (λ (y : Option Space). IfSome y (λ z. ext_at_most s.high (upper_at p g z) ≡ true)) (sym x.is_point) h.found;
        }

    -- the later ones
    record LaterCovers (books : List BookModel) : Type 0 where
      searches : List Limited
      cost : sum_by (λ (y : Limited). suc (tree_branches y.cover.tree)) searches ≡ found.cost_of books
      used : All (IsUsed (problem_of q) g o s) searches

    later_covers : (books : List BookModel) → All (found.IsUsed q g (first_options o) (lower_end s.low) s.high) books → LaterCovers books
    later_covers [] h = record { searches = []; cost = refl; used = All-nil (IsUsed (problem_of q) g o s) }
    later_covers (b ∷ books) h =
        let P : BookModel → Type 0 = found.IsUsed q g (first_options o) (lower_end s.low) s.high in
        let at = All-head P b books h in
        let here = limit_cover b at.bits at.limit at.searched in
        let rest = later_covers books (All-tail P b books h) in
        record {
          searches = here.limit_search ∷ rest.searches;
          cost = sum_by-cons (λ (y : Limited). suc (tree_branches y.cover.tree)) here.limit_search rest.searches ∙ omega (arith, here.cost, rest.cost);
          used = All-cons (IsUsed (problem_of q) g o s) here.limit_search rest.searches (limit_used b at) rest.used;
        }

    -- all searches, which leave so much of the budget
    pub record AllCovers (left : ℕ) : Type 0 where
      pub searches : Searches (problem_of q) g o
      pub cost : cost_of (problem_of q) g o searches + left ≡ o.budget
      pub used : AreUsed (problem_of q) g o s searches

    pub all_covers : (left : ℕ) (h : found.Leaves q g (first_options o) left) → found.AreUsed q g (first_options o) (lower_end s.low) s.high h.first h.later → AllCovers left
    all_covers left h used =
        let b : BookModel = h.first in
        let is = h.is_first in
        let x = cover_as b is.book is.alone is.root is.left (problem_of q) (ap problem_of is.problem) o (ap margins_of is.options) clear in
        let rest = later_covers h.later used.all in
        record {
          searches = record {
            version = b.options.version;
            is_version = lines_version b.options.version is.book.limits.margins.version_is;
            first = x.cover;
            start = used.start;
            sure = subst (λ (y : Option Space). IfSome y (IsShownAt (problem_of q) (loosenings_of o))) used.kept
                (some-again (problem_of q) (loosenings_of o) b.options.version 2 b.point x.sure);
            later = rest.searches;
          };
          cost = omega (arith, x.branches, rest.cost, h.sum);
          used = record { first = used.best; later = rest.used };
        }

    narrow_cover : found.IsNarrow q g (first_options o) s → IsNarrow (problem_of q) g o s
    narrow_cover h =
        let x = limit_cover h.book h.bits h.limit h.searched in
        let stuck = stuck_in_width h.book h.narrow in
        record {
          limit_search = x.limit_search;
          between = subst (λ (d : Dyadic). is_between s (finite d) ≡ true) (sym x.is_limit) h.between;
          none_open = x.opens ∙ stuck.0;
          some_left = λ e. true≢false (sym stuck.1 ∙ x.nothing e);
        }

    -- each ending is told as what it is
    pub ending_told : (left : ℕ) (e : Ending) → found.EndsFor q g (first_options o) left s e → (x : AllCovers left) → IsCauseFor (problem_of q) g o s x.searches (cause_of (told_cause e))
    ending_told left Minimum h x = h
    ending_told left Budget h x = omega (arith, x.cost, h)
    ending_told left Width h x = narrow_cover h
    ending_told left Limit h x = (target h.0 s, target_is h.0 s, h.1)

-- ---- the declared box

some-clear : (o : Option ℕ) → is_some_axis o ≡ false → o ≡ None
some-clear None e = refl
some-clear (Some i) e = absurd (true≢false e)

pub clear_box : (p : Problem) → is_crossed_box p ≡ false → first_crossed p ≡ None
clear_box p e = some-clear (first_crossed p) e
