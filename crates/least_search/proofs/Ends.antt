-- Why a search for a least value ends, and what is found then.
use Rattle.std.proofs.Common.{◌≡◌, ◌<◌, ◌≤◌, ℕ, Bool, true, false, true≢false, Bor, Option, Some, refl, sym, subst, ◌∙◌, arith}
use Rattle.std.specs.Prelude.{Err, IfOk, IfSome, None, Ok, OnOk, Result, option_map}
use Rattle.std.specs.declared.alloc.AllocError.{AllocError}
use Rattle.dyadic.specs.Rounding.{Dyadic, Ext}
use Rattle.dyadic.specs.Views.{dyadic_of, ext_of}
use Rattle.dyadic.specs.declared.dy.Dy.{Dy}
use Rattle.poly_graph.specs.ProblemViews.{Parts, problem_of}
use Rattle.cover_data.specs.declared.margins.Options.{Options}
use Rattle.cert_model.specs.Due.{is_crossed_box}
use Rattle.cert_model.specs.Least.{IsSettled}
use Rattle.cover_book.specs.Model.{BookModel}
use Rattle.cover_book.specs.Verdict.{verdict_of}
use Rattle.cover_book.specs.declared.verdict.BookVerdict.TheVariants as verdict
use Rattle.goal_limit.specs.Tries.{Span}
use Rattle.least_search.specs.declared.aim.Aim.{Aim}
use Rattle.least_search.specs.declared.bounds.Bounds.{Bounds}
use Rattle.least_search.specs.declared.found.Ending.{Ending}
use Rattle.least_search.specs.declared.found.Ending.TheVariants as ending
use Rattle.least_search.specs.declared.limits.Limited.{Limited}
use Rattle.least_search.specs.declared.limits.Phase.{Phase}
use Rattle.least_search.specs.declared.limits.Phase.TheVariants as phase
use Rattle.least_search.specs.Aims.{IsSameAim}
use Rattle.least_search.specs.Found.{AreBoundsOf, AreFar, AreUsed, EndsFor, IsEnding, IsEndingAt, IsFound, IsNextSearch, bound_of, low_end, probes, span_of, weight}

-- the bounds are far where a test says so
pub far_by : (gap : ℕ) (b : Bounds) (low : Option Dy) (r : Bool) → low ≡ bound_of b.lower → (IsSettled gap (option_map dyadic_of low) (ext_of b.upper) → r ≡ true) → r ≡ false → AreFar (span_of gap b)
far_by gap b low r e f n settled = true≢false (sym (f (subst (λ (l : Option Dy). IsSettled gap (option_map dyadic_of l) (ext_of b.upper)) (sym e) settled)) ∙ n)

-- where the bounds are far from each other, what is told is why it ends
pub far_ending : (q : Parts) (g : ℕ) (o : Options) (left : ℕ) (s : Span) (e : Ending) → AreFar s → EndsFor q g o left s e → IsEnding q g o left s e
far_ending q g o left s e far told = record { told = told; near = λ settled. absurd (far settled) }

-- near bounds are a minimum
pub near_ending : (q : Parts) (g : ℕ) (o : Options) (left : ℕ) (s : Span) → IsSettled s.gap s.low s.high → IsEnding q g o left s ending.Minimum
near_ending q g o left s near = record { told = near; near = λ settled. refl }

-- a search with a limit between the bounds left boxes of the least width
pub narrow_ending : (a : Aim) (b : Bounds) (l : Limited) (book : BookModel) (rest : ℕ) → AreFar (span_of a.gap_bits b) → IsNextSearch a b l book → verdict_of book ≡ verdict.UnknownWidth →
    IsEndingAt a (record b { budget = rest }) (Some ending.Width)
narrow_ending a b l book rest far s narrow =
    far_ending a.problem.now a.goal a.options.now rest (span_of a.gap_bits b) ending.Width far
    (record { book = book; bits = l.bits; limit = dyadic_of l.limit; between = s.between; searched = s.searched; narrow = narrow })

abbrev At : Bounds → Option Ending → Parts → ℕ → Options → ℕ → Type 0
At x e q g o gap = IfSome e (IsEnding q g o x.budget (span_of gap x))

-- endings for one aim are endings for the other
pub ending_of : (a b : Aim) → IsSameAim a b → (x : Bounds) (e : Option Ending) → IsEndingAt b x e → IsEndingAt a x e
ending_of a b s x e h =
    subst (λ (p : Bor Parts). At x e p.now a.goal a.options.now a.gap_bits) s.problem
    (subst (λ (g : ℕ). At x e b.problem.now g a.options.now a.gap_bits) s.goal
    (subst (λ (o : Bor Options). At x e b.problem.now b.goal o.now a.gap_bits) s.options (subst (λ (gap : ℕ). At x e b.problem.now b.goal b.options.now gap) s.gap h)))

-- bounds, and why the search for them ended, are what is found
pub found_of : (a : Aim) (b : Bounds) (e : Ending) → AreBoundsOf a b → IsEndingAt a b (Some e) → is_crossed_box (problem_of a.problem.now) ≡ false →
    IsFound a.problem.now a.goal a.gap_bits a.options.now (record { lower = b.lower; point = b.point; upper = b.upper; ending = e; version = b.version })
found_of a b e h ends clear =
    let q : Parts = a.problem.now in
    let o : Options = a.options.now in
    let low : Option Dyadic = option_map dyadic_of (bound_of b.lower) in
    record {
      version = h.version;
      lower = h.lower;
      root = h.root;
      shown = h.shown;
      upper = h.upper;
      crossed = clear;
      left = b.budget;
      searches = h.searches;
      used = subst (λ (x : Ext). AreUsed q a.goal o (low_end b.lower) x h.searches.first h.searches.later) h.upper h.used;
      near = λ settled. ends.near (subst (λ (x : Ext). IsSettled a.gap_bits low x) (sym h.upper) settled);
      ending = subst (λ (x : Ext). EndsFor q a.goal o b.budget (record { low = low; high = x; gap = a.gap_bits }) e) h.upper ends.told;
    }

-- ---- each search takes some of the budget

few-probes : (p : Phase) → probes p ≤ 1
few-probes phase.Probing = omega arith
few-probes phase.Closing = omega arith
few-probes phase.Halving = omega arith

lighter : (old new : Bounds) → new.budget < old.budget → weight new < weight old
lighter old new h = omega (arith, h, few-probes new.phase)

pub lighter_if : (r : Result (Option Ending) AllocError) (old new : Bounds) → OnOk r (new.budget < old.budget) → IfOk r (λ e. e ≡ None → weight new < weight old)
lighter_if (Ok e) old new h = λ none. lighter old new h
lighter_if (Err e) old new h = tt
