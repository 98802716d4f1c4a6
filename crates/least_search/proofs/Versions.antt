-- What the version in which a search ended changes: what shows the lower bound is of it, and the next search begins in it.
use Rattle.std.proofs.Common.{◌≡◌, inl, inr, ℕ, Bool, true, false, cond, Option, refl, ap, sym, subst, ◌∙◌}
use Rattle.std.specs.Prelude.{nat_le, option_map}
use Rattle.dyadic.specs.Rounding.{Ext, ext_at_most, finite}
use Rattle.dyadic.specs.Views.{dyadic_of, ext_of}
use Rattle.dyadic.specs.declared.dy.Dy.{Dy}
use Rattle.poly_graph.specs.ProblemViews.{Parts, problem_of}
use Rattle.cover_data.specs.declared.margins.Options.{Options}
use Rattle.cover_data.specs.Margins.{margins_in, options_in}
use Rattle.cert_model.specs.Least.{lower_end}
use Rattle.cover_book.specs.Model.{BookModel}
use Rattle.goal_limit.specs.Lows.{root_low}
use Rattle.goal_limit.specs.Tries.{Span, is_between}
use Rattle.least_search.specs.declared.aim.Aim.{Aim}
use Rattle.least_search.specs.declared.bounds.Bounds.{Bounds}
use Rattle.least_search.specs.declared.found.Lower.{Lower}
use Rattle.least_search.specs.declared.found.Lower.TheVariants as shown
use Rattle.least_search.specs.declared.limits.Limited.{Limited}
use Rattle.least_search.specs.Limits.{IsNotBelow}
use Rattle.least_search.specs.Found.{AreBoundsOf, AreFar, AreUsed, IsLower, IsNextSearch, IsSearchVersion, IsVersionAfter, bound_of, low_end, lower_behind, raised_lower, span_of}

-- a search that begins in such a version ends in one
pub version_after : (v w : ℕ) → IsSearchVersion v → IsVersionAfter v w → IsSearchVersion w
version_after v w h (inl e) = subst IsSearchVersion (sym e) h
version_after v w h (inr e) = inr e

-- ---- what shows the lower bound

same-bound : (l : Lower) → bound_of (raised_lower l) ≡ bound_of l
same-bound (shown.Root low) = refl
same-bound (shown.Limit b k d) = refl

bound-behind : (v : ℕ) (l : Lower) → bound_of (lower_behind v l) ≡ bound_of l
bound-behind v l = by (nat_le 5 v)
  where
    by : (c : Bool) → bound_of (cond c (raised_lower l) l) ≡ bound_of l
    by true = same-bound l
    by false = refl

raised-lower : (q : Parts) (g : ℕ) (o : Options) (v : ℕ) (l : Lower) → IsLower q g (options_in v o) l → IsLower q g (options_in 5 o) (raised_lower l)
raised-lower q g o v (shown.Root low) h = h
raised-lower q g o v (shown.Limit b k d) h = record {
  takes = h.takes;
  problem = h.problem;
  margins = ap (margins_in 5) h.margins;
  bound = h.bound;
  alone = h.alone;
  root = h.root;
  closed = h.closed;
}

is-behind : (q : Parts) (g : ℕ) (o : Options) (v w : ℕ) (l : Lower) → IsSearchVersion v → IsVersionAfter v w → IsLower q g (options_in v o) l → IsLower q g (options_in w o) (lower_behind w l)
is-behind q g o v w l is (inr e) h = subst (λ (x : ℕ). IsLower q g (options_in x o) (lower_behind x l)) (sym e) (raised-lower q g o v l h)
is-behind q g o v w l (inl f) (inl e) h =
    let two : w ≡ 2 = e ∙ f in
    subst (λ (x : ℕ). IsLower q g (options_in x o) (lower_behind x l)) (sym two) (subst (λ (x : ℕ). IsLower q g (options_in x o) l) f h)
is-behind q g o v w l (inr f) (inl e) h =
    let five : w ≡ 5 = e ∙ f in
    subst (λ (x : ℕ). IsLower q g (options_in x o) (lower_behind x l)) (sym five) (raised-lower q g o v l h)

-- ---- bounds

-- these bounds behind a search that ended in this version
abbrev behind : ℕ → Bounds → Bounds
behind w b = record b { lower = lower_behind w b.lower; version = w }

same-span : (gap w : ℕ) (b : Bounds) → span_of gap (behind w b) ≡ span_of gap b
same-span gap w b = ap (with_low gap b) (bound-behind w b.lower)
  where
    with_low : ℕ → Bounds → Option Dy → Span
    with_low gap b low = record { low = option_map dyadic_of low; high = ext_of b.upper; gap = gap }

same-end : (w : ℕ) (l : Lower) → low_end (lower_behind w l) ≡ low_end l
same-end w l = ap (λ (x : Option Dy). lower_end (option_map dyadic_of x)) (bound-behind w l)

pub bounds_over : (a : Aim) (b new : Bounds) (w : ℕ) → AreBoundsOf a b → IsVersionAfter b.version w → new ≡ behind w b → AreBoundsOf a new
bounds_over a b new w h after same =
    let q : Parts = a.problem.now in
    let o : Options = a.options.now in
    let ends = sym (same-end w b.lower) in
    subst (AreBoundsOf a) (sym same) (record {
      version = version_after b.version w h.version after;
      lower = is-behind q a.goal o b.version w b.lower h.version after h.lower;
      root = subst (λ (e : Ext). ext_at_most (lower_end (root_low (problem_of q) a.goal)) e ≡ true) ends h.root;
      shown = h.shown;
      upper = h.upper;
      tried = subst (λ (e : Ext). IsNotBelow e b.tried) ends h.tried;
      searches = h.searches;
      used = subst (λ (e : Ext). AreUsed q a.goal o e (ext_of b.upper) h.searches.first h.searches.later) ends h.used;
    })

pub far_over : (a : Aim) (b new : Bounds) (w : ℕ) → AreFar (span_of a.gap_bits b) → new ≡ behind w b → AreFar (span_of a.gap_bits new)
far_over a b new w far same = subst (λ (x : Bounds). AreFar (span_of a.gap_bits x)) (sym same) (subst AreFar (sym (same-span a.gap_bits w b)) far)

pub search_over : (a : Aim) (b new : Bounds) (w : ℕ) (l : Limited) (book : BookModel) → IsNextSearch a b l book → new ≡ behind w b → IsNextSearch a new l book
search_over a b new w l book s same =
    subst (λ (x : Bounds). IsNextSearch a x l book) (sym same)
    (record {
      limited = s.limited;
      searched = s.searched;
      between = subst (λ (t : Span). is_between t (finite (dyadic_of l.limit)) ≡ true) (sym (same-span a.gap_bits w b)) s.between;
      few = s.few;
    })
