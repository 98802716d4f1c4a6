-- From what a search for a least value finds to the end of a run.
use Rattle.std.proofs.Common.{◌≡◌, ◌≢◌, inl, inr, ℕ, List, [], Option, Some, refl, ap, sym, subst, ◌∙◌, arith}
use Rattle.std.specs.Prelude.{option_map}
use Rattle.desk.specs.Sight.{Sight}
use Rattle.command_line.specs.Words.{Minimize, AreOptions}
use Rattle.command_line.specs.declared.request.Options.{Options}
use Rattle.dyadic.specs.End.{lesser_ext}
use Rattle.dyadic.specs.Rounding
use Rattle.dyadic.specs.Rounding.{below_all, finite, above_all}
use Rattle.dyadic.specs.Views.{dyadic_of, ext_of}
use Rattle.dyadic.specs.declared.dy.Dy.{Dy}
use Rattle.dyadic.specs.declared.dy.Ext.{Ext}
use Rattle.interval_model.specs.Space.{Space}
use Rattle.poly_graph.specs.Problem.{Problem}
use Rattle.poly_graph.specs.ProblemViews.{Parts, problem_of}
use Rattle.cover_model.specs.Fits.{IsShownAt}
use Rattle.cover_data.specs.declared.margins.Margins.{Margins}
use Rattle.cover_data.specs.declared.margins.Options as cover
use Rattle.cover_data.specs.Margins.{AreMargins, margins_of, options_in, loosenings_of as of_margins}
use Rattle.cert_model.specs.Due.{left_open}
use Rattle.cert_model.specs.Least.{Least, least, lower_end, IsGoalAccepted}
use Rattle.goal_limit.specs.Limits.{has_room}
use Rattle.goal_limit.specs.Lows.{root_low}
use Rattle.cert_model.specs.AnswerText.{solve_text}
use Rattle.cover_model.specs.State.{root_state}
use Rattle.cover_book.specs.Keeps.{IsBook}
use Rattle.cover_book.specs.Left.{LeavesDue}
use Rattle.cover_book.specs.Limits.{IsWithinLimits}
use Rattle.cover_book.specs.Model.{BookModel, opening}
use Rattle.cover_book.specs.Verdict.{verdict_of}
use Rattle.cover_book.specs.declared.verdict.BookVerdict.TheVariants.{NotYet}
use Rattle.goal_limit.specs.Tries.{Span}
use Rattle.least_search.specs.Found.{bound_of, low_end, IsBookOf, IsClosed, IsFirst, IsFound, IsLower, IsSearchVersion, IsVersionAfter}
use Rattle.least_search.specs.declared.found.Found.{Found}
use Rattle.least_search.specs.declared.found.Lower.{Lower}
use Rattle.least_search.specs.declared.found.Lower.TheVariants as shown
use Rattle.least_search.proofs.RootBounds.{root_is_over}
use Rattle.least_text.specs.Means.{IsLimitedCertificate, IsOverCertificate}
use Rattle.check_run.specs.declared.minimized.Cause as tells
use Rattle.check_run.specs.declared.status.Status.{Status}
use Rattle.check_run.specs.Answer.{loosenings_of}
use Rattle.check_run.specs.Bounds.{cause_of, IsMinimizeText}
use Rattle.check_run.specs.Course.{gives, Ends, RunEnds, on_course}
use Rattle.check_run.specs.Minimized.{Cause, CanTellLeast, IsCauseFor, bounds_at, least_low, minimize_text}
use Rattle.dpoly.specs.declared.answers.SearchAnswer.{SearchAnswer}
use Rattle.dpoly.specs.Minimize.{first_options, overs_of, told_cause, value_of, IsAcceptedFor, IsFoundAnswer, IsMinimizeAnswer}
use Rattle.dpoly.specs.Search.{IsLeftBy}
use Rattle.dpoly.proofs.Causes.{all_covers, clear_box, ending_told, shown_again}
use Rattle.dpoly.proofs.SessionAnswers.{lines_version}
use Rattle.dpoly.proofs.Solving.{written}

-- ---- the searches

-- of one that was searched on from as it opened
pub book_of : (q : Parts) (o : cover.Options) (first b : BookModel) → first ≡ opening q o → b.problem ≡ first.problem → IsVersionAfter first.options.version b.options.version → b.options ≡ options_in b.options.version first.options →
    b.kept ≡ first.kept → b.root ≡ first.root → IsBook b → verdict_of b ≢ NotYet → LeavesDue b → IsBookOf q o b
book_of q o first b opens problem version options kept root book verdict left = record {
  problem = same-problem;
  version = subst (λ (x : BookModel). IsVersionAfter x.options.version b.options.version) opens version;
  options = options ∙ ap (λ (x : BookModel). options_in b.options.version x.options) opens;
  alone = kept ∙ ap (λ (x : BookModel). x.kept) opens;
  root = root ∙ ap (λ (x : BookModel). x.root) opens ∙ ap (λ (r : Parts). root_state (problem_of r)) (sym same-problem);
  book = book;
  verdict = verdict;
  left = left;
}
  where
    same-problem : b.problem ≡ q
    same-problem = problem ∙ ap (λ (x : BookModel). x.problem) opens

-- margins and limits are the same in another version
margins_again : (o : cover.Options) (v : ℕ) → IsSearchVersion v → AreMargins (margins_of o) → AreMargins (margins_of (options_in v o))
margins_again o v is h = record {
  some_delta = h.some_delta;
  few_delta = h.few_delta;
  above_delta = h.above_delta;
  few_margin = h.few_margin;
  few_least = h.few_least;
  version_is = is;
}

pub limits_again : (q : Parts) (o : cover.Options) (v : ℕ) → IsSearchVersion v → IsWithinLimits q o → IsWithinLimits q (options_in v o)
limits_again q o v is h = record { margins = margins_again o v is h.margins; budget = h.budget; axes = h.axes; atoms = h.atoms }

-- the book of the first search, which keeps no point
pub first_left : (q : Parts) (o : Options) (b : BookModel) → IsFirst q (first_options o) b → IsLeftBy o b
first_left q o b h = record { version = lines_version b.options.version h.searched.version; asked = h.searched.options; ended = h.searched.verdict; due = h.searched.left }

-- ---- the certificate

pub margins : (o : Options) → AreOptions o → AreMargins (margins_of (first_options o))
margins o h = record {
  some_delta = h.delta_least;
  few_delta = h.delta_most;
  above_delta = h.below_margin;
  few_margin = h.margin_most;
  few_least = h.least_most;
  version_is = inl refl;
}

module _ (q : Parts) (g gap : ℕ) (o : cover.Options) (f : Found) (found : IsFound q g gap o f) where
  -- the options in the version of what was found
  abbrev u : cover.Options
  u = options_in f.version o

  -- what is accepted by what shows the bound
  accepted-as : (l : Lower) → f.lower ≡ l → (cert : List ℕ) →
      IsGoalAccepted (problem_of q) g (has_room (problem_of q)) o.bound cert (of_margins (margins_of u)) (least (record { lower = option_map dyadic_of (bound_of l); over = overs_of (problem_of q) l; point = Some f.point })) →
      IsAcceptedFor q g o f cert
  accepted-as l e cert h =
      subst (λ (x : Lower). IsGoalAccepted (problem_of q) g (has_room (problem_of q)) o.bound cert (of_margins (margins_of u)) (least (record { lower = option_map dyadic_of (bound_of x); over = overs_of (problem_of q) x; point = Some f.point }))) (sym e) h

  pub root_accepted : (low : Option Dy) → f.lower ≡ shown.Root low → AreMargins (margins_of o) → (x : Space) → x ≡ f.point → (w : cover.Options) → w ≡ u → (cert : List ℕ) → IsOverCertificate w (option_map dyadic_of low) x cert →
      IsAcceptedFor q g o f cert
  root_accepted low e m x at w same cert is =
      let over = subst (IsLower q g u) e found.lower in
      let here : IsOverCertificate u (option_map dyadic_of low) f.point cert =
      subst (λ (y : Space). IsOverCertificate u (option_map dyadic_of low) y cert) at (subst (λ (n : cover.Options). IsOverCertificate n (option_map dyadic_of low) x cert) same is) in
      accepted-as (shown.Root low) e cert
      (here (problem_of q) g (has_room (problem_of q)) (margins_again o f.version found.version m) found.crossed (root_is_over (problem_of q) g (option_map dyadic_of low) over found.crossed)
      (shown_again (problem_of q) (of_margins (margins_of o)) o.version f.version f.point found.shown))

  pub closed_by : (b : BookModel) (k : ℕ) (d : Dy) → f.lower ≡ shown.Limit b k d → IsClosed q g u b k (dyadic_of d)
  closed_by b k d e = subst (IsLower q g u) e found.lower

  pub limited_accepted : (b : BookModel) (k : ℕ) (d : Dy) → f.lower ≡ shown.Limit b k d → (x : Space) → x ≡ f.point → (cert : List ℕ) → IsLimitedCertificate b k (dyadic_of d) x cert → IsAcceptedFor q g o f cert
  limited_accepted b k d e x at cert is =
      let closed = closed_by b k d e in
      let point : Space = f.point in
      let here : IsLimitedCertificate b k (dyadic_of d) point cert = subst (λ (y : Space). IsLimitedCertificate b k (dyadic_of d) y cert) at is in
      let shown-here = shown_again (problem_of q) (of_margins (margins_of o)) o.version f.version point found.shown in
      let sure = subst (λ (m : Margins). IsShownAt (problem_of q) (of_margins m) point) (sym closed.margins) shown-here in
      let by_book = here (problem_of q) g (has_room (problem_of q)) closed.takes closed.problem sure in
      let value : Least = record { lower = Some (dyadic_of d); over = []; point = Some point } in
      let by_bound = subst (λ (n : Option ℕ). IsGoalAccepted (problem_of q) g (has_room (problem_of q)) n cert (of_margins (margins_of b.options)) (least value)) closed.bound by_book in
      accepted-as (shown.Limit b k d) e cert (subst (λ (m : Margins). IsGoalAccepted (problem_of q) g (has_room (problem_of q)) o.bound cert (of_margins m) (least value)) closed.margins by_bound)

-- ---- answers

-- the text with the words' own numbers
pub text_as : (p : Problem) (n budget : ℕ) (c : Cause) (low bound : Option Dy) (e : Ext) (y x : Space) (text : List ℕ) → n ≡ budget → low ≡ bound → y ≡ x → IsMinimizeText p n c (option_map dyadic_of low) (ext_of e) y text →
    IsMinimizeText p budget c (option_map dyadic_of bound) (ext_of e) x text
text_as p n budget c low bound e y x text same_budget same_low same_point h =
    let at_budget = subst (λ (m : ℕ). IsMinimizeText p m c (option_map dyadic_of low) (ext_of e) y text) same_budget h in
    let at_low = subst (λ (l : Option Dy). IsMinimizeText p budget c (option_map dyadic_of l) (ext_of e) y text) same_low at_budget in
    subst (λ (z : Space). IsMinimizeText p budget c (option_map dyadic_of bound) (ext_of e) z text) same_point at_low

-- the certificate with the words' own options
pub certificate_as : (q : Parts) (g gap : ℕ) (a o : cover.Options) (f : Found) (cert : List ℕ) → a ≡ o → (IsFound q g gap a f → IsAcceptedFor q g a f cert) → IsFound q g gap o f → IsAcceptedFor q g o f cert
certificate_as q g gap a o f cert same h = subst (λ (x : cover.Options). IsFound q g gap x f → IsAcceptedFor q g x f cert) same h

-- the lower bound is that of the boxes that are left
least-over : (q : Parts) (g gap : ℕ) (o : cover.Options) (f : Found) → IsFound q g gap o f → (l : Lower) → f.lower ≡ l → overs_of (problem_of q) l ≢ [] → low_end l ≡ least_low (problem_of q) g (overs_of (problem_of q) l)
least-over q g gap o f found (shown.Root low) e some =
    let bound : IsLower q g (options_in f.version o) (shown.Root low) = subst (IsLower q g (options_in f.version o)) e found.lower in
    ap lower_end (bound found.crossed) ∙ sym (lesser-of-all (lower_end (root_low (problem_of q) g)))
  where
    lesser-of-all : (e : Rounding.Ext) → lesser_ext e above_all ≡ e
    lesser-of-all below_all = refl
    lesser-of-all (finite d) = refl
    lesser-of-all above_all = refl
least-over q g gap o f found (shown.Limit b k d) e some = absurd (some refl)

pub found_answer : (q : Parts) (g : ℕ) (words : Minimize) (f : Found) (told : SearchAnswer) → IsFound q g words.gap_bits (first_options words.options) f → IsAcceptedFor q g (first_options words.options) f told.cert.items →
    (c : tells.Cause) → c ≡ told_cause f.ending → IsMinimizeText (problem_of q) words.options.budget (cause_of c) (option_map dyadic_of (bound_of f.lower)) (ext_of f.upper) f.point told.text.items → IsFoundAnswer (problem_of q) g words told
found_answer q g words f told found accepted c is text =
    let p : Problem = problem_of q in
    let bounds : Span = bounds_at p g words.gap_bits (option_map dyadic_of (bound_of f.lower)) f.point in
    let clear = clear_box p found.crossed in
    let covers = all_covers q g words.options clear bounds found.left found.searches found.used in
    record {
      cause = cause_of c;
      value = value_of p f;
      answer = record {
        version = f.version;
        is_version = lines_version f.version found.version;
        accepted = accepted;
        lower = record { root = found.root; over = least-over q g words.gap_bits (first_options words.options) f found f.lower refl };
        point = f.point;
        has_point = refl;
        searches = covers.searches;
        within = omega (arith, covers.cost);
        used = covers.used;
        is_near = λ settled. ap cause_of (is ∙ ap told_cause (found.near settled));
        is_cause = subst (λ (k : tells.Cause). IsCauseFor p g words.options bounds covers.searches (cause_of k)) (sym is) (ending_told q g words.options clear bounds found.left f.ending found.ending covers);
      };
      text = text g (value_of p f) refl refl found.upper;
    }

-- ---- the end of a run behind its problem

module _ (p : Problem) (g : ℕ) (words : Minimize) (told : SearchAnswer) (cert text : List ℕ) (old new : Sight) (status : Status) (bytes : cert ≡ told.cert.items) (answer : text ≡ told.text.items)
    (ends : Ends (gives words.cert cert text) old new status) where
  pub least_ends : IsMinimizeAnswer p g words told → RunEnds (CanTellLeast p g words) [] old new status
  least_ends (inl is) =
      let says : List ℕ = minimize_text p g words.options.budget is.cause is.value in
      on_course (gives words.cert told.cert.items says) (inr (told.cert.items, is.cause, is.value, is.answer, refl)) (written words.cert cert told.cert.items text says old new status bytes (answer ∙ is.text) ends)
  least_ends (inr is) =
      let says : List ℕ = solve_text p words.options.budget (loosenings_of words.options) (left_open is.left) in
      on_course (gives words.cert told.cert.items says) (inl (told.cert.items, is.left, is.answer, refl)) (written words.cert cert told.cert.items text says old new status bytes (answer ∙ is.text) ends)
