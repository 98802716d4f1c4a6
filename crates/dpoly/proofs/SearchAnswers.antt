-- From the book that a search left to the answer.
use Rattle.std.proofs.Common.{◌≡◌, inl, inr, ℕ, suc, List, [], ◌∷◌, Bool, ◌||◌, true, false, cond, true≢false, Option, None, Some, IsTrue, refl, ap, sym, ◌∙◌, subst, arith}
use Rattle.std.specs.Prelude.{is_some, slice_get, IfSome}
use Rattle.std.specs.List.{All, list_any}
use Rattle.std.proofs.lemmas.List.Elements.{All-nil}
use Rattle.command_line.specs.declared.request.Options.{Options}
use Rattle.command_line.specs.Words.{AreOptions}
use Rattle.poly_graph.specs.Problem.{Problem, first_crossed}
use Rattle.poly_graph.specs.ProblemViews.{Parts, problem_of}
use Rattle.interval_model.specs.Space.{Space}
use Rattle.cover_model.specs.Space.{IsGridSpace}
use Rattle.cover_model.specs.State.{State, Loosenings, in_version}
use Rattle.poly_graph.specs.Marks.{Mark}
use Rattle.cover_model.specs.Fits.{IsShownAt}
use Rattle.cover_model.specs.Honest.{is_honest}
use Rattle.cert_model.specs.Due.{Standing, Value, at_point, left_open}
use Rattle.cert_model.specs.Accepted.{IsAccepted}
use Rattle.cert_model.specs.AnswerText.{has_open, budget_text, unsat_text, delta_sat_text, width_text, solve_text}
use Rattle.cert_model.specs.Standing.{Stands, standing, IsHonest, branches, branches_of}
use Rattle.cover_data.specs.declared.margins.Options as cover
use Rattle.cover_data.specs.Margins.{AreMargins, options_in, loosenings_of as of_margins}
use Rattle.cover_book.specs.declared.verdict.BookVerdict.{BookVerdict}
use Rattle.cover_book.specs.declared.verdict.BookVerdict.TheVariants.{DeltaSat, UnknownBudget, NotYet, UnknownWidth, Unsat}
use Rattle.cover_book.specs.Limits.{IsWithinLimits}
use Rattle.cover_book.specs.Model.{NodeModel, live_node, crossed_node, BookModel, problem_in, margins_of, loosenings_in}
use Rattle.cover_book.specs.Verdict.{verdict_of, is_live, is_stuck, has_live, has_stuck, may_branch}
use Rattle.cover_book.specs.Steps.{IsLive}
use Rattle.cover_book.specs.Keeps.{IsBook, IsCrossed, IsCovered}
use Rattle.cert_text.specs.Means.{IsTreeText, IsCrossedText, IsCertificateOf}
use Rattle.cert_text.specs.Stuck.{stuck_at, IsFirstStuck}
use Rattle.cert_text.proofs.Leftovers.{left_tells_of_nodes}
use Rattle.check_run.specs.Answer.{loosenings_of, IsAnswer}
use Rattle.check_run.specs.Script.{IsWithin}
use Rattle.dpoly.specs.declared.answers.SearchAnswer.{SearchAnswer}
use Rattle.dpoly.specs.Minimize.{IsLeftAnswer}
use Rattle.dpoly.specs.Search.{search_options, IsLeftBy, IsSearchAnswer, SaysLeft}

-- ---- the condition of a search

pub limits : (p : Parts) (o : Options) → AreOptions o → IsWithin p → IsWithinLimits p (search_options o)
limits p o h w = record {
  margins = record {
    some_delta = h.delta_least;
    few_delta = h.delta_most;
    above_delta = h.below_margin;
    few_margin = h.margin_most;
    few_least = h.least_most;
    version_is = inr refl;
  };
  budget = h.budget_most;
  axes = w.axes;
  atoms = w.atoms;
}

-- ---- live nodes

live-node : (x : NodeModel) → is_live x ≡ true → (S : State) × (x ≡ live_node S)
live-node (live_node S) e = (S, refl)
live-node x e = cc

abbrev HasLive : List NodeModel → Type 0
HasLive nodes = (n : ℕ) × (S : State) × (slice_get nodes n ≡ Some (live_node S))

live-first : (x : NodeModel) (nodes : List NodeModel) (b : Bool) → is_live x ≡ b → (b || list_any is_live nodes) ≡ true → (list_any is_live nodes ≡ true → HasLive nodes) → HasLive (x ∷ nodes)
live-first x nodes true e f rest = let y = live-node x e in (0, y.0, ap (λ (z : NodeModel). Some z) y.1)
live-first x nodes false e f rest = let y = rest f in (suc y.0, y.1, y.2)

live-there : (nodes : List NodeModel) → list_any is_live nodes ≡ true → HasLive nodes
live-there [] e = absurd (true≢false (sym e))
live-there (x ∷ nodes) e = live-first x nodes (is_live x) refl e (live-there nodes)

-- a book that says that a node is live has one
pub one_is_live : (b : BookModel) → has_live b ≡ true → (n : ℕ) × (S : State) × IsLive b n S
one_is_live b e = live-there b.nodes e

-- ---- verdicts

-- a verdict by what it is made of
abbrev by-parts : Bool → Bool → Bool → Bool → BookVerdict
by-parts p l m s = cond p DeltaSat (cond l (cond m NotYet UnknownBudget) (cond s UnknownWidth Unsat))

budget-parts : (p l m s : Bool) → by-parts p l m s ≡ UnknownBudget → l ≡ true
budget-parts true l m s e = cc
budget-parts false true m s e = refl
budget-parts false false m true e = cc
budget-parts false false m false e = cc

width-parts : (p l m s : Bool) → by-parts p l m s ≡ UnknownWidth → (l ≡ false) × (s ≡ true)
width-parts true l m s e = cc
width-parts false true true s e = cc
width-parts false true false s e = cc
width-parts false false m true e = (refl, refl)
width-parts false false m false e = cc

unsat-parts : (p l m s : Bool) → by-parts p l m s ≡ Unsat → (p ≡ false) × (l ≡ false) × (s ≡ false)
unsat-parts true l m s e = cc
unsat-parts false true true s e = cc
unsat-parts false true false s e = cc
unsat-parts false false m true e = cc
unsat-parts false false m false e = (refl, refl, refl)

pub live_in_budget : (b : BookModel) → verdict_of b ≡ UnknownBudget → has_live b ≡ true
live_in_budget b e = budget-parts (is_some b.point) (has_live b) (may_branch b) (has_stuck b) e

pub stuck_in_width : (b : BookModel) → verdict_of b ≡ UnknownWidth → (has_live b ≡ false) × (has_stuck b ≡ true)
stuck_in_width b e = width-parts (is_some b.point) (has_live b) (may_branch b) (has_stuck b) e

nothing-in-unsat : (b : BookModel) → verdict_of b ≡ Unsat → (is_some b.point ≡ false) × (has_live b ≡ false) × (has_stuck b ≡ false)
nothing-in-unsat b e = unsat-parts (is_some b.point) (has_live b) (may_branch b) (has_stuck b) e

-- ---- texts

open-text : (p : Problem) (s : Loosenings) (budget : ℕ) (left : List Standing) → has_open left ≡ true → budget_text budget ≡ solve_text p budget s (left_open left)
open-text p s budget [] e = absurd (true≢false (sym e))
open-text p s budget (x ∷ left) e = rw e refl

stuck-text : (p : Problem) (s : Loosenings) (budget : ℕ) (left : List Standing) (j : ℕ) (S : State) (rest : List Standing) → left ≡ stuck_at j S ∷ rest → has_open left ≡ false →
    width_text p S j ≡ solve_text p budget s (left_open left)
stuck-text p s budget left j S rest e f =
    let g : has_open (stuck_at j S ∷ rest) ≡ false = ap has_open (sym e) ∙ f in
    let here : width_text p S j ≡ solve_text p budget s (left_open (stuck_at j S ∷ rest)) = rw g refl in
    here ∙ ap (λ (xs : List Standing). solve_text p budget s (left_open xs)) (sym e)

-- where the declared box is empty no node is live or stuck
crossed-none : (test : NodeModel → Bool) (b : BookModel) (h : IsCrossed b) → test (crossed_node h.axis) ≡ false → list_any test b.nodes ≡ false
crossed-none test b h e = ap (λ (xs : List NodeModel). list_any test xs) h.nodes ∙ ap (λ (t : Bool). t || false) e

pub says_budget : (b : BookModel) (o : Options) (text : List ℕ) → IsBook b → verdict_of b ≡ UnknownBudget → text ≡ budget_text o.budget → SaysLeft o b text
says_budget b o text w v e =
    let live : has_live b ≡ true = live_in_budget b v in
    record {
      tree = λ t left i. e ∙ open-text (problem_in b) (loosenings_of o) o.budget left ((left_tells_of_nodes b w t left i).live ∙ live);
      crossed = λ h. absurd (true≢false (sym live ∙ crossed-none is_live b h refl));
    }

pub says_unsat : (b : BookModel) (o : Options) (text : List ℕ) → IsBook b → verdict_of b ≡ Unsat → text ≡ unsat_text (loosenings_of o) → SaysLeft o b text
says_unsat b o text w v e =
    let none = nothing-in-unsat b v in
    record {
      tree = λ t left i. e ∙ ap (λ (xs : List Standing). solve_text (problem_in b) o.budget (loosenings_of o) (left_open xs)) (sym ((left_tells_of_nodes b w t left i).nothing.1 (none.1, none.2)));
      crossed = λ h. e;
    }

pub says_width : (b : BookModel) (text : List ℕ) → IsBook b → verdict_of b ≡ UnknownWidth → (j : ℕ) (S : State) → IsFirstStuck b j S → text ≡ width_text (problem_in b) S j → (o : Options) → SaysLeft o b text
says_width b text w v j S f e o =
    let none = stuck_in_width b v in
    record {
      tree = λ t left i. let first = f.ahead none.0 t left i in
          e ∙ stuck-text (problem_in b) (loosenings_of o) o.budget left j S first.0 first.1 ((left_tells_of_nodes b w t left i).live ∙ none.0);
      crossed = λ h. absurd (true≢false (sym f.some ∙ crossed-none is_stuck b h refl));
    }

-- the same of a problem and a space that are the book's
pub width_as : (b : BookModel) (q : Parts) → q ≡ b.problem → (x : Space) (S : State) (j : ℕ) → x ≡ S.space → (text : List ℕ) → ((marks : List Mark) → text ≡ width_text (problem_of q) (record { space = x; marks = marks }) j) →
    text ≡ width_text (problem_in b) S j
width_as b q e x S j f text h =
    h S.marks ∙ ap (λ (r : Parts). width_text (problem_of r) (record { space = x; marks = S.marks }) j) e ∙ ap (λ (y : Space). width_text (problem_in b) (record { space = y; marks = S.marks }) j) f

-- ---- certificates

-- with the words' options in place of the book's
accepted-as : (b : BookModel) (o : Options) (v : ℕ) (cert : List ℕ) (value : Value) → b.options ≡ options_in v (search_options o) → IsAccepted (problem_in b) b.options.bound cert (loosenings_in b) value →
    IsAccepted (problem_in b) o.bound cert (in_version v (loosenings_of o)) value
accepted-as b o v cert value e h = subst (λ (x : cover.Options). IsAccepted (problem_in b) x.bound cert (of_margins (margins_of x)) value) e h

-- what an answer of a cover is, with what it leaves
pub record IsCover (o : Options) (b : BookModel) (cert : List ℕ) : Type 0 where
  pub left : List Standing
  pub answer : IsAnswer (problem_in b) o cert (left_open left)
  pub says : (text : List ℕ) → SaysLeft o b text → text ≡ solve_text (problem_in b) o.budget (loosenings_of o) (left_open left)

all-of-none : (p : Problem) (width : ℕ) (xs : List Stands) → xs ≡ [] → All (λ (x : Stands). IsTrue (is_honest p width x.loosenings x.line.state x.line.does)) xs
all-of-none p width [] e = All-nil (λ (x : Stands). IsTrue (is_honest p width x.loosenings x.line.state x.line.does))
all-of-none p width (x ∷ xs) e = cc

module _ (b : BookModel) (w : IsBook b) (o : Options) (by : IsLeftBy o b) (n : b.point ≡ None) (cert : List ℕ) where
  crossed-cover : IsCrossed b → IsCrossedText b cert → IsCover o b cert
  crossed-cover h c = record {
    left = [];
    answer = record {
      version = b.options.version;
      is_version = by.version;
      accepted = accepted-as b o b.options.version cert (left_open []) by.asked c.accepted;
      found = record {
        honest = all-of-none (problem_in b) o.least_bits (standing (problem_in b) o.bound cert) stands;
        within = omega (arith, none);
        spent = λ e. absurd (true≢false (sym e));
      };
    };
    says = λ text s. s.crossed h;
  }
    where
      stands : standing (problem_in b) o.bound cert ≡ []
      stands = subst (λ (x : cover.Options). standing (problem_in b) x.bound cert ≡ []) by.asked c.standing

      none : branches (problem_in b) o.bound cert ≡ 0
      none = ap branches_of stands

  tree-cover : IsCovered b → IsTreeText b cert → IsCover o b cert
  tree-cover h c = record {
    left = c.left;
    answer = record {
      version = b.options.version;
      is_version = by.version;
      accepted = accepted-as b o b.options.version cert (left_open c.left) by.asked c.accepted;
      found = record {
        honest = subst (λ (x : cover.Options). IsHonest (problem_in b) x.bound x.least_bits cert) by.asked (c.honest (λ k S e. (by.due n k S e).not_shown));
        within = omega (arith, many, w.budget, budget);
        spent = λ e. spent (has_live b) refl e;
      };
    };
    says = λ text s. s.tree c.tree c.left c.is_tree;
  }
    where
      many : branches (problem_in b) o.bound cert ≡ b.branches
      many = subst (λ (x : cover.Options). branches (problem_in b) x.bound cert ≡ b.branches) by.asked c.branches

      budget : b.options.budget ≡ o.budget
      budget = ap (λ (x : cover.Options). x.budget) by.asked

      spent : (l : Bool) → has_live b ≡ l → IsTrue (has_open c.left) → branches (problem_in b) o.bound cert ≡ o.budget
      spent true e f = let x = one_is_live b e in omega (arith, many, budget, w.budget, (by.due n x.0 x.1 x.2).spent)
      spent false e f = absurd (true≢false (sym f ∙ (left_tells_of_nodes b w c.tree c.left c.is_tree).live ∙ e))

  some-none : (i : ℕ) → first_crossed (problem_in b) ≡ Some i → first_crossed (problem_in b) ≡ None → ⊥
  some-none i e f = cc

  no-tree-crossed : IsCrossed b → IsTreeText b cert → ⊥
  no-tree-crossed h c = some-none h.axis h.first c.is_tree.not_crossed

  pub cover_is : IsCertificateOf b cert → IsCover o b cert
  cover_is (inl c) = elim w.nodes [
    | inl h ↦ crossed-cover h c
    | inr h ↦ absurd (some-none c.axis c.first h.not_crossed)
  ]
  cover_is (inr c) = elim w.nodes [
    | inl h ↦ absurd (no-tree-crossed h c)
    | inr h ↦ tree-cover h c
  ]

-- what is told of a book without a point is an answer
pub search_answer : (p : Problem) (o : Options) (told : SearchAnswer) → IsLeftAnswer p o told → IsSearchAnswer p o told
search_answer p o told h = record { value = left_open h.left; answer = h.answer; text = h.text }

-- ---- points

module _ (b : BookModel) (w : IsBook b) (o : Options) (by : IsLeftBy o b) (x : Space) (kept : b.point ≡ Some x) (q : Parts) (is-problem : q ≡ b.problem) where
  pub point_answers : (a : cover.Options) → a ≡ b.options → (cert : List ℕ) →
      (AreMargins (margins_of a) → IsShownAt (problem_of q) (of_margins (margins_of a)) x → IsAccepted (problem_of q) a.bound cert (of_margins (margins_of a)) (at_point x)) → IsAnswer (problem_in b) o cert (at_point x)
  point_answers a is-asked cert h =
      let shown = subst (λ (p : Option Space). IfSome p (λ (y : Space). IsShownAt (problem_in b) (loosenings_in b) y × IsGridSpace y)) kept w.point in
      let here = subst (λ (r : Parts). AreMargins (margins_of a) → IsShownAt (problem_of r) (of_margins (margins_of a)) x → IsAccepted (problem_of r) a.bound cert (of_margins (margins_of a)) (at_point x)) is-problem h in
      let there = subst (λ (y : cover.Options). AreMargins (margins_of y) → IsShownAt (problem_in b) (of_margins (margins_of y)) x → IsAccepted (problem_in b) y.bound cert (of_margins (margins_of y)) (at_point x)) is-asked here in
      record { version = b.options.version; is_version = by.version; accepted = accepted-as b o b.options.version cert (at_point x) by.asked (there w.limits.margins shown.0); found = tt }

  pub says_point : (y : Space) → y ≡ x → (text : List ℕ) → ((s : Loosenings) → s.delta_bits ≡ o.delta_bits → text ≡ delta_sat_text (problem_of q) s y) → text ≡ solve_text (problem_in b) o.budget (loosenings_of o) (at_point x)
  says_point y is text h = h (loosenings_of o) refl ∙ ap (λ (r : Parts). delta_sat_text (problem_of r) (loosenings_of o) y) is-problem ∙ ap (λ (z : Space). delta_sat_text (problem_in b) (loosenings_of o) z) is
