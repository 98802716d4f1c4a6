-- From plans to the end of a run.
use Rattle.std.proofs.Common.{◌≡◌, ◌≤◌, ◌+◌, ◌∙◌, ℕ, zero, suc, List, [], ◌∷◌, ◌++◌, Bool, Some, length, map, take, refl, ap, ap₂, sym, subst, arith, append_assoc, append-nil}
use Rattle.std.specs.Prelude.{slice_get}
use Rattle.std.proofs.lemmas.List.{map-append}
use Rattle.desk.specs.Sight.{Sight}
use Rattle.poly_graph.specs.Problem.{Problem}
use Rattle.poly_graph.specs.ProblemViews.{Parts, problem_of}
use Rattle.problem_session.specs.Session.{checked_of, problems_of}
use Rattle.width_plan.specs.Plan.{Answer, IsPlan}
use Rattle.check_run.specs.declared.status.Status.{Status}
use Rattle.check_run.specs.declared.status.Status.TheVariants.{Answered}
use Rattle.check_run.specs.Course.{says, Ends, RunEnds, on_course}
use Rattle.check_run.specs.Can.{ArePlans, CanPlan, plan_text, plan_texts}
use Rattle.dpoly.specs.Plan.{ArePlanTexts, IsPlanText}

pub planned_ends : (ps : List (Problem × Bool)) (delta_bits margin_bits : ℕ) (text bytes : List ℕ) (old new : Sight) (status : Status)
    → ArePlanTexts ps delta_bits margin_bits text → bytes ≡ text → Ends (says Answered bytes) old new status → RunEnds (CanPlan ps delta_bits margin_bits) [] old new status
planned_ends ps delta_bits margin_bits text bytes old new status is same ends =
    on_course (says Answered (plan_texts is.answers)) (is.answers, is.plans, refl) (subst (λ (t : List ℕ). Ends (says Answered t) old new status) (same ∙ is.text_is) ends)

-- ---- one plan after the other

abbrev pub parts_in : List (Parts × Bool) → List Parts
parts_in session = map (λ (q : Parts × Bool). q.0) session

-- the first parts, up to those at a place
pub at_split : (session : List (Parts × Bool)) (k : ℕ) (p : Parts) → slice_get (parts_in session) k ≡ Some p → (e : Bool) × (take (suc k) session ≡ take k session ++ (p, e) ∷ [])
at_split [] k p h = cc
at_split ((q, e) ∷ rest) zero p h = let same : q ≡ p = cc in (e, ap (λ (y : Parts). (y, e) ∷ []) same)
at_split (q ∷ rest) (suc k) p h = let behind = at_split rest k p h in (behind.0, ap (λ (ys : List (Parts × Bool)). q ∷ ys) behind.1)

pub at_below : (session : List (Parts × Bool)) (k : ℕ) (p : Parts) → slice_get (parts_in session) k ≡ Some p → suc k ≤ length session
at_below [] k p h = cc
at_below (q ∷ rest) zero p h = omega arith
at_below (q ∷ rest) (suc k) p h = omega (arith, at_below rest k p h)

pub take_whole : {X : Type 0} (xs : List X) (n : ℕ) → length xs ≤ n → take n xs ≡ xs
take_whole [] zero h = refl
take_whole [] (suc n) h = refl
take_whole (x ∷ xs) zero h = absurd (omega (arith, h))
take_whole (x ∷ xs) (suc n) h = ap (λ ys. x ∷ ys) (take_whole xs n (omega (arith, h)))

plans-more : (d m : ℕ) (ps : List (Problem × Bool)) (answers : List Answer) (p : Problem) (e : Bool) (answer : Answer) → ArePlans ps d m answers → IsPlan p d m answer → ArePlans (ps ++ (p, e) ∷ []) d m (answers ++ answer ∷ [])
plans-more d m [] [] p e answer h is = (is, tt)
plans-more d m ((q, x) ∷ ps) (a ∷ answers) p e answer h is = (h.0, plans-more d m ps answers p e answer h.1 is)
plans-more d m [] (a ∷ answers) p e answer h is = absurd h
plans-more d m ((q, x) ∷ ps) [] p e answer h is = absurd h

texts-more : (answers : List Answer) (answer : Answer) → plan_texts (answers ++ answer ∷ []) ≡ plan_texts answers ++ plan_text answer
texts-more [] answer = append-nil (plan_text answer)
texts-more (a ∷ answers) answer = ap (λ (t : List ℕ). plan_text a ++ t) (texts-more answers answer) ∙ sym (append_assoc (plan_text a) (plan_texts answers) (plan_text answer))

-- the problem at a place, and the text of the plans up to it
pub record PlannedSoFar (session : List (Parts × Bool)) (d m k : ℕ) (p : Parts) (text : List ℕ) : Type 0 where
  pub at : slice_get (parts_in session) k ≡ Some p
  pub plans : ArePlanTexts (problems_of (take (suc k) session)) d m text

module _ (session : List (Parts × Bool)) (d m : ℕ) where
  one-more : (k : ℕ) (p : Parts) (text one all : List ℕ) → slice_get (parts_in session) k ≡ Some p → ArePlanTexts (problems_of (take k session)) d m text → IsPlanText (problem_of p) d m one → all ≡ text ++ one →
      ArePlanTexts (problems_of (take (suc k) session)) d m all
  one-more k p text one all at so_far is e =
      let split = at_split session k p at in
      let same : problems_of (take k session) ++ (problem_of p, split.0) ∷ [] ≡ problems_of (take (suc k) session) = sym (ap problems_of split.1 ∙ map-append checked_of (take k session) ((p, split.0) ∷ [])) in
      record {
        answers = so_far.answers ++ is.answer ∷ [];
        plans = subst (λ (ps : List (Problem × Bool)). ArePlans ps d m (so_far.answers ++ is.answer ∷ [])) same (plans-more d m (problems_of (take k session)) so_far.answers (problem_of p) split.0 is.answer so_far.plans is.plan);
        text_is = e ∙ ap₂ (λ (x y : List ℕ). x ++ y) so_far.text_is is.text_is ∙ sym (texts-more so_far.answers is.answer);
      }

  pub planned_first : (p : Parts) (text : List ℕ) → slice_get (parts_in session) 0 ≡ Some p → IsPlanText (problem_of p) d m text → PlannedSoFar session d m 0 p text
  planned_first p text at is = record { at = at; plans = one-more 0 p [] text text at (record { answers = []; plans = tt; text_is = refl }) is refl }

  pub planned_more : (k : ℕ) (p q : Parts) (text one all : List ℕ) → PlannedSoFar session d m k p text → slice_get (parts_in session) (k + 1) ≡ Some q → IsPlanText (problem_of q) d m one → all ≡ text ++ one → PlannedSoFar session d m (k + 1) q all
  planned_more k p q text one all so_far there is e =
      let next : k + 1 ≡ suc k = omega arith in
      record {
        at = there;
        plans = one-more (k + 1) q text one all there (subst (λ (n : ℕ). ArePlanTexts (problems_of (take n session)) d m text) (sym next) so_far.plans) is e;
      }

  pub planned_all : (k : ℕ) (p : Parts) (text : List ℕ) → PlannedSoFar session d m k p text → length session ≤ k + 1 → ArePlanTexts (problems_of session) d m text
  planned_all k p text so_far all = subst (λ (ys : List (Parts × Bool)). ArePlanTexts (problems_of ys) d m text) (take_whole session (suc k) (omega (arith, all))) so_far.plans
