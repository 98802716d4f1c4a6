-- Runs in a version of the format are runs in each later one.
use Rattle.std.proofs.Common.{◌≡◌, ℕ, ◌≤◌, List, [], ◌∷◌, Bool, true, false, IsTrue, Option, Some, None, refl, sym, ap, subst}
use Rattle.std.specs.Prelude.{IfSome}
use Rattle.std.proofs.lemmas.List.Elements.{All-weaker}
use Rattle.dyadic.specs.Point.{Coordinate}
use Rattle.poly_graph.specs.Problem.{Problem}
use Rattle.cover_model.specs.State.{State, Loosenings, in_version, IsPointOf, IsLemma}
use Rattle.cover_model.specs.Rules.{Line, narrow_by, end_by, mark_by, branch_by, stay_by, Left, one, two, when, can_branch, first_child, second_child, rule}
use Rattle.cover_model.specs.Fits.{IsShownAt}
use Rattle.interval_model.specs.Space.{Space}
use Rattle.cover_model.specs.Honest.{is_honest}
use Rattle.cover_model.proofs.Later.{rule_later, honest_later}
use Rattle.cover_data.specs.declared.margins.Margins.{Margins}
use Rattle.cover_data.specs.Margins.{loosenings_of, margins_in}
use Rattle.cover_data.specs.Models.{LemmaModel, KeptModel}
use Rattle.cover_data.specs.Runs.{StepsLead, CanBranch, IsEnding, IsLawfulRun, IsSoundRun, IsRun}
use Rattle.cover_data.specs.Laws.{RunIsLater}

-- ---- points and lemmas, which no version changes

module _ (p : Problem) (s : Loosenings) (v : ℕ) where
  points_in : (S : State) (point : List Coordinate) → IsPointOf p s S point → IsPointOf p (in_version v s) S point
  points_in S point i = record { sorted = i.sorted; inside = i.inside; yes = i.yes; no = i.no }

  points_of : (S : State) (point : List Coordinate) → IsPointOf p (in_version v s) S point → IsPointOf p s S point
  points_of S point i = record { sorted = i.sorted; inside = i.inside; yes = i.yes; no = i.no }

  pub lemma_in : (L : State) → IsLemma p s L → IsLemma p (in_version v s) L
  lemma_in L h point i f = h point (points_of L point i) f

  pub shown_in : (space : Space) → IsShownAt p s space → IsShownAt p (in_version v s) space
  shown_in space h = record { single = h.single; surely = h.surely; near = h.near }

-- ---- runs

if-more : (o : Option Line) (P Q : Line → Type 0) → ((l : Line) → P l → Q l) → IfSome o P → IfSome o Q
if-more None P Q f h = h
if-more (Some l) P Q f h = f l h

ends-more : (o u : Option Left) → ((x : Left) → o ≡ Some x → u ≡ Some x) → IsEnding o → IsEnding u
ends-more None u f h = absurd h
ends-more (Some x) u f h = subst IsEnding (sym (f x refl)) h

stands : (b : Bool) (l x : Left) → when b l ≡ Some x → IsTrue b
stands true l x e = refl
stands false l x e = cc

module _ (p : Problem) (m : Margins) (v : ℕ) (later : m.version ≤ v) where
  abbrev s : Loosenings
  s = loosenings_of m

  steps-later : (lemmas : List State) (S T : State) (steps : List Line) → StepsLead p s lemmas S steps T → StepsLead p (in_version v s) lemmas S steps T
  steps-later lemmas S T [] e = e
  steps-later lemmas S T (l ∷ ls) h = (h.0, rule_later p s v later lemmas S l (one h.0) h.1, steps-later lemmas h.0 T ls h.2)

  branches-later : (S : State) (l : Line) → CanBranch p s l S → CanBranch p (in_version v s) l S
  branches-later S (branch_by b) h = let both = two (first_child S b) (second_child S b) in
      stands (can_branch p (in_version v s) S b) both both (rule_later p s v later [] S (branch_by b) both (ap (λ (t : Bool). when t both) h))
  branches-later S (narrow_by n) h = tt
  branches-later S (end_by e) h = tt
  branches-later S (mark_by m) h = tt
  branches-later S (stay_by t) h = tt

  module _ (k : KeptModel) where
    lawful-later : IsLawfulRun p m k → IsLawfulRun p (margins_in v m) k
    lawful-later r = record {
      steps = λ lemmas h. steps-later lemmas k.first k.reached k.steps (r.steps lemmas h);
      end = λ lemmas h. if-more k.end (λ l. IsEnding (rule p s lemmas k.reached l)) (λ l. IsEnding (rule p (in_version v s) lemmas k.reached l))
          (λ l e. ends-more (rule p s lemmas k.reached l) (rule p (in_version v s) lemmas k.reached l) (rule_later p s v later lemmas k.reached l) e) (r.end lemmas h);
      honest = if-more k.end (λ l. IsTrue (is_honest p m.least_bits s k.reached l)) (λ l. IsTrue (is_honest p m.least_bits (in_version v s) k.reached l))
          (λ l e. honest_later p s v later m.least_bits k.reached l e) r.honest;
    }

    sound-later : IsSoundRun p s k → IsSoundRun p (in_version v s) k
    sound-later r = record {
      quoted = All-weaker (λ (l : LemmaModel). IsLemma p s l.state) (λ (l : LemmaModel). IsLemma p (in_version v s) l.state) (λ l h. lemma_in p s v l.state h) k.quoted r.quoted;
      first = r.first;
      reached = r.reached;
      within = r.within;
      points = λ point i f. points_in p s v k.reached point (r.points point (points_of p s v k.first point i) f);
      closed = λ c. lemma_in p s v k.reached (r.closed c);
      parts = if-more k.end (λ l. CanBranch p s l k.reached) (λ l. CanBranch p (in_version v s) l k.reached) (λ l c. branches-later k.reached l c) r.parts;
    }

    pub run_later : IsRun p m k → IsRun p (margins_in v m) k
    run_later r = record { lawful = lawful-later r.lawful; sound = sound-later r.sound }

pub run_is_later : RunIsLater
run_is_later p m v later k r = run_later p m v later k r
