-- What comes of a line does not rest on what the code does not keep: the states that stay, and the leaves that are over.
use Rattle.std.proofs.Common.{◌≡◌, ℕ, List, [], Bool, true, false, cond, Option, Some, None, refl, ap, sym, ◌∙◌}
use Rattle.interval_model.specs.Space.{Space}
use Rattle.dyadic.specs.Rounding.{Dyadic}
use Rattle.poly_graph.specs.Problem.{Problem}
use Rattle.poly_graph.specs.ProblemViews.{problem_of}
use Rattle.cover_model.specs.State.{Loosenings}
use Rattle.cover_model.specs.Rules.{Line, open_line}
use Rattle.cert_read.specs.CertLine.{CertLine, point_word, rule_line, over, Parsed, too_long, bad_line, bad_number, line}
use Rattle.cert_model.specs.Due.{Standing, OverFails, at_point, left_open, Due, version_due, kind_due, root_due, tree_due, end_due, nothing_due, Next, on, faulty}
use Rattle.cert_model.specs.Accepted.{next}
use Rattle.goal_limit.specs.Limits.{has_room}
use Rattle.cert_model.specs.Least.{header_due, lower_due, cover_due, in_cover_due, covered_due, in_point_due, shown_due, in_header, in_cover, in_point, is_over, tree_space, over_line, leaves_open, leaf_line, cover_line, searched, GoalDue, plain_due, least_due, as_plain, as_least, goal_next}
use Rattle.cert_check.specs.Dues.{lean, lean_next, next_map}
use Rattle.cert_check.proofs.Leans.{next_lean}
use Rattle.cert_least.specs.Aims.{Aim, aim_step, lean_goal}
use Rattle.cert_least.specs.Phases.{header_at, in_cover_at, in_point_at}

-- ---- what comes of a line, by what comes of it in the checker of the check

pub plain_leads : (x : Next) → next_map lean_goal (as_plain x) ≡ next_map plain_due (lean_next x)
plain_leads (on d) = refl
plain_leads (faulty f) = refl

pub header_leads : (x : Next) → next_map lean_goal (as_least (in_header x)) ≡ next_map (λ (d : Due). least_due (header_at d)) (lean_next x)
header_leads (on (kind_due s)) = refl
header_leads (on _) = refl
header_leads (faulty f) = refl

pub cover_leads : (e : Option Dyadic) (k : Option ℕ) (x : Next) → next_map lean_goal (as_least (in_cover e k x)) ≡ next_map (λ (d : Due). least_due (in_cover_at e k d)) (lean_next x)
cover_leads e k (on (nothing_due s lemmas (left_open left))) = refl
cover_leads e k (on (nothing_due s lemmas (at_point space))) = refl
cover_leads e k (on _) = refl
cover_leads e k (faulty f) = refl

pub point_leads : (e : Option Dyadic) (left : List Standing) (x : Next) → next_map lean_goal (as_least (in_point e left x)) ≡ next_map (λ (d : Due). least_due (in_point_at e d)) (lean_next x)
point_leads e left (on (nothing_due s lemmas (left_open stay))) = refl
point_leads e left (on (nothing_due s lemmas (at_point space))) = refl
point_leads e left (on _) = refl
point_leads e left (faulty f) = refl

-- ---- without what is not kept

-- a line in the cover of the problem p
module _ (p : Problem) (g : ℕ) (b : Option ℕ) (e : Option Dyadic) (k : Option ℕ) where
  cover-lean : (d : Due) (l : CertLine) → next_map lean_goal (as_least (in_cover e k (next p b d l))) ≡ next_map lean_goal (as_least (in_cover e k (next p b (lean d) l)))
  cover-lean d l =
      cover_leads e k (next p b d l) ∙ ap (next_map (λ (d' : Due). least_due (in_cover_at e k d'))) (next_lean p b d l) ∙ sym (cover_leads e k (next p b (lean d) l))

  same-space : (d : Due) → tree_space p d ≡ tree_space p (lean d)
  same-space (root_due s lemmas) = refl
  same-space (tree_due s lemmas S pending done) = refl
  same-space (end_due s lemmas v) = refl
  same-space (nothing_due s lemmas v) = refl
  same-space _ = refl

  over-chosen : (t : Bool) (d : Due) →
      next_map lean_goal (as_least (cond t (in_cover e k (next p b d (rule_line open_line))) (faulty OverFails))) ≡ next_map lean_goal (as_least (cond t (in_cover e k (next p b (lean d) (rule_line open_line))) (faulty OverFails)))
  over-chosen true d = cover-lean d (rule_line open_line)
  over-chosen false d = refl

  over-lean : (d : Due) (o : Option Space) → next_map lean_goal (as_least (over_line p b g e k d o)) ≡ next_map lean_goal (as_least (over_line p b g e k (lean d) o))
  over-lean d None = cover-lean d over
  over-lean d (Some space) = over-chosen (is_over p g e space) d

  leaf-lean : (d : Due) (l : Line) (o : Option Space) → next_map lean_goal (as_least (leaf_line p b e k d l o)) ≡ next_map lean_goal (as_least (leaf_line p b e k (lean d) l o))
  leaf-lean d l None = cover-lean d (rule_line l)
  leaf-lean d l (Some space) = refl

  rule-chosen : (t : Bool) (d : Due) (l : Line) →
      next_map lean_goal (as_least (cond t (leaf_line p b e k d l (tree_space p d)) (in_cover e k (next p b d (rule_line l))))) ≡
      next_map lean_goal (as_least (cond t (leaf_line p b e k (lean d) l (tree_space p (lean d))) (in_cover e k (next p b (lean d) (rule_line l)))))
  rule-chosen true d l =
      leaf-lean d l (tree_space p d) ∙ ap (λ (o : Option Space). next_map lean_goal (as_least (leaf_line p b e k (lean d) l o))) (same-space d)
  rule-chosen false d l = cover-lean d (rule_line l)

  in-cover-lean : (d : Due) (l : CertLine) → next_map lean_goal (as_least (cover_line p g b e k d l)) ≡ next_map lean_goal (as_least (cover_line p g b e k (lean d) l))
  in-cover-lean d over =
      over-lean d (tree_space p d) ∙ ap (λ (o : Option Space). next_map lean_goal (as_least (over_line p b g e k (lean d) o))) (same-space d)
  in-cover-lean d (rule_line l) = rule-chosen (leaves_open l) d l
  in-cover-lean d l = cover-lean d l

module _ (p : Problem) (g : ℕ) (room : Bool) (b : Option ℕ) where
  covered-lean : (s : Loosenings) (e : Option Dyadic) (left : List Standing) (l : CertLine) →
      next_map lean_goal (goal_next p g room b (least_due (covered_due s e left)) l) ≡ next_map lean_goal (goal_next p g room b (least_due (covered_due s e [])) l)
  covered-lean s e left point_word = let x = next p b (kind_due s) point_word in point_leads e left x ∙ sym (point_leads e [] x)
  covered-lean s e left _ = refl

  plain-lean : (d : Due) (l : CertLine) → next_map lean_goal (as_plain (next p b d l)) ≡ next_map lean_goal (as_plain (next p b (lean d) l))
  plain-lean d l = plain_leads (next p b d l) ∙ ap (next_map plain_due) (next_lean p b d l) ∙ sym (plain_leads (next p b (lean d) l))

  pub goal_lean : (d : GoalDue) (l : CertLine) → next_map lean_goal (goal_next p g room b d l) ≡ next_map lean_goal (goal_next p g room b (lean_goal d) l)
  goal_lean (plain_due version_due) l = refl
  goal_lean (plain_due (kind_due s)) l = refl
  goal_lean (plain_due d) l = plain-lean d l
  goal_lean (least_due (header_due d)) l =
      header_leads (next p b d l) ∙ ap (next_map (λ (d' : Due). least_due (header_at d'))) (next_lean p b d l) ∙ sym (header_leads (next p b (lean d) l))
  goal_lean (least_due (lower_due s)) l = refl
  goal_lean (least_due (cover_due s e k)) l = refl
  goal_lean (least_due (in_cover_due e k d)) l = in-cover-lean (searched p g e k) g b e k d l
  goal_lean (least_due (covered_due s e left)) l = covered-lean s e left l
  goal_lean (least_due (in_point_due e left d)) l =
      point_leads e left (next p b d l) ∙ ap (next_map (λ (d' : Due). least_due (in_point_at e d'))) (next_lean p b d l) ∙ sym (point_leads e [] (next p b (lean d) l))
  goal_lean (least_due (shown_due s x)) l = refl

pub step_lean : (a : Aim) (d : GoalDue) (l : Parsed) → next_map lean_goal (aim_step a d l) ≡ next_map lean_goal (aim_step a (lean_goal d) l)
step_lean a d too_long = refl
step_lean a d bad_line = refl
step_lean a d bad_number = refl
step_lean a d (line l) = goal_lean (problem_of a.problem) a.goal (has_room (problem_of a.problem)) a.bound d l
