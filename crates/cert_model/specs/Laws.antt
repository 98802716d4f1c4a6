-- The laws of accepted certificates.
use Rattle.std.specs.Prelude.{◌≡◌, ℕ, ◌+◌, ◌<◌, ◌≤◌, List, [], ◌∷◌, ◌++◌, Option, None, false, IsTrue, length, map}
use Rattle.std.specs.List.{AllByRecursion}
use Rattle.dyadic.specs.Point.{Coordinate, IsPoint}
use Rattle.dyadic.specs.Rounding.{exact}
use Rattle.poly_graph.specs.Problem.{Problem, IsProblem, sorts_of_problem, in_declared_box, first_crossed, crosses}
use Rattle.interval_model.specs.Space.{Space}
use Rattle.cover_model.specs.State.{State, Loosenings, delta_of, root_state, may, MeetsAt, MeetsForm}
use Rattle.cover_model.specs.Derivation.{Tree, tree_lines, Lawful, Among, AreLemmas}
use Rattle.cover_model.specs.Rules.{make_false}
use Rattle.cert_read.specs.LineText.{IsSpelledBound, IsSpelled}
use Rattle.cert_read.specs.CertLine.{CertLine, version, margin, delta, bound, cover, tree_word, end_word, rule_line, crossing}
use Rattle.cert_read.specs.Lines.{lines_of}
use Rattle.cert_model.specs.Due.{Standing, Value, is_version, version_due, at_point, left_open, is_shown, coordinates}
use Rattle.cert_model.specs.Accepted.{IsAccepted, is_header, course_of_lines, ended, verdict, certificate_text, most_bytes, most_lemmas, accepted}
use Rattle.cert_model.specs.Derived.{AreDerived, states_of, IsCover, AreNear, EndsOnce, AreSingle}
use Rattle.cert_model.specs.Standing.{standing, IsHonest, branches}
use Rattle.cert_model.specs.Written.{rule_lines, NamesWell, left_standing, tree_standing, IsHonestTree, tree_branches, LemmaTree, lemma_states, AreLemmaTrees, cover_lines, point_lines}

-- The version, margin and delta of an accepted certificate's header are in their limits.
abbrev pub HeaderFits : Type 0
HeaderFits = (p : Problem) (bound : Option ℕ) (bytes : List ℕ) (s : Loosenings) (v : Value) → IsAccepted p bound bytes s v →
    (1 ≤ s.delta_bits) × (s.delta_bits ≤ 30) × (s.delta_bits < s.margin_bits) × (s.margin_bits ≤ 60) × IsTrue (is_version s.version)

-- The last line of accepted bytes is `end`, and no other line is.
abbrev pub EndIsLast : Type 0
EndIsLast = (p : Problem) (bound : Option ℕ) (bytes : List ℕ) (s : Loosenings) (v : Value) → IsAccepted p bound bytes s v → EndsOnce (lines_of bytes)

-- An accepted cover's lemmas are derived by the rules, each from those before it, and so is its tree from the root,
-- whose left states are the value; or the bounds of an axis cross.
abbrev pub CoverIsDerived : Type 0
CoverIsDerived = (p : Problem) (bound : Option ℕ) (bytes : List ℕ) (s : Loosenings) (left : List Standing) →
    IsAccepted p bound bytes s (left_open left) → IsCover p s left

-- No point of a derived lemma's state meets the form at the margin.
abbrev pub LemmasHaveNoPoint : Type 0
LemmasHaveNoPoint = (p : Problem) → IsProblem p → (s : Loosenings) (lemmas : List State) → AreDerived p s [] lemmas → AreLemmas p s lemmas

-- Each point of the declared box that meets the form at the header's margin is one of a left state.
abbrev pub CoverCatches : Type 0
CoverCatches = (p : Problem) → IsProblem p → (bound : Option ℕ) (bytes : List ℕ) (s : Loosenings) (left : List Standing) →
    IsAccepted p bound bytes s (left_open left) →
    (point : List Coordinate) → IsPoint (sorts_of_problem p) point → IsTrue (in_declared_box p point) → MeetsForm p s point →
    Among p s point (states_of left)

-- Where nothing is left, no point of the declared box meets the form at the header's margin.
abbrev pub EmptyCoverMeans : Type 0
EmptyCoverMeans = (p : Problem) → IsProblem p → (bound : Option ℕ) (bytes : List ℕ) (s : Loosenings) →
    IsAccepted p bound bytes s (left_open []) →
    (point : List Coordinate) → IsPoint (sorts_of_problem p) point → IsTrue (in_declared_box p point) → MeetsForm p s point → ⊥

-- A point that is accepted meets the form at the header's delta, and lies within delta of the declared box.
abbrev pub PointMeans : Type 0
PointMeans = (p : Problem) → IsProblem p → (bound : Option ℕ) (bytes : List ℕ) (s : Loosenings) (space : Space) →
    IsAccepted p bound bytes s (at_point space) →
    IsPoint (sorts_of_problem p) (coordinates space) × MeetsAt p (delta_of s) (coordinates space) × AreNear (exact (delta_of s)) p.axes (coordinates space)

-- Lines that can be spelled have the verdict of their text.
abbrev pub TextHasLines : Type 0
TextHasLines = (p : Problem) (bound : Option ℕ) (ls : List CertLine) → AllByRecursion IsSpelled ls → length (certificate_text ls) ≤ most_bytes →
    verdict p bound (certificate_text ls) ≡ ended (course_of_lines p bound 0 version_due ls)

-- the certificate that has the line `false` for its tree
abbrev pub shortest_lines : Loosenings → Option ℕ → List CertLine
shortest_lines s b = version s.version ∷ margin s.margin_bits ∷ delta s.delta_bits ∷ bound b ∷ cover 0 ∷ tree_word ∷ rule_line make_false ∷ end_word ∷ []

-- Where the declared box is not empty, and the form can't hold at the root, it is accepted.
abbrev pub ShortestIsAccepted : Type 0
ShortestIsAccepted = (p : Problem) (b : Option ℕ) → IsSpelledBound b → (s : Loosenings) → IsTrue (is_header s) →
    first_crossed p ≡ None → may p s (root_state p) ≡ false → IsAccepted p b (certificate_text (shortest_lines s b)) s (left_open [])

-- Lemmas with their trees and a lawful tree at the root, written as lines, are accepted with what the tree leaves.
abbrev pub CoverIsAccepted : Type 0
CoverIsAccepted = (p : Problem) (b : Option ℕ) (s : Loosenings) (lemmas : List LemmaTree) → IsTrue (is_header s) → length lemmas ≤ most_lemmas →
    AreLemmaTrees p s [] lemmas → first_crossed p ≡ None → (t : Tree) (rest : List State) → Lawful p s (lemma_states lemmas) (root_state p) t rest → NamesWell p t →
    ended (course_of_lines p b 0 version_due (cover_lines s b lemmas (rule_lines (tree_lines t)))) ≡ accepted s (left_open (left_standing p s (lemma_states lemmas) (root_state p) t))

-- And so is the line for bounds that cross.
abbrev pub CrossingIsAccepted : Type 0
CrossingIsAccepted = (p : Problem) (b : Option ℕ) (s : Loosenings) (lemmas : List LemmaTree) → IsTrue (is_header s) → length lemmas ≤ most_lemmas →
    AreLemmaTrees p s [] lemmas → (i : ℕ) → IsTrue (crosses p i) →
    ended (course_of_lines p b 0 version_due (cover_lines s b lemmas (crossing i ∷ []))) ≡ accepted s (left_open [])

-- And so is a point that is shown.
abbrev pub PointIsAccepted : Type 0
PointIsAccepted = (p : Problem) (b : Option ℕ) (s : Loosenings) → IsTrue (is_header s) → (space : Space) → AreSingle p.axes space → IsTrue (is_shown p s (at_point space)) →
    ended (course_of_lines p b 0 version_due (point_lines s b space)) ≡ accepted s (at_point space)

-- ---- the same of the bytes

-- the lines can be spelled, and are no longer than a certificate may be
abbrev pub CanBeWritten : List CertLine → Type 0
CanBeWritten ls = AllByRecursion IsSpelled ls × (length (certificate_text ls) ≤ most_bytes)

-- lemmas with their trees, which follow those that are kept, and a tree at the root of a declared box that is not empty, which follow
-- the rules
pub record IsLawfulCover (p : Problem) (s : Loosenings) (kept : List State) (lemmas : List LemmaTree) (t : Tree) : Type 0 where
  pub loosenings : IsTrue (is_header s)
  pub count : length kept + length lemmas ≤ most_lemmas
  pub lemma_trees : AreLemmaTrees p s kept lemmas
  pub not_crossed : first_crossed p ≡ None
  pub left : List State
  pub lawful : Lawful p s (kept ++ lemma_states lemmas) (root_state p) t left
  pub names : NamesWell p t

abbrev pub tree_text : Loosenings → Option ℕ → List LemmaTree → Tree → List ℕ
tree_text s b lemmas t = certificate_text (cover_lines s b lemmas (rule_lines (tree_lines t)))

abbrev pub crossing_text : Loosenings → Option ℕ → List LemmaTree → ℕ → List ℕ
crossing_text s b lemmas i = certificate_text (cover_lines s b lemmas (crossing i ∷ []))

abbrev pub point_text : Loosenings → Option ℕ → Space → List ℕ
point_text s b space = certificate_text (point_lines s b space)

-- The text of a lawful cover that keeps no lemmas is accepted with what its tree leaves.
abbrev pub TreeTextIsAccepted : Type 0
TreeTextIsAccepted = (p : Problem) (b : Option ℕ) (s : Loosenings) (lemmas : List LemmaTree) (t : Tree) → IsLawfulCover p s [] lemmas t → CanBeWritten (cover_lines s b lemmas (rule_lines (tree_lines t))) →
    IsAccepted p b (tree_text s b lemmas t) s (left_open (left_standing p s (lemma_states lemmas) (root_state p) t))

-- The lines of its main tree stand where the tree has them.
abbrev pub TreeTextStands : Type 0
TreeTextStands = (p : Problem) (b : Option ℕ) (s : Loosenings) (lemmas : List LemmaTree) (t : Tree) → IsLawfulCover p s [] lemmas t → CanBeWritten (cover_lines s b lemmas (rule_lines (tree_lines t))) →
    standing p b (tree_text s b lemmas t) ≡ map (λ (x : Standing). record { loosenings = s; line = x }) (tree_standing p s (lemma_states lemmas) (root_state p) t)

-- So the text is honest where the tree is.
abbrev pub TreeTextIsHonest : Type 0
TreeTextIsHonest = (p : Problem) (b : Option ℕ) (s : Loosenings) (lemmas : List LemmaTree) (t : Tree) → IsLawfulCover p s [] lemmas t → CanBeWritten (cover_lines s b lemmas (rule_lines (tree_lines t))) →
    (w : ℕ) → IsHonestTree p w s (lemma_states lemmas) (root_state p) t → IsHonest p b w (tree_text s b lemmas t)

-- And it has as many branches.
abbrev pub TreeTextBranches : Type 0
TreeTextBranches = (p : Problem) (b : Option ℕ) (s : Loosenings) (lemmas : List LemmaTree) (t : Tree) → IsLawfulCover p s [] lemmas t → CanBeWritten (cover_lines s b lemmas (rule_lines (tree_lines t))) →
    branches p b (tree_text s b lemmas t) ≡ tree_branches t

-- The text for an axis whose bounds cross is accepted with nothing left, and no line of it stands at a state.
abbrev pub CrossingText : Type 0
CrossingText = (p : Problem) (b : Option ℕ) (s : Loosenings) (lemmas : List LemmaTree) → IsTrue (is_header s) → length lemmas ≤ most_lemmas →
    AreLemmaTrees p s [] lemmas → (i : ℕ) → IsTrue (crosses p i) → CanBeWritten (cover_lines s b lemmas (crossing i ∷ [])) →
    IsAccepted p b (crossing_text s b lemmas i) s (left_open []) × (standing p b (crossing_text s b lemmas i) ≡ [])

-- So is the text of a point that is shown, with that point.
abbrev pub PointText : Type 0
PointText = (p : Problem) (b : Option ℕ) (s : Loosenings) → IsTrue (is_header s) → (space : Space) → AreSingle p.axes space → IsTrue (is_shown p s (at_point space)) →
    CanBeWritten (point_lines s b space) → IsAccepted p b (point_text s b space) s (at_point space) × (standing p b (point_text s b space) ≡ [])
