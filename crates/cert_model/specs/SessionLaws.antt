-- The laws of certificates of several checks.
use Rattle.std.specs.Prelude.{◌≡◌, ℕ, zero, suc, ◌≤◌, ◌+◌, List, [], ◌∷◌, ◌++◌, Bool, true, Option, Some, None, IsTrue, length, take, slice_get, map}
use Rattle.dyadic.specs.Point.{Coordinate, IsPoint}
use Rattle.dyadic.specs.Rounding.{exact}
use Rattle.poly_graph.specs.Problem.{Problem, IsProblem, sorts_of_problem, in_declared_box, first_crossed, crosses}
use Rattle.interval_model.specs.Space.{Space}
use Rattle.cover_model.specs.Carried.{GoesOnFrom}
use Rattle.cover_model.specs.State.{State, Loosenings, delta_of, root_state, MeetsAt, MeetsForm}
use Rattle.cover_model.specs.Rules.{Line}
use Rattle.cover_model.specs.Honest.{is_honest}
use Rattle.cover_model.specs.Derivation.{Tree, tree_lines, Lawful, Among}
use Rattle.cert_read.specs.CertLine.{CertLine, version, margin, delta, bound, checks, cover, keep, point_word, tree_word, end_word, crossing}
use Rattle.cert_model.specs.Due.{is_version, Standing, Value, at_point, left_open, is_shown, coordinates}
use Rattle.cert_model.specs.Accepted.{lines_course, loosenings_fit, certificate_text, most_lemmas}
use Rattle.cert_model.specs.Derived.{states_of, AreNear, AreSingle}
use Rattle.cert_model.specs.Laws.{CanBeWritten}
use Rattle.cert_model.specs.Session.{AreAccepted, is_session_version, kept_by, session_standing, session_next, session_start, session_ended, session_verdict}
use Rattle.cert_model.specs.Written.{rule_lines, NamesWell, left_standing, tree_standing, LemmaTree, lemma_states, AreLemmaTrees, lemmas_lines, point_line}

-- ---- what accepted parts mean

-- Problems of the checks of a script: each goes on from the one before where all of its commands are said to be in force.
abbrev pub GoOn : Problem → List (Problem × Bool) → Type 0
GoOn p [] = IsProblem p
GoOn p ((q, e) ∷ later) = IsProblem p × (e ≡ true → GoesOnFrom p q) × GoOn q later

abbrev pub IsSession : List (Problem × Bool) → Type 0
IsSession [] = ⊥
IsSession ((p, e) ∷ later) = GoOn p later

-- A point meets the form at delta, within delta of the declared box; of a cover, each point of the declared box that meets the form at the
-- margin is one of a state that is left.
abbrev pub ValueHolds : Loosenings → Problem → Value → Type 0
ValueHolds s p (at_point space) =
    IsPoint (sorts_of_problem p) (coordinates space) × MeetsAt p (delta_of s) (coordinates space) × AreNear (exact (delta_of s)) p.axes (coordinates space)
ValueHolds s p (left_open left) =
    (point : List Coordinate) → IsPoint (sorts_of_problem p) point → IsTrue (in_declared_box p point) → MeetsForm p s point → Among p s point (states_of left)

-- each of these values holds of its problem
abbrev pub ValuesHold : Loosenings → List (Problem × Bool) → List Value → Type 0
ValuesHold s [] [] = Unit {0}
ValuesHold s ((p, e) ∷ ps) (v ∷ values) = ValueHolds s p v × ValuesHold s ps values
ValuesHold s _ _ = ⊥

-- The values of accepted bytes hold, one for each check.
abbrev pub SessionMeans : Type 0
SessionMeans = (ps : List (Problem × Bool)) → IsSession ps → (bound : Option ℕ) (bytes : List ℕ) (s : Loosenings) (values : List Value) →
    AreAccepted ps bound bytes s values → ValuesHold s ps values

-- the version is that of so many checks
abbrev pub IsVersionFor : ℕ → ℕ → Type 0
IsVersionFor (suc zero) v = IsTrue (is_version v)
IsVersionFor n v = IsTrue (is_session_version v)

-- The version, margin and delta of accepted bytes are in their limits.
abbrev pub SessionHeaderFits : Type 0
SessionHeaderFits = (ps : List (Problem × Bool)) (bound : Option ℕ) (bytes : List ℕ) (s : Loosenings) (values : List Value) → AreAccepted ps bound bytes s values →
    IsTrue (loosenings_fit s.margin_bits s.delta_bits) × IsVersionFor (length ps) s.version

-- ---- parts as lines

-- the lemmas with their trees that follow those that are kept, and how the part ends: a tree, the first axis whose bounds cross, or a point
pub data WrittenEnd : Type 0 where
  written_tree : Tree → WrittenEnd
  written_crossing : ℕ → WrittenEnd

pub data WrittenPart : Type 0 where
  written_cover : List State → List LemmaTree → WrittenEnd → WrittenPart
  written_point : Space → WrittenPart

abbrev pub end_lines : WrittenEnd → List CertLine
end_lines (written_tree t) = rule_lines (tree_lines t)
end_lines (written_crossing i) = crossing i ∷ []

abbrev pub part_lines : WrittenPart → List CertLine
part_lines (written_cover kept lemmas end) =
    cover (length kept + length lemmas) ∷ keep (length kept) ∷ (lemmas_lines (length kept) lemmas ++ (tree_word ∷ (end_lines end ++ (end_word ∷ []))))
part_lines (written_point space) = point_word ∷ (map point_line space ++ (end_word ∷ []))

abbrev pub parts_lines : List WrittenPart → List CertLine
parts_lines [] = []
parts_lines (x ∷ rest) = part_lines x ++ parts_lines rest

abbrev pub session_lines : Loosenings → Option ℕ → List WrittenPart → List CertLine
session_lines s b parts = version s.version ∷ margin s.margin_bits ∷ delta s.delta_bits ∷ bound b ∷ checks (length parts) ∷ parts_lines parts

abbrev pub session_text : Loosenings → Option ℕ → List WrittenPart → List ℕ
session_text s b parts = certificate_text (session_lines s b parts)

-- ---- parts that follow the rules

-- the states of a part's lemmas
abbrev pub lemmas_of_part : WrittenPart → List State
lemmas_of_part (written_cover kept lemmas end) = kept ++ lemma_states lemmas
lemmas_of_part (written_point space) = []

-- what a part with these lemmas leaves where it ends so
abbrev pub value_of_end : Loosenings → Problem → List State → WrittenEnd → Value
value_of_end s p lemmas (written_tree t) = left_open (left_standing p s lemmas (root_state p) t)
value_of_end s p lemmas (written_crossing i) = left_open []

abbrev pub value_of_part : Loosenings → Problem → WrittenPart → Value
value_of_part s p (written_cover kept lemmas end) = value_of_end s p (kept ++ lemma_states lemmas) end
value_of_part s p (written_point space) = at_point space

abbrev pub standing_of_end : Loosenings → Problem → List State → WrittenEnd → List Standing
standing_of_end s p lemmas (written_tree t) = tree_standing p s lemmas (root_state p) t
standing_of_end s p lemmas (written_crossing i) = []

abbrev pub standing_of_part : Loosenings → Problem → WrittenPart → List Standing
standing_of_part s p (written_cover kept lemmas end) = standing_of_end s p (kept ++ lemma_states lemmas) end
standing_of_part s p (written_point space) = []

-- a lawful tree at the root of a declared box that is not empty, or an axis whose bounds cross
abbrev pub IsLawfulEnd : Problem → Loosenings → List State → WrittenEnd → Type 0
IsLawfulEnd p s lemmas (written_tree t) = (first_crossed p ≡ None) × ((left : List State) × Lawful p s lemmas (root_state p) t left) × NamesWell p t
IsLawfulEnd p s lemmas (written_crossing i) = IsTrue (crosses p i)

-- the first ones of the lemmas that may be kept, and others, which are derived from these and each other; a point that is shown
abbrev pub IsLawfulPart : Loosenings → Problem → List State → WrittenPart → Type 0
IsLawfulPart s p may_keep (written_cover kept lemmas end) =
    (kept ≡ take (length kept) may_keep) × (length kept + length lemmas ≤ most_lemmas) × AreLemmaTrees p s kept lemmas × IsLawfulEnd p s (kept ++ lemma_states lemmas) end
IsLawfulPart s p may_keep (written_point space) = AreSingle p.axes space × IsTrue (is_shown p s (at_point space))

-- part by part, each with what it may keep of the one before
abbrev pub AreLawfulParts : Loosenings → Problem → List State → List (Problem × Bool) → List WrittenPart → Type 0
AreLawfulParts s p may_keep [] (x ∷ []) = IsLawfulPart s p may_keep x
AreLawfulParts s p may_keep ((q, e) ∷ later) (x ∷ rest) = IsLawfulPart s p may_keep x × AreLawfulParts s q (kept_by e p (lemmas_of_part x) q) later rest
AreLawfulParts s p may_keep later parts = ⊥

abbrev pub values_of_parts : Loosenings → Problem → List (Problem × Bool) → List WrittenPart → List Value
values_of_parts s p [] (x ∷ rest) = value_of_part s p x ∷ []
values_of_parts s p ((q, e) ∷ later) (x ∷ rest) = value_of_part s p x ∷ values_of_parts s q later rest
values_of_parts s p later [] = []

abbrev pub standings_of_parts : Loosenings → Problem → List (Problem × Bool) → List WrittenPart → List (List Standing)
standings_of_parts s p [] (x ∷ rest) = standing_of_part s p x ∷ []
standings_of_parts s p ((q, e) ∷ later) (x ∷ rest) = standing_of_part s p x ∷ standings_of_parts s q later rest
standings_of_parts s p later [] = []

-- a session's certificate has such loosenings
abbrev pub is_session_header : Loosenings → Type 0
is_session_header s = IsTrue (is_session_version s.version) × IsTrue (loosenings_fit s.margin_bits s.delta_bits)

-- Lines that can be spelled have the verdict of their text.
abbrev pub SessionTextHasLines : Type 0
SessionTextHasLines = (p : Problem) (e : Bool) (next : Problem × Bool) (later : List (Problem × Bool)) (b : Option ℕ) (ls : List CertLine) → CanBeWritten ls →
    session_verdict ((p, e) ∷ next ∷ later) b (certificate_text ls) ≡ session_ended (lines_course (session_next p (next ∷ later) b) 0 session_start ls)

-- Lawful parts of two checks or more, as text, are accepted with the values of the parts.
abbrev pub SessionTextIsAccepted : Type 0
SessionTextIsAccepted = (p : Problem) (e : Bool) (next : Problem × Bool) (later : List (Problem × Bool)) (b : Option ℕ) (s : Loosenings) (parts : List WrittenPart) →
    is_session_header s → AreLawfulParts s p [] (next ∷ later) parts → CanBeWritten (session_lines s b parts) →
    AreAccepted ((p, e) ∷ next ∷ later) b (session_text s b parts) s (values_of_parts s p (next ∷ later) parts)

-- The lines of part k's main tree stand where its tree has them.
abbrev pub SessionTextStands : Type 0
SessionTextStands = (p : Problem) (e : Bool) (next : Problem × Bool) (later : List (Problem × Bool)) (b : Option ℕ) (s : Loosenings) (parts : List WrittenPart) →
    is_session_header s → AreLawfulParts s p [] (next ∷ later) parts → CanBeWritten (session_lines s b parts) →
    (k : ℕ) (xs : List Standing) → slice_get (standings_of_parts s p (next ∷ later) parts) k ≡ Some xs →
    session_standing ((p, e) ∷ next ∷ later) b (session_text s b parts) k ≡ map (λ (x : Standing). record { loosenings = s; line = x }) xs

-- ---- versions 2 and 3

-- the same margin and delta under version 3
abbrev pub in_version_3 : Loosenings → Loosenings
in_version_3 s = record s { version = 3 }

-- What follows the rules in version 2 does so in version 3, with the same value and the same standing.
abbrev pub LawfulInVersion3 : Type 0
LawfulInVersion3 = (s : Loosenings) → s.version ≡ 2 → (p : Problem) (may_keep : List State) (x : WrittenPart) → IsLawfulPart s p may_keep x →
    IsLawfulPart (in_version_3 s) p may_keep x × (value_of_part (in_version_3 s) p x ≡ value_of_part s p x) × (standing_of_part (in_version_3 s) p x ≡ standing_of_part s p x)

-- Honesty is the same in both.
abbrev pub HonestInVersion3 : Type 0
HonestInVersion3 = (s : Loosenings) → s.version ≡ 2 → (p : Problem) (w : ℕ) (S : State) (l : Line) → is_honest p w (in_version_3 s) S l ≡ is_honest p w s S l
