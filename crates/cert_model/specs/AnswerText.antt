-- The texts of the answers.
use Rattle.std.specs.Prelude.{ℕ, List, [], ◌∷◌, ◌++◌, length, Bool, true, false, cond, nat_eq, ◌||◌, Option, Some, None, codes, decimal}
use Rattle.dyadic.specs.Rounding.{Ext, finite}
use Rattle.dyadic.specs.NumberText.{number_spelling}
use Rattle.cover_line.specs.Words.{word_text}
use Rattle.cert_read.specs.LineText.{lower_text}
use Rattle.script_model.specs.Symbol.{is_simple_symbol}
use Rattle.interval_model.specs.Space.{Domain, real_domain, bool_domain, Space}
use Rattle.poly_graph.specs.Problem.{Axis, Problem}
use Rattle.cover_model.specs.State.{State, Loosenings}
use Rattle.cover_model.specs.Rules.{Line, stay_by, open_state, stuck_atom}
use Rattle.cert_model.specs.Due.{CertFault, BadHeader, BadNumber, RuleFails, KeepFails, OverFails, Missing, Extra, WrongBound, NotShown, BadLine, LineTooLong, TooLong, Standing, Value, at_point, left_open}
use Rattle.cert_model.specs.Accepted.{Verdict, accepted, refused}
use Rattle.cert_model.specs.Least.{Least, GoalValue, plain, least, GoalVerdict, upper_at}

abbrev pub text_line : List ℕ → List ℕ
text_line text = text ++ (10 ∷ [])

-- ---- names (SMT-LIB 2.6, section 3.1)

-- in bars, where it is no simple symbol or reserved
abbrev pub symbol_text : List ℕ → List ℕ
symbol_text name = cond (is_simple_symbol name) name (124 ∷ (name ++ (124 ∷ [])))

-- The name of a constant that stands for a root or a quotient has a bar at its head, which no name of a script has. It is printed without it, so that no
-- symbol is printed as it is.
abbrev pub name_text : List ℕ → List ℕ
name_text [] = symbol_text []
name_text (b ∷ bs) = cond (nat_eq b 124) bs (symbol_text (b ∷ bs))

-- ---- axes

abbrev bool_text : Bool → List ℕ
bool_text true = codes "true"
bool_text false = codes "false"

-- the one value of an axis of a point
abbrev pub value_text : Domain → List ℕ
value_text (real_domain l h) = number_spelling l
value_text (bool_domain f t) = bool_text t

-- the ends of a Real axis, or the one value of a Bool axis
abbrev pub domain_text : Domain → List ℕ
domain_text (real_domain l h) = number_spelling l ++ 32 ∷ number_spelling h
domain_text (bool_domain f t) = bool_text t

-- a line for each axis, in order of declaration
abbrev pub axes_text : (Domain → List ℕ) → List Axis → Space → List ℕ
axes_text f (a ∷ axes) (d ∷ space) = text_line (name_text a.name ++ 32 ∷ f d) ++ axes_text f axes space
axes_text f _ _ = []

-- ---- solve

-- a power of 2 that is at most 1/2
abbrev power_text : ℕ → List ℕ
power_text k = codes "1b-" ++ decimal k

abbrev pub margin_text : Loosenings → List ℕ
margin_text s = text_line (codes "margin " ++ power_text s.margin_bits)

abbrev pub delta_text : Loosenings → List ℕ
delta_text s = text_line (codes "delta " ++ power_text s.delta_bits)

abbrev pub unsat_text : Loosenings → List ℕ
unsat_text s = text_line (codes "unsat") ++ margin_text s

abbrev pub delta_sat_text : Problem → Loosenings → Space → List ℕ
delta_sat_text p s space = text_line (codes "delta-sat") ++ delta_text s ++ axes_text value_text p.axes space

abbrev pub budget_text : ℕ → List ℕ
budget_text budget = text_line (codes "unknown budget " ++ decimal budget)

abbrev pub width_text : Problem → State → ℕ → List ℕ
width_text p S j = text_line (codes "unknown width") ++ text_line (codes "atom " ++ decimal j) ++ axes_text domain_text p.axes S.space

abbrev pub is_open : Line → Bool
is_open (stay_by open_state) = true
is_open l = false

abbrev pub has_open : List Standing → Bool
has_open [] = false
has_open (x ∷ rest) = is_open x.does || has_open rest

abbrev atom_of : Line → ℕ
atom_of (stay_by (stuck_atom j)) = j
atom_of l = 0

-- an open state comes before a stuck one; of the stuck ones the first is told
abbrev pub left_text : Problem → Loosenings → ℕ → List Standing → List ℕ
left_text p s budget [] = unsat_text s
left_text p s budget (x ∷ rest) = cond (has_open (x ∷ rest)) (budget_text budget) (width_text p x.state (atom_of x.does))

-- the answer of solve, by the value of the certificate that it wrote
abbrev pub solve_text : Problem → ℕ → Loosenings → Value → List ℕ
solve_text p budget s (at_point space) = delta_sat_text p s space
solve_text p budget s (left_open left) = left_text p s budget left

-- ---- check

abbrev pub confirmed_left : Loosenings → List Standing → List ℕ
confirmed_left s [] = text_line (codes "confirmed unsat") ++ margin_text s
confirmed_left s left = text_line (codes "open " ++ decimal (length left))

-- the answer of check, by the value of the certificate that it read
abbrev pub check_text : Loosenings → Value → List ℕ
check_text s (at_point space) = text_line (codes "confirmed delta-sat") ++ delta_text s
check_text s (left_open left) = confirmed_left s left

abbrev pub fault_text : CertFault → List ℕ
fault_text BadHeader = codes "1 BadHeader"
fault_text BadNumber = codes "2 BadNumber"
fault_text (RuleFails w) = codes "3 RuleFails " ++ word_text w
fault_text KeepFails = codes "3 RuleFails keep"
fault_text OverFails = codes "3 RuleFails over"
fault_text Missing = codes "4 Missing"
fault_text Extra = codes "5 Extra"
fault_text WrongBound = codes "6 WrongBound"
fault_text NotShown = codes "7 NotShown"
fault_text BadLine = codes "8 BadLine"
fault_text LineTooLong = codes "9 LineTooLong"
fault_text TooLong = codes "10 TooLong"

abbrev pub verdict_text : Verdict → List ℕ
verdict_text (accepted s v) = check_text s v
verdict_text (refused f n) = text_line (codes "certificate fault " ++ fault_text f ++ codes " line " ++ decimal n)

-- ---- check, of a script with a goal and one check

-- an end that is a number
abbrev pub end_text : Ext → List ℕ
end_text (finite d) = number_spelling d
end_text e = codes "none"

-- of the point, where there is one
abbrev pub upper_line : Problem → ℕ → Option Space → List ℕ
upper_line p g None = []
upper_line p g (Some space) = text_line (codes "upper " ++ end_text (upper_at p g space))

-- of a least value, where the goal is the term of atom g
abbrev pub least_text : Problem → ℕ → Least → List ℕ
least_text p g x = text_line (codes "confirmed lower " ++ lower_text x.lower) ++ upper_line p g x.point

abbrev pub goal_text : Problem → ℕ → Loosenings → GoalValue → List ℕ
goal_text p g s (plain v) = check_text s v
goal_text p g s (least x) = least_text p g x

abbrev pub goal_verdict_text : Problem → ℕ → GoalVerdict → List ℕ
goal_verdict_text p g (accepted s v) = goal_text p g s v
goal_verdict_text p g (refused f n) = verdict_text (refused f n)
