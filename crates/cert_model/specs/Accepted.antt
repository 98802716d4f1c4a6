-- What a certificate's bytes are to a problem and the bound of the words: accepted, with a value, or their first fault with its line.
use Rattle.std.specs.Prelude.{◌≡◌, ℕ, suc, ◌-◌, ◌^◌, List, [], ◌∷◌, ◌++◌, Bool, true, false, cond, ◌&&◌, Option, nat_eq, nat_lt, nat_le, length, take, map}
use Rattle.dyadic.specs.Fraction.{at_most}
use Rattle.dyadic.specs.Rounding.{exact}
use Rattle.cover_line.specs.Words.{word_of, empty_word}
use Rattle.cert_read.specs.LineText.{text_of_lines, line_text}
use Rattle.cert_read.specs.Lines.{lines_of, lines_so_far}
use Rattle.cert_read.specs.CertLine.{says_both, says_false, says_true, CertLine, version, margin, delta, bound, over, cover, point_word, tree_word, end_word, lemma, real_interval, real_value, bool_value, yes_list, no_list, rule_line, crossing, Parsed, too_long, bad_line, bad_number, line, parsed}
use Rattle.interval_model.specs.Space.{real_domain, bool_domain, Space}
use Rattle.poly_graph.specs.Problem.{Declared, real_between, any_bool, Axis, Problem, crosses}
use Rattle.cover_model.specs.State.{State, Loosenings, root_state}
use Rattle.cover_model.specs.Rules.{rule, Line}
use Rattle.cert_model.specs.Due.{CertFault, BadHeader, BadNumber, RuleFails, OverFails, Missing, Extra, WrongBound, NotShown, BadLine, LineTooLong, TooLong, Standing, Value, left_open, Due, version_due, margin_due, delta_due, bound_due, kind_due, next_due, axis_due, yes_due, no_due, lemma_due, root_due, tree_due, coordinate_due, end_due, nothing_due, Next, on, faulty, given, is_version, same_bound, bool_domain_of, ascends, apart, all_below, state_of, is_axis, names_well, after_rule, after_lemma_rule, tree_goes_on, lemma_goes_on, axis_next, is_crossed_box, extra_after, extra_at_end, coordinate_next, is_shown, NextOf}

-- ---- a line that is well formed, where something is due

-- a certificate has at most so many lemmas
abbrev pub most_lemmas : ℕ
most_lemmas = 1048576

-- from one bit of delta up to sixty of margin
abbrev pub loosenings_fit : ℕ → ℕ → Bool
loosenings_fit m d = nat_le 1 d && nat_le d 30 && nat_lt d m && nat_le m 60

-- a version that is read, with such loosenings
abbrev pub is_header : Loosenings → Bool
is_header s = is_version s.version && loosenings_fit s.margin_bits s.delta_bits

-- a line of a lemma's or the main tree, by what its rule leaves
abbrev pub ruled_line : Bool → Next → Next
ruled_line true x = x
ruled_line false x = faulty BadNumber

abbrev pub lemma_line : Problem → Loosenings → ℕ → List State → State → State → List State → Line → Next
lemma_line p s k lemmas L S pending l = ruled_line (names_well p l)
    (after_lemma_rule (rule p s lemmas S l) (RuleFails (word_of l)) pending (lemma_goes_on s k lemmas L))

abbrev pub tree_line : Problem → Loosenings → List State → State → List State → List Standing → Line → Next
tree_line p s lemmas S pending done l = ruled_line (names_well p l)
    (after_rule (rule p s lemmas S l) (RuleFails (word_of l)) (record { state = S; does = l }) pending done (tree_goes_on s lemmas))

-- where the declared box is empty, no line but the one for crossed bounds may stand in the main tree
abbrev pub root_line : Bool → Problem → Loosenings → List State → Line → Next
root_line true p s lemmas l = ruled_line (names_well p l) (faulty (RuleFails (word_of l)))
root_line false p s lemmas l = tree_line p s lemmas (root_state p) [] [] l

-- a line for crossed bounds where it may not stand
abbrev pub no_crossing : Problem → ℕ → Next
no_crossing p i = faulty (cond (is_axis p i) (RuleFails empty_word) BadNumber)

-- the interval of a lemma's Real axis, and the word of its Bool axis
abbrev pub axis_line : Problem → Loosenings → ℕ → List State → Declared → List Axis → Space → CertLine → Next
axis_line p s k lemmas (real_between lo hi) axes space (real_interval l h) = given (at_most (exact l) (exact h)) (axis_next s k lemmas axes (space ++ (real_domain l h ∷ []))) BadNumber
axis_line p s k lemmas any_bool axes space (bool_value w) = on (axis_next s k lemmas axes (space ++ (bool_domain_of w ∷ [])))
axis_line p s k lemmas a axes space l = faulty Missing

-- the value of a point's axis
abbrev pub coordinate_line : Loosenings → Declared → List Axis → Space → CertLine → Next
coordinate_line s (real_between lo hi) axes space (real_value v) = on (coordinate_next s axes (space ++ (real_domain v v ∷ [])))
coordinate_line s any_bool axes space (bool_value says_both) = faulty BadLine
coordinate_line s any_bool axes space (bool_value says_false) = on (coordinate_next s axes (space ++ (bool_domain true false ∷ [])))
coordinate_line s any_bool axes space (bool_value says_true) = on (coordinate_next s axes (space ++ (bool_domain false true ∷ [])))
coordinate_line s a axes space l = faulty Missing

-- b is the bound of the words
abbrev pub next : Problem → Option ℕ → Due → CertLine → Next
next p b version_due (version n) = given (is_version n) (margin_due n) BadHeader
next p b version_due l = faulty BadHeader
next p b (margin_due v) (margin m) = on (delta_due v m)
next p b (margin_due v) l = faulty BadHeader
next p b (delta_due v m) (delta d) = given (loosenings_fit m d) (bound_due (record { margin_bits = m; delta_bits = d; version = v })) BadHeader
next p b (delta_due v m) l = faulty BadHeader
next p b (bound_due s) (bound n) = given (same_bound n b) (kind_due s) WrongBound
next p b (bound_due s) l = faulty BadHeader
next p b (kind_due s) (cover k) = given (nat_le k most_lemmas) (next_due s k []) BadHeader
next p b (kind_due s) point_word = on (coordinate_next s p.axes [])
next p b (kind_due s) l = faulty BadHeader
next p b (next_due s k lemmas) (lemma i) = cond (nat_lt (length lemmas) k) (given (nat_eq i (length lemmas)) (axis_next s k lemmas p.axes []) BadNumber) (faulty Missing)
next p b (next_due s k lemmas) tree_word = given (nat_eq (length lemmas) k) (root_due s lemmas) Missing
next p b (next_due s k lemmas) (rule_line l) = faulty (extra_after lemmas)
next p b (next_due s k lemmas) (crossing i) = faulty (extra_after lemmas)
next p b (next_due s k lemmas) over = faulty (extra_after lemmas)
next p b (next_due s k lemmas) l = faulty Missing
next p b (axis_due s k lemmas a axes space) l = axis_line p s k lemmas a.declared axes space l
next p b (yes_due s k lemmas space) (yes_list js) = given (all_below (length p.atoms) js && ascends js) (no_due s k lemmas space js) BadNumber
next p b (yes_due s k lemmas space) l = faulty Missing
next p b (no_due s k lemmas space is) (no_list js) = given (all_below (length p.atoms) js && ascends js && apart is js)
    (lemma_due s k lemmas (state_of p space is js) (state_of p space is js) []) BadNumber
next p b (no_due s k lemmas space is) l = faulty Missing
next p b (lemma_due s k lemmas L S pending) (rule_line l) = lemma_line p s k lemmas L S pending l
next p b (lemma_due s k lemmas L S pending) (crossing i) = no_crossing p i
next p b (lemma_due s k lemmas L S pending) over = faulty OverFails
next p b (lemma_due s k lemmas L S pending) l = faulty Missing
next p b (root_due s lemmas) (crossing i) = cond (crosses p i) (on (end_due s lemmas (left_open []))) (no_crossing p i)
next p b (root_due s lemmas) (rule_line l) = root_line (is_crossed_box p) p s lemmas l
next p b (root_due s lemmas) over = faulty OverFails
next p b (root_due s lemmas) l = faulty Missing
next p b (tree_due s lemmas S pending done) (rule_line l) = tree_line p s lemmas S pending done l
next p b (tree_due s lemmas S pending done) (crossing i) = no_crossing p i
next p b (tree_due s lemmas S pending done) over = faulty OverFails
next p b (tree_due s lemmas S pending done) l = faulty Missing
next p b (coordinate_due s a axes space) l = coordinate_line s a.declared axes space l
next p b (end_due s lemmas v) end_word = given (is_shown p s v) (nothing_due s lemmas v) NotShown
next p b (end_due s lemmas v) (rule_line l) = faulty (extra_at_end v)
next p b (end_due s lemmas v) (crossing i) = faulty (extra_at_end v)
next p b (end_due s lemmas v) over = faulty (extra_at_end v)
next p b (end_due s lemmas v) l = faulty Missing
next p b (nothing_due s lemmas v) l = faulty Extra

-- what comes of a line that is read, by what comes of one that is well formed
abbrev pub parsed_by : {D : Type 0} → (CertLine → NextOf D) → Parsed → NextOf D
parsed_by f too_long = faulty LineTooLong
parsed_by f bad_line = faulty BadLine
parsed_by f bad_number = faulty BadNumber
parsed_by f (line l) = f l

abbrev pub next_parsed : Problem → Option ℕ → Due → Parsed → Next
next_parsed p b d l = parsed_by (next p b d) l

-- ---- all lines

-- where some lines lead: to a fault of a line, or to what is due after the last of them, with their number
pub data CourseOf (D : Type 0) : Type 0 where
  stopped : CertFault → ℕ → CourseOf D
  reached : D → ℕ → CourseOf D

abbrev pub Course : Type 0
Course = CourseOf Due

abbrev pub course_next : {D : Type 0} → NextOf D → ℕ → (D → CourseOf D) → CourseOf D
course_next (faulty f) n k = stopped f n
course_next (on d) n k = k d

-- of lines that follow n others, where d is due
abbrev pub course_by : {D : Type 0} → (D → Parsed → NextOf D) → ℕ → D → List (List ℕ) → CourseOf D
course_by step n d [] = reached d n
course_by step n d (l ∷ ls) = course_next (step d (parsed l)) (suc n) (λ d'. course_by step (suc n) d' ls)

abbrev pub course : Problem → Option ℕ → ℕ → Due → List (List ℕ) → Course
course p b n d ls = course_by (next_parsed p b) n d ls

-- the same of lines that are well formed
abbrev pub lines_course : {D : Type 0} → (D → CertLine → NextOf D) → ℕ → D → List CertLine → CourseOf D
lines_course step n d [] = reached d n
lines_course step n d (l ∷ ls) = course_next (step d l) (suc n) (λ d'. lines_course step (suc n) d' ls)

abbrev pub course_of_lines : Problem → Option ℕ → ℕ → Due → List CertLine → Course
course_of_lines p b n d ls = lines_course (next p b) n d ls

pub data VerdictOf (V : Type 0) : Type 0 where
  -- with the margin and delta of its header
  accepted : Loosenings → V → VerdictOf V
  -- with the number of the line
  refused : CertFault → ℕ → VerdictOf V

abbrev pub Verdict : Type 0
Verdict = VerdictOf Value

-- the input ends where this is due
abbrev pub missing : Due → CertFault
missing version_due = BadHeader
missing (margin_due v) = BadHeader
missing (delta_due v m) = BadHeader
missing (bound_due s) = BadHeader
missing (kind_due s) = BadHeader
missing d = Missing

abbrev pub at_end : Due → ℕ → Verdict
at_end (nothing_due s lemmas v) n = accepted s v
at_end d n = refused (missing d) (suc n)

-- the input ends; `finish` says of what is due then
abbrev pub ended_by : {D V : Type 0} → (D → ℕ → VerdictOf V) → CourseOf D → VerdictOf V
ended_by finish (stopped f n) = refused f n
ended_by finish (reached d n) = finish d n

abbrev pub ended : Course → Verdict
ended c = ended_by at_end c

-- the input goes on where no more of it is read
abbrev pub cut_off : {D V : Type 0} → CourseOf D → VerdictOf V
cut_off (stopped f n) = refused f n
cut_off (reached d n) = refused TooLong 0

-- a certificate has at most so many bytes
abbrev pub most_bytes : ℕ
most_bytes = 2 ^ 64 - 1

-- the verdict of bytes, by where lines lead and what the end of the input says then; the Bool says whether they are few enough
abbrev pub verdict_of : {D V : Type 0} → (List (List ℕ) → CourseOf D) → (CourseOf D → VerdictOf V) → Bool → List ℕ → VerdictOf V
verdict_of lead finish true bytes = finish (lead (lines_of bytes))
verdict_of lead finish false bytes = cut_off (lead (lines_so_far (take most_bytes bytes)))

abbrev pub verdict_by : Bool → Problem → Option ℕ → List ℕ → Verdict
verdict_by few p b bytes = verdict_of (λ ls. course p b 0 version_due ls) ended few bytes

abbrev pub verdict : Problem → Option ℕ → List ℕ → Verdict
verdict p b bytes = verdict_by (nat_le (length bytes) most_bytes) p b bytes

-- the text of some lines
abbrev pub certificate_text : List CertLine → List ℕ
certificate_text ls = text_of_lines (map line_text ls)

-- the bytes are accepted, with the margin and delta of their header, and this value
abbrev pub IsAccepted : Problem → Option ℕ → List ℕ → Loosenings → Value → Type 0
IsAccepted p b bytes s v = verdict p b bytes ≡ accepted s v
