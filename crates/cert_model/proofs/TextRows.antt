-- Worked answers.
use Rattle.std.proofs.Common.{◌≡◌, [], ◌∷◌, true, false, map, refl, codes, None}
use Rattle.interval_model.specs.Space.{real_domain, bool_domain}
use Rattle.cover_model.specs.State.{Loosenings}
use Rattle.cover_model.specs.Rules.{open_line, stuck}
use Rattle.cover_line.specs.Words.{pull_word}
use Rattle.cert_model.specs.Due.{NotShown, RuleFails, Standing, at_point, left_open}
use Rattle.cert_model.specs.Accepted.{refused, certificate_text}
use Rattle.cert_model.specs.Laws.{shortest_lines}
use Rattle.cert_model.specs.AnswerText.{solve_text, check_text, verdict_text, name_text}
use Rattle.cert_model.proofs.Problems.{unit_axis, opposite_products, one_bool, dyadic, minus_dyadic}

abbrev usual : Loosenings
usual = record { margin_bits = 20; delta_bits = 10; version = 1 }

abbrev stuck_root : Standing
stuck_root = record { state = record { space = real_domain (minus_dyadic 1 1) (dyadic 1 1) ∷ real_domain (minus_dyadic 1 1) (dyadic 1 1) ∷ []; marks = [] }; does = stuck 4 }

abbrev open_state : Standing
open_state = record { state = record { space = []; marks = [] }; does = open_line }

unsat : solve_text unit_axis 0 usual (left_open []) ≡ codes "unsat\nmargin 1b-20\n"
unfolding Rattle.std.specs.Fmt.digits
unsat = refl

delta_sat : solve_text unit_axis 0 usual (at_point (real_domain (dyadic 1 1) (dyadic 1 1) ∷ [])) ≡ codes "delta-sat\ndelta 1b-10\nx 1b-1\n"
unfolding Rattle.std.specs.Fmt.digits
delta_sat = refl

delta_sat_bool : solve_text one_bool 0 usual (at_point (bool_domain false true ∷ [])) ≡ codes "delta-sat\ndelta 1b-10\nb true\n"
unfolding Rattle.std.specs.Fmt.digits
delta_sat_bool = refl

width : solve_text opposite_products 7 usual (left_open (stuck_root ∷ [])) ≡ codes "unknown width\natom 4\nx -1b-1 1b-1\ny -1b-1 1b-1\n"
unfolding Rattle.std.specs.Fmt.digits
width = refl

budget : solve_text opposite_products 7 usual (left_open (stuck_root ∷ open_state ∷ [])) ≡ codes "unknown budget 7\n"
unfolding Rattle.std.specs.Fmt.digits
budget = refl

checked : map (check_text usual) (left_open [] ∷ at_point [] ∷ left_open (stuck_root ∷ []) ∷ []) ≡
    (codes "confirmed unsat\nmargin 1b-20\n" ∷ codes "confirmed delta-sat\ndelta 1b-10\n" ∷ codes "open 1\n" ∷ [])
unfolding Rattle.std.specs.Fmt.digits
checked = refl

faults : map verdict_text (refused NotShown 7 ∷ refused (RuleFails pull_word) 7 ∷ []) ≡ (codes "certificate fault 7 NotShown line 7\n" ∷ codes "certificate fault 3 RuleFails pull line 7\n" ∷ [])
unfolding Rattle.std.specs.Fmt.digits
faults = refl

names : map name_text (codes "x" ∷ codes "let" ∷ codes "a b" ∷ codes "1x" ∷ [] ∷ codes "<=" ∷ codes "sqrt(0)" ∷ codes "|sqrt(0)" ∷ []) ≡ (codes "x" ∷ codes "|let|" ∷ codes "|a b|" ∷ codes "|1x|" ∷ codes "||" ∷ codes "<=" ∷ codes "|sqrt(0)|" ∷ codes "sqrt(0)" ∷ [])
unfolding Rattle.std.specs.Fmt.digits
names = refl

shortest : certificate_text (shortest_lines usual None) ≡ codes "dpoly 1\nmargin 20\ndelta 10\nbound none\ncover 0\ntree\nfalse\nend\n"
unfolding Rattle.std.specs.Fmt.digits
shortest = refl
