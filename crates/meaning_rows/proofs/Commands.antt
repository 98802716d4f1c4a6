-- First faults of commands, with their places.
use Rattle.std.proofs.Common.{◌≡◌, codes, Option, Some, None, refl}
use Prim.Native.String.{String}
use Rattle.script_model.specs.Sexp.{Place}
use Rattle.smt_sexp.specs.Lexicon.{TextRead, whole, faulty, read}
use Rattle.smt_script.specs.Commands.{CommandFault, bad_command, wrong_logic, left_out, no_check, too_many_levels, CommandsRead, steps, command_fault, steps_of}
use Rattle.meaning_rows.proofs.Asked.{at}

abbrev fault_in : CommandsRead → Option (Place × CommandFault)
fault_in (steps ss) = None
fault_in (command_fault at f) = Some (at, f)

abbrev of_read : TextRead → Option (Place × CommandFault)
of_read (whole es) = fault_in (steps_of es)
of_read (faulty at f) = None

abbrev fault : String → Option (Place × CommandFault)
fault text = of_read (read (codes text))

-- ---- the check

nothing_at_all : fault "" ≡ Some (at 0 0, no_check)
nothing_at_all = refl

check_alone : fault "(check-sat)" ≡ None
check_alone = refl

exit_first : fault "(exit)(check-sat)" ≡ Some (at 0 0, no_check)
exit_first = refl

-- it comes after all other faults of commands
after_others : fault "\n (foo)" ≡ Some (at 2 2, bad_command)
after_others = refl

after_check : fault "(check-sat)(set-info :a b)(set-option :c d)(get-model)(exit)" ≡ None
after_check = refl

assert_after_check : fault "(check-sat)\n(assert true)" ≡ None
assert_after_check = refl

wrong_form_after_check : fault "(check-sat)\n(assert)" ≡ Some (at 2 1, bad_command)
wrong_form_after_check = refl

second_check : fault "(check-sat)\n(check-sat)" ≡ None
second_check = refl

wrong_exit_after_check : fault "(check-sat)\n(exit 1)" ≡ Some (at 2 1, bad_command)
wrong_exit_after_check = refl

unknown_after_check : fault "(check-sat)\n(maximize x)" ≡ Some (at 2 1, bad_command)
unknown_after_check = refl

-- ---- the goal

goal_after_check : fault "(check-sat)\n(minimize x)" ≡ None
goal_after_check = refl

goal_alone : fault "(minimize x)" ≡ Some (at 0 0, no_check)
goal_alone = refl

second_goal : fault "(minimize x)\n(minimize y)(check-sat)" ≡ Some (at 2 1, left_out)
second_goal = refl

-- also where the first one is no longer in force
goal_after_pop : fault "(push 1)(minimize x)(pop 1)\n(minimize x)" ≡ Some (at 2 1, left_out)
goal_after_pop = refl

goal_after_reset : fault "(minimize x)(reset)\n(minimize x)" ≡ Some (at 2 1, left_out)
goal_after_reset = refl

-- a form that is wrong comes before a second goal
no_goal : fault "(minimize x)\n(minimize)" ≡ Some (at 2 1, bad_command)
no_goal = refl

two_goals : fault "(minimize x y)" ≡ Some (at 1 1, bad_command)
two_goals = refl

-- ---- what is left out, and what is no command

core : fault "(get-unsat-core)\n(check-sat)" ≡ Some (at 1 1, left_out)
core = refl

recursive : fault "(define-fun-rec)" ≡ Some (at 1 1, left_out)
recursive = refl

-- what is no list, at its first byte
number_alone : fault "\n 5" ≡ Some (at 2 2, bad_command)
number_alone = refl

empty_list : fault "()" ≡ Some (at 1 1, bad_command)
empty_list = refl

reserved_head : fault "(let)" ≡ Some (at 1 1, bad_command)
reserved_head = refl

quoted_head : fault "(|assert| true)(|check-sat|)" ≡ None
quoted_head = refl

-- ---- levels

push_one : fault "(push 1)\n(check-sat)" ≡ None
push_one = refl

push_nothing : fault "(push)" ≡ Some (at 1 1, bad_command)
push_nothing = refl

push_word : fault "(push |1|)" ≡ Some (at 1 1, bad_command)
push_word = refl

most_pushed : fault "(push 1000)(push 24)(push 0)(check-sat)" ≡ None
most_pushed = refl

one_more_pushed : fault "(push 1000)(push 24)\n(push 1)" ≡ Some (at 2 1, too_many_levels)
one_more_pushed = refl

pushed_again : fault "(push 1024)(pop 1000)(push 1000)(check-sat)" ≡ None
pushed_again = refl

pop_alone : fault "(pop 1)\n(check-sat)" ≡ Some (at 1 1, bad_command)
pop_alone = refl

one_more_popped : fault "(push 2)\n(pop 3)" ≡ Some (at 2 1, bad_command)
one_more_popped = refl

popped_after_reset : fault "(push 1)(reset)\n(pop 1)" ≡ Some (at 2 1, bad_command)
popped_after_reset = refl

popped_after_reset_of_assertions : fault "(push 1)(reset-assertions)\n(pop 1)" ≡ Some (at 2 1, bad_command)
popped_after_reset_of_assertions = refl

logic_after_reset : fault "(set-logic QF_NRA)(reset)(set-logic QF_LRA)(check-sat)" ≡ None
logic_after_reset = refl

-- ---- assumptions

no_assumption : fault "(check-sat-assuming ())" ≡ None
no_assumption = refl

two_assumptions : fault "(check-sat-assuming (p (not q)))" ≡ None
two_assumptions = refl

nested_assumption : fault "(check-sat-assuming ((not (not p))))" ≡ None
nested_assumption = refl

other_assumption : fault "(check-sat-assuming ((and p)))" ≡ None
other_assumption = refl

number_assumed : fault "(check-sat-assuming (1))" ≡ None
number_assumed = refl

level_of_assumption : fault "(push 1024)\n(check-sat-assuming (p))" ≡ Some (at 2 1, too_many_levels)
level_of_assumption = refl

-- ---- the logic

linear : fault "(set-logic QF_LRA)(check-sat)" ≡ None
linear = refl

other_logic : fault "(set-logic ALL)" ≡ Some (at 1 1, wrong_logic)
other_logic = refl

-- a second logic is a wrong form, whichever it is
second_logic : fault "(set-logic QF_NRA)\n(set-logic ALL)" ≡ Some (at 2 1, bad_command)
second_logic = refl

number_as_logic : fault "(set-logic 5)" ≡ Some (at 1 1, bad_command)
number_as_logic = refl

no_logic : fault "(set-logic)" ≡ Some (at 1 1, bad_command)
no_logic = refl

-- ---- what has no effect

any_information : fault "(set-info)(set-info 1 2)(set-option (a))(get-model)(check-sat)" ≡ None
any_information = refl

values : fault "(get-value (x (+ x 1)))(echo \"a\")(get-info :name)(check-sat)" ≡ None
values = refl

no_values : fault "(get-value ())" ≡ Some (at 1 1, bad_command)
no_values = refl

value_alone : fault "(get-value x)" ≡ Some (at 1 1, bad_command)
value_alone = refl

word_echoed : fault "(echo a)" ≡ Some (at 1 1, bad_command)
word_echoed = refl

wrong_model : fault "(get-model 1)" ≡ Some (at 1 1, bad_command)
wrong_model = refl

-- ---- sorts

whole_numbers : fault "(declare-const n Int)" ≡ Some (at 1 1, left_out)
whole_numbers = refl

array : fault "(declare-const a (Array Int Real))" ≡ Some (at 1 1, left_out)
array = refl

bits : fault "(declare-const a (_ BitVec 8))" ≡ Some (at 1 1, left_out)
bits = refl

number_as_sort : fault "(declare-const a 5)" ≡ Some (at 1 1, bad_command)
number_as_sort = refl

empty_sort : fault "(declare-const a ())" ≡ Some (at 1 1, bad_command)
empty_sort = refl

argument : fault "(declare-fun f (Real) Real)" ≡ Some (at 1 1, left_out)
argument = refl

-- the form comes before the sort
number_as_name : fault "(declare-fun 5 (Int) Real)" ≡ Some (at 1 1, bad_command)
number_as_name = refl

number_as_argument : fault "(declare-fun f (Int 5) Real)" ≡ Some (at 1 1, bad_command)
number_as_argument = refl

quoted_sort : fault "(declare-fun f () |Real|)(check-sat)" ≡ None
quoted_sort = refl

parameter_of_other_sort : fault "(define-fun f ((n Int) (x Real)) Real x)" ≡ Some (at 1 1, left_out)
parameter_of_other_sort = refl

parameter_without_sort : fault "(define-fun f ((n Int) (x)) Real x)" ≡ Some (at 1 1, bad_command)
parameter_without_sort = refl

-- the term of a command has any form here
any_term : fault "(assert ())(check-sat)" ≡ None
any_term = refl

two_terms : fault "(assert true true)" ≡ Some (at 1 1, bad_command)
two_terms = refl
