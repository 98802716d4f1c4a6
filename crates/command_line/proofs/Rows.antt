-- What some words ask for, by computation.
use Rattle.std.proofs.Common.{◌≡◌, refl, [], ◌∷◌, Some, None, codes}
use Rattle.clap.proofs.OnLiterals.{clap_on_literals}
use Rattle.command_line.specs.Program.{checker, program}
use Rattle.command_line.specs.Words.{number_of, parts_of, usual, checker_of, command_of, solve, minimize, check, demo, upgrade, plan, resume, join}

-- the usual options
usual_solve : command_of (codes "dpoly" ∷ codes "solve" ∷ codes "s" ∷ codes "c" ∷ []) ≡ Some (solve (record { script = codes "s"; cert = codes "c"; options = usual 1 }))
unfolding program clap_on_literals number_of
usual_solve = refl

-- the gap of `minimize`, beside the options of `solve`
usual_minimize : command_of (codes "dpoly" ∷ codes "minimize" ∷ codes "s" ∷ codes "c" ∷ []) ≡ Some (minimize (record { script = codes "s"; cert = codes "c"; gap_bits = 10; options = usual 1 }))
unfolding clap_on_literals program number_of
usual_minimize = refl

gap_above : command_of (codes "dpoly" ∷ codes "minimize" ∷ codes "s" ∷ codes "c" ∷ codes "--gap-bits" ∷ codes "31" ∷ []) ≡ None
unfolding clap_on_literals program number_of
gap_above = refl

-- a plus sign and leading zeros
plus_and_zeros : command_of (codes "dpoly" ∷ codes "solve" ∷ codes "s" ∷ codes "c" ∷ codes "--budget" ∷ codes "007" ∷ codes "--workers" ∷ codes "+1" ∷ []) ≡ Some (solve (record { script = codes "s"; cert = codes "c"; options = record (usual 1) { budget = 7 } }))
unfolding program clap_on_literals number_of
plus_and_zeros = refl

-- the least of each range
least_options : command_of (codes "dpoly" ∷ codes "solve" ∷ codes "s" ∷ codes "c" ∷ codes "--delta-bits" ∷ codes "1" ∷ codes "--margin-bits" ∷ codes "2" ∷ codes "--least-bits" ∷ codes "0" ∷ codes "--budget" ∷ codes "0" ∷ codes "--bound" ∷ codes "1" ∷ []) ≡ Some (solve (record { script = codes "s"; cert = codes "c"; options = record { delta_bits = 1; margin_bits = 2; least_bits = 0; budget = 0; workers = 1; bound = Some 1 } }))
unfolding program clap_on_literals number_of
least_options = refl

-- and the most
most_options : command_of (codes "dpoly" ∷ codes "solve" ∷ codes "s" ∷ codes "c" ∷ codes "--delta-bits=30" ∷ codes "--margin-bits=60" ∷ codes "--least-bits=60" ∷ codes "--budget=1048576" ∷ codes "--bound=4294967295" ∷ codes "--workers=64" ∷ []) ≡ Some (solve (record { script = codes "s"; cert = codes "c"; options = record { delta_bits = 30; margin_bits = 60; least_bits = 60; budget = 1048576; workers = 64; bound = Some 4294967295 } }))
unfolding program clap_on_literals number_of
most_options = refl

-- delta has to be above margin, its bits below those of margin
delta_above_margin : command_of (codes "dpoly" ∷ codes "solve" ∷ codes "s" ∷ codes "c" ∷ codes "--delta-bits" ∷ codes "20" ∷ codes "--margin-bits" ∷ codes "10" ∷ []) ≡ None
unfolding program clap_on_literals number_of
delta_above_margin = refl

delta_alone : command_of (codes "dpoly" ∷ codes "solve" ∷ codes "s" ∷ codes "c" ∷ codes "--delta-bits" ∷ codes "25" ∷ []) ≡ None
unfolding program clap_on_literals number_of
delta_alone = refl

-- one past an end of each range
delta_of_zero : command_of (codes "dpoly" ∷ codes "solve" ∷ codes "s" ∷ codes "c" ∷ codes "--delta-bits" ∷ codes "0" ∷ []) ≡ None
unfolding program clap_on_literals number_of
delta_of_zero = refl

delta_above : command_of (codes "dpoly" ∷ codes "solve" ∷ codes "s" ∷ codes "c" ∷ codes "--delta-bits" ∷ codes "31" ∷ codes "--margin-bits" ∷ codes "60" ∷ []) ≡ None
unfolding program clap_on_literals number_of
delta_above = refl

margin_above : command_of (codes "dpoly" ∷ codes "solve" ∷ codes "s" ∷ codes "c" ∷ codes "--margin-bits" ∷ codes "61" ∷ []) ≡ None
unfolding program clap_on_literals number_of
margin_above = refl

least_above : command_of (codes "dpoly" ∷ codes "solve" ∷ codes "s" ∷ codes "c" ∷ codes "--least-bits" ∷ codes "61" ∷ []) ≡ None
unfolding program clap_on_literals number_of
least_above = refl

budget_above : command_of (codes "dpoly" ∷ codes "solve" ∷ codes "s" ∷ codes "c" ∷ codes "--budget" ∷ codes "1048577" ∷ []) ≡ None
unfolding program clap_on_literals number_of
budget_above = refl

bound_of_zero : command_of (codes "dpoly" ∷ codes "solve" ∷ codes "s" ∷ codes "c" ∷ codes "--bound" ∷ codes "0" ∷ []) ≡ None
unfolding program clap_on_literals number_of
bound_of_zero = refl

bound_above : command_of (codes "dpoly" ∷ codes "check" ∷ codes "s" ∷ codes "c" ∷ codes "--bound" ∷ codes "4294967296" ∷ []) ≡ None
unfolding program clap_on_literals number_of
bound_above = refl

no_workers : command_of (codes "dpoly" ∷ codes "demo" ∷ codes "1" ∷ codes "1" ∷ codes "c" ∷ codes "--workers" ∷ codes "0" ∷ []) ≡ None
unfolding program clap_on_literals number_of
no_workers = refl

workers_above : command_of (codes "dpoly" ∷ codes "solve" ∷ codes "s" ∷ codes "c" ∷ codes "--workers" ∷ codes "65" ∷ []) ≡ None
unfolding program clap_on_literals number_of
workers_above = refl

-- an option twice, and words that ask for help
option_twice : command_of (codes "dpoly" ∷ codes "solve" ∷ codes "s" ∷ codes "c" ∷ codes "--budget" ∷ codes "5" ∷ codes "--budget" ∷ codes "5" ∷ []) ≡ None
unfolding program clap_on_literals number_of
option_twice = refl

help_option : command_of (codes "dpoly" ∷ codes "--help" ∷ []) ≡ None
unfolding program clap_on_literals number_of
help_option = refl

help_word : command_of (codes "dpoly" ∷ codes "help" ∷ []) ≡ None
unfolding program clap_on_literals number_of
help_word = refl

version_option : command_of (codes "dpoly" ∷ codes "-V" ∷ []) ≡ None
unfolding program clap_on_literals number_of
version_option = refl

-- a check
check_of_files : command_of (codes "dpoly" ∷ codes "check" ∷ codes "s" ∷ codes "c" ∷ codes "--bound" ∷ codes "8" ∷ []) ≡ Some (check (record { script = codes "s"; cert = codes "c"; bound = Some 8 }))
unfolding program clap_on_literals number_of
check_of_files = refl

check_of_one_stream : command_of (codes "dpoly" ∷ codes "check" ∷ codes "-" ∷ codes "-" ∷ []) ≡ None
unfolding program clap_on_literals number_of
check_of_one_stream = refl

-- the checker's own words
checker_of_files : checker_of (codes "dpoly-check" ∷ codes "s" ∷ codes "c" ∷ codes "--bound" ∷ codes "8" ∷ []) ≡ Some (record { script = codes "s"; cert = codes "c"; bound = Some 8 })
unfolding checker clap_on_literals number_of
checker_of_files = refl

checker_of_one_stream : checker_of (codes "dpoly-check" ∷ codes "-" ∷ codes "-" ∷ []) ≡ None
unfolding checker clap_on_literals number_of
checker_of_one_stream = refl

checker_without_certificate : checker_of (codes "dpoly-check" ∷ codes "s" ∷ []) ≡ None
unfolding checker clap_on_literals number_of
checker_without_certificate = refl

checker_with_subcommand : checker_of (codes "dpoly-check" ∷ codes "check" ∷ codes "s" ∷ codes "c" ∷ []) ≡ None
unfolding checker clap_on_literals number_of
checker_with_subcommand = refl

-- a demo
first_demo : command_of (codes "dpoly" ∷ codes "demo" ∷ codes "0" ∷ codes "1" ∷ codes "-" ∷ []) ≡ Some (demo (record { seed = 0; size = 1; cert = codes "-"; options = usual 1 }))
unfolding program clap_on_literals number_of
first_demo = refl

last_demo : command_of (codes "dpoly" ∷ codes "demo" ∷ codes "18446744073709551615" ∷ codes "10000" ∷ codes "c" ∷ codes "--workers" ∷ codes "64" ∷ []) ≡ Some (demo (record { seed = 18446744073709551615; size = 10000; cert = codes "c"; options = usual 64 }))
unfolding program clap_on_literals number_of
last_demo = refl

seed_above : command_of (codes "dpoly" ∷ codes "demo" ∷ codes "18446744073709551616" ∷ codes "1" ∷ codes "c" ∷ []) ≡ None
unfolding program clap_on_literals number_of
seed_above = refl

size_of_zero : command_of (codes "dpoly" ∷ codes "demo" ∷ codes "1" ∷ codes "0" ∷ codes "c" ∷ []) ≡ None
unfolding program clap_on_literals number_of
size_of_zero = refl

size_above : command_of (codes "dpoly" ∷ codes "demo" ∷ codes "1" ∷ codes "10001" ∷ codes "c" ∷ []) ≡ None
unfolding program clap_on_literals number_of
size_above = refl

-- an upgrade
upgrade_of_files : command_of (codes "dpoly" ∷ codes "upgrade" ∷ codes "s" ∷ codes "c" ∷ codes "d" ∷ codes "--bound" ∷ codes "8" ∷ []) ≡ Some (upgrade (record { script = codes "s"; cert = codes "c"; out = codes "d"; bound = Some 8 }))
unfolding program clap_on_literals number_of
upgrade_of_files = refl

upgrade_of_one_stream : command_of (codes "dpoly" ∷ codes "upgrade" ∷ codes "-" ∷ codes "-" ∷ codes "d" ∷ []) ≡ None
unfolding program clap_on_literals number_of
upgrade_of_one_stream = refl

-- a plan
usual_plan : command_of (codes "dpoly" ∷ codes "plan" ∷ codes "s" ∷ []) ≡ Some (plan (record { script = codes "s"; delta_bits = 10; margin_bits = 20; bound = None }))
unfolding program clap_on_literals number_of
usual_plan = refl

plan_with_options : command_of (codes "dpoly" ∷ codes "plan" ∷ codes "-" ∷ codes "--delta-bits" ∷ codes "30" ∷ codes "--margin-bits=60" ∷ codes "--bound" ∷ codes "8" ∷ []) ≡ Some (plan (record { script = codes "-"; delta_bits = 30; margin_bits = 60; bound = Some 8 }))
unfolding program clap_on_literals number_of
plan_with_options = refl

plan_of_wider_margin : command_of (codes "dpoly" ∷ codes "plan" ∷ codes "s" ∷ codes "--margin-bits" ∷ codes "10" ∷ []) ≡ None
unfolding program clap_on_literals number_of
plan_of_wider_margin = refl

-- going on from a certificate: the whole, and a part
resume_whole : command_of (codes "dpoly" ∷ codes "resume" ∷ codes "s" ∷ codes "c" ∷ codes "o" ∷ []) ≡ Some (resume (record { script = codes "s"; cert = codes "c"; out = codes "o"; share = record { number = 1; count = 1 }; least_bits = 20; budget = 65536; bound = None; workers = 1 }))
unfolding program clap_on_literals number_of parts_of
resume_whole = refl

resume_part : command_of (codes "dpoly" ∷ codes "resume" ∷ codes "s" ∷ codes "c" ∷ codes "o" ∷ codes "--part" ∷ codes "3/64" ∷ codes "--budget=7" ∷ codes "--bound" ∷ codes "8" ∷ codes "--workers" ∷ codes "2" ∷ []) ≡ Some (resume (record { script = codes "s"; cert = codes "c"; out = codes "o"; share = record { number = 3; count = 64 }; least_bits = 20; budget = 7; bound = Some 8; workers = 2 }))
unfolding program clap_on_literals number_of parts_of
resume_part = refl

-- no part of a count, and no two numbers
part_zero : command_of (codes "dpoly" ∷ codes "resume" ∷ codes "s" ∷ codes "c" ∷ codes "o" ∷ codes "--part" ∷ codes "0/4" ∷ []) ≡ None
unfolding program clap_on_literals number_of parts_of
part_zero = refl

part_above : command_of (codes "dpoly" ∷ codes "resume" ∷ codes "s" ∷ codes "c" ∷ codes "o" ∷ codes "--part" ∷ codes "5/4" ∷ []) ≡ None
unfolding program clap_on_literals number_of parts_of
part_above = refl

part_alone : command_of (codes "dpoly" ∷ codes "resume" ∷ codes "s" ∷ codes "c" ∷ codes "o" ∷ codes "--part" ∷ codes "4" ∷ []) ≡ None
unfolding program clap_on_literals number_of parts_of
part_alone = refl

part_of_three : command_of (codes "dpoly" ∷ codes "resume" ∷ codes "s" ∷ codes "c" ∷ codes "o" ∷ codes "--part" ∷ codes "1/2/3" ∷ []) ≡ None
unfolding program clap_on_literals number_of parts_of
part_of_three = refl

both_piped : command_of (codes "dpoly" ∷ codes "resume" ∷ codes "-" ∷ codes "-" ∷ codes "o" ∷ []) ≡ None
unfolding program clap_on_literals number_of parts_of
both_piped = refl

-- one certificate of several: two, and three
join_two : command_of (codes "dpoly" ∷ codes "join" ∷ codes "s" ∷ codes "o" ∷ codes "a" ∷ codes "b" ∷ []) ≡ Some (join (record { script = codes "s"; out = codes "o"; certs = codes "a" ∷ codes "b" ∷ []; bound = None }))
unfolding program clap_on_literals number_of
join_two = refl

join_three : command_of (codes "dpoly" ∷ codes "join" ∷ codes "-" ∷ codes "-" ∷ codes "a" ∷ codes "--" ∷ codes "-b" ∷ codes "a" ∷ []) ≡ Some (join (record { script = codes "-"; out = codes "-"; certs = codes "a" ∷ codes "-b" ∷ codes "a" ∷ []; bound = None }))
unfolding program clap_on_literals number_of
join_three = refl

-- one alone, and one that is piped
join_one : command_of (codes "dpoly" ∷ codes "join" ∷ codes "s" ∷ codes "o" ∷ codes "a" ∷ []) ≡ None
unfolding program clap_on_literals number_of
join_one = refl

join_piped : command_of (codes "dpoly" ∷ codes "join" ∷ codes "s" ∷ codes "o" ∷ codes "a" ∷ codes "-" ∷ []) ≡ None
unfolding program clap_on_literals number_of
join_piped = refl

join_with_bound : command_of (codes "dpoly" ∷ codes "join" ∷ codes "s" ∷ codes "o" ∷ codes "a" ∷ codes "b" ∷ codes "--bound" ∷ codes "8" ∷ []) ≡ Some (join (record { script = codes "s"; out = codes "o"; certs = codes "a" ∷ codes "b" ∷ []; bound = Some 8 }))
unfolding program clap_on_literals number_of
join_with_bound = refl

join_with_bound_first : command_of (codes "dpoly" ∷ codes "join" ∷ codes "--bound=8" ∷ codes "s" ∷ codes "o" ∷ codes "a" ∷ codes "b" ∷ []) ≡ Some (join (record { script = codes "s"; out = codes "o"; certs = codes "a" ∷ codes "b" ∷ []; bound = Some 8 }))
unfolding program clap_on_literals number_of
join_with_bound_first = refl

join_with_option : command_of (codes "dpoly" ∷ codes "join" ∷ codes "s" ∷ codes "o" ∷ codes "a" ∷ codes "b" ∷ codes "--budget" ∷ codes "8" ∷ []) ≡ None
unfolding program clap_on_literals number_of
join_with_option = refl
