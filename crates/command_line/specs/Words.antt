-- What the program's words ask for, by the parser's own definitions.
use Rattle.std.specs.Prelude.{◌&&◌, ◌==◌, ◌^◌, ◌<◌, ◌≤◌, IfSome, ℕ, Bool, List, Option, Some, None, codes, nat_lt, nat_le, length, not, if◌then◌else◌, option_and_then, option_map}
use Rattle.std.specs.Str.{bytes_eq}
use Rattle.std.specs.List.{list_all, position_or_len, before_first, after_first}
use Rattle.std.specs.Char.{digit_value}
use Rattle.std.specs.Str.Parse.{without_leading_plus, digits_value}
use Rattle.clap.specs.Walk.{is_empty}
use Rattle.clap.specs.Words.{Row, Text, all_of, fault_of, first_of, matches_of, one_of, subcommand_of}
use Rattle.command_line.specs.declared.request.Options.{Options}
use Rattle.command_line.specs.Program.{checker, program}

-- A text writes a number of so many bits in decimal digits, at least one; a plus sign may stand before them.
abbrev pub is_number : ℕ → Text → Bool
is_number bits text = nat_lt 0 (length (without_leading_plus text))
    && (list_all (λ d. nat_lt (digit_value d) 10) (without_leading_plus text)
    && nat_lt (digits_value 10 (without_leading_plus text)) (2 ^ bits))

-- the number that a text writes
unfoldable pub number_of : ℕ → Text → Option ℕ
number_of bits text = if is_number bits text then Some (digits_value 10 (without_leading_plus text)) else None

-- the number, where it is in the range
abbrev pub within : ℕ → ℕ → ℕ → Option ℕ
within least most n = if nat_le least n && nat_le n most then Some n else None

-- the number in the range that was given for an option or a place, or its default
abbrev pub number_in : ℕ → ℕ → Text → List Row → Option ℕ
number_in least most id rows = option_and_then (within least most) (option_and_then (number_of 32) (one_of id rows))

-- the number below 2 ^ 64 that was given for a place
abbrev pub long_number_in : Text → List Row → Option ℕ
long_number_in id rows = option_and_then (number_of 64) (one_of id rows)

-- the options where none is given but the number of workers
abbrev pub usual : ℕ → Options
usual workers = record { delta_bits = 10; margin_bits = 20; least_bits = 20; budget = 65536; workers = workers; bound = None }

-- delta is above margin
abbrev pub ordered : Options → Option Options
ordered options = if nat_lt options.delta_bits options.margin_bits then Some options else None

-- the options of `solve`
abbrev pub options_of : List Row → Option Options
options_of rows =
    option_and_then (λ delta. option_and_then (λ margin. option_and_then (λ least.
    option_and_then (λ budget. option_and_then (λ workers.
    ordered (record {
      delta_bits = delta;
      margin_bits = margin;
      least_bits = least;
      budget = budget;
      workers = workers;
      bound = number_in 1 4294967295 (codes "bound") rows;
    }))
    (number_in 1 64 (codes "workers") rows)) (number_in 0 1048576 (codes "budget") rows)) (number_in 0 60 (codes "least-bits") rows))
    (number_in 2 60 (codes "margin-bits") rows)) (number_in 1 30 (codes "delta-bits") rows)

-- what `solve` is asked for
pub record Solve : Type 0 where
  pub script : Text
  pub cert : Text
  pub options : Options

abbrev pub solve_of : List Row → Option Solve
solve_of rows =
    option_and_then (λ script. option_and_then (λ cert. option_and_then (λ options.
    Some (record { script = script; cert = cert; options = options }))
    (options_of rows)) (first_of (codes "cert") rows)) (first_of (codes "script") rows)

-- what `minimize` is asked for
pub record Minimize : Type 0 where
  pub script : Text
  pub cert : Text
  pub gap_bits : ℕ
  pub options : Options

abbrev pub minimize_of : List Row → Option Minimize
minimize_of rows =
    option_and_then (λ script. option_and_then (λ cert. option_and_then (λ gap. option_and_then (λ options.
    Some (record { script = script; cert = cert; gap_bits = gap; options = options }))
    (options_of rows)) (number_in 0 30 (codes "gap-bits") rows)) (first_of (codes "cert") rows)) (first_of (codes "script") rows)

-- what `check` is asked for
pub record Check : Type 0 where
  pub script : Text
  pub cert : Text
  pub bound : Option ℕ

-- not both from standard input
abbrev pub parted : Check → Option Check
parted asked = if bytes_eq asked.script (codes "-") && bytes_eq asked.cert (codes "-") then None else Some asked

abbrev pub check_of : List Row → Option Check
check_of rows =
    option_and_then (λ script. option_and_then (λ cert.
    parted (record { script = script; cert = cert; bound = number_in 1 4294967295 (codes "bound") rows }))
    (first_of (codes "cert") rows)) (first_of (codes "script") rows)

-- what `upgrade` is asked for: the script, the certificate that is read, and the one that is written
pub record Upgrade : Type 0 where
  pub script : Text
  pub cert : Text
  pub out : Text
  pub bound : Option ℕ

-- not both from standard input
abbrev pub parted_upgrade : Upgrade → Option Upgrade
parted_upgrade asked = if bytes_eq asked.script (codes "-") && bytes_eq asked.cert (codes "-") then None else Some asked

abbrev pub upgrade_of : List Row → Option Upgrade
upgrade_of rows =
    option_and_then (λ script. option_and_then (λ cert. option_and_then (λ out.
    parted_upgrade (record { script = script; cert = cert; out = out; bound = number_in 1 4294967295 (codes "bound") rows }))
    (first_of (codes "out") rows)) (first_of (codes "cert") rows)) (first_of (codes "script") rows)

-- what `demo` is asked for
pub record Demo : Type 0 where
  pub seed : ℕ
  pub size : ℕ
  pub cert : Text
  pub options : Options

abbrev pub demo_of : List Row → Option Demo
demo_of rows =
    option_and_then (λ seed. option_and_then (λ size. option_and_then (λ cert. option_and_then (λ workers.
    Some (record { seed = seed; size = size; cert = cert; options = usual workers }))
    (number_in 1 64 (codes "workers") rows)) (first_of (codes "cert") rows))
    (number_in 1 10000 (codes "size") rows)) (long_number_in (codes "seed") rows)

-- what `plan` is asked for: the script, delta and margin
pub record Plan : Type 0 where
  pub script : Text
  pub delta_bits : ℕ
  pub margin_bits : ℕ
  pub bound : Option ℕ

-- delta is above margin
abbrev pub ordered_plan : Plan → Option Plan
ordered_plan asked = if nat_lt asked.delta_bits asked.margin_bits then Some asked else None

abbrev pub plan_of : List Row → Option Plan
plan_of rows =
    option_and_then (λ script. option_and_then (λ delta. option_and_then (λ margin.
    ordered_plan (record { script = script; delta_bits = delta; margin_bits = margin; bound = number_in 1 4294967295 (codes "bound") rows }))
    (number_in 2 60 (codes "margin-bits") rows)) (number_in 1 30 (codes "delta-bits") rows)) (first_of (codes "script") rows)

-- the share `number` of so many, from 1 on
pub record Share : Type 0 where
  pub number : ℕ
  pub count : ℕ

abbrev pub is_slash : ℕ → Bool
is_slash b = b == 47

-- from 1 to the count, which is at most 1,000,000
abbrev pub ordered_share : Share → Option Share
ordered_share h = if nat_le 1 h.number && (nat_le h.number h.count && nat_le h.count 1000000) then Some h else None

-- the share that two texts write
abbrev pub share_by : Text → Text → Option Share
share_by number count =
    option_and_then (λ i. option_and_then (λ n. ordered_share (record { number = i; count = n })) (number_of 32 count)) (number_of 32 number)

-- what stands before the first slash, and behind it
unfoldable pub parts_of : Text → Option (Text × Text)
parts_of text = if nat_lt (position_or_len is_slash text) (length text) then Some (before_first is_slash text, after_first is_slash text) else None

-- the share that a text writes: two numbers, one before its first slash and one behind
abbrev pub share_of : Text → Option Share
share_of text = option_and_then (λ (x : Text × Text). share_by x.0 x.1) (parts_of text)

abbrev pub share_in : List Row → Option Share
share_in rows = option_and_then share_of (first_of (codes "part") rows)

-- what `resume` is asked for: the script, the certificate that is read, the one that is written, and how the search goes on
pub record Resume : Type 0 where
  pub script : Text
  pub cert : Text
  pub out : Text
  pub share : Share
  pub least_bits : ℕ
  pub budget : ℕ
  pub bound : Option ℕ
  pub workers : ℕ

-- not both from standard input
abbrev pub parted_resume : Resume → Option Resume
parted_resume asked = if bytes_eq asked.script (codes "-") && bytes_eq asked.cert (codes "-") then None else Some asked

abbrev pub resume_of : List Row → Option Resume
resume_of rows =
    option_and_then (λ script. option_and_then (λ cert. option_and_then (λ out. option_and_then (λ share.
    option_and_then (λ least. option_and_then (λ budget. option_and_then (λ workers.
    parted_resume (record {
      script = script;
      cert = cert;
      out = out;
      share = share;
      least_bits = least;
      budget = budget;
      bound = number_in 1 4294967295 (codes "bound") rows;
      workers = workers;
    }))
    (number_in 1 64 (codes "workers") rows)) (number_in 0 1048576 (codes "budget") rows)) (number_in 0 60 (codes "least-bits") rows))
    (share_in rows)) (first_of (codes "out") rows)) (first_of (codes "cert") rows)) (first_of (codes "script") rows)

-- what `join` is asked for: the script, the certificate that is written, and those that are read
pub record Join : Type 0 where
  pub script : Text
  pub out : Text
  pub certs : List Text
  pub bound : Option ℕ

-- so many that they can be joined
abbrev pub are_several : List Text → Bool
are_several certs = nat_le 2 (length certs) && nat_le (length certs) 1000000

-- the name of a file, and not that of standard input
abbrev pub is_file : Text → Bool
is_file name = not (bytes_eq name (codes "-"))

abbrev pub are_files : List Text → Bool
are_files names = list_all is_file names

abbrev pub joined_files : Join → Option Join
joined_files asked = if are_several asked.certs && are_files asked.certs then Some asked else None

abbrev pub join_of : List Row → Option Join
join_of rows =
    option_and_then (λ script. option_and_then (λ out. option_and_then (λ certs.
    joined_files (record { script = script; out = out; certs = certs; bound = number_in 1 4294967295 (codes "bound") rows }))
    (all_of (codes "cert") rows)) (first_of (codes "out") rows)) (first_of (codes "script") rows)

pub data Command : Type 0 where
  solve : Solve → Command
  minimize : Minimize → Command
  check : Check → Command
  demo : Demo → Command
  upgrade : Upgrade → Command
  plan : Plan → Command
  resume : Resume → Command
  join : Join → Command

-- what a subcommand other than `join` and what was found for it ask for
abbrev pub chosen_other : Text × List Row → Option Command
chosen_other entered =
    if bytes_eq entered.0 (codes "solve") then option_map (λ asked. solve asked) (solve_of entered.1)
    else (if bytes_eq entered.0 (codes "minimize") then option_map (λ asked. minimize asked) (minimize_of entered.1)
    else (if bytes_eq entered.0 (codes "check") then option_map (λ asked. check asked) (check_of entered.1)
    else (if bytes_eq entered.0 (codes "demo") then option_map (λ asked. demo asked) (demo_of entered.1)
    else (if bytes_eq entered.0 (codes "upgrade") then option_map (λ asked. upgrade asked) (upgrade_of entered.1)
    else (if bytes_eq entered.0 (codes "plan") then option_map (λ asked. plan asked) (plan_of entered.1)
    else (if bytes_eq entered.0 (codes "resume") then option_map (λ asked. resume asked) (resume_of entered.1) else None))))))

-- what the subcommand and what was found for it ask for
abbrev pub chosen : Text × List Row → Option Command
chosen entered = if bytes_eq entered.0 (codes "join") then option_map (λ asked. join asked) (join_of entered.1) else chosen_other entered

-- What words ask for; none where they are refused, for whatever cause but that memory ran out.
abbrev pub command_of : List Text → Option Command
command_of words = if is_empty (fault_of program words) then option_and_then chosen (subcommand_of program words) else None

-- What the words of the checker's call ask for, in the same way.
abbrev pub checker_of : List Text → Option Check
checker_of words = if is_empty (fault_of checker words) then check_of (matches_of checker words) else None

-- the size up to which constants without a bound are looked at is one, where one is given
abbrev pub IsBound : Option ℕ → Type 0
IsBound bound = IfSome bound (λ n. (1 ≤ n) × (n ≤ 4294967295))

-- The options are in their ranges.
pub record AreOptions (options : Options) : Type 0 where
  pub delta_least : 1 ≤ options.delta_bits
  pub delta_most : options.delta_bits ≤ 30
  pub below_margin : options.delta_bits < options.margin_bits
  pub margin_most : options.margin_bits ≤ 60
  pub least_most : options.least_bits ≤ 60
  pub budget_most : options.budget ≤ 1048576
  pub workers_least : 1 ≤ options.workers
  pub workers_most : options.workers ≤ 64
  pub bound : IsBound options.bound

-- The script that the demo makes has a size that it may have.
pub record IsDemo (asked : Demo) : Type 0 where
  pub seed_most : asked.seed < 2 ^ 64
  pub size_least : 1 ≤ asked.size
  pub size_most : asked.size ≤ 10000
  pub options : AreOptions asked.options

-- Delta and margin are in their ranges.
pub record IsPlan (asked : Plan) : Type 0 where
  pub delta_least : 1 ≤ asked.delta_bits
  pub delta_most : asked.delta_bits ≤ 30
  pub below_margin : asked.delta_bits < asked.margin_bits
  pub margin_most : asked.margin_bits ≤ 60
  pub bound : IsBound asked.bound

-- The share is one of its count.
pub record IsShare (h : Share) : Type 0 where
  pub number_least : 1 ≤ h.number
  pub number_most : h.number ≤ h.count
  pub count_most : h.count ≤ 1000000

-- The share and the options are in their ranges.
pub record IsResume (asked : Resume) : Type 0 where
  pub share : IsShare asked.share
  pub least_most : asked.least_bits ≤ 60
  pub budget_most : asked.budget ≤ 1048576
  pub bound : IsBound asked.bound
  pub workers_least : 1 ≤ asked.workers
  pub workers_most : asked.workers ≤ 64

-- There are so many certificates that they can be joined, and the bound is in its range.
pub record IsJoin (asked : Join) : Type 0 where
  pub certs_least : 2 ≤ length asked.certs
  pub certs_most : length asked.certs ≤ 1000000
  pub bound : IsBound asked.bound

-- The gap and the options are in their ranges.
pub record IsMinimize (asked : Minimize) : Type 0 where
  pub gap_most : asked.gap_bits ≤ 30
  pub options : AreOptions asked.options

-- All that is asked for is in its range.
abbrev pub IsInRange : Command → Type 0
IsInRange (solve asked) = AreOptions asked.options
IsInRange (minimize asked) = IsMinimize asked
IsInRange (check asked) = IsBound asked.bound
IsInRange (demo asked) = IsDemo asked
IsInRange (upgrade asked) = IsBound asked.bound
IsInRange (plan asked) = IsPlan asked
IsInRange (resume asked) = IsResume asked
IsInRange (join asked) = IsJoin asked
