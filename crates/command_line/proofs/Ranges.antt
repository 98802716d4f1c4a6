-- What words ask for is in its range.
use Rattle.std.proofs.Common.{◌≡◌, ◌&&◌, ◌≤◌, ◌<◌, ◌^◌, ℕ, Bool, true, false, List, Option, Some, None, ap, subst, refl, arith, codes, length}
use Rattle.std.specs.Prelude.{option_and_then, option_map, if◌then◌else◌, nat_le, nat_lt}
use Rattle.std.specs.Str.{bytes_eq}
use Rattle.std.specs.Str.Parse.{without_leading_plus, digits_value}
use Rattle.std.proofs.lemmas.Bool.Decides.{nat_tests}
use Rattle.clap.specs.Words.{Row, Text, all_of, fault_of, first_of, one_of, subcommand_of}
use Rattle.clap.specs.Walk.{is_empty}
use Rattle.command_line.specs.declared.request.Options.{Options}
use Rattle.command_line.specs.Program.{program}
use Rattle.command_line.specs.Words.{Command, Solve, Minimize, Check, Demo, Upgrade, Plan, Share, Resume, Join, solve, minimize, check, demo, upgrade, plan, resume, join, AreOptions, IsBound, IsDemo, IsMinimize, IsPlan, IsShare, IsResume, IsJoin, are_several, are_files, joined_files, join_of, IsInRange, is_number, number_of, number_in, long_number_in, within, ordered, parted, parted_upgrade, ordered_plan, ordered_share, parts_of, share_by, share_of, share_in, parted_resume, usual, options_of, solve_of, minimize_of, check_of, demo_of, upgrade_of, plan_of, resume_of, chosen_other, chosen, command_of}
use Rattle.command_line.proofs.Numbers.{and_first, and_second, true_less}

-- a chain that gives a value gave one before
record Chained {A B : Type 0} (f : A → Option B) (o : Option A) (v : B) : Type 0 where
  value : A
  was : o ≡ Some value
  gives : f value ≡ Some v

chained : {A B : Type 0} (f : A → Option B) (o : Option A) (v : B) → option_and_then f o ≡ Some v → Chained f o v
chained f None v h = cc
chained f (Some x) v h = record { value = x; was = refl; gives = h }

-- a test that gives a value was passed
passed : {A : Type 0} (b : Bool) (x v : A) → if b then Some x else None ≡ Some v → (b ≡ true) × (x ≡ v)
passed true x v h = (refl, cc)
passed false x v h = cc

true_at_most : (a b : ℕ) → nat_le a b ≡ true → a ≤ b
true_at_most a b h = grind (arith, nat_tests)

record Between (least most n : ℕ) : Type 0 where
  at_least : least ≤ n
  at_most : n ≤ most

-- a number that was read is in its range
between : (least most : ℕ) (id : Text) (rows : List Row) (n : ℕ) → number_in least most id rows ≡ Some n → Between least most n
between least most id rows n h =
    let c = chained (within least most) (option_and_then (number_of 32) (one_of id rows)) n h in
    let p = passed (nat_le least c.value && nat_le c.value most) c.value n c.gives in
    subst (λ (m : ℕ). Between least most m) p.1 (record {
      at_least = true_at_most least c.value (and_first _ _ p.0);
      at_most = true_at_most c.value most (and_second _ _ p.0);
    })

-- a number that may be missing is in its range where it's there
is_bound : (o : Option ℕ) (rows : List Row) → number_in 1 4294967295 (codes "bound") rows ≡ o → IsBound o
is_bound None rows h = tt
is_bound (Some n) rows h = let b = between 1 4294967295 (codes "bound") rows n h in (b.at_least, b.at_most)

long_below : (id : Text) (rows : List Row) (n : ℕ) → long_number_in id rows ≡ Some n → n < 2 ^ 64
unfolding number_of
long_below id rows n h =
    let c = chained (number_of 64) (one_of id rows) n h in
    let p = passed (is_number 64 c.value) (digits_value 10 (without_leading_plus c.value)) n c.gives in
    subst (λ (m : ℕ). m < 2 ^ 64) p.1 (true_less _ _ (and_second _ _ (and_second _ _ p.0)))

are_ordered : (o v : Options) → ordered o ≡ Some v → (o.delta_bits < o.margin_bits) × (o ≡ v)
are_ordered o v h = let p = passed (nat_lt o.delta_bits o.margin_bits) o v h in (true_less _ _ p.0, p.1)

are_options : (rows : List Row) (o : Options) → options_of rows ≡ Some o → AreOptions o
are_options rows o h =
    let delta = chained _ _ o h in
    let margin = chained _ _ o delta.gives in
    let least = chained _ _ o margin.gives in
    let budget = chained _ _ o least.gives in
    let workers = chained _ _ o budget.gives in
    let d = between 1 30 (codes "delta-bits") rows delta.value delta.was in
    let m = between 2 60 (codes "margin-bits") rows margin.value margin.was in
    let l = between 0 60 (codes "least-bits") rows least.value least.was in
    let b = between 0 1048576 (codes "budget") rows budget.value budget.was in
    let w = between 1 64 (codes "workers") rows workers.value workers.was in
    let p = are_ordered _ o workers.gives in
    subst AreOptions p.1 (record {
      delta_least = d.at_least;
      delta_most = d.at_most;
      below_margin = p.0;
      margin_most = m.at_most;
      least_most = l.at_most;
      budget_most = b.at_most;
      workers_least = w.at_least;
      workers_most = w.at_most;
      bound = is_bound _ rows refl;
    })

solve_in_range : (rows : List Row) (asked : Solve) → solve_of rows ≡ Some asked → AreOptions asked.options
solve_in_range rows asked h = by_parts (first_of (codes "script") rows) (first_of (codes "cert") rows) (options_of rows) refl h where
  by_parts : (script cert : Option Text) (options : Option Options) → options_of rows ≡ options
      → option_and_then (λ script. option_and_then (λ cert. option_and_then (λ options.
      Some (record { script = script; cert = cert; options = options })) options) cert) script ≡ Some asked → AreOptions asked.options
  by_parts None cert options e h = cc
  by_parts (Some script) None options e h = cc
  by_parts (Some script) (Some cert) None e h = cc
  by_parts (Some script) (Some cert) (Some options) e h =
      let is : ◌≡◌ {A = Solve} (record { script = script; cert = cert; options = options }) asked = cc in
      subst (λ (s : Solve). AreOptions s.options) is (are_options rows options e)

minimize_in_range : (rows : List Row) (asked : Minimize) → minimize_of rows ≡ Some asked → IsMinimize asked
minimize_in_range rows asked h = by_parts (first_of (codes "script") rows) (first_of (codes "cert") rows) (number_in 0 30 (codes "gap-bits") rows) refl (options_of rows) refl h where
  by_parts : (script cert : Option Text) (gap : Option ℕ) → number_in 0 30 (codes "gap-bits") rows ≡ gap → (options : Option Options) → options_of rows ≡ options
      → option_and_then (λ script. option_and_then (λ cert. option_and_then (λ gap. option_and_then (λ options.
      Some (record { script = script; cert = cert; gap_bits = gap; options = options })) options) gap) cert) script ≡ Some asked → IsMinimize asked
  by_parts None cert gap f options e h = cc
  by_parts (Some script) None gap f options e h = cc
  by_parts (Some script) (Some cert) None f options e h = cc
  by_parts (Some script) (Some cert) (Some gap) f None e h = cc
  by_parts (Some script) (Some cert) (Some gap) f (Some options) e h =
      let is : ◌≡◌ {A = Minimize} (record { script = script; cert = cert; gap_bits = gap; options = options }) asked = cc in
      subst IsMinimize is (record { gap_most = (between 0 30 (codes "gap-bits") rows gap f).at_most; options = are_options rows options e })

parted_is : (c v : Check) → parted c ≡ Some v → c ≡ v
parted_is c v h = by_test (bytes_eq c.script (codes "-") && bytes_eq c.cert (codes "-")) h where
  by_test : (b : Bool) → ◌≡◌ {A = Option Check} (if b then None else Some c) (Some v) → c ≡ v
  by_test true e = cc
  by_test false e = cc

check_in_range : (rows : List Row) (asked : Check) → check_of rows ≡ Some asked → IsBound asked.bound
check_in_range rows asked h = by_parts (first_of (codes "script") rows) (first_of (codes "cert") rows) h where
  by_parts : (script cert : Option Text) → option_and_then (λ script. option_and_then (λ cert.
      parted (record { script = script; cert = cert; bound = number_in 1 4294967295 (codes "bound") rows })) cert) script ≡ Some asked → IsBound asked.bound
  by_parts None cert h = cc
  by_parts (Some script) None h = cc
  by_parts (Some script) (Some cert) h =
      let is = parted_is (record { script = script; cert = cert; bound = number_in 1 4294967295 (codes "bound") rows }) asked h in
      is_bound asked.bound rows (ap (λ (c : Check). c.bound) is)

parted_upgrade_is : (c v : Upgrade) → parted_upgrade c ≡ Some v → c ≡ v
parted_upgrade_is c v h = by_test (bytes_eq c.script (codes "-") && bytes_eq c.cert (codes "-")) h where
  by_test : (b : Bool) → ◌≡◌ {A = Option Upgrade} (if b then None else Some c) (Some v) → c ≡ v
  by_test true e = cc
  by_test false e = cc

upgrade_in_range : (rows : List Row) (asked : Upgrade) → upgrade_of rows ≡ Some asked → IsBound asked.bound
upgrade_in_range rows asked h = by_parts (first_of (codes "script") rows) (first_of (codes "cert") rows) (first_of (codes "out") rows) h where
  by_parts : (script cert out : Option Text) → option_and_then (λ script. option_and_then (λ cert. option_and_then (λ out.
      parted_upgrade (record { script = script; cert = cert; out = out; bound = number_in 1 4294967295 (codes "bound") rows })) out) cert) script ≡ Some asked → IsBound asked.bound
  by_parts None cert out h = cc
  by_parts (Some script) None out h = cc
  by_parts (Some script) (Some cert) None h = cc
  by_parts (Some script) (Some cert) (Some out) h =
      let is = parted_upgrade_is (record { script = script; cert = cert; out = out; bound = number_in 1 4294967295 (codes "bound") rows }) asked h in
      is_bound asked.bound rows (ap (λ (c : Upgrade). c.bound) is)

usual_are_options : (workers : ℕ) → Between 1 64 workers → AreOptions (usual workers)
usual_are_options workers w = record {
  delta_least = omega arith;
  delta_most = omega arith;
  below_margin = omega arith;
  margin_most = omega arith;
  least_most = omega arith;
  budget_most = omega arith;
  workers_least = w.at_least;
  workers_most = w.at_most;
  bound = tt;
}

demo_in_range : (rows : List Row) (asked : Demo) → demo_of rows ≡ Some asked → IsDemo asked
demo_in_range rows asked h =
    by_parts (long_number_in (codes "seed") rows) (number_in 1 10000 (codes "size") rows) (first_of (codes "cert") rows)
    (number_in 1 64 (codes "workers") rows) refl refl refl h where
      by_parts : (seed size : Option ℕ) (cert : Option Text) (workers : Option ℕ) → long_number_in (codes "seed") rows ≡ seed
          → number_in 1 10000 (codes "size") rows ≡ size → number_in 1 64 (codes "workers") rows ≡ workers
          → option_and_then (λ seed. option_and_then (λ size. option_and_then (λ cert. option_and_then (λ workers.
          Some (record { seed = seed; size = size; cert = cert; options = usual workers })) workers) cert) size) seed ≡ Some asked → IsDemo asked
      by_parts None size cert workers seed_is size_is workers_is h = cc
      by_parts (Some seed) None cert workers seed_is size_is workers_is h = cc
      by_parts (Some seed) (Some size) None workers seed_is size_is workers_is h = cc
      by_parts (Some seed) (Some size) (Some cert) None seed_is size_is workers_is h = cc
      by_parts (Some seed) (Some size) (Some cert) (Some workers) seed_is size_is workers_is h =
          let is : ◌≡◌ {A = Demo} (record { seed = seed; size = size; cert = cert; options = usual workers }) asked = cc in
          let s = between 1 10000 (codes "size") rows size size_is in
          let w = between 1 64 (codes "workers") rows workers workers_is in
          subst IsDemo is (record {
            seed_most = long_below (codes "seed") rows seed seed_is;
            size_least = s.at_least;
            size_most = s.at_most;
            options = usual_are_options workers w;
          })

ordered_plan_is : (c v : Plan) → ordered_plan c ≡ Some v → (c.delta_bits < c.margin_bits) × (c ≡ v)
ordered_plan_is c v h = let p = passed (nat_lt c.delta_bits c.margin_bits) c v h in (true_less _ _ p.0, p.1)

plan_in_range : (rows : List Row) (asked : Plan) → plan_of rows ≡ Some asked → IsPlan asked
plan_in_range rows asked h = by_script (first_of (codes "script") rows) h where
  by_script : (script : Option Text) → option_and_then (λ script. option_and_then (λ delta. option_and_then (λ margin.
      ordered_plan (record { script = script; delta_bits = delta; margin_bits = margin; bound = number_in 1 4294967295 (codes "bound") rows }))
      (number_in 2 60 (codes "margin-bits") rows)) (number_in 1 30 (codes "delta-bits") rows)) script ≡ Some asked → IsPlan asked
  by_script None e = cc
  by_script (Some script) e =
      let delta = chained _ _ asked e in
      let margin = chained _ _ asked delta.gives in
      let d = between 1 30 (codes "delta-bits") rows delta.value delta.was in
      let m = between 2 60 (codes "margin-bits") rows margin.value margin.was in
      let p = ordered_plan_is _ asked margin.gives in
      subst IsPlan p.1 (record {
        delta_least = d.at_least;
        delta_most = d.at_most;
        below_margin = p.0;
        margin_most = m.at_most;
        bound = is_bound _ rows refl;
      })

is_share : (h v : Share) → ordered_share h ≡ Some v → IsShare v
is_share h v e =
    let p = passed (nat_le 1 h.number && (nat_le h.number h.count && nat_le h.count 1000000)) h v e in
    let rest = and_second _ _ p.0 in
    subst IsShare p.1 (record {
      number_least = true_at_most 1 h.number (and_first _ _ p.0);
      number_most = true_at_most h.number h.count (and_first _ _ rest);
      count_most = true_at_most h.count 1000000 (and_second _ _ rest);
    })

share_by_is : (number count : Text) (v : Share) → share_by number count ≡ Some v → IsShare v
share_by_is number count v h = by_parts (number_of 32 number) (number_of 32 count) h where
  by_parts : (i n : Option ℕ) → option_and_then (λ i. option_and_then (λ n. ordered_share (record { number = i; count = n })) n) i ≡ Some v → IsShare v
  by_parts None n e = cc
  by_parts (Some i) None e = cc
  by_parts (Some i) (Some n) e = is_share (record { number = i; count = n }) v e

share_is : (text : Text) (v : Share) → share_of text ≡ Some v → IsShare v
share_is text v h = let x = chained (λ (x : Text × Text). share_by x.0 x.1) (parts_of text) v h in share_by_is x.value.0 x.value.1 v x.gives

share_in_range : (rows : List Row) (v : Share) → share_in rows ≡ Some v → IsShare v
share_in_range rows v h = let text = chained share_of (first_of (codes "part") rows) v h in share_is text.value v text.gives

parted_resume_is : (c v : Resume) → parted_resume c ≡ Some v → c ≡ v
parted_resume_is c v h = by_test (bytes_eq c.script (codes "-") && bytes_eq c.cert (codes "-")) h where
  by_test : (b : Bool) → ◌≡◌ {A = Option Resume} (if b then None else Some c) (Some v) → c ≡ v
  by_test true e = cc
  by_test false e = cc

resume_in_range : (rows : List Row) (asked : Resume) → resume_of rows ≡ Some asked → IsResume asked
resume_in_range rows asked h =
    by_parts (first_of (codes "script") rows) (first_of (codes "cert") rows) (first_of (codes "out") rows) (share_in rows)
    (number_in 0 60 (codes "least-bits") rows) (number_in 0 1048576 (codes "budget") rows) (number_in 1 64 (codes "workers") rows) refl refl refl refl h where
      by_parts : (script cert out : Option Text) (share : Option Share) (least budget workers : Option ℕ) → share_in rows ≡ share
          → number_in 0 60 (codes "least-bits") rows ≡ least → number_in 0 1048576 (codes "budget") rows ≡ budget → number_in 1 64 (codes "workers") rows ≡ workers
          → option_and_then (λ script. option_and_then (λ cert. option_and_then (λ out. option_and_then (λ share.
          option_and_then (λ least. option_and_then (λ budget. option_and_then (λ workers.
          parted_resume (record { script = script; cert = cert; out = out; share = share; least_bits = least; budget = budget; bound = number_in 1 4294967295 (codes "bound") rows; workers = workers }))
          workers) budget) least) share) out) cert) script ≡ Some asked → IsResume asked
      by_parts None cert out share least budget workers sh lh bh wh e = cc
      by_parts (Some script) None out share least budget workers sh lh bh wh e = cc
      by_parts (Some script) (Some cert) None share least budget workers sh lh bh wh e = cc
      by_parts (Some script) (Some cert) (Some out) None least budget workers sh lh bh wh e = cc
      by_parts (Some script) (Some cert) (Some out) (Some share) None budget workers sh lh bh wh e = cc
      by_parts (Some script) (Some cert) (Some out) (Some share) (Some least) None workers sh lh bh wh e = cc
      by_parts (Some script) (Some cert) (Some out) (Some share) (Some least) (Some budget) None sh lh bh wh e = cc
      by_parts (Some script) (Some cert) (Some out) (Some share) (Some least) (Some budget) (Some workers) sh lh bh wh e =
          let l = between 0 60 (codes "least-bits") rows least lh in
          let b = between 0 1048576 (codes "budget") rows budget bh in
          let w = between 1 64 (codes "workers") rows workers wh in
          subst IsResume (parted_resume_is (record { script = script; cert = cert; out = out; share = share; least_bits = least; budget = budget; bound = number_in 1 4294967295 (codes "bound") rows; workers = workers }) asked e) (record {
            share = share_in_range rows share sh;
            least_most = l.at_most;
            budget_most = b.at_most;
            bound = is_bound _ rows refl;
            workers_least = w.at_least;
            workers_most = w.at_most;
          })

joined_files_are : (c v : Join) → IsBound c.bound → joined_files c ≡ Some v → IsJoin v
joined_files_are c v bound h =
    let p = passed (are_several c.certs && are_files c.certs) c v h in
    let several = and_first (are_several c.certs) (are_files c.certs) p.0 in
    subst IsJoin p.1 (record {
      certs_least = true_at_most 2 (length c.certs) (and_first _ _ several);
      certs_most = true_at_most (length c.certs) 1000000 (and_second _ _ several);
      bound = bound;
    })

join_in_range : (rows : List Row) (asked : Join) → join_of rows ≡ Some asked → IsJoin asked
join_in_range rows asked h = by_parts (first_of (codes "script") rows) (first_of (codes "out") rows) (all_of (codes "cert") rows) h where
  by_parts : (script out : Option Text) (certs : Option (List Text)) → option_and_then (λ script. option_and_then (λ out. option_and_then (λ certs.
      joined_files (record { script = script; out = out; certs = certs; bound = number_in 1 4294967295 (codes "bound") rows })) certs) out) script ≡ Some asked → IsJoin asked
  by_parts None out certs e = cc
  by_parts (Some script) None certs e = cc
  by_parts (Some script) (Some out) None e = cc
  by_parts (Some script) (Some out) (Some certs) e = joined_files_are (record { script = script; out = out; certs = certs; bound = number_in 1 4294967295 (codes "bound") rows }) asked (is_bound _ rows refl) e

-- what a choice of two subcommands gives
taken : (f : Solve → Command) (o : Option Solve) (c : Command) → option_map f o ≡ Some c → Chained (λ x. Some (f x)) o c
taken f None c h = cc
taken f (Some x) c h = record { value = x; was = refl; gives = h }

taken_check : (f : Check → Command) (o : Option Check) (c : Command) → option_map f o ≡ Some c → Chained (λ x. Some (f x)) o c
taken_check f None c h = cc
taken_check f (Some x) c h = record { value = x; was = refl; gives = h }

taken_demo : (f : Demo → Command) (o : Option Demo) (c : Command) → option_map f o ≡ Some c → Chained (λ x. Some (f x)) o c
taken_demo f None c h = cc
taken_demo f (Some x) c h = record { value = x; was = refl; gives = h }

taken_upgrade : (f : Upgrade → Command) (o : Option Upgrade) (c : Command) → option_map f o ≡ Some c → Chained (λ x. Some (f x)) o c
taken_upgrade f None c h = cc
taken_upgrade f (Some x) c h = record { value = x; was = refl; gives = h }

taken_plan : (f : Plan → Command) (o : Option Plan) (c : Command) → option_map f o ≡ Some c → Chained (λ x. Some (f x)) o c
taken_plan f None c h = cc
taken_plan f (Some x) c h = record { value = x; was = refl; gives = h }

taken_minimize : (f : Minimize → Command) (o : Option Minimize) (c : Command) → option_map f o ≡ Some c → Chained (λ x. Some (f x)) o c
taken_minimize f None c h = cc
taken_minimize f (Some x) c h = record { value = x; was = refl; gives = h }

taken_resume : (f : Resume → Command) (o : Option Resume) (c : Command) → option_map f o ≡ Some c → Chained (λ x. Some (f x)) o c
taken_resume f None c h = cc
taken_resume f (Some x) c h = record { value = x; was = refl; gives = h }

taken_join : (f : Join → Command) (o : Option Join) (c : Command) → option_map f o ≡ Some c → Chained (λ x. Some (f x)) o c
taken_join f None c h = cc
taken_join f (Some x) c h = record { value = x; was = refl; gives = h }

-- What is chosen but for `join` is in its range.
other_in_range : (entered : Text × List Row) (c : Command) → chosen_other entered ≡ Some c → IsInRange c
other_in_range entered c h = first (bytes_eq entered.0 (codes "solve")) h where
  some_is : (d : Command) → ◌≡◌ {A = Option Command} (Some d) (Some c) → IsInRange d → IsInRange c
  some_is d e r = let is : d ≡ c = cc in subst IsInRange is r

  sixth : (b : Bool) → ◌≡◌ {A = Option Command} (if b then option_map (λ asked. resume asked) (resume_of entered.1) else None) (Some c) → IsInRange c
  sixth true e = let t = taken_resume (λ asked. resume asked) (resume_of entered.1) c e in some_is (resume t.value) t.gives (resume_in_range entered.1 t.value t.was)
  sixth false e = cc

  fifth : (b : Bool) → ◌≡◌ {A = Option Command} (if b then option_map (λ asked. plan asked) (plan_of entered.1)
      else (if bytes_eq entered.0 (codes "resume") then option_map (λ asked. resume asked) (resume_of entered.1) else None)) (Some c) → IsInRange c
  fifth true e = let t = taken_plan (λ asked. plan asked) (plan_of entered.1) c e in some_is (plan t.value) t.gives (plan_in_range entered.1 t.value t.was)
  fifth false e = sixth (bytes_eq entered.0 (codes "resume")) e

  fourth : (b : Bool) → ◌≡◌ {A = Option Command} (if b then option_map (λ asked. upgrade asked) (upgrade_of entered.1)
      else (if bytes_eq entered.0 (codes "plan") then option_map (λ asked. plan asked) (plan_of entered.1)
      else (if bytes_eq entered.0 (codes "resume") then option_map (λ asked. resume asked) (resume_of entered.1) else None))) (Some c) → IsInRange c
  fourth true e = let t = taken_upgrade (λ asked. upgrade asked) (upgrade_of entered.1) c e in some_is (upgrade t.value) t.gives (upgrade_in_range entered.1 t.value t.was)
  fourth false e = fifth (bytes_eq entered.0 (codes "plan")) e

  third : (b : Bool) → ◌≡◌ {A = Option Command} (if b then option_map (λ asked. demo asked) (demo_of entered.1)
      else (if bytes_eq entered.0 (codes "upgrade") then option_map (λ asked. upgrade asked) (upgrade_of entered.1)
      else (if bytes_eq entered.0 (codes "plan") then option_map (λ asked. plan asked) (plan_of entered.1)
      else (if bytes_eq entered.0 (codes "resume") then option_map (λ asked. resume asked) (resume_of entered.1) else None)))) (Some c) → IsInRange c
  third true e = let t = taken_demo (λ asked. demo asked) (demo_of entered.1) c e in some_is (demo t.value) t.gives (demo_in_range entered.1 t.value t.was)
  third false e = fourth (bytes_eq entered.0 (codes "upgrade")) e

  second : (b : Bool) → ◌≡◌ {A = Option Command} (if b then option_map (λ asked. check asked) (check_of entered.1)
      else (if bytes_eq entered.0 (codes "demo") then option_map (λ asked. demo asked) (demo_of entered.1)
      else (if bytes_eq entered.0 (codes "upgrade") then option_map (λ asked. upgrade asked) (upgrade_of entered.1)
      else (if bytes_eq entered.0 (codes "plan") then option_map (λ asked. plan asked) (plan_of entered.1)
      else (if bytes_eq entered.0 (codes "resume") then option_map (λ asked. resume asked) (resume_of entered.1) else None))))) (Some c) → IsInRange c
  second true e = let t = taken_check (λ asked. check asked) (check_of entered.1) c e in some_is (check t.value) t.gives (check_in_range entered.1 t.value t.was)
  second false e = third (bytes_eq entered.0 (codes "demo")) e

  minimal : (b : Bool) → ◌≡◌ {A = Option Command} (if b then option_map (λ asked. minimize asked) (minimize_of entered.1)
      else (if bytes_eq entered.0 (codes "check") then option_map (λ asked. check asked) (check_of entered.1)
      else (if bytes_eq entered.0 (codes "demo") then option_map (λ asked. demo asked) (demo_of entered.1)
      else (if bytes_eq entered.0 (codes "upgrade") then option_map (λ asked. upgrade asked) (upgrade_of entered.1)
      else (if bytes_eq entered.0 (codes "plan") then option_map (λ asked. plan asked) (plan_of entered.1)
      else (if bytes_eq entered.0 (codes "resume") then option_map (λ asked. resume asked) (resume_of entered.1) else None)))))) (Some c) → IsInRange c
  minimal true e = let t = taken_minimize (λ asked. minimize asked) (minimize_of entered.1) c e in some_is (minimize t.value) t.gives (minimize_in_range entered.1 t.value t.was)
  minimal false e = second (bytes_eq entered.0 (codes "check")) e

  first : (b : Bool) → ◌≡◌ {A = Option Command} (if b then option_map (λ asked. solve asked) (solve_of entered.1)
      else (if bytes_eq entered.0 (codes "minimize") then option_map (λ asked. minimize asked) (minimize_of entered.1)
      else (if bytes_eq entered.0 (codes "check") then option_map (λ asked. check asked) (check_of entered.1)
      else (if bytes_eq entered.0 (codes "demo") then option_map (λ asked. demo asked) (demo_of entered.1)
      else (if bytes_eq entered.0 (codes "upgrade") then option_map (λ asked. upgrade asked) (upgrade_of entered.1)
      else (if bytes_eq entered.0 (codes "plan") then option_map (λ asked. plan asked) (plan_of entered.1)
      else (if bytes_eq entered.0 (codes "resume") then option_map (λ asked. resume asked) (resume_of entered.1) else None))))))) (Some c) → IsInRange c
  first true e = let t = taken (λ asked. solve asked) (solve_of entered.1) c e in some_is (solve t.value) t.gives (solve_in_range entered.1 t.value t.was)
  first false e = minimal (bytes_eq entered.0 (codes "minimize")) e

-- What is chosen is in its range.
pub chosen_in_range : (entered : Text × List Row) (c : Command) → chosen entered ≡ Some c → IsInRange c
chosen_in_range entered c h = by_test (bytes_eq entered.0 (codes "join")) h where
  by_test : (b : Bool) → ◌≡◌ {A = Option Command} (if b then option_map (λ asked. join asked) (join_of entered.1) else chosen_other entered) (Some c) → IsInRange c
  by_test true e =
      let t = taken_join (λ asked. join asked) (join_of entered.1) c e in
      let is : join t.value ≡ c = cc in
      subst IsInRange is (join_in_range entered.1 t.value t.was)
  by_test false e = other_in_range entered c e

-- What the subcommand that was met asks for is in its range.
pub entered_in_range : (entered : Option (Text × List Row)) (c : Command) → option_and_then chosen entered ≡ Some c → IsInRange c
entered_in_range entered c h = let p = chained chosen entered c h in chosen_in_range p.value c p.gives

-- What words ask for is in its range.
pub command_in_range : (words : List Text) (c : Command) → command_of words ≡ Some c → IsInRange c
command_in_range words c h = by_test (is_empty (fault_of program words)) h where
  by_test : (b : Bool) → ◌≡◌ {A = Option Command} (if b then option_and_then chosen (subcommand_of program words) else None) (Some c) → IsInRange c
  by_test true e = entered_in_range (subcommand_of program words) c e
  by_test false e = cc
