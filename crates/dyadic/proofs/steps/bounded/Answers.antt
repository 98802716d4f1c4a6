use Rattle.std.proofs.Common.{◌≡◌, ◌^◌, ◌<◌, ◌≤◌, ℤ, pos, neg_ℤ, nat_abs, ◌*ℤ◌, ◌≤ℤ◌, of_z, arith, ap, ⊎_elim}
use Rattle.std.specs.Int.{w64}
use Rattle.std.proofs.lemmas.Int.{ints}
use Rattle.std.proofs.lemmas.Bool.{cases_lt}
use Rattle.dyadic.proofs.Mantissas.{large_units, low_units}
use Rattle.dyadic.proofs.WithinSteps.{floor_top, below_all_numbers}
use Rattle.dyadic.proofs.steps.bounded.Goals as goal
use Rattle.dyadic.proofs.steps.bounded.Goals.{else-shift-eq181-via-then-shift-eq181+else-count, else-shift-eq181-via-else-shift-eq181}

not_lowest : (m : ℤ) → m ≤ℤ pos 0 → 2 ^ 61 ≤ nat_abs m → (m ≡ neg_ℤ (pos (2 ^ 61)) → ⊥) → 2 ^ 61 < nat_abs m
not_lowest m p many other = ⊎_elim (λ (l : 2 ^ 61 < nat_abs m). l) (λ (g : nat_abs m ≤ 2 ^ 61). absurd (other (omega (arith, ints, p, many, g)))) (cases_lt (2 ^ 61) (nat_abs m))

pub returns-then-count-gt0 : goal.returns-then-count-gt0
returns-then-count-gt0 c = floor_top (c.args.count *ℤ pos (2 ^ c.args.shift)) (large_units c.args.count c.args.shift (omega (arith, ints, c.if-count-gt0.true)) c.requires.many c.requires.high)

pub returns-else-shift-eq181 : goal.returns-else-shift-eq181
returns-else-shift-eq181 c =
    let m = c.args.count in
    let k : m ≤ℤ pos 0 = omega (arith, ints, c.if-count-gt0.false) in
    elim c.else-shift-eq181.branch [
      | else-shift-eq181-via-then-shift-eq181+else-count w ↦ below_all_numbers (m *ℤ pos (2 ^ c.args.shift)) (low_units m c.args.shift k c.requires.many c.requires.high (λ _. not_lowest m k c.requires.many (λ e. w.if-count.false (ap (of_z w64) e))))
      | else-shift-eq181-via-else-shift-eq181 w ↦ below_all_numbers (m *ℤ pos (2 ^ c.args.shift)) (low_units m c.args.shift k c.requires.many c.requires.high (λ e. absurd (w.if-shift-eq181.false e)))
    ]
