use Rattle.std.proofs.Common.{ℕ, ◌^◌, ◌<◌, arith, sym, subst, lit<}
use Rattle.ival.proofs.Wides.{high_units, high_fits, high_mod}
use Rattle.ival.proofs.wide.raised.Goals as goal

pub invariant_of-result : goal.invariant_of-result
invariant_of-result c =
    let k = c.args.size.spelled.in_range in record {
      few = lit< tt;
      small = subst (λ (n : ℕ). n < 2 ^ 124) (sym (high_mod c.from.result c.args.size.odd c.args.size.shift c.from.ensures c.requires k)) (high_fits c.args.size.odd c.args.size.shift c.requires k);
    }

pub returns : goal.returns
returns c =
    let k = c.args.size.spelled.in_range in
    omega (arith, high_mod c.from.result c.args.size.odd c.args.size.shift c.from.ensures c.requires k, high_units c.args.size.odd c.args.size.shift c.requires)
