use Rattle.std.proofs.Common.{ap, arith}
use Rattle.value_build.specs.declared.gather.Group.{Group}
use Rattle.value_build.proofs.Groups.{set_raised, times_fit}
use Rattle.value_build.proofs.gather.raise.Goals as goal

pub overflow_add-index_mut : goal.overflow_add-index_mut
overflow_add-index_mut c = record {
  fits = omega (arith, c.requires.room, times_fit c.args.groups.now.items c.args.place c.index_mut.result.now c.requires.place, ap (λ (g : Group). g.times) c.index_mut.ensures.value);
}

pub returns : goal.returns
returns c = set_raised c.args.groups.now.items c.args.place _ _ c.requires.place (ap (λ (g : Group). g.factor) c.index_mut.ensures.value)
    (omega (arith, ap (λ (g : Group). g.times) c.index_mut.ensures.value))
