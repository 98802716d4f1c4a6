use Rattle.std.proofs.Common.{◌-◌, get_or, refl, arith}
use Rattle.std.proofs.lemmas.List.{length-set}
use Rattle.root_rewriting.specs.declared.constants.Kind.TheVariants.{Root}
use Rattle.root_rewriting.specs.declared.constants.Fresh.{Fresh}
use Rattle.root_rewriting.proofs.Numbered.{numbered, numbers_more}
use Rattle.root_rewriting.proofs.spelling.numbers.Goals as goal

abbrev none : Fresh
none = record { tree = 0; kind = Root; number = 0 }

pub loop-left-preserved : goal.loop-left-preserved
loop-left-preserved c =
    let classes = c.args.classes.now in
    let table = c.args.table.now in
    let m = c.loop-left.left - 1 in
    let some = c.loop-left-test.true in
    let h = c.loop-left.invariant in
    let lt = numbered classes table c.loop-left.numbers.items _ c.loop-left.left m (get_or table m none) none (omega arith) refl c.requires.table refl h c.requires.classes.0 c.requires.classes.1 in
    numbers_more classes table c.loop-left.numbers.items _ c.loop-left.left m (get_or table m none) none (omega arith) refl c.requires.table refl h lt (length-set c.loop-left.numbers.items _ _)
