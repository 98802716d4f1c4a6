use Rattle.std.proofs.Common.{ap, sym, ◌∙◌, arith}
use Rattle.script_model.specs.Sexp.{more, leaf}
use Rattle.smt_sexp.specs.Arena.{rest_of}
use Rattle.smt_sexp.specs.Views.{place_of, leaf_of}
use Rattle.smt_sexp.specs.declared.leaf.Leaf.TheVariants as leaves
use Rattle.sort_check.specs.Views.{around}
use Rattle.sort_check.proofs.Bindings as bindings
use Rattle.sort_check.proofs.Falling as falling
use Rattle.sort_check.proofs.Waiting as waiting
use Rattle.sort_check.proofs.expressions.group.Goals as goal

pub returns-in-Leaf-default-Symbol-default-clause-falls : goal.returns-in-Leaf-default-Symbol-default-clause-falls
returns-in-Leaf-default-Symbol-default-clause-falls c =
    let s = c.args.sexps.now in
    let p = c.in-Leaf-default-Symbol-default in
    let later = falling.room_later s c.args.inside p.args p.ensures.1 p.ensures.2 in
    falling.falls_within s _ _ c.applied.result (omega (arith, later)) c.applied.ensures.falls

pub returns-in-Leaf-default-Reserved-Let-default-clause-walks : goal.returns-in-Leaf-default-Reserved-Let-default-clause-walks
returns-in-Leaf-default-Reserved-Let-default-clause-walks c = λ names knows.
    let s = c.args.sexps.now in
    let p = c.in-Leaf-default-Reserved-Let-default in
    let rest = rest_of s p.at in
    waiting.turns_same s names _ _ c.let_sort.result
    (bindings.group_let_at (around c.args.locals.value names) (place_of c.args.place) (place_of p.field-0) (rest_of s c.args.inside) rest
    (p.ensures.0 ∙ ap (λ l. more (leaf (place_of p.field-0) (leaf_of l)) rest) (p.field-1-is ∙ ap leaves.Reserved p.field-1-0-is)))
    (c.let_sort.ensures.walks names)

pub returns-in-Leaf-default-Reserved-Let-default-clause-falls : goal.returns-in-Leaf-default-Reserved-Let-default-clause-falls
returns-in-Leaf-default-Reserved-Let-default-clause-falls c =
    let s = c.args.sexps.now in
    let p = c.in-Leaf-default-Reserved-Let-default in
    let later = falling.room_later s c.args.inside p.at p.ensures.1 p.ensures.2 in
    falling.falls_within s _ _ c.let_sort.result (omega (arith, later)) c.let_sort.ensures.falls

pub returns-in-Leaf-default-Reserved-Bang-default-clause-walks : goal.returns-in-Leaf-default-Reserved-Bang-default-clause-walks
returns-in-Leaf-default-Reserved-Bang-default-clause-walks c = λ names knows.
    let s = c.args.sexps.now in
    let p = c.in-Leaf-default-Reserved-Bang-default in
    let rest = rest_of s p.at in
    bindings.group_bang_at (around c.args.locals.value names) (place_of c.args.place) (place_of p.field-0) (rest_of s c.args.inside) rest
    (p.ensures.0 ∙ ap (λ l. more (leaf (place_of p.field-0) (leaf_of l)) rest) (p.field-1-is ∙ ap leaves.Reserved p.field-1-0-is)) (sym c.ends.ensures ∙ c.if-ends.false)

pub returns-in-Leaf-default-Reserved-Bang-default-clause-falls : goal.returns-in-Leaf-default-Reserved-Bang-default-clause-falls
returns-in-Leaf-default-Reserved-Bang-default-clause-falls c =
    let s = c.args.sexps.now in
    let p = c.in-Leaf-default-Reserved-Bang-default in
    let later = falling.room_later s c.args.inside p.at p.ensures.1 p.ensures.2 in
    let some = falling.room_some s p.at in
    omega (arith, later, some)
