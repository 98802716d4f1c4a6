use Rattle.std.proofs.Common.{sym, subst}
use Rattle.smt_sexp.specs.Views.{place_of}
use Rattle.sort_check.specs.Views.{IsSortAnswer, around}
use Rattle.sort_check.proofs.Calls.{alone_is, unknown_alone}
use Rattle.sort_check.proofs.expressions.alone.Goals as goal

pub returns : goal.returns
returns c = λ names knows.
    subst (IsSortAnswer c.bare.result) (sym (alone_is (around c.args.locals.now names) (place_of c.args.place) c.args.name.now c.in-Some.head (c.in-Some.ensures names knows))) c.bare.ensures

pub returns-in_default : goal.returns-in_default
returns-in_default c = λ names knows.
    subst (IsSortAnswer c.unknown.result) (sym (unknown_alone (around c.args.locals.now names) (place_of c.args.place) c.args.name.now (c.in_default.ensures names knows))) c.unknown.ensures
