use Rattle.std.proofs.Common.{map, ap, ◌∙◌, Option}
use Rattle.cover_line.specs.Views.{axes_of}
use Rattle.ival.specs.declared.ends.Ival.{Ival}
use Rattle.ival.specs.Views.{interval_of}
use Rattle.squares.specs.Views.{term_of, total}
use Rattle.squares.proofs.Giving.{given_inserted}
use Rattle.squares.proofs.polynomial.Polynomial.give.Goals as goal

pub returns : goal.returns
returns c = ap (map term_of) c.in_ok-insert.ensures.entries
    ∙ given_inserted axes_of interval_of c.args.self.now.terms.entries c.in_ok-insert.ensures.was_ordered c.args.monomial c.total.result (interval_of c.args.more)
    (c.total.ensures ∙ ap (λ (o : Option Ival). total interval_of o (interval_of c.args.more)) (c.copied-own.ensures ∙ c.get.ensures.value))
