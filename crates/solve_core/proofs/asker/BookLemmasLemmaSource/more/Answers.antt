use Rattle.solve_core.proofs.Asked.{given_lemmas, appends_given, appends_nothing}
use Rattle.solve_core.proofs.asker.BookLemmasLemmaSource.more.Goals as goal

pub returns-in_err-append-clause-appended : goal.returns-in_err-append-clause-appended
returns-in_err-append-clause-appended g c = appends_nothing g.J.Subject.problem g.J.Subject.margins c.args.list.now.items c.append.new.self.items c.in_err-append.ensures.items

pub returns-clause-appended : goal.returns-clause-appended
returns-clause-appended g c =
    let p = g.J.Subject.problem in
    let m = g.J.Subject.margins in
    let a = c.args.self.now in
    appends_given p m c.args.list.now.items c.in_ok-lemmas.lemmas.items c.append.new.self.items
    (given_lemmas p m a.shared.now a.seat c.lemmas_from.new.seat a.from c.in_ok-lemmas.lemmas c.requires c.in_ok-lemmas.ensures.ok) c.in_ok-append.ensures.items
