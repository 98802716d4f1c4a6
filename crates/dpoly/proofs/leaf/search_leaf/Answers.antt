use Rattle.std.proofs.Common.{ap, ◌∙◌, subst}
use Rattle.std.specs.Prelude.{Vec}
use Rattle.std.specs.Global.{Global}
use Rattle.cover_data.specs.declared.stored.StoredState.{StoredState}
use Rattle.cover_book.specs.Keeps.{IsBook}
use Rattle.cert_resume.proofs.Searched.{searched, shown}
use Rattle.cert_resume.proofs.Matches.{match_weaker}
use Rattle.dpoly.proofs.leaf.search_leaf.Goals as goal

pub returns : goal.returns
returns g c =
    let q = c.args.task.now.problem.now in let o = c.args.task.now.options in let S = c.args.state.now in let b = c.in_ok-book.book in let b' = c.in_ok-book-2.book in
    match_weaker c.in_ok-point.point
    (λ n. searched q o S c.args.going.now c.note_book.new.going c.opened.new.lemmas c.replace.new.dest b b' c.requires.may c.in_ok-book.ensures c.in_ok-book-2.ensures n (ap (λ (v : Vec StoredState Global). v.items) c.replace.ensures.after ∙ c.in_ok-into_lemmas.ensures.states))
    (λ x e. shown q o S c.args.going.now.lemmas.items c.args.going.now.budget c.args.going.now c.note_book.new.going b b' c.in_ok-book.ensures c.in_ok-book-2.ensures (subst IsBook c.book.view_is c.book.invariant) x e)
    c.in_ok-point.ensures
