use Rattle.cover_data.specs.Margins.{options_in}
use Rattle.dpoly.specs.Search.{search_options}
use Rattle.dpoly.proofs.SessionAnswers.{session_answers}
use Rattle.dpoly.proofs.answers.tell_all.Goals as goal

pub returns : goal.returns
returns c first second later are =
    let u = options_in are.0 (search_options c.args.options.now) in
    session_answers c.args.options.now are.0 are.1 first second later c.args.books.now _ are.2 c.requires (c.in_ok-cert.ensures u first second later are.2) c.in_ok-text.ensures
