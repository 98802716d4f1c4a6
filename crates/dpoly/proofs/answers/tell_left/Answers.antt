use Rattle.dpoly.proofs.SearchAnswers.{cover_is}
use Rattle.dpoly.proofs.answers.tell_left.Goals as goal

pub returns : goal.returns
returns c =
    let is = cover_is c.args.book.now c.book_is_sound.ensures c.args.options.now c.requires.left c.requires.no_point c.in_ok-cert.cert.items (c.in_ok-cert.ensures c.requires.alone c.requires.root) in record {
      left = is.left;
      answer = is.answer;
      text = is.says c.in_ok-text.text.items c.in_ok-text.ensures;
    }
