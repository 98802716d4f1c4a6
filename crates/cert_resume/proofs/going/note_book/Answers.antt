use Rattle.std.proofs.Common.{refl, ap, arith}
use Rattle.cover_data.specs.declared.margins.Options.{Options}
use Rattle.cert_resume.proofs.Matches.{none_of}
use Rattle.cert_resume.proofs.going.note_book.Goals as goal

pub note_own-requires-clause-no_point : goal.note_own-requires-clause-no_point
note_own-requires-clause-no_point c = none_of _ _ _ c.in_default.is c.point.ensures

pub returns : goal.returns
returns c =
    let f = c.in_ok-append_tree_of.ensures c.requires.not_crossed in
    record {
      is_book = c.branches-branches.ensures.book;
      no_point = none_of _ _ _ c.in_default.is c.point.ensures;
      tree = f.0;
      left = f.1;
      is_tree = f.2;
      main = f.3;
      learned = c.in_ok-append_lemmas_of.ensures;
      version = ap (λ (o : Options). o.version) c.options.ensures.options;
      budget = omega (arith, c.branches-branches.ensures.branches, c.requires.budget);
      own = c.in_ok-note_own.ensures f.0 f.1 f.2;
      others = refl;
    }
