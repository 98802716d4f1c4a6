use Rattle.std.proofs.lemmas.Result.{on_ok_weaker}
use Rattle.smt_sexp.specs.Views.{place_of}
use Rattle.root_rewriting.proofs.Written.{heads_written}
use Rattle.root_rewriting.proofs.spelling.head.Goals as goal

pub returns : goal.returns
returns c = on_ok_weaker c.symbol.result (λ writes. heads_written c.args.writer.now c.open.new.self c.symbol.new.writer (place_of c.args.place) c.args.name.now c.in_ok-open.ensures.written c.in_ok-open.ensures.count writes) c.symbol.ensures
