use Rattle.smt_sexp.specs.Views.{place_of}
use Rattle.root_rewriting.proofs.Written.{nothing_written, on_both}
use Rattle.root_rewriting.proofs.spelling.nothing.Goals as goal

pub returns : goal.returns
returns c = on_both c.close.result (λ shuts count. nothing_written c.args.writer.now c.open.new.self c.close.new.self (place_of c.args.place) c.in_ok-open.ensures.written c.in_ok-open.ensures.count shuts count) c.close.ensures.written c.close.ensures.count
