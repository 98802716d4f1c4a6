use Rattle.std.proofs.Common.{List, ℕ, subst}
use Rattle.script_model.specs.Sexp.{leaf, symbol}
use Rattle.smt_sexp.specs.Views.{place_of}
use Rattle.smt_sexp.specs.Writing.{Writes}
use Rattle.root_rewriting.proofs.Written.{constant_some, constant_written, on_both}
use Rattle.root_rewriting.proofs.spelling.constant.Goals as goal

pub close-requires-clause-some : goal.close-requires-clause-some
close-requires-clause-some c =
    let at = place_of c.args.place in
    constant_some c.args.writer.now c.head.new.writer c.symbol.new.writer c.numeral.new.writer at c.as_slice.result.now c.in_ok-head.ensures c.in_ok-symbol.ensures c.in_ok-numeral.ensures c.requires.writing

pub returns : goal.returns
returns c =
    let at = place_of c.args.place in
    let named = subst (λ (name : List ℕ). Writes c.head.new.writer c.symbol.new.writer (leaf at (symbol name))) c.as_slice.ensures c.in_ok-symbol.ensures in
    on_both c.close.result
    (λ shuts count. constant_written c.args.writer.now c.head.new.writer c.symbol.new.writer c.numeral.new.writer at c.args.name.now c.in_ok-head.ensures named c.in_ok-numeral.ensures c.close.new.self shuts count)
    c.close.ensures.written c.close.ensures.count
