use Rattle.std.proofs.Common.{List, [], ◌∷◌, codes}
use Rattle.script_model.specs.Sexp.{Sexp}
use Rattle.smt_sexp.specs.Views.{place_of}
use Rattle.root_rewriting.specs.Opened.{symbol_at}
use Rattle.root_rewriting.proofs.Opened.{closed, headed, more_in, on_ok_both, opened}
use Rattle.root_rewriting.proofs.expressions.write_square.Goals as goal

pub close-requires-clause-some : goal.close-requires-clause-some
close-requires-clause-some c =
    let at = place_of c.args.at in
    let one : List Sexp = symbol_at at (codes "*") ∷ [] in
    let name : Sexp = symbol_at at c.args.name.now in
    opened c.args.writer.now c.symbol-2.new.writer at (name ∷ name ∷ one) 8 c.requires
    (more_in c.args.writer.now c.symbol.new.writer c.symbol-2.new.writer at (name ∷ one) name (more_in c.args.writer.now c.head.new.writer c.symbol.new.writer at one name (headed _ _ _ _ c.in_ok-head.ensures) c.in_ok-symbol.ensures) c.in_ok-symbol-2.ensures)

pub returns : goal.returns
returns c =
    let at = place_of c.args.at in
    let one : List Sexp = symbol_at at (codes "*") ∷ [] in
    let name : Sexp = symbol_at at c.args.name.now in
    on_ok_both c.close.result c.close.ensures.written c.close.ensures.count
    (closed c.args.writer.now c.symbol-2.new.writer c.close.new.self at (name ∷ name ∷ one)
    (more_in c.args.writer.now c.symbol.new.writer c.symbol-2.new.writer at (name ∷ one) name (more_in c.args.writer.now c.head.new.writer c.symbol.new.writer at one name (headed _ _ _ _ c.in_ok-head.ensures) c.in_ok-symbol.ensures) c.in_ok-symbol-2.ensures))
