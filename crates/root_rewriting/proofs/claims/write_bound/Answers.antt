use Rattle.std.proofs.Common.{List, [], ◌∷◌, arith}
use Rattle.script_model.specs.Sexp.{Sexp}
use Rattle.smt_sexp.specs.Views.{place_of}
use Rattle.root_rewriting.specs.Limits.{limit_at}
use Rattle.root_rewriting.specs.Opened.{symbol_at}
use Rattle.root_rewriting.proofs.Opened.{closed, headed, more_in, on_ok_both, opened, opened_room}
use Rattle.root_rewriting.proofs.claims.write_bound.Goals as goal

pub write_limit-requires : goal.write_limit-requires
write_limit-requires c =
    let at = place_of c.args.at in
    let one : List Sexp = symbol_at at c.args.relation.now ∷ [] in
    let name : Sexp = symbol_at at c.args.name.now in
    opened_room c.args.writer.now c.symbol.new.writer at (name ∷ one) 0 8 c.requires (more_in c.args.writer.now c.head.new.writer c.symbol.new.writer at one name (headed _ _ _ _ c.in_ok-head.ensures) c.in_ok-symbol.ensures) (omega arith)

pub close-requires-clause-some : goal.close-requires-clause-some
close-requires-clause-some c =
    let at = place_of c.args.at in
    let one : List Sexp = symbol_at at c.args.relation.now ∷ [] in
    let name : Sexp = symbol_at at c.args.name.now in
    let end : Sexp = limit_at at c.args.end in
    opened c.args.writer.now c.write_limit.new.writer at (end ∷ name ∷ one) 0 c.requires
    (more_in c.args.writer.now c.symbol.new.writer c.write_limit.new.writer at (name ∷ one) end (more_in c.args.writer.now c.head.new.writer c.symbol.new.writer at one name (headed _ _ _ _ c.in_ok-head.ensures) c.in_ok-symbol.ensures) c.in_ok-write_limit.ensures)

pub returns : goal.returns
returns c =
    let at = place_of c.args.at in
    let one : List Sexp = symbol_at at c.args.relation.now ∷ [] in
    let name : Sexp = symbol_at at c.args.name.now in
    let end : Sexp = limit_at at c.args.end in
    on_ok_both c.close.result c.close.ensures.written c.close.ensures.count
    (closed c.args.writer.now c.write_limit.new.writer c.close.new.self at (end ∷ name ∷ one)
    (more_in c.args.writer.now c.symbol.new.writer c.write_limit.new.writer at (name ∷ one) end (more_in c.args.writer.now c.head.new.writer c.symbol.new.writer at one name (headed _ _ _ _ c.in_ok-head.ensures) c.in_ok-symbol.ensures) c.in_ok-write_limit.ensures))
