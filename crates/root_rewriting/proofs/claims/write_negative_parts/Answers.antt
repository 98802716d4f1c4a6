use Rattle.std.proofs.Common.{◌≡◌, false, true, cond, List, [], ◌∷◌, codes, ap, sym, subst}
use Rattle.script_model.specs.Sexp.{Sexp}
use Rattle.script_roots.specs.Rewritten.{negative_parts_at, parts_at}
use Rattle.smt_sexp.specs.Views.{place_of}
use Rattle.smt_sexp.specs.Writing.{Writes}
use Rattle.root_rewriting.specs.Opened.{symbol_at}
use Rattle.root_rewriting.specs.Whole.{number_of}
use Rattle.root_rewriting.proofs.Opened.{closed, headed, more_in, on_ok_both, opened}
use Rattle.root_rewriting.proofs.claims.write_negative_parts.Goals as goal

pub close-requires-clause-some : goal.close-requires-clause-some
close-requires-clause-some c =
    let at = place_of c.args.at in
    let one : List Sexp = symbol_at at (codes "-") ∷ [] in
    let parts : Sexp = parts_at at (number_of c.args.count) in
    opened c.args.writer.now c.write_parts.new.writer at (parts ∷ one) 8 c.requires (more_in c.args.writer.now c.head.new.writer c.write_parts.new.writer at one parts (headed _ _ _ _ c.in_ok-head.ensures) c.in_ok-write_parts.ensures)

pub returns : goal.returns
returns c =
    let at = place_of c.args.at in
    let one : List Sexp = symbol_at at (codes "-") ∷ [] in
    let n = number_of c.args.count in
    let parts : Sexp = parts_at at n in
    let all = closed c.args.writer.now c.write_parts.new.writer c.close.new.self at (parts ∷ one) (more_in c.args.writer.now c.head.new.writer c.write_parts.new.writer at one parts (headed _ _ _ _ c.in_ok-head.ensures) c.in_ok-write_parts.ensures) in
    on_ok_both c.close.result c.close.ensures.written c.close.ensures.count all
