use Rattle.std.proofs.Common.{ℕ, List, [], ◌∷◌, codes, subst}
use Rattle.script_model.specs.Sexp.{Sexp}
use Rattle.script_roots.specs.Rewritten.{number_at}
use Rattle.smt_sexp.specs.Views.{place_of}
use Rattle.smt_sexp.specs.Writing.{Writes}
use Rattle.root_rewriting.specs.Opened.{symbol_at}
use Rattle.root_rewriting.specs.Whole.{number_of}
use Rattle.root_rewriting.proofs.Opened.{closed, headed, more_in, on_ok_both, opened}
use Rattle.root_rewriting.proofs.claims.write_negative.Goals as goal

pub close-requires-clause-some : goal.close-requires-clause-some
close-requires-clause-some c =
    let at = place_of c.args.at in
    let one : List Sexp = symbol_at at (codes "-") ∷ [] in
    let size : Sexp = number_at at (number_of c.whole.result) in
    opened c.args.writer.now c.write_number.new.writer at (size ∷ one) 8 c.requires (more_in c.args.writer.now c.head.new.writer c.write_number.new.writer at one size (headed _ _ _ _ c.in_ok-head.ensures) c.in_ok-write_number.ensures)

pub returns : goal.returns
returns c =
    let at = place_of c.args.at in
    let one : List Sexp = symbol_at at (codes "-") ∷ [] in
    let size : Sexp = number_at at c.args.size in
    let last = subst (λ (n : ℕ). Writes c.head.new.writer c.write_number.new.writer (number_at at n)) c.whole.ensures c.in_ok-write_number.ensures in
    on_ok_both c.close.result c.close.ensures.written c.close.ensures.count
    (closed c.args.writer.now c.write_number.new.writer c.close.new.self at (size ∷ one) (more_in c.args.writer.now c.head.new.writer c.write_number.new.writer at one size (headed _ _ _ _ c.in_ok-head.ensures) last))
