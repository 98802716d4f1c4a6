use Rattle.std.proofs.Common.{ℕ, List, [], ◌∷◌, codes, subst}
use Rattle.script_model.specs.Sexp.{Sexp}
use Rattle.script_roots.specs.Rewritten.{number_at}
use Rattle.smt_sexp.specs.Views.{place_of}
use Rattle.smt_sexp.specs.Writing.{Writes}
use Rattle.root_rewriting.specs.Opened.{IsOpened, symbol_at}
use Rattle.root_rewriting.specs.Whole.{number_of}
use Rattle.root_rewriting.proofs.Opened.{closed, headed, more_in, on_ok_both, opened}
use Rattle.root_rewriting.proofs.claims.write_parts.Goals as goal

pub close-requires-clause-some : goal.close-requires-clause-some
close-requires-clause-some c =
    let at = place_of c.args.at in
    let one : List Sexp = symbol_at at (codes "/") ∷ [] in
    let count : Sexp = number_at at (number_of c.args.count) in
    let all : Sexp = number_at at (number_of c.whole.result) in
    opened c.args.writer.now c.write_number-2.new.writer at (all ∷ count ∷ one) 16 c.requires
    (more_in c.args.writer.now c.write_number.new.writer c.write_number-2.new.writer at (count ∷ one) all (more_in c.args.writer.now c.head.new.writer c.write_number.new.writer at one count (headed _ _ _ _ c.in_ok-head.ensures) c.in_ok-write_number.ensures) c.in_ok-write_number-2.ensures)

pub returns : goal.returns
returns c =
    let at = place_of c.args.at in
    let one : List Sexp = symbol_at at (codes "/") ∷ [] in
    let count : Sexp = number_at at (number_of c.args.count) in
    let all : Sexp = number_at at 1048576 in
    let last = subst (λ (n : ℕ). Writes c.write_number.new.writer c.write_number-2.new.writer (number_at at n)) c.whole.ensures c.in_ok-write_number-2.ensures in
    on_ok_both c.close.result c.close.ensures.written c.close.ensures.count
    (closed c.args.writer.now c.write_number-2.new.writer c.close.new.self at (all ∷ count ∷ one)
    (more_in c.args.writer.now c.write_number.new.writer c.write_number-2.new.writer at (count ∷ one) all (more_in c.args.writer.now c.head.new.writer c.write_number.new.writer at one count (headed _ _ _ _ c.in_ok-head.ensures) c.in_ok-write_number.ensures) last))
