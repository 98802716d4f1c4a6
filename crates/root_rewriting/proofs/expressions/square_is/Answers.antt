use Rattle.std.proofs.Common.{ℕ, List, [], ◌∷◌, codes, subst}
use Rattle.script_model.specs.Sexp.{Sexp}
use Rattle.script_roots.specs.Rewritten.{spelled, two_of}
use Rattle.smt_sexp.specs.Views.{place_of}
use Rattle.smt_sexp.specs.Writing.{Writes}
use Rattle.root_rewriting.specs.Nodes.{tree_at, trees_in}
use Rattle.root_rewriting.specs.Drafts.{constant_at}
use Rattle.root_rewriting.specs.Opened.{symbol_at}
use Rattle.root_rewriting.proofs.Opened.{closed, headed, more_in, opened, opened_writing}
use Rattle.root_rewriting.proofs.expressions.square_is.Goals as goal

pub spell-requires-clause-writing : goal.spell-requires-clause-writing
spell-requires-clause-writing c =
    let at = place_of c.args.at in
    let one : List Sexp = symbol_at at (codes "=") ∷ [] in
    let name : Sexp = symbol_at at c.constant_name.result.now in
    let square : Sexp = two_of at (codes "*") name name in
    opened_writing c.args.writer.now c.write_square.new.writer at (square ∷ one) 0 c.requires.can (more_in c.args.writer.now c.head.new.writer c.write_square.new.writer at one square (headed _ _ _ _ c.in_ok-head.ensures) c.in_ok-write_square.ensures)

pub close-requires-clause-some : goal.close-requires-clause-some
close-requires-clause-some c =
    let at = place_of c.args.at in
    let one : List Sexp = symbol_at at (codes "=") ∷ [] in
    let name : Sexp = symbol_at at c.constant_name.result.now in
    let square : Sexp = two_of at (codes "*") name name in
    let table = c.requires.named.0 in
    let tree : Sexp = spelled table (tree_at (trees_in c.args.spelling.now.trees.now) c.args.tree) in
    opened c.args.writer.now c.spell.new.writer at (tree ∷ square ∷ one) 0 c.requires.can
    (more_in c.args.writer.now c.write_square.new.writer c.spell.new.writer at (square ∷ one) tree
    (more_in c.args.writer.now c.head.new.writer c.write_square.new.writer at one square (headed _ _ _ _ c.in_ok-head.ensures) c.in_ok-write_square.ensures) (c.in_ok-spell.ensures.written table c.requires.named.1))

pub returns-clause-written : goal.returns-clause-written
returns-clause-written c = λ table named.
    let at = place_of c.args.at in
    let one : List Sexp = symbol_at at (codes "=") ∷ [] in
    let name : Sexp = constant_at c.args.spelling.now.names.now at c.args.constant in
    let square : Sexp = two_of at (codes "*") name name in
    let tree : Sexp = spelled table (tree_at (trees_in c.args.spelling.now.trees.now) c.args.tree) in
    let squared = subst (λ (x : List ℕ). Writes c.head.new.writer c.write_square.new.writer (two_of at (codes "*") (symbol_at at x) (symbol_at at x))) c.constant_name.ensures c.in_ok-write_square.ensures in
    closed c.args.writer.now c.spell.new.writer c.close.new.self at (tree ∷ square ∷ one)
    (more_in c.args.writer.now c.write_square.new.writer c.spell.new.writer at (square ∷ one) tree
    (more_in c.args.writer.now c.head.new.writer c.write_square.new.writer at one square (headed _ _ _ _ c.in_ok-head.ensures) squared) (c.in_ok-spell.ensures.written table named)) c.in_ok-close.ensures.written c.in_ok-close.ensures.count
