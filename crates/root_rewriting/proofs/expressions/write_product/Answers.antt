use Rattle.std.proofs.Common.{ℕ, List, [], ◌∷◌, codes, subst}
use Rattle.script_model.specs.Sexp.{Sexp}
use Rattle.script_roots.specs.Rewritten.{spelled}
use Rattle.smt_sexp.specs.Views.{place_of}
use Rattle.smt_sexp.specs.Writing.{Writes}
use Rattle.root_rewriting.specs.Nodes.{tree_at, trees_in}
use Rattle.root_rewriting.specs.Drafts.{constant_at}
use Rattle.root_rewriting.specs.Opened.{symbol_at}
use Rattle.root_rewriting.proofs.Opened.{closed, headed, more_in, opened, opened_writing}
use Rattle.root_rewriting.proofs.expressions.write_product.Goals as goal

pub spell-requires-clause-writing : goal.spell-requires-clause-writing
spell-requires-clause-writing c =
    let at = place_of c.args.at in
    let one : List Sexp = symbol_at at (codes "*") ∷ [] in
    let name : Sexp = symbol_at at c.constant_name.result.now in
    opened_writing c.args.writer.now c.symbol.new.writer at (name ∷ one) 8 c.requires.can (more_in c.args.writer.now c.head.new.writer c.symbol.new.writer at one name (headed _ _ _ _ c.in_ok-head.ensures) c.in_ok-symbol.ensures)

pub close-requires-clause-some : goal.close-requires-clause-some
close-requires-clause-some c =
    let at = place_of c.args.at in
    let one : List Sexp = symbol_at at (codes "*") ∷ [] in
    let name : Sexp = symbol_at at c.constant_name.result.now in
    let table = c.requires.named.0 in
    let tree : Sexp = spelled table (tree_at (trees_in c.args.spelling.now.trees.now) c.args.tree) in
    opened c.args.writer.now c.spell.new.writer at (tree ∷ name ∷ one) 8 c.requires.can
    (more_in c.args.writer.now c.symbol.new.writer c.spell.new.writer at (name ∷ one) tree
    (more_in c.args.writer.now c.head.new.writer c.symbol.new.writer at one name (headed _ _ _ _ c.in_ok-head.ensures) c.in_ok-symbol.ensures) (c.in_ok-spell.ensures.written table c.requires.named.1))

pub returns-clause-written : goal.returns-clause-written
returns-clause-written c = λ table named.
    let at = place_of c.args.at in
    let one : List Sexp = symbol_at at (codes "*") ∷ [] in
    let name : Sexp = constant_at c.args.spelling.now.names.now at c.args.constant in
    let tree : Sexp = spelled table (tree_at (trees_in c.args.spelling.now.trees.now) c.args.tree) in
    let called = subst (λ (x : List ℕ). Writes c.head.new.writer c.symbol.new.writer (symbol_at at x)) c.constant_name.ensures c.in_ok-symbol.ensures in
    closed c.args.writer.now c.spell.new.writer c.close.new.self at (tree ∷ name ∷ one)
    (more_in c.args.writer.now c.symbol.new.writer c.spell.new.writer at (name ∷ one) tree
    (more_in c.args.writer.now c.head.new.writer c.symbol.new.writer at one name (headed _ _ _ _ c.in_ok-head.ensures) called) (c.in_ok-spell.ensures.written table named)) c.in_ok-close.ensures.written c.in_ok-close.ensures.count
