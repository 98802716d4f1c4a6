use Rattle.std.proofs.Common.{◌≡◌, ◌≤◌, ◌+◌, List, [], ◌∷◌, codes, length, length-append, arith}
use Rattle.std.proofs.lemmas.Result.{err_from_is_err_and}
use Rattle.script_model.specs.Sexp.{Sexp}
use Rattle.script_roots.specs.Refused.{tokens_of}
use Rattle.script_roots.specs.Rewritten.{spelled, two_of}
use Rattle.smt_sexp.specs.Building.{flat, flat_back}
use Rattle.smt_sexp.specs.Views.{place_of}
use Rattle.root_rewriting.specs.Nodes.{tree_at, trees_in}
use Rattle.root_rewriting.specs.Drafts.{constant_at}
use Rattle.root_rewriting.specs.Opened.{symbol_at}
use Rattle.root_rewriting.proofs.Opened.{closed, headed, more_in, opened, opened_writing, stops_inside}
use Rattle.root_rewriting.proofs.Spelled.{flat_tokens}
use Rattle.root_rewriting.proofs.expressions.product_is.Goals as goal

pub spell-requires-clause-writing : goal.spell-requires-clause-writing
spell-requires-clause-writing c =
    let at = place_of c.args.at in
    let one : List Sexp = symbol_at at (codes "=") ∷ [] in
    let ts = trees_in c.args.spelling.now.trees.now in
    let table = c.requires.named.0 in
    let product : Sexp = two_of at (codes "*") (constant_at c.args.spelling.now.names.now at c.args.constant) (spelled table (tree_at ts c.args.trees.0)) in
    opened_writing c.args.writer.now c.write_product.new.writer at (product ∷ one) 0 c.requires.can
    (more_in c.args.writer.now c.head.new.writer c.write_product.new.writer at one product (headed _ _ _ _ c.in_ok-head.ensures) (c.in_ok-write_product.ensures.written table c.requires.named.1))

pub returns-in_err-spell-clause-stops : goal.returns-in_err-spell-clause-stops
returns-in_err-spell-clause-stops c = λ table named.
    let at = place_of c.args.at in
    let one : List Sexp = symbol_at at (codes "=") ∷ [] in
    let ts = trees_in c.args.spelling.now.trees.now in
    let product : Sexp = two_of at (codes "*") (constant_at c.args.spelling.now.names.now at c.args.constant) (spelled table (tree_at ts c.args.trees.0)) in
    let tree : Sexp = spelled table (tree_at ts c.args.trees.1) in
    let opens = more_in c.args.writer.now c.head.new.writer c.write_product.new.writer at one product (headed _ _ _ _ c.in_ok-head.ensures) (c.in_ok-write_product.ensures.written table named) in
    let p = err_from_is_err_and c.from_residual-in_err-spell.result c.from_residual-in_err-spell.ensures.1 in
    rw (p.1, p.2) (stops_inside _ c.args.writer.now c.write_product.new.writer at (product ∷ one) tree (tokens_of (two_of at (codes "=") product tree)) opens (c.in_err-spell.ensures.stops table named)
    (omega (arith, length-append (flat_back one) (flat product), flat_tokens product)))

pub close-requires-clause-some : goal.close-requires-clause-some
close-requires-clause-some c =
    let at = place_of c.args.at in
    let one : List Sexp = symbol_at at (codes "=") ∷ [] in
    let ts = trees_in c.args.spelling.now.trees.now in
    let table = c.requires.named.0 in
    let product : Sexp = two_of at (codes "*") (constant_at c.args.spelling.now.names.now at c.args.constant) (spelled table (tree_at ts c.args.trees.0)) in
    let tree : Sexp = spelled table (tree_at ts c.args.trees.1) in
    opened c.args.writer.now c.spell.new.writer at (tree ∷ product ∷ one) 0 c.requires.can
    (more_in c.args.writer.now c.write_product.new.writer c.spell.new.writer at (product ∷ one) tree
    (more_in c.args.writer.now c.head.new.writer c.write_product.new.writer at one product (headed _ _ _ _ c.in_ok-head.ensures) (c.in_ok-write_product.ensures.written table c.requires.named.1)) (c.in_ok-spell.ensures.written table c.requires.named.1))

pub returns-clause-written : goal.returns-clause-written
returns-clause-written c = λ table named.
    let at = place_of c.args.at in
    let one : List Sexp = symbol_at at (codes "=") ∷ [] in
    let ts = trees_in c.args.spelling.now.trees.now in
    let product : Sexp = two_of at (codes "*") (constant_at c.args.spelling.now.names.now at c.args.constant) (spelled table (tree_at ts c.args.trees.0)) in
    let tree : Sexp = spelled table (tree_at ts c.args.trees.1) in
    closed c.args.writer.now c.spell.new.writer c.close.new.self at (tree ∷ product ∷ one)
    (more_in c.args.writer.now c.write_product.new.writer c.spell.new.writer at (product ∷ one) tree
    (more_in c.args.writer.now c.head.new.writer c.write_product.new.writer at one product (headed _ _ _ _ c.in_ok-head.ensures) (c.in_ok-write_product.ensures.written table named)) (c.in_ok-spell.ensures.written table named)) c.in_ok-close.ensures.written c.in_ok-close.ensures.count
