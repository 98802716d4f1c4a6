use Rattle.std.proofs.Common.{List, map, subst}
use Rattle.std.proofs.lemmas.Result.{on_ok_weaker}
use Rattle.cover_book.specs.Model.{NodeModel}
use Rattle.cover_book.specs.Views.{node_of}
use Rattle.cert_text.specs.Parts.{HasAppendedTree}
use Rattle.cert_text.proofs.GroupWords.{nodes_short}
use Rattle.cert_text.proofs.Wholes.{tree_of_appended}
use Rattle.cert_text.proofs.part.append_tree_of.Goals as goal

pub append_tree-requires : goal.append_tree-requires
append_tree-requires c = nodes_short c.args.book.now c.nodes.ensures.book (map node_of c.nodes.result.now) c.nodes.ensures.nodes

pub returns : goal.returns
returns c = λ e. on_ok_weaker c.append_tree.result
    (λ a. tree_of_appended c.args.book.now c.nodes.ensures.book c.args.text.now.items c.append_tree.new.text.items
    (subst (λ (xs : List NodeModel). HasAppendedTree c.args.text.now.items xs c.append_tree.new.text.items) c.nodes.ensures.nodes a) e)
    c.append_tree.ensures
