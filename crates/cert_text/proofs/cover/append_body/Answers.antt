use Rattle.std.proofs.Common.{List, map, subst}
use Rattle.std.proofs.lemmas.Result.{on_ok_weaker}
use Rattle.cover_book.specs.Model.{NodeModel}
use Rattle.cover_book.specs.Views.{node_of}
use Rattle.cert_text.specs.Parts.{HasAppendedCover}
use Rattle.cert_text.proofs.GroupWords.{nodes_short}
use Rattle.cert_text.proofs.Wholes.{crossing_counts, body_appended}
use Rattle.cert_text.proofs.cover.append_body.Goals as goal

pub append_cover-requires-clause-short : goal.append_cover-requires-clause-short
append_cover-requires-clause-short c = nodes_short c.args.book.now c.nodes.ensures.book (map node_of c.nodes.result.now) c.nodes.ensures.nodes

pub append_cover-requires-clause-crossing : goal.append_cover-requires-clause-crossing
append_cover-requires-clause-crossing c = crossing_counts c.args.book.now c.nodes.ensures.book (map node_of c.nodes.result.now) c.nodes.ensures.nodes

pub returns : goal.returns
returns c = on_ok_weaker c.append_plain-2.result
    (λ e. body_appended c.args.book.now c.nodes.ensures.book c.args.text.now.items c.append_lemmas_of.new.text.items c.append_plain.new.text.items c.append_cover.new.text.items
    c.append_plain-2.new.text.items c.in_ok-append_lemmas_of.ensures c.in_ok-append_plain.ensures
    (subst (λ (xs : List NodeModel). HasAppendedCover c.append_plain.new.text.items xs c.append_cover.new.text.items) c.nodes.ensures.nodes c.in_ok-append_cover.ensures) e)
    c.append_plain-2.ensures
