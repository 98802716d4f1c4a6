use Rattle.std.proofs.Common.{◌≡◌, ◌∙◌, length, map, true≢false, ap, sym}
use Rattle.std.proofs.lemmas.Bool.{eq-eqb}
use Rattle.ival.specs.Views.{interval_of}
use Rattle.script_roots.specs.Fresh.{asserted}
use Rattle.script_roots.specs.Rewritten.{rewritten_by, script_table}
use Rattle.script_roots.specs.TreeBounds.{declared_ranges}
use Rattle.smt_script.specs.Views.{commands_in}
use Rattle.root_rewriting.specs.Nodes.{trees_in}
use Rattle.root_rewriting.proofs.Arena.{nodes_length}
use Rattle.root_rewriting.specs.Enclosures.{AreEnclosures}
use Rattle.root_rewriting.specs.Table.{entry_of}
use Rattle.root_rewriting.proofs.Made.{enclosed_length, rewritten_is, some_entries}
use Rattle.root_rewriting.proofs.rewrite.with_constants.Goals as goal

pub table-requires-clause-all : goal.table-requires-clause-all
table-requires-clause-all c =
    let ns = c.args.asserted.now.trees in
    let R = declared_ranges c.args.bound (commands_in c.args.script.now) in
    let e : AreEnclosures R (trees_in ns) c.as_slice-ranges.result.now = ap (map interval_of) c.as_slice-ranges.ensures.value ∙ c.in_ok-enclosures.ensures in
    enclosed_length R (trees_in ns) c.as_slice-ranges.result.now e ∙ nodes_length ns

pub rewritten-requires-clause-ranges : goal.rewritten-requires-clause-ranges
rewritten-requires-clause-ranges c =
    let ns = c.args.asserted.now.trees in
    let R = declared_ranges c.args.bound (commands_in c.args.script.now) in
    let e : AreEnclosures R (trees_in ns) c.as_slice-ranges.result.now = ap (map interval_of) c.as_slice-ranges.ensures.value ∙ c.in_ok-enclosures.ensures in
    enclosed_length R (trees_in ns) c.as_slice-ranges.result.now e ∙ nodes_length ns

pub returns-clause-answers : goal.returns-clause-answers
returns-clause-answers c =
    let script = commands_in c.args.script.now in
    let bound = c.args.bound in
    let ts = trees_in c.args.asserted.now.trees in
    let R = declared_ranges bound script in
    let fs = c.as_slice-table.result.now in
    let e : AreEnclosures R ts c.as_slice-ranges.result.now = ap (map interval_of) c.as_slice-ranges.ensures.value ∙ c.in_ok-enclosures.ensures in
    let same : map (entry_of ts) fs ≡ script_table bound script = ap (map (entry_of ts)) c.as_slice-table.ensures.value ∙ c.in_ok-constants.ensures.table R (asserted script) e c.requires in
    let some = some_entries ts fs (script_table bound script) (λ none. true≢false (sym (eq-eqb (length fs) 0 none) ∙ sym c.is_empty.ensures ∙ c.if-is_empty.false)) same in
    (c.in_ok-rewriting.ensures.writes R e ∙ ap (λ t. rewritten_by R t script) same ∙ sym (rewritten_is bound script some), some)
