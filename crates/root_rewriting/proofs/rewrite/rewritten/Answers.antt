use Rattle.std.proofs.Common.{◌≡◌, ◌∙◌, List, map, ap}
use Rattle.std.proofs.lemmas.Result.{err_from_is_err_and}
use Rattle.script_roots.specs.Fresh.{Table, asserted}
use Rattle.script_roots.specs.Reached.{first_beyond}
use Rattle.script_roots.specs.Refused.{most_tokens}
use Rattle.smt_script.specs.Views.{commands_in}
use Rattle.root_rewriting.specs.Nodes.{trees_in}
use Rattle.root_rewriting.specs.Placing.{placed_command}
use Rattle.root_rewriting.specs.Rewriting.{declared_command, introduced_command}
use Rattle.root_rewriting.specs.Table.{entry_of}
use Rattle.root_rewriting.proofs.Made.{claims_in, kept_all, made_of, rewritten_tokens, too_large_same}
use Rattle.root_rewriting.proofs.rewrite.rewritten.Goals as goal

pub returns-in_err-writer-clause-refuses : goal.returns-in_err-writer-clause-refuses
returns-in_err-writer-clause-refuses c = λ ranged e.
    let script = commands_in c.args.script.now in
    let T : Table = map (entry_of (trees_in c.args.asserted.now.trees)) c.args.table.now in
    let p = err_from_is_err_and c.from_residual.result c.from_residual.ensures.1 in
    rw (p.1, p.2) (too_large_same _ _ _ (ap (first_beyond most_tokens 0) (rewritten_tokens ranged T script)) (c.in_err-writer.ensures.refuses ranged (asserted script) e c.requires.assertions))

pub returns-clause-writes : goal.returns-clause-writes
returns-clause-writes c = λ ranged e.
    let script = commands_in c.args.script.now in
    let T : Table = map (entry_of (trees_in c.args.asserted.now.trees)) c.args.table.now in
    let w = c.in_ok-writer.field-0 in
    made_of ranged T script (map declared_command c.in_ok-declared.declared.items) (map introduced_command c.in_ok-introduced.introduced.items) (map (placed_command c.finish.result) w.placed.items)
    c.in_ok-declared.ensures c.in_ok-introduced.ensures
    (kept_all w.writer c.finish.result w.placed.items (claims_in ranged T script) (c.in_ok-writer.ensures.writes ranged (asserted script) e c.requires.assertions) c.finish.ensures.found)

pub returns-clause-within : goal.returns-clause-within
returns-clause-within c = λ ranged e.
    let script = commands_in c.args.script.now in
    let T : Table = map (entry_of (trees_in c.args.asserted.now.trees)) c.args.table.now in
    let i = c.in_ok-writer.ensures.writes ranged (asserted script) e c.requires.assertions in
    ap (first_beyond most_tokens 0) (rewritten_tokens ranged T script) ∙ i.counted
