use Rattle.std.proofs.Common.{◌∙◌, codes, decimal}
use Rattle.check_run.specs.ScriptFaults.{kind_text}
use Rattle.check_run.proofs.Texts.{placed}
use Rattle.check_run.proofs.script_refused.script_fault.Goals as goal

pub returns : goal.returns
returns c =
    placed (codes "script fault ") (kind_text c.args.fault.now.kind) (decimal c.args.fault.now.at.line) (decimal c.args.fault.now.at.column)
    c.as_bytes.result.now c.in_ok-text.text.items c.append_kind.new.text.items c.extend_from_slice.new.self.items
    c.in_ok-text.ensures.items c.in_ok-append_kind.ensures (c.as_bytes.ensures.value ∙ c.in_ok-place.ensures.ok) c.in_ok-extend_from_slice.ensures.items
