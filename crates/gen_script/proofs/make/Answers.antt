use Rattle.gen_script.specs.Demo.{head, tail, atom_lines}
use Rattle.std.proofs.Common.{◌++◌, ◌∙◌, ap, List, ℕ}
use Rattle.gen_script.proofs.Lines.{one_more, all_written}
use Rattle.gen_script.proofs.make.Goals as goal

pub loop-done-preserved : goal.loop-done-preserved
loop-done-preserved c =
    one_more c.loop-done.script.items c.write_line.new.script.items (head ++ atom_lines c.args.seed c.args.size) c.loop-done.number
    c.following-number.result c.args.size c.loop-done._done c.loop-done-test.true c.following-number.ensures c.in_ok-write_line.ensures
    c.loop-done.invariant

pub returns : goal.returns
returns c =
    all_written c.loop-done.script.items c.extend_from_slice.new.self.items head (atom_lines c.args.seed c.args.size) tail c.loop-done.number
    c.args.size c.loop-done._done c.loop-done-test.false
    (c.in_ok-extend_from_slice.ensures.items ∙ ap (λ (text : List ℕ). c.loop-done.script.items ++ text) c.as_bytes-2.ensures.value) c.loop-done.invariant
