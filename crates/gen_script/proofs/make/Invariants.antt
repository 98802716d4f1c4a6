use Rattle.std.proofs.Common.{◌≡◌, ◌-◌, ◌++◌}
use Rattle.gen_script.specs.Demo.{head, atom_lines}
use Rattle.gen_script.proofs.make.Given as goal

-- what was written, and the lines that are left, are the script
abbrev pub invariant-loop-done : goal.invariant-loop-done
invariant-loop-done l = l.script.items ++ atom_lines l.number (l.fn.size - l._done) ≡ head ++ atom_lines l.fn.seed l.fn.size
