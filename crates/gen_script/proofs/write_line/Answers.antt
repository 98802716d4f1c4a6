use Rattle.std.proofs.Common.{◌∙◌, codes, decimal}
use Rattle.gen_script.proofs.Lines.{joined}
use Rattle.gen_script.proofs.write_line.Goals as goal

pub returns : goal.returns
returns c =
    joined c.args.script.now.items (codes "(assert (= (- (* ") (decimal c.args.factor) (codes " x y) (* ") (codes " y x)) (/ ") (codes " 8)))\n")
    c.as_bytes-digits.result.now c.extend_from_slice.new.self.items c.extend_from_slice-2.new.self.items c.extend_from_slice-3.new.self.items
    c.extend_from_slice-4.new.self.items c.extend_from_slice-5.new.self.items c.extend_from_slice-6.new.self.items c.extend_from_slice-7.new.self.items
    (c.as_bytes-digits.ensures.value ∙ c.format.ensures.text)
    c.in_ok-extend_from_slice.ensures.items c.in_ok-extend_from_slice-2.ensures.items c.in_ok-extend_from_slice-3.ensures.items
    c.in_ok-extend_from_slice-4.ensures.items c.in_ok-extend_from_slice-5.ensures.items c.in_ok-extend_from_slice-6.ensures.items
    c.in_ok-extend_from_slice-7.ensures.items
