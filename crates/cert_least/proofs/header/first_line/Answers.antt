use Rattle.std.proofs.Common.{Bool, subst}
use Rattle.poly_graph.specs.ProblemViews.{problem_of}
use Rattle.cert_read.specs.Views.{line_of}
use Rattle.cert_least.specs.Said.{IsLeastIn, IsOpenIn}
use Rattle.cert_least.proofs.Lines.{first_least, first_open, first_plain}
use Rattle.cert_least.proofs.header.first_line.Goals as goal

pub returns-then-is_least : goal.returns-then-is_least
returns-then-is_least c a d h e =
    let l = line_of c.args.line.now in
    first_least a l (subst (λ (t : Bool). IsLeastIn t l) c.if-is_least.true c.is_least.ensures) d e c.give.new.checker c.give.result (c.give.ensures (problem_of a.problem) a.bound d h)

pub returns-then-is_open : goal.returns-then-is_open
returns-then-is_open c a d h e =
    let l = line_of c.args.line.now in
    first_open a l (subst (λ (t : Bool). IsOpenIn t l) c.if-is_open.true c.is_open.ensures) d e c.give-then-is_open.new.checker c.give-then-is_open.result (c.give-then-is_open.ensures (problem_of a.problem) a.bound d h)

pub returns : goal.returns
returns c a d h e =
    let l = line_of c.args.line.now in
    first_plain a l (subst (λ (t : Bool). IsLeastIn t l) c.if-is_least.false c.is_least.ensures) (subst (λ (t : Bool). IsOpenIn t l) c.if-is_open.false c.is_open.ensures) d e
    c.give-2.new.checker c.give-2.result (c.give-2.ensures (problem_of a.problem) a.bound d h)
