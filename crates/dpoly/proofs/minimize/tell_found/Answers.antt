use Rattle.check_run.specs.Bounds.{cause_of}
use Rattle.command_line.specs.Seen.{seen_minimize}
use Rattle.ival.specs.SpaceViews.{space_of}
use Rattle.least_search.specs.Found.{bound_of}
use Rattle.poly_graph.specs.ProblemViews.{problem_of}
use Rattle.dpoly.specs.Minimize.{first_options}
use Rattle.dpoly.proofs.Minimizing.{certificate_as, found_answer, text_as}
use Rattle.dpoly.proofs.minimize.tell_found.Goals as goal

pub returns : goal.returns
returns c g found =
    let q = c.args.problem.now in let f = c.args.found.now in let o = first_options c.args.asked.now.options in let gap = c.args.asked.now.gap_bits in
    let cert = c.in_ok-cert.cert.items in let text = c.in_ok-text.text.items in let cause = c.cause_of-cause.result in
    let accepted = certificate_as q g gap c.first_options.result o f cert c.first_options.ensures (c.in_ok-cert.ensures q g gap) found in
    let says = text_as (problem_of q) c.from-budget.result c.args.asked.now.options.budget (cause_of cause) c.bound.result (bound_of f.lower) f.upper (space_of c.space.result.now) f.point text
    c.from-budget.ensures c.bound.ensures c.space.ensures c.in_ok-text.ensures in
    found_answer q g (seen_minimize c.args.asked.now) f (record { cert = c.in_ok-cert.cert; text = c.in_ok-text.text }) found accepted cause c.cause_of-cause.ensures says
