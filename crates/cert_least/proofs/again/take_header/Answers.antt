use Rattle.std.proofs.Common.{IsTrue}
use Rattle.dyadic.proofs.Equal.{both_true}
use Rattle.cover_model.specs.State.{Loosenings}
use Rattle.cert_model.specs.Due.{kind_due, is_version}
use Rattle.cert_model.specs.Accepted.{loosenings_fit, is_header}
use Rattle.cert_least.specs.Phases.{told_of}
use Rattle.cert_least.proofs.HeaderLines.{handed_on}
use Rattle.cert_least.proofs.again.take_header.Goals as goal

parts : (s : Loosenings) → IsTrue (is_header s) → IsTrue (is_version s.version) × IsTrue (loosenings_fit s.margin_bits s.delta_bits)
parts s e = both_true (is_version s.version) (loosenings_fit s.margin_bits s.delta_bits) e

pub returns : goal.returns
returns c p e h =
    let b = c.args.bound in let k = parts (told_of c.args.told) e in
    c.take_bound.ensures p (c.in_ok-take_delta.ensures p b k.1 (c.in_ok-take_margin.ensures p b (c.in_ok-take_version.ensures p b k.0 h)))

pub returns-in_err-take_version : goal.returns-in_err-take_version
returns-in_err-take_version c p e h =
    let b = c.args.bound in let s = told_of c.args.told in let k = parts s e in
    handed_on p b c.take_version.new.checker c.from_residual.result c.in_err-take_version.field-0.0 c.from_residual.ensures (c.in_err-take_version.ensures p b k.0 h) (kind_due s)

pub returns-in_err-take_margin : goal.returns-in_err-take_margin
returns-in_err-take_margin c p e h =
    let b = c.args.bound in let s = told_of c.args.told in let k = parts s e in let x = c.from_residual-in_err-take_margin in
    handed_on p b c.take_margin.new.checker x.result c.in_err-take_margin.field-0.0 x.ensures (c.in_err-take_margin.ensures p b (c.in_ok-take_version.ensures p b k.0 h)) (kind_due s)

pub returns-in_err-take_delta : goal.returns-in_err-take_delta
returns-in_err-take_delta c p e h =
    let b = c.args.bound in let s = told_of c.args.told in let k = parts s e in let x = c.from_residual-in_err-take_delta in
    handed_on p b c.take_delta.new.checker x.result c.in_err-take_delta.field-0.0 x.ensures
    (c.in_err-take_delta.ensures p b k.1 (c.in_ok-take_margin.ensures p b (c.in_ok-take_version.ensures p b k.0 h))) (kind_due s)
