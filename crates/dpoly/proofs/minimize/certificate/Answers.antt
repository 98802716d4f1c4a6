use Rattle.std.proofs.lemmas.Result.{IfOk-weaker}
use Rattle.std.specs.Prelude.{ℕ, Vec}
use Rattle.std.specs.declared.alloc.Global.{Global}
use Rattle.dpoly.proofs.Minimizing.{closed_by, limited_accepted, root_accepted}
use Rattle.dpoly.proofs.minimize.certificate.Goals as goal

pub returns-in-Root : goal.returns-in-Root
returns-in-Root c q g gap found =
    IfOk-weaker _ _ _ (λ (cert : Vec ℕ Global) is. root_accepted q g gap c.args.options.now c.args.found.now found c.in-Root.bound c.in-Root.is c.requires _ c.space-point.ensures c.in_version-options.result c.in_version-options.ensures cert.items is) c.write_over.ensures

pub returns-in-Limit : goal.returns-in-Limit
returns-in-Limit c q g gap found =
    let closed = closed_by q g gap c.args.options.now c.args.found.now found c.in-Limit.book c.in-Limit.bits c.in-Limit.bound c.in-Limit.is in
    IfOk-weaker _ _ _ (λ (cert : Vec ℕ Global) is. limited_accepted q g gap c.args.options.now c.args.found.now found c.in-Limit.book c.in-Limit.bits c.in-Limit.bound c.in-Limit.is _ c.space-point.ensures cert.items is)
    (c.write_limited.ensures closed.alone closed.root closed.closed)
