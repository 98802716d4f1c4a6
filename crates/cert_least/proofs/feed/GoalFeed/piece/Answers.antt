use Rattle.std.proofs.Common.{◌≤◌, ◌<◌, ◌-◌, length, refl, arith}
use Rattle.cert_model.specs.Accepted.{most_bytes}
use Rattle.cert_least.proofs.Feeding.{first_faulty, piece_too_long}
use Rattle.cert_least.proofs.feed.GoalFeed.piece.Goals as goal

pub returns-in-Ok-clause-goes : goal.returns-in-Ok-clause-goes
returns-in-Ok-clause-goes c a bytes has =
    let few : c.args.self.now.taken ≤ most_bytes = omega (arith, c.in-Ok.ensures.fits, c.in-Ok.ensures.more) in
    let beyond : most_bytes - c.args.self.now.taken < length c.args.piece.now = omega (arith, c.if-piece-left.false) in
    piece_too_long a bytes c.args.piece.now (most_bytes - c.args.self.now.taken) c.too_long.result c.args.self.now c.within-2.new.self
    has (c.in-Ok.ensures.goes a bytes has) few refl beyond c.too_long.ensures

pub returns-in-Err-clause-goes : goal.returns-in-Err-clause-goes
returns-in-Err-clause-goes c a bytes has = first_faulty a bytes c.args.piece.now _ c.in-Err.fault (c.in-Err.ensures.goes a bytes has)
