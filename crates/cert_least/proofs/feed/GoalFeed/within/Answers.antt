use Rattle.std.proofs.Common.{length, ◌+◌, refl}
use Rattle.cert_least.proofs.Feeding.{piece_taken, piece_faulty}
use Rattle.cert_least.proofs.feed.GoalFeed.within.Goals as goal

pub returns-in-Ok-take-clause-goes : goal.returns-in-Ok-take-clause-goes
returns-in-Ok-take-clause-goes c a bytes has =
    piece_taken a bytes c.args.piece.now c.args.self.now (record { checker = c.take.new.self; reader = c.take.new.reader; taken = c.args.self.now.taken + length c.args.piece.now }) c.feed.new.self
    c.in-Ok-take.field-0 has c.in-Ok.ensures.ok c.in-Ok-take.ensures.lines c.in-Ok-take.ensures.at c.in-Ok-take.ensures.fed c.in-Ok-take.ensures.ended refl

pub returns-in-Err-take-clause-goes : goal.returns-in-Err-take-clause-goes
returns-in-Err-take-clause-goes c a bytes has =
    piece_faulty a bytes c.args.piece.now c.args.self.now (record { checker = c.take.new.self; reader = c.take.new.reader; taken = c.args.self.now.taken }) c.feed.new.self
    c.in-Err-take.fault has c.requires c.in-Ok.ensures.ok c.in-Err-take.ensures.lines c.in-Err-take.ensures.at
