use Rattle.std.proofs.Common.{◌≡◌, ◌<◌, length, arith}
use Rattle.cert_read.proofs.Parts.{cut_whole, cut_more}
use Rattle.cert_read.proofs.place.cut.Goals as goal

pub returns-then-is_empty-clause-words : goal.returns-then-is_empty-clause-words
returns-then-is_empty-clause-words c =
    let n = c.place_of-size.result in
    let bytes = c.args.bytes.now in
    let all : n ≡ length bytes = grind (arith, c.place_of-size.ensures.within, c.split_at.ensures.back_len, c.is_empty.ensures, c.if-is_empty.true) in
    cut_whole 32 bytes c.split_at.result.0.now n c.split_at.ensures.front all c.place_of-size.ensures.before

pub returns-else-is_empty-clause-words : goal.returns-else-is_empty-clause-words
returns-else-is_empty-clause-words c =
    let n = c.place_of-size.result in
    let bytes = c.args.bytes.now in
    let some : n < length bytes = grind (arith, c.place_of-size.ensures.within, c.split_at.ensures.back_len, c.is_empty.ensures, c.if-is_empty.false) in
    cut_more 32 bytes c.split_at.result.0.now c.split_at.result.1.now n c.split_at.ensures.front c.split_at.ensures.back some (c.place_of-size.ensures.found some) c.place_of-size.ensures.before
