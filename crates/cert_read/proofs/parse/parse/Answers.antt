use Rattle.std.proofs.Common.{◌≤◌, length, sym, ◌∙◌, arith}
use Rattle.cert_read.specs.Keywords.{keyword_text}
use Rattle.cert_read.proofs.ByFirst.{parsed_by, said_by}
use Rattle.cert_read.proofs.parse.parse.Goals as goal

pub returns-in-Some : goal.returns-in-Some
returns-in-Some c =
    let first = c.cut.result.0.now in
    let short : length c.args.bytes.now ≤ 524288 = omega (arith, c.if-bytes-gt-LONGEST.false) in
    said_by c.after_keyword.result c.args.bytes.now first (keyword_text c.in-Some.word) _ short (sym c.if-not-are_words.ensures) c.cut.ensures.words c.in-Some.ensures c.after_keyword.ensures

pub returns-in-None : goal.returns-in-None
returns-in-None c =
    let first = c.cut.result.0.now in
    let short : length c.args.bytes.now ≤ 524288 = omega (arith, c.if-bytes-gt-LONGEST.false) in
    parsed_by c.args.bytes.now first _ short (sym c.if-not-are_words.ensures) c.cut.ensures.words ∙ c.in-None.ensures _
