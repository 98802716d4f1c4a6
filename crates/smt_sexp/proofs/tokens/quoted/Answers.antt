use Rattle.std.proofs.Common.{◌<◌, ◌+◌, length, take, drop, ap, ◌∙◌, arith}
use Rattle.std.proofs.lemmas.List.{take_rest}
use Rattle.smt_sexp.specs.declared.leaf.Leaf.TheVariants.{Symbol}
use Rattle.smt_sexp.proofs.Fronts.{quoted_unended, quoted_slash, quoted_ends, word_of}
use Rattle.smt_sexp.proofs.Strings.{same_test, other_test}
use Rattle.smt_sexp.proofs.tokens.quoted.Goals as goal

pub returns-then-n-inside : goal.returns-then-n-inside
returns-then-n-inside c =
    let e = take_rest c.args.bytes.now 1 in
    quoted_unended c.args.bytes.now _ c.requires (rw e at c.run_len-n.ensures.length) _ (rw e at c.if-n-inside.true) c.new.ensures

pub returns-then-inside-n-eq92 : goal.returns-then-inside-n-eq92
returns-then-inside-n-eq92 c =
    let e = take_rest c.args.bytes.now 1 in
    let lt : c.run_len-n.result < length (drop 1 c.args.bytes.now) = omega (arith, c.run_len-n.ensures.within, c.if-n-inside.false, ap length e) in
    quoted_slash c.args.bytes.now _ c.requires (rw e at c.run_len-n.ensures.length) _ lt (same_test _ _ (rw e at c.if-inside-n-eq92.true)) c.new-then-inside-n-eq92.ensures

pub returns : goal.returns
returns c =
    let e = take_rest c.args.bytes.now 1 in
    let lt : c.run_len-n.result < length (drop 1 c.args.bytes.now) = omega (arith, c.run_len-n.ensures.within, c.if-n-inside.false, ap length e) in
    quoted_ends c.args.bytes.now _ c.requires (rw e at c.run_len-n.ensures.length) _ lt (other_test _ _ (rw e at c.if-inside-n-eq92.false))
    (c.word.ensures ∙ ap (λ name. word_of (c.run_len-n.result + 2) (Symbol name)) (c.in_ok-name.ensures ∙ ap (take c.run_len-n.result) e))
