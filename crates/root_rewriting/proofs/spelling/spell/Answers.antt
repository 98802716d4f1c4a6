use Rattle.std.proofs.Common.{◌<◌, List, subst, arith}
use Rattle.root_rewriting.proofs.TreeLists.{none_left}
use Rattle.script_roots.specs.Refused.{most_tokens}
use Rattle.smt_sexp.specs.Writing.{tokens_in}
use Rattle.root_rewriting.specs.Spelling.{CanSpell}
use Rattle.root_rewriting.specs.declared.walk.Work.{Work}
use Rattle.root_rewriting.proofs.Spelled.{can_spell, spelling_ended, spelling_stops}
use Rattle.root_rewriting.proofs.spelling.spell.Goals as goal

pub returns-then-len-gt-MOST_TOKENS-clause-stops : goal.returns-then-len-gt-MOST_TOKENS-clause-stops
returns-then-len-gt-MOST_TOKENS-clause-stops c =
    let many : most_tokens < tokens_in c.works.writer = omega (arith, c.len.ensures.count, c.if-len-gt-MOST_TOKENS.true) in
    spelling_stops c.args.spelling.now c.args.writer.now c.works.writer c.args.at c.works.stack.items c.works.invariant many c.requires.writing

pub step-requires-clause-can : goal.step-requires-clause-can
step-requires-clause-can c =
    subst (λ (us : List Work). CanSpell c.args.spelling.now c.works.writer us) c.in-Some.ensures.items
    (can_spell c.args.spelling.now c.args.writer.now c.works.writer c.args.at c.works.stack.items c.works.invariant c.requires.named c.requires.writing)

pub returns-in-None-clause-written : goal.returns-in-None-clause-written
returns-in-None-clause-written c =
    spelling_ended c.args.spelling.now c.args.writer.now c.works.writer c.args.at c.works.stack.items c.works.invariant
    (none_left c.works.stack.items (omega (arith, c.in-None.ensures.cases.0, c.works.stack.ok.0))) c.requires.writing
