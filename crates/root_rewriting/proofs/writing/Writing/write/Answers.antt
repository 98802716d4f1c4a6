use Rattle.std.proofs.Common.{◌<◌, ◌≤◌, ◌+◌, refl, sym, subst, arith}
use Rattle.script_model.specs.Sexp.{Sexp}
use Rattle.script_roots.specs.Reached.{first_beyond}
use Rattle.script_roots.specs.Refused.{most_tokens, tokens_from, tokens_of}
use Rattle.script_fault.specs.declared.fault.ReadError.{ReadError}
use Rattle.smt_sexp.specs.Views.{place_of}
use Rattle.smt_sexp.specs.Writing.{tokens_in}
use Rattle.root_rewriting.specs.Nodes.{trees_in}
use Rattle.root_rewriting.specs.Drafts.{draft_command, expression_of}
use Rattle.root_rewriting.specs.Placing.{IsTooLarge}
use Rattle.root_rewriting.specs.declared.placed.Placed.{Placed}
use Rattle.root_rewriting.proofs.Placing.{tokens_here, too_many_here, writing_more}
use Rattle.root_rewriting.proofs.Spelled.{flat_tokens}
use Rattle.root_rewriting.proofs.writing.Writing.write.Goals as goal

pub returns-then-len-gt-MOST_TOKENS-clause-refuses : goal.returns-then-len-gt-MOST_TOKENS-clause-refuses
returns-then-len-gt-MOST_TOKENS-clause-refuses c = λ table all left named i.
    let s = c.args.spelling.now in
    let d = c.args.draft in
    let at = place_of d.place in
    let w = c.args.self.now.writer in
    let e : Sexp = expression_of s.names.now table (trees_in s.trees.now) at d.content in
    let writes = c.in-Ok.ensures.written table named in
    let many : most_tokens < tokens_in w + tokens_of e = omega (arith, c.if-len-gt-MOST_TOKENS.true, c.len.ensures.count, writes.count, flat_tokens e) in
    subst (λ (r : ReadError). IsTooLarge r (first_beyond most_tokens 0 (tokens_from all))) (sym c.too_long-then-len-gt-MOST_TOKENS.ensures)
    (refl, too_many_here w c.args.self.now.placed.items all left (draft_command s.names.now table (trees_in s.trees.now) d) at e (tokens_here d.is_goal at e) i many)

pub returns-clause-writes : goal.returns-clause-writes
returns-clause-writes c = λ table all left named i.
    let s = c.args.spelling.now in
    let d = c.args.draft in
    let at = place_of d.place in
    let w = c.args.self.now.writer in
    let e : Sexp = expression_of s.names.now table (trees_in s.trees.now) at d.content in
    let p : Placed = record { place = d.place; is_goal = d.is_goal; at = c.len-at.result } in
    let few : tokens_in c.write_content.new.writer ≤ most_tokens = omega (arith, c.if-len-gt-MOST_TOKENS.false, c.len.ensures.count) in
    writing_more w c.args.self.now.placed.items all left (draft_command s.names.now table (trees_in s.trees.now) d) at e (tokens_here d.is_goal at e) i
    c.write_content.new.writer c.push.new.self.items p c.in_ok-push.ensures.items (c.in-Ok.ensures.written table named) c.len-at.ensures.spelled refl few
