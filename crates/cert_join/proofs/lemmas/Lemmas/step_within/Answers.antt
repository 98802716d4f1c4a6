use Rattle.std.proofs.Common.{List, ℕ, Some, ap, inl, inr, refl, sym, ◌∙◌}
use Rattle.cert_join.specs.LemmasDue.{lines_ahead}
use Rattle.cert_join.specs.Written.{texts_of}
use Rattle.cert_join.proofs.Passed.{passed, told}
use Rattle.cert_join.proofs.LemmaLines.{at_line, at_tree, some_lines}
use Rattle.cert_join.proofs.Spots.{ready_first}
use Rattle.cert_join.proofs.lemmas.Lemmas.step_within.Goals as goal

pub returns-then-is_behind : goal.returns-then-is_behind
returns-then-is_behind c cert t r h long before =
    let s = c.is_ready.new.self in
    let ls = texts_of (lines_ahead c.args.self.now.begun r t) in
    let some = some_lines c.args.self.now.begun r t in
    let ready = c.is_ready.ensures.ready c.if-not-is_ready.false in
    let f = ready_first cert ls s some (told cert ls c.args.cursor.now s c.is_ready.ensures.same before) ready in
    let p = passed cert ls c.args.cursor.now s c.pass.new.self _ some before c.is_ready.ensures.same ready refl c.pass.ensures in
    inr (at_tree cert t _ _ _ r.middle r.lemmas _ _ _ _ _ c.is_behind.result h p.first (λ k e. c.is_behind.ensures k (f.1 ∙ ap (λ (l : List ℕ). Some l) e)) c.if-is_behind.true p.before refl refl)

pub returns : goal.returns
returns c cert t r h long before =
    let s = c.is_ready.new.self in
    let ls = texts_of (lines_ahead c.args.self.now.begun r t) in
    let some = some_lines c.args.self.now.begun r t in
    let ready = c.is_ready.ensures.ready c.if-not-is_ready.false in
    let f = ready_first cert ls s some (told cert ls c.args.cursor.now s c.is_ready.ensures.same before) ready in
    let p = passed cert ls c.args.cursor.now s c.pass-2.new.self c.text.result.now some before c.is_ready.ensures.same ready c.text.ensures c.pass-2.ensures in
    inl (at_line cert t _ _ _ r.middle r.lemmas _ _ _ _ _ c.is_behind.result h long p.first (λ k e. c.is_behind.ensures k (f.1 ∙ ap (λ (l : List ℕ). Some l) (sym c.text.ensures ∙ e))) c.if-is_behind.false p.before
    c.in_ok-take.ensures.first c.in_ok-take.ensures.inner)
