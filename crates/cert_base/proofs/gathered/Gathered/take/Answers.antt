use Rattle.std.proofs.Common.{Ok, Err, Some, None, Option, subst, inl, inr}
use Rattle.cert_read.specs.Reading.{lines_ahead, IsNextLine}
use Rattle.cert_read.specs.declared.line.Line.{Line}
use Rattle.cert_check.proofs.Taking.{ends_fault, ends_line}
use Rattle.cert_base.specs.Views.{gathered_of}
use Rattle.cert_base.proofs.Gathering.{gathering_none, gathering_more, all_taken, all_gathered, fewer_ahead}
use Rattle.cert_base.proofs.gathered.Gathered.take.Goals as goal

pub lines-init : goal.lines-init
lines-init c = gathering_none c.args.problem.now c.args.checker.now c.args.reader.now (gathered_of c.args.self.now) c.requires

pub returns-in-Ok-None-clause-ok : goal.returns-in-Ok-None-clause-ok
returns-in-Ok-None-clause-ok c =
    let left = c.lines.reader in let new = c.next_line.new.self in
    let told : IsNextLine (lines_ahead left) left new (Ok None) = subst (λ (o : Option Line). IsNextLine (lines_ahead left) left new (Ok o)) c.in-Ok-None.field-0-is c.in-Ok-None.ensures.lines in
    all_taken c.args.problem.now c.args.checker.now c.args.reader.now (gathered_of c.args.self.now) c.lines.checker left (gathered_of c.lines.self) c.lines.invariant new told

pub returns-in-Ok-None-clause-gathered : goal.returns-in-Ok-None-clause-gathered
returns-in-Ok-None-clause-gathered c =
    let left = c.lines.reader in let new = c.next_line.new.self in
    let told : IsNextLine (lines_ahead left) left new (Ok None) = subst (λ (o : Option Line). IsNextLine (lines_ahead left) left new (Ok o)) c.in-Ok-None.field-0-is c.in-Ok-None.ensures.lines in
    all_gathered c.args.problem.now c.args.checker.now c.args.reader.now (gathered_of c.args.self.now) c.lines.checker left (gathered_of c.lines.self) c.lines.invariant new told

pub lines-smaller : goal.lines-smaller
lines-smaller c =
    let left = c.lines.reader in let new = c.next_line.new.self in
    let told : IsNextLine (lines_ahead left) left new (Ok (Some c.in-Ok-Some.line)) = subst (λ (o : Option Line). IsNextLine (lines_ahead left) left new (Ok o)) c.in-Ok-Some.field-0-is c.in-Ok-Some.ensures.lines in
    fewer_ahead left new c.in-Ok-Some.line told

pub lines-preserved : goal.lines-preserved
lines-preserved c =
    let left = c.lines.reader in let new = c.next_line.new.self in
    let told : IsNextLine (lines_ahead left) left new (Ok (Some c.in-Ok-Some.line)) = subst (λ (o : Option Line). IsNextLine (lines_ahead left) left new (Ok o)) c.in-Ok-Some.field-0-is c.in-Ok-Some.ensures.lines in
    gathering_more c.args.problem.now c.args.checker.now c.args.reader.now (gathered_of c.args.self.now) c.lines.checker left (gathered_of c.lines.self) c.lines.invariant new c.in-Ok-Some.line c.line.new.checker
    (gathered_of c.line.new.self) told c.in-Ok.ensures.ok c.in-Ok.ensures.gathered

pub returns-in-Err-line-clause-fault : goal.returns-in-Err-line-clause-fault
returns-in-Err-line-clause-fault c =
    let left = c.lines.reader in let new = c.next_line.new.self in
    let told : IsNextLine (lines_ahead left) left new (Ok (Some c.in-Ok-Some.line)) = subst (λ (o : Option Line). IsNextLine (lines_ahead left) left new (Ok o)) c.in-Ok-Some.field-0-is c.in-Ok-Some.ensures.lines in
    elim c.in-Err-line.ensures.fault [
      | inl e ↦ inl e
      | inr t ↦ inr (ends_line c.args.checker.now c.args.reader.now c.lines.checker left c.lines.invariant.taking new c.in-Ok-Some.line c.line.new.checker c.in-Err-line.fault told t)
    ]

pub returns-in-Err-clause-fault : goal.returns-in-Err-clause-fault
returns-in-Err-clause-fault c =
    inr (ends_fault c.args.checker.now c.args.reader.now c.lines.checker c.lines.reader c.lines.invariant.taking c.next_line.new.self c.in-Err.fault c.refuse.new.self c.refuse.result c.in-Err.ensures.lines c.refuse.ensures)
