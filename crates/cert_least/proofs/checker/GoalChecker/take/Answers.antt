use Rattle.std.proofs.Common.{Ok, Err, Some, None, Option, subst}
use Rattle.cert_read.specs.Reading.{lines_ahead, IsNextLine}
use Rattle.cert_read.specs.declared.line.Line.{Line}
use Rattle.cert_least.proofs.Fed.{at_fed}
use Rattle.cert_least.proofs.Taking.{taking_none, ends_none, ends_fault, ends_line, goes_on}
use Rattle.cert_least.proofs.checker.GoalChecker.take.Goals as goal

pub lines-init : goal.lines-init
lines-init c = taking_none c.args.self.now c.args.reader.now

pub returns-in-Ok-None-clause-at : goal.returns-in-Ok-None-clause-at
returns-in-Ok-None-clause-at c bytes f =
    let left = c.lines.reader in let new = c.next_line.new.self in
    let told : IsNextLine (lines_ahead left) left new (Ok None) = subst (λ (o : Option Line). IsNextLine (lines_ahead left) left new (Ok o)) c.in-Ok-None.field-0-is c.in-Ok-None.ensures.lines in
    at_fed c.args.self.now c.lines.self bytes c.args.reader.now.unread c.args.reader.now.ended c.answer.result f
    (ends_none c.args.self.now c.args.reader.now c.lines.self left c.lines.invariant new c.answer.result told c.answer.ensures)

pub returns-in-Err-line-clause-lines : goal.returns-in-Err-line-clause-lines
returns-in-Err-line-clause-lines c =
    let left = c.lines.reader in let new = c.next_line.new.self in
    let told : IsNextLine (lines_ahead left) left new (Ok (Some c.in-Ok-Some.line)) = subst (λ (o : Option Line). IsNextLine (lines_ahead left) left new (Ok o)) c.in-Ok-Some.field-0-is c.in-Ok-Some.ensures.lines in
    ends_line c.args.self.now c.args.reader.now c.lines.self left c.lines.invariant new c.in-Ok-Some.line c.line.new.self c.in-Err-line.fault told c.in-Err-line.ensures

pub returns-in-Err-line-clause-at : goal.returns-in-Err-line-clause-at
returns-in-Err-line-clause-at c bytes f =
    let left = c.lines.reader in let new = c.next_line.new.self in
    let told : IsNextLine (lines_ahead left) left new (Ok (Some c.in-Ok-Some.line)) = subst (λ (o : Option Line). IsNextLine (lines_ahead left) left new (Ok o)) c.in-Ok-Some.field-0-is c.in-Ok-Some.ensures.lines in
    at_fed c.args.self.now c.line.new.self bytes c.args.reader.now.unread c.args.reader.now.ended (Err c.in-Err-line.fault) f
    (ends_line c.args.self.now c.args.reader.now c.lines.self left c.lines.invariant new c.in-Ok-Some.line c.line.new.self c.in-Err-line.fault told c.in-Err-line.ensures)

pub lines-preserved : goal.lines-preserved
lines-preserved c =
    let left = c.lines.reader in let new = c.next_line.new.self in
    let told : IsNextLine (lines_ahead left) left new (Ok (Some c.in-Ok-Some.line)) = subst (λ (o : Option Line). IsNextLine (lines_ahead left) left new (Ok o)) c.in-Ok-Some.field-0-is c.in-Ok-Some.ensures.lines in
    goes_on c.args.self.now c.args.reader.now c.lines.self left c.lines.invariant new c.in-Ok-Some.line c.line.new.self told c.in-Ok.ensures

pub lines-preserved-in-Ok : goal.lines-preserved-in-Ok
lines-preserved-in-Ok c =
    let left = c.lines.reader in let new = c.next_line.new.self in
    let told : IsNextLine (lines_ahead left) left new (Ok (Some c.in-Ok-Some.line)) = subst (λ (o : Option Line). IsNextLine (lines_ahead left) left new (Ok o)) c.in-Ok-Some.field-0-is c.in-Ok-Some.ensures.lines in
    goes_on c.args.self.now c.args.reader.now c.lines.self left c.lines.invariant new c.in-Ok-Some.line c.line.new.self told c.in-Ok.ensures

pub lines-preserved-in-Ok-2 : goal.lines-preserved-in-Ok-2
lines-preserved-in-Ok-2 c =
    let left = c.lines.reader in let new = c.next_line.new.self in
    let told : IsNextLine (lines_ahead left) left new (Ok (Some c.in-Ok-Some.line)) = subst (λ (o : Option Line). IsNextLine (lines_ahead left) left new (Ok o)) c.in-Ok-Some.field-0-is c.in-Ok-Some.ensures.lines in
    goes_on c.args.self.now c.args.reader.now c.lines.self left c.lines.invariant new c.in-Ok-Some.line c.line.new.self told c.in-Ok.ensures

pub lines-preserved-in-Ok-3 : goal.lines-preserved-in-Ok-3
lines-preserved-in-Ok-3 c =
    let left = c.lines.reader in let new = c.next_line.new.self in
    let told : IsNextLine (lines_ahead left) left new (Ok (Some c.in-Ok-Some.line)) = subst (λ (o : Option Line). IsNextLine (lines_ahead left) left new (Ok o)) c.in-Ok-Some.field-0-is c.in-Ok-Some.ensures.lines in
    goes_on c.args.self.now c.args.reader.now c.lines.self left c.lines.invariant new c.in-Ok-Some.line c.line.new.self told c.in-Ok.ensures

pub lines-preserved-in-Ok-4 : goal.lines-preserved-in-Ok-4
lines-preserved-in-Ok-4 c =
    let left = c.lines.reader in let new = c.next_line.new.self in
    let told : IsNextLine (lines_ahead left) left new (Ok (Some c.in-Ok-Some.line)) = subst (λ (o : Option Line). IsNextLine (lines_ahead left) left new (Ok o)) c.in-Ok-Some.field-0-is c.in-Ok-Some.ensures.lines in
    goes_on c.args.self.now c.args.reader.now c.lines.self left c.lines.invariant new c.in-Ok-Some.line c.line.new.self told c.in-Ok.ensures

pub lines-preserved-in-Ok-5 : goal.lines-preserved-in-Ok-5
lines-preserved-in-Ok-5 c =
    let left = c.lines.reader in let new = c.next_line.new.self in
    let told : IsNextLine (lines_ahead left) left new (Ok (Some c.in-Ok-Some.line)) = subst (λ (o : Option Line). IsNextLine (lines_ahead left) left new (Ok o)) c.in-Ok-Some.field-0-is c.in-Ok-Some.ensures.lines in
    goes_on c.args.self.now c.args.reader.now c.lines.self left c.lines.invariant new c.in-Ok-Some.line c.line.new.self told c.in-Ok.ensures

pub lines-preserved-in-Ok-6 : goal.lines-preserved-in-Ok-6
lines-preserved-in-Ok-6 c =
    let left = c.lines.reader in let new = c.next_line.new.self in
    let told : IsNextLine (lines_ahead left) left new (Ok (Some c.in-Ok-Some.line)) = subst (λ (o : Option Line). IsNextLine (lines_ahead left) left new (Ok o)) c.in-Ok-Some.field-0-is c.in-Ok-Some.ensures.lines in
    goes_on c.args.self.now c.args.reader.now c.lines.self left c.lines.invariant new c.in-Ok-Some.line c.line.new.self told c.in-Ok.ensures

pub lines-preserved-in-Ok-7 : goal.lines-preserved-in-Ok-7
lines-preserved-in-Ok-7 c =
    let left = c.lines.reader in let new = c.next_line.new.self in
    let told : IsNextLine (lines_ahead left) left new (Ok (Some c.in-Ok-Some.line)) = subst (λ (o : Option Line). IsNextLine (lines_ahead left) left new (Ok o)) c.in-Ok-Some.field-0-is c.in-Ok-Some.ensures.lines in
    goes_on c.args.self.now c.args.reader.now c.lines.self left c.lines.invariant new c.in-Ok-Some.line c.line.new.self told c.in-Ok.ensures

pub lines-preserved-in-Ok-8 : goal.lines-preserved-in-Ok-8
lines-preserved-in-Ok-8 c =
    let left = c.lines.reader in let new = c.next_line.new.self in
    let told : IsNextLine (lines_ahead left) left new (Ok (Some c.in-Ok-Some.line)) = subst (λ (o : Option Line). IsNextLine (lines_ahead left) left new (Ok o)) c.in-Ok-Some.field-0-is c.in-Ok-Some.ensures.lines in
    goes_on c.args.self.now c.args.reader.now c.lines.self left c.lines.invariant new c.in-Ok-Some.line c.line.new.self told c.in-Ok.ensures

pub lines-preserved-in-Ok-9 : goal.lines-preserved-in-Ok-9
lines-preserved-in-Ok-9 c =
    let left = c.lines.reader in let new = c.next_line.new.self in
    let told : IsNextLine (lines_ahead left) left new (Ok (Some c.in-Ok-Some.line)) = subst (λ (o : Option Line). IsNextLine (lines_ahead left) left new (Ok o)) c.in-Ok-Some.field-0-is c.in-Ok-Some.ensures.lines in
    goes_on c.args.self.now c.args.reader.now c.lines.self left c.lines.invariant new c.in-Ok-Some.line c.line.new.self told c.in-Ok.ensures

pub lines-preserved-in-Ok-10 : goal.lines-preserved-in-Ok-10
lines-preserved-in-Ok-10 c =
    let left = c.lines.reader in let new = c.next_line.new.self in
    let told : IsNextLine (lines_ahead left) left new (Ok (Some c.in-Ok-Some.line)) = subst (λ (o : Option Line). IsNextLine (lines_ahead left) left new (Ok o)) c.in-Ok-Some.field-0-is c.in-Ok-Some.ensures.lines in
    goes_on c.args.self.now c.args.reader.now c.lines.self left c.lines.invariant new c.in-Ok-Some.line c.line.new.self told c.in-Ok.ensures

pub lines-preserved-in-Ok-11 : goal.lines-preserved-in-Ok-11
lines-preserved-in-Ok-11 c =
    let left = c.lines.reader in let new = c.next_line.new.self in
    let told : IsNextLine (lines_ahead left) left new (Ok (Some c.in-Ok-Some.line)) = subst (λ (o : Option Line). IsNextLine (lines_ahead left) left new (Ok o)) c.in-Ok-Some.field-0-is c.in-Ok-Some.ensures.lines in
    goes_on c.args.self.now c.args.reader.now c.lines.self left c.lines.invariant new c.in-Ok-Some.line c.line.new.self told c.in-Ok.ensures

pub returns-in-Err-clause-lines : goal.returns-in-Err-clause-lines
returns-in-Err-clause-lines c =
    ends_fault c.args.self.now c.args.reader.now c.lines.self c.lines.reader c.lines.invariant c.next_line.new.self c.in-Err.fault c.refuse.new.self c.refuse.result c.in-Err.ensures.lines c.refuse.ensures

pub returns-in-Err-clause-at : goal.returns-in-Err-clause-at
returns-in-Err-clause-at c bytes f =
    at_fed c.args.self.now c.refuse.new.self bytes c.args.reader.now.unread c.args.reader.now.ended (Err c.refuse.result) f
    (ends_fault c.args.self.now c.args.reader.now c.lines.self c.lines.reader c.lines.invariant c.next_line.new.self c.in-Err.fault c.refuse.new.self c.refuse.result c.in-Err.ensures.lines c.refuse.ensures)
