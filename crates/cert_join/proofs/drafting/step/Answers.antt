use Rattle.std.proofs.Common.{◌++◌, arith}
use Rattle.cert_join.specs.declared.stop.Unjoined.TheVariants.{Memory, Unlike, Crowded}
use Rattle.cert_join.proofs.Drafts.{goes_begins, over_begins, puts_last, puts_on, unjoined_on, unput_on, unread_on}
use Rattle.cert_join.proofs.drafting.step.Goals as goal

pub returns-in-Err : goal.returns-in-Err
returns-in-Err g c = λ s p b before done way.
    unread_on s p b before done c.args.text.now.items c.args.joiner.now _ _ way c.in-Err.stop _ c.in-Err.ensures.reads

pub returns-in-Ok-put : goal.returns-in-Ok-put
returns-in-Ok-put g c = λ s p b before done way.
    puts_on s p b before done c.args.text.now.items c.args.joiner.now _ _ way c.in-Ok-On.field-0 c.step.new.text.items c.deref.result.now c.clear.new.self.items c.step.new.self _ _ c.in-Ok-On.field-0-is c.in-Ok-On.ensures
    (c.in-Ok-put.ensures s p b (before ++ done) way) c.deref.ensures.value c.clear.ensures.items

pub returns-in-Err-put : goal.returns-in-Err-put
returns-in-Err-put g c = λ s p b before done way.
    unput_on s p b before done c.args.text.now.items c.args.joiner.now _ _ way c.in-Err-put.stop c.step.new.text.items c.deref.result.now _ _
    (goes_begins s p b before done c.args.text.now.items c.args.joiner.now _ _ way c.in-Ok-On.field-0 c.step.new.text.items c.step.new.self c.in-Ok-On.field-0-is c.in-Ok-On.ensures (omega arith))
    (c.in-Err-put.ensures s p b (before ++ done) way) c.deref.ensures.value

pub returns-in-Ok-put-2 : goal.returns-in-Ok-put-2
returns-in-Ok-put-2 g c = λ s p b before done way.
    puts_last s p b before done c.args.text.now.items c.args.joiner.now _ _ way c.in-Ok-Over.field-0 c.step.new.text.items c.deref-in-Ok-Over.result.now c.clear-in-Ok-put-2.new.self.items c.step.new.self _ _ c.in-Ok-Over.field-0-is c.in-Ok-Over.ensures
    (c.in-Ok-put-2.ensures s p b (before ++ done) way) c.deref-in-Ok-Over.ensures.value

pub returns-in-Err-put-2 : goal.returns-in-Err-put-2
returns-in-Err-put-2 g c = λ s p b before done way.
    unput_on s p b before done c.args.text.now.items c.args.joiner.now _ _ way c.in-Err-put-2.stop c.step.new.text.items c.deref-in-Ok-Over.result.now _ _
    (over_begins s p b before done c.args.text.now.items c.args.joiner.now _ _ way c.in-Ok-Over.field-0 c.step.new.text.items c.step.new.self c.in-Ok-Over.field-0-is c.in-Ok-Over.ensures)
    (c.in-Err-put-2.ensures s p b (before ++ done) way) c.deref-in-Ok-Over.ensures.value

pub returns-in-Err-Memory : goal.returns-in-Err-Memory
returns-in-Err-Memory g c = λ s p b before done way.
    let e = rw c.in-Err-Memory.field-0-is at c.in-Err-Memory.ensures in
    unjoined_on s p b before done c.args.text.now.items c.args.joiner.now _ _ way Memory c.step.new.text.items c.step.new.self e

pub returns-in-Err-Unlike : goal.returns-in-Err-Unlike
returns-in-Err-Unlike g c = λ s p b before done way.
    let e = rw c.in-Err-Unlike.field-0-is at c.in-Err-Unlike.ensures in
    unjoined_on s p b before done c.args.text.now.items c.args.joiner.now _ _ way Unlike c.step.new.text.items c.step.new.self e

pub returns-in-Err-Crowded : goal.returns-in-Err-Crowded
returns-in-Err-Crowded g c = λ s p b before done way.
    let e = rw c.in-Err-Crowded.field-0-is at c.in-Err-Crowded.ensures in
    unjoined_on s p b before done c.args.text.now.items c.args.joiner.now _ _ way Crowded c.step.new.text.items c.step.new.self e
