use Rattle.std.proofs.Common.{◌∷◌, map, List, ◌∙◌, ap, sym, subst, arith}
use Rattle.std.specs.Prelude.{Result, Vec}
use Rattle.std.specs.Global.{Global}
use Rattle.smt_sexp.specs.Views.{place_of}
use Rattle.term_build.specs.Shapes.{sketch_of}
use Rattle.term_build.specs.declared.stop.Stop.{Stop}
use Rattle.term_build.proofs.Emits.{err_is}
use Rattle.value_build.specs.Meetings.{AreSomeMet, IsSpreading, Spreads}
use Rattle.value_build.specs.declared.lift.Entry.{Entry}
use Rattle.value_build.specs.declared.lift.Meeting.{Meeting}
use Rattle.value_build.proofs.Spreading.{all_spread, first_of_all, goes_on, nothing_in, some_left, stops_on}
use Rattle.value_build.proofs.lift.spread.Goals as goal

pub loop-meeting-init : goal.loop-meeting-init
loop-meeting-init c =
    subst (λ (es : List Entry). IsSpreading c.args.builder.now c.args.builder.now (map sketch_of c.args.sketch.now) c.args.task (place_of c.args.at) c.args.meeting.first c.args.meeting.second es c.push_front.new.self.items) (sym c.new-entries.ensures.items)
    (first_of_all c.args.task (place_of c.args.at) c.args.builder.now (map sketch_of c.args.sketch.now) c.args.meeting.first c.args.meeting.second c.push_front.new.self.items
    (c.in_ok-push_front.ensures.items ∙ ap (λ (l : List Meeting). c.args.meeting ∷ l) c.new-left.ensures.items) c.requires.sketched)

pub look-requires-clause-known : goal.look-requires-clause-known
look-requires-clause-known c =
    subst (λ (l : List Meeting). AreSomeMet c.loop-meeting.builder (map sketch_of c.args.sketch.now) l) c.in-Some.ensures.items
    (some_left c.args.task (place_of c.args.at) c.args.builder.now (map sketch_of c.args.sketch.now) c.args.meeting.first c.args.meeting.second c.loop-meeting.builder c.loop-meeting.entries.items c.loop-meeting.left.items c.loop-meeting.invariant c.requires.first c.requires.second)

pub returns-in_err-entry-clause-does : goal.returns-in_err-entry-clause-does
returns-in_err-entry-clause-does c =
    subst (λ (r : Result (Vec Entry Global) Stop). Spreads c.args.builder.now c.look.new.builder (map sketch_of c.args.sketch.now) c.args.task (place_of c.args.at) c.args.meeting.first c.args.meeting.second r)
    (sym (err_is c.from_residual-in_err-entry.result c.in_err-entry.field-0.0 c.from_residual-in_err-entry.ensures))
    (stops_on c.args.task (place_of c.args.at) c.args.builder.now (map sketch_of c.args.sketch.now) c.args.meeting.first c.args.meeting.second c.loop-meeting.builder c.look.new.builder c.loop-meeting.entries.items c.in_err-entry.field-0.0 c.in-Some.meeting c.loop-meeting.left.items
    c.pop_front.new.self.items c.look.new.left.items c.loop-meeting.invariant c.in-Some.ensures.items c.in_err-entry.ensures.does)

pub loop-meeting-preserved : goal.loop-meeting-preserved
loop-meeting-preserved c =
    goes_on c.args.task (place_of c.args.at) c.args.builder.now (map sketch_of c.args.sketch.now) c.args.meeting.first c.args.meeting.second c.loop-meeting.builder c.look.new.builder c.loop-meeting.entries.items c.push.new.self.items c.in_ok-entry.entry c.in-Some.meeting
    c.loop-meeting.left.items c.pop_front.new.self.items c.look.new.left.items c.loop-meeting.invariant c.in-Some.ensures.items c.look.ensures.sorts c.requires.first c.requires.second c.in_ok-entry.ensures.does c.in_ok-push.ensures.items

pub returns-clause-does : goal.returns-clause-does
returns-clause-does c =
    all_spread c.args.task (place_of c.args.at) c.args.builder.now (map sketch_of c.args.sketch.now) c.args.meeting.first c.args.meeting.second c.loop-meeting.builder c.loop-meeting.entries.items c.loop-meeting.left.items (nothing_in c.loop-meeting.left.items (omega (arith, c.in_default.ensures.cases.0, c.loop-meeting.left.ok.0))) c.loop-meeting.invariant
