use Rattle.std.proofs.Common.{rules, ◌≡◌, List, length, drop, sym, subst}
use Rattle.steal_pool.specs.declared.hand.Hand.{Hand}
use Rattle.steal_pool.proofs.Lefts.{Taken, OneLess, NoneLess, left_some, left_none, left_same}
use Rattle.steal_pool.proofs.Rows.{take_front}
use Rattle.steal_pool.proofs.gathered.Gathered.left.Goals as goal

pub returns-clause-some : goal.returns-clause-some
returns-clause-some c =
    let old : List Hand = c.args.self.now.hands.items in
    let new : List Hand = c.take_first_left.new.hands in
    let told : Taken c.take_first_left.result old new = subst (λ (hs : List Hand). Taken c.take_first_left.result hs new) c.as_mut_slice.ensures.value c.take_first_left.ensures in
    let len : length new ≡ c.args.self.now.hands.len = search rules in
    subst (λ (ns : List Hand). OneLess c.take_first_left.result old ns) (sym (take_front new (drop (length new) old) c.args.self.now.hands.len len)) (left_some c.take_first_left.result old new c.args.self.now.settled told)

pub returns-clause-none : goal.returns-clause-none
returns-clause-none c =
    let old : List Hand = c.args.self.now.hands.items in
    let new : List Hand = c.take_first_left.new.hands in
    let told : Taken c.take_first_left.result old new = subst (λ (hs : List Hand). Taken c.take_first_left.result hs new) c.as_mut_slice.ensures.value c.take_first_left.ensures in
    left_none c.take_first_left.result old new c.args.self.now.settled told

pub returns-clause-same : goal.returns-clause-same
returns-clause-same c =
    let old : List Hand = c.args.self.now.hands.items in
    let new : List Hand = c.take_first_left.new.hands in
    let told : Taken c.take_first_left.result old new = subst (λ (hs : List Hand). Taken c.take_first_left.result hs new) c.as_mut_slice.ensures.value c.take_first_left.ensures in
    let len : length new ≡ c.args.self.now.hands.len = search rules in
    subst (λ (ns : List Hand). NoneLess c.take_first_left.result old ns) (sym (take_front new (drop (length new) old) c.args.self.now.hands.len len)) (left_same c.take_first_left.result old new told)
