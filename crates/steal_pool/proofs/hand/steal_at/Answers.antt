use Rattle.std.proofs.Common.{rules, arith, ap, ◌≡◌, ◌∙◌, ◌+◌, get_or, List, get_or-set_other}
use Rattle.steal_pool.specs.declared.deque.Link.{Link}
use Rattle.steal_pool.specs.Links.{Took, Alike, LookedInVain}
use Rattle.steal_pool.proofs.Sweeps.{took_at, vain_at, looked_at}
use Rattle.steal_pool.proofs.hand.steal_at.Goals as goal

pub returns-in-Success : goal.returns-in-Success
returns-in-Success g c =
    let inv = c.loop.invariant in
    let now : List Link = c.loop.links in
    let told : Took c.in-Success.id (get_or now c.args.k c.index-links-k.result) c.steal.new.self = (c.in-Success.ensures.same, c.in-Success.ensures.taken) in
    took_at c.args.links.now now c.args.k c.in-Success.id c.index-links-k.result c.steal.new.self (search rules) c.requires inv.here inv.others told

pub returns-in-Empty : goal.returns-in-Empty
returns-in-Empty g c =
    let inv = c.loop.invariant in
    let now : List Link = c.loop.links in
    let look = c.in-Empty.ensures.look in
    let old : Link = get_or now c.args.k c.index-links-k.result in
    let more : c.steal.new.self.notes.seat.me.0.looks ≡ old.notes.seat.me.0.looks + 1 = ap (λ v. v.looks) look in
    let told : LookedInVain old c.steal.new.self = ((c.in-Empty.ensures.same, c.in-Empty.ensures.taken, omega (arith, more)), omega (arith, more), ap (λ v. v.found_empty) look) in
    vain_at c.args.links.now now c.args.k c.index-links-k.result c.steal.new.self (search rules) c.requires inv.here inv.others told

pub loop-preserved : goal.loop-preserved
loop-preserved g c =
    let inv = c.loop.invariant in
    let now : List Link = c.loop.links in
    let look = c.in-Retry.ensures.look in
    let old : Link = get_or now c.args.k c.index-links-k.result in
    let more : c.steal.new.self.notes.seat.me.0.looks ≡ old.notes.seat.me.0.looks + 1 = ap (λ v. v.looks) look in
    let told : Alike old c.steal.new.self = (c.in-Retry.ensures.same, c.in-Retry.ensures.taken, omega (arith, more)) in
    record {
      here = looked_at now c.args.k c.index-links-k.result c.steal.new.self c.args.links.now (search rules) inv.here told;
      others = λ j d ne. get_or-set_other now c.args.k j c.steal.new.self d ne ∙ inv.others j d ne;
    }
