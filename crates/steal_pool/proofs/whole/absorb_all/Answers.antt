use Rattle.std.proofs.Common.{rules, arith, ◌≡◌, ◌≢◌, ℕ, ◌<◌, List, length, set, get_or, take, sym, ap, ◌∙◌, length-set, get_or-set_other, take_all}
use Rattle.crossbeam_deque.specs.Handles.{view, worker_deque, worker_view, stealer_deque}
use Rattle.steal_pool.specs.declared.deque.OwnDeque.{OwnDeque}
use Rattle.steal_pool.specs.declared.deque.Link.{Link}
use Rattle.steal_pool.specs.declared.hand.Hand.{Hand}
use Rattle.steal_pool.specs.Law.{joined_view}
use Rattle.steal_pool.specs.Gathering.{TakenIn, absorbed, column}
use Rattle.steal_pool.proofs.Rows.{some_of}
use Rattle.steal_pool.proofs.Columns.{absorbed_snoc, column_more, own_at}
use Rattle.steal_pool.proofs.whole.absorb_all.Goals as goal

pub absorb_row-requires : goal.absorb_row-requires
absorb_row-requires c =
    let inv = c.loop-j.invariant in
    let hands : List Hand = c.args.hands.now in
    let now : List Hand = c.loop-j.hands in
    let j : ℕ = c.loop-j.j in
    let r : Hand = c.index-hands-j.result in
    let len : length now ≡ length hands = c.loop-j.auto.hands in
    let inside : j < length now = search rules in
    let inside' : j < length hands = search rules in
    let took = c.take_links-row.ensures in
    let row : c.take_links-row.result ≡ (get_or hands j r).links = took.links ∙ inv.links j r (omega arith) inside' in
    let wide : length c.take_links-row.result.items ≡ length hands = ap (λ v. length v.items) row ∙ c.requires.0 j r inside' in (
      wide ∙ sym (length-set now j c.take_links-row.new.self ∙ len),
      λ k d e h.
          ap (λ v. stealer_deque (get_or v.items k e).stealer) row ∙ (c.requires.1 j k r d e inside' (omega arith) ∙ sym (ap (λ (o : OwnDeque). worker_deque o.worker) (own_at now j c.take_links-row.new.self r inside took.own k d (omega arith)) ∙ inv.deques k d (omega arith))),
    )

pub loop-j-preserved : goal.loop-j-preserved
loop-j-preserved c =
    let inv = c.loop-j.invariant in
    let hands : List Hand = c.args.hands.now in
    let now : List Hand = c.loop-j.hands in
    let j : ℕ = c.loop-j.j in
    let r : Hand = c.index-hands-j.result in
    let hand : Hand = c.take_links-row.new.self in
    let mid : List Hand = set now j hand in
    let new : List Hand = c.absorb_row.new.hands in
    let len : length now ≡ length hands = c.loop-j.auto.hands in
    let inside : j < length now = search rules in
    let inside' : j < length hands = search rules in
    let took = c.take_links-row.ensures in
    let row : c.take_links-row.result ≡ (get_or hands j r).links = took.links ∙ inv.links j r (omega arith) inside' in
    let wide : length c.take_links-row.result.items ≡ length hands = ap (λ v. length v.items) row ∙ c.requires.0 j r inside' in
    let same : (k : ℕ) (d : Hand) → k < length hands → (get_or mid k d).own ≡ (get_or now k d).own = λ k d h. own_at now j hand r inside took.own k d (omega arith) in
    let told : (k : ℕ) (d : Hand) (e : Link) → k < length hands → TakenIn (get_or mid k d) (get_or c.take_links-row.result.items k e) (get_or new k d) = λ k d e h. c.absorb_row.ensures.1 k d e (omega arith) in record {
      deques = λ k d h. (let e : Link = some_of c.take_links-row.result.items (omega arith) in (told k d e h).0 ∙ (ap (λ (o : OwnDeque). worker_deque o.worker) (same k d h) ∙ inv.deques k d h));
      views = λ k d e h. (told k d e h).1 ∙ ((λ i. joined_view ((ap (λ (o : OwnDeque). worker_view o.worker) (same k d h) ∙ inv.views k d e h) i) (view (get_or (row i).items k e).pass))
          ∙ (sym (absorbed_snoc (worker_view (get_or hands k d).own.worker) (column e k (take j hands)) (view (get_or (get_or hands j r).links.items k e).pass)) ∙ ap (absorbed (worker_view (get_or hands k d).own.worker)) (sym (column_more e k hands j r inside'))));
      links = λ k d low h. (let e : Link = some_of c.take_links-row.result.items (omega arith) in let ne : k ≢ j = (λ x. omega arith) in (told k d e h).2 ∙ (ap (λ (z : Hand). z.links) (get_or-set_other now j k hand d ne) ∙ inv.links k d (omega arith) h));
    }

pub returns : goal.returns
returns c =
    let inv = c.loop-j.invariant in
    let hands : List Hand = c.args.hands.now in
    let all : c.loop-j.j ≡ length hands = search rules in
    (c.loop-j.auto.hands, λ k d e h. inv.views k d e h ∙ ap (λ (l : List Hand). absorbed (worker_view (get_or hands k d).own.worker) (column e k l)) (ap (λ (n : ℕ). take n hands) all ∙ take_all (length hands) hands (omega arith)))
