-- Hands that have links to each other are those of a new pool.
use Rattle.std.proofs.Common.{◌≡◌, ℕ, ◌<◌, All, List, [], length, get_or, map, replicate, ap, ◌∙◌, arith}
use Rattle.std.proofs.lemmas.List.{length-map}
use Rattle.steal_pool.specs.declared.deque.Link.{Link}
use Rattle.steal_pool.specs.declared.hand.Hand.{Hand}
use Rattle.steal_pool.specs.declared.rule.DequeView.{DequeView}
use Rattle.steal_pool.specs.Account.{taken_by, deque_of}
use Rattle.steal_pool.specs.NewPool.{LinkedHands}
use Rattle.steal_pool.specs.Pool.{own_of, IsPool, IsFresh, IsNewPool, AreLinked}
use Rattle.steal_pool.proofs.Maps.{map_all, map_two}
use Rattle.steal_pool.proofs.Rows.{some_of}

linked_deques : (hands : List Hand) (ls : List Link) → LinkedHands hands ls → map deque_of ls ≡ map own_of hands
linked_deques hands ls l = map_two own_of deque_of hands ls l.0 (λ j d e h. (l.1 j d e h).deque)

linked_taken : (hands : List Hand) (ls : List Link) → LinkedHands hands ls → map taken_by ls ≡ replicate (length hands) []
linked_taken hands ls l = map_all taken_by ls [] (λ j e h. (let low : j < length hands = (let s = l.0 in omega (arith, h, s)) in
    ap (λ (v : DequeView). v.taken) (l.1 j (some_of hands (omega arith)) e low).view)) ∙ ap (λ (n : ℕ). replicate n []) l.0

pub new_pool : (n : ℕ) (hands : List Hand) → AreLinked n hands → IsNewPool n hands
new_pool n hands a = record { count = a.count; pool = place; fresh = fresh }
  where
    place : IsPool hands
    place j d h = (let low : j < n = (let c = a.count in omega (arith, h, c)) in let names : length (map own_of hands) ≡ length hands = length-map hands own_of in record {
      links = linked_deques hands (get_or hands j d).links.items (a.links j d low);
      parts = (let p = a.parts j d low in let c = a.count in omega (arith, p, c, names));
      joined = (a.bare j d low).joined;
    })

    fresh : All (IsFresh n) hands
    fresh j d h = (let low : j < n = (let c = a.count in omega (arith, h, c)) in let b = a.bare j d low in record {
      account = (let stolen = linked_taken hands (get_or hands j d).links.items (a.links j d low) ∙ ap (λ (m : ℕ). replicate m []) a.count in λ i. record { pushed = b.put i; popped = b.taken i; stolen = stolen i });
      stays = b.left;
      room = b.room;
    })
