-- Links stay to the deques of their hands.
use Rattle.std.proofs.Common.{◌≡◌, ℕ, ◌<◌, List, length, get_or, sym, ap, ◌∙◌, subst, arith}
use Rattle.crossbeam_deque.specs.Handles.{worker_deque, worker_view}
use Rattle.steal_pool.specs.declared.deque.Link.{Link}
use Rattle.steal_pool.specs.declared.hand.Hand.{Hand}
use Rattle.steal_pool.specs.declared.deque.OwnDeque.{OwnDeque}
use Rattle.steal_pool.specs.declared.rule.DequeView.{DequeView}
use Rattle.steal_pool.specs.NewPool.{IsNew, IsBare, LosesPart, LinkedHands}

pub still_linked : (old new : List Hand) (ls : List Link) → length new ≡ length old → ((k : ℕ) (d : Hand) → k < length old → worker_deque (get_or new k d).own.worker ≡ worker_deque (get_or old k d).own.worker) → LinkedHands old ls → LinkedHands new ls
still_linked old new ls len same h = (h.0 ∙ sym len, λ k d e below. let low : k < length old = subst (λ (n : ℕ). k < n) len below in let t = h.1 k d e low in record { deque = t.deque ∙ sym (same k d low); view = t.view })

-- a new hand is bare, and stays so when it loses a part or gets links
pub bare_new : (h : Hand) → IsNew h → IsBare h
bare_new h n = record { put = ap (λ (v : DequeView). v.put) n.view; taken = ap (λ (v : DequeView). v.taken) n.view; joined = ap (λ (v : DequeView). v.joined) n.view; left = n.left; room = n.room }

pub bare_less : (h g : Hand) → IsBare h → LosesPart h g → IsBare g
bare_less h g b l = record {
  put = ap (λ (v : DequeView). v.put) l.view ∙ b.put;
  taken = ap (λ (v : DequeView). v.taken) l.view ∙ b.taken;
  joined = ap (λ (v : DequeView). v.joined) l.view ∙ b.joined;
  left = l.left ∙ b.left;
  room = (let r = l.room in let s = b.room in omega (arith, r, s));
}

pub bare_set : (h g : Hand) → g.own ≡ h.own → g.left ≡ h.left → IsBare h → IsBare g
bare_set h g own left b = record {
  put = ap (λ (o : OwnDeque). (worker_view o.worker).put) own ∙ b.put;
  taken = ap (λ (o : OwnDeque). (worker_view o.worker).taken) own ∙ b.taken;
  joined = ap (λ (o : OwnDeque). (worker_view o.worker).joined) own ∙ b.joined;
  left = left ∙ b.left;
  room = (let r : g.own.room ≡ h.own.room = ap (λ (o : OwnDeque). o.room) own in let s = b.room in omega (arith, r, s));
}
