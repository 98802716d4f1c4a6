-- What the parts of a turn come to.
use Rattle.std.proofs.Common.{◌≡◌, ◌≢◌, ◌⊎◌, ℕ, ◌<◌, true, List, [], ◌∷◌, ◌++◌, length, set, get_or, map, refl, sym, ap, ◌∙◌, subst, arith, inl, inr, ⊎_elim}
use Rattle.std.proofs.lemmas.List.{get_or-map, length-map}
use Rattle.crossbeam_deque.specs.Handles.{view, worker_view, worker_deque}
use Rattle.steal_pool.specs.declared.deque.Link.{Link}
use Rattle.steal_pool.specs.declared.deque.OwnDeque.{OwnDeque}
use Rattle.steal_pool.specs.declared.hand.Hand.{Hand}
use Rattle.steal_pool.specs.declared.rule.DequeView.{DequeView}
use Rattle.steal_pool.specs.Links.{looks_in, found_empty_in, AllAlike, StealsAt, Steals}
use Rattle.steal_pool.specs.Account.{Account, taken_by, account_of, deque_of, place_of, hands_beside, reads_of, last_read, Takes, FoundNothing}
use Rattle.steal_pool.specs.Turns.{ChangesRest, ReadsCount, SameDeque, PopsOne, TakesNothing, LooksInVain, TakesOne}
use mathlib.Core.Logic.{dite}
use native.Mathlib.Decide.{ℕ_discrete}
use Rattle.steal_pool.proofs.Rows.{some_of}
use Rattle.steal_pool.proofs.Maps.{map_alike, map_one}
use Rattle.steal_pool.proofs.Sweeps.{all_alike, alike_then, alike_refl, then_vain}

pub alike_deques : (ls ms : List Link) → AllAlike ls ms → map deque_of ms ≡ map deque_of ls
alike_deques ls ms a = map_alike deque_of ls ms a.0 (λ j d h. (a.1 j d h).0)

pub alike_taken : (ls ms : List Link) → AllAlike ls ms → map taken_by ms ≡ map taken_by ls
alike_taken ls ms a = map_alike taken_by ls ms a.0 (λ j d h. ap (λ (v : DequeView). v.taken) (a.1 j d h).1)

pub all_alike_then : (ls ms ns : List Link) → AllAlike ls ms → AllAlike ms ns → AllAlike ls ns
all_alike_then ls ms ns a b = (b.0 ∙ a.0, λ j d h. alike_then (get_or ls j d) (get_or ms j d) (get_or ns j d) (a.1 j d h) (b.1 j d (let e = a.0 in omega (arith, h, e))))

pub all_alike_refl : (ls : List Link) → AllAlike ls ls
all_alike_refl ls = (refl, λ j d h. alike_refl (get_or ls j d))

steals_deques : (ls ms : List Link) (k x : ℕ) → StealsAt ls ms k x → map deque_of ms ≡ map deque_of ls
steals_deques ls ms k x s = map_alike deque_of ls ms s.same (λ j d h. ⊎_elim
    (λ (is : j ≡ k). subst (λ (i : ℕ). deque_of (get_or ms i d) ≡ deque_of (get_or ls i d)) (sym is) (s.here d).0)
    (λ (ne : j ≢ k). (s.others j d h ne).0) (is_or j k))
  where
    is_or : (j k : ℕ) → (j ≡ k) ⊎ (j ≢ k)
    is_or j k = dite (ℕ_discrete j k) (λ e. inl e) (λ ne. inr ne)

steals_taken : (ls ms : List Link) (k x : ℕ) → StealsAt ls ms k x → map taken_by ms ≡ set (map taken_by ls) k (get_or (map taken_by ls) k [] ++ x ∷ [])
steals_taken ls ms k x s = map_one taken_by ls ms k (get_or (map taken_by ls) k [] ++ x ∷ []) s.same s.inside
    (λ d. ap (λ (v : DequeView). v.taken) (s.here d).1 ∙ ap (λ (l : List ℕ). l ++ x ∷ []) (sym (get_or-map taken_by ls k d [] s.inside)))
    (λ j d h ne. ap (λ (v : DequeView). v.taken) (s.others j d h ne).1)

-- a hand whose own deque and links are the same in these ways stands where it stood
place_is : (h g : Hand) → worker_deque g.own.worker ≡ worker_deque h.own.worker → (worker_view g.own.worker).parts ≡ (worker_view h.own.worker).parts → (worker_view g.own.worker).joined ≡ (worker_view h.own.worker).joined
    → map deque_of g.links.items ≡ map deque_of h.links.items → g.own.room ≡ h.own.room → place_of g ≡ place_of h
place_is h g own parts joined deques room i = record { own = own i; deques = deques i; parts = parts i; joined = joined i; room = room i }

account_is : (h g : Hand) → worker_view g.own.worker ≡ worker_view h.own.worker → map taken_by g.links.items ≡ map taken_by h.links.items → account_of g ≡ account_of h
account_is h g view stolen i = record { pushed = (view i).put; popped = (view i).taken; stolen = stolen i }

pub place_nothing : (h g : Hand) → TakesNothing h g → place_of g ≡ place_of h
place_nothing h g t = place_is h g t.own.deque (ap (λ (v : DequeView). v.parts) t.own.view) (ap (λ (v : DequeView). v.joined) t.own.view) (alike_deques h.links.items g.links.items t.links) t.own.room

pub account_nothing : (h g : Hand) → TakesNothing h g → account_of g ≡ account_of h
account_nothing h g t = account_is h g t.own.view (alike_taken h.links.items g.links.items t.links)

-- going to rest and waking take nothing
pub rest_nothing : (h g k : Hand) → TakesNothing h g → ChangesRest g k → TakesNothing h k
rest_nothing h g k t r = record {
  own = subst (λ (o : OwnDeque). SameDeque h.own o) (sym r.own) t.own;
  links = subst (λ (l : List Link). AllAlike h.links.items l) (sym (ap (λ v. v.items) r.links)) t.links;
  left = r.left ∙ t.left;
  reads = (let a = t.reads in let b = r.reads in omega (arith, a, b));
}

pub reads_nothing : (h g k : Hand) → TakesNothing h g → ReadsCount g k → TakesNothing h k
reads_nothing h g k t r = record {
  own = subst (λ (o : OwnDeque). SameDeque h.own o) (sym r.own) t.own;
  links = subst (λ (l : List Link). AllAlike h.links.items l) (sym (ap (λ v. v.items) r.links)) t.links;
  left = r.left ∙ t.left;
  reads = (let a = t.reads in let b = r.reads in omega (arith, a, b));
}

same_then : (a b c : OwnDeque) → SameDeque a b → SameDeque b c → SameDeque a c
same_then a b c s t = record { deque = t.deque ∙ s.deque; view = t.view ∙ s.view; room = t.room ∙ s.room }

pub vain_nothing : (h g k : Hand) → TakesNothing h g → LooksInVain g k → TakesNothing h k
vain_nothing h g k t r = record {
  own = same_then h.own g.own k.own t.own r.own;
  links = all_alike_then h.links.items g.links.items k.links.items t.links (all_alike g.links.items k.links.items 0 (length g.links.items) r.links);
  left = r.left ∙ t.left;
  reads = (let a = t.reads in let b = r.reads in omega (arith, a, b));
}

abbrev more : List ℕ → ℕ → List ℕ
more l x = l ++ x ∷ []

pub account_one : (h g k : Hand) (x : ℕ) → TakesNothing h g → TakesOne x g k → Takes x (account_of h) (account_of k)
account_one h g k x t r = let was = account_nothing h g t in ⊎_elim
    (λ (p : PopsOne x g.own k.own × (k.links ≡ g.links)). inl
    (let view = p.0.view in let links = p.1 in λ (i : 𝕀). record {
      pushed = ((ap (λ (v : DequeView). v.put) view) ∙ ap (λ (a : Account). a.pushed) was) i;
      popped = ((ap (λ (v : DequeView). v.taken) view) ∙ ap (λ (a : Account). more a.popped x) was) i;
      stolen = ((ap (λ l. map taken_by l.items) links) ∙ ap (λ (a : Account). a.stolen) was) i;
    }))
    (λ (p : SameDeque g.own k.own × Steals g.links.items k.links.items x). inr (
      p.1.0,
      inside_of p.1.0 p.1.1.inside,
      λ (i : 𝕀). record {
        pushed = ((ap (λ (v : DequeView). v.put) p.0.view) ∙ ap (λ (a : Account). a.pushed) was) i;
        popped = ((ap (λ (v : DequeView). v.taken) p.0.view) ∙ ap (λ (a : Account). a.popped) was) i;
        stolen = (steals_taken g.links.items k.links.items p.1.0 x p.1.1 ∙ ap (λ (a : Account). set a.stolen p.1.0 (get_or a.stolen p.1.0 [] ++ x ∷ [])) was) i;
      },
    ))
    r.taken
  where
    inside_of : (j : ℕ) → j < length g.links.items → j < length (map taken_by h.links.items)
    inside_of j h' = (let e : length (map taken_by h.links.items) ≡ length h.links.items = length-map h.links.items taken_by in let a = t.links.0 in omega (arith, e, a))

pub place_one : (h g k : Hand) (x : ℕ) → TakesNothing h g → TakesOne x g k → place_of k ≡ place_of h
place_one h g k x t r = ⊎_elim
    (λ (p : PopsOne x g.own k.own × (k.links ≡ g.links)). place_is g k p.0.deque (ap (λ (v : DequeView). v.parts) p.0.view) (ap (λ (v : DequeView). v.joined) p.0.view) (ap (λ l. map deque_of l.items) p.1) p.0.room)
    (λ (p : SameDeque g.own k.own × Steals g.links.items k.links.items x). place_is g k p.0.deque (ap (λ (v : DequeView). v.parts) p.0.view) (ap (λ (v : DequeView). v.joined) p.0.view) (steals_deques g.links.items k.links.items p.1.0 x p.1.1) p.0.room)
    r.taken ∙ place_nothing h g t

-- what a turn found that looked everywhere in vain
pub found_nothing : (h g k z : Hand) → TakesNothing h g → LooksInVain g k → TakesNothing k z → z.links ≡ k.links → reads_of k < reads_of z → last_read z ≡ hands_beside z → FoundNothing h z
found_nothing h g k z t v w links read last =
    let ls = h.links.items in let zs = z.links.items in
    let len : length zs ≡ length ls = ap (λ l. length l.items) links ∙ (v.links.same ∙ t.links.0) in
    let vain : (j : ℕ) (d : Link) → j < length ls → (looks_in (get_or ls j d) < looks_in (get_or zs j d)) × (found_empty_in (get_or zs j d) ≡ true) = λ j d h'.
    (let one = v.links.within j d (omega arith) (let e = t.links.0 in omega (arith, h', e)) in
    let all = then_vain (get_or ls j d) (get_or g.links.items j d) (get_or k.links.items j d) (t.links.1 j d h') one in
    subst (λ (l : List Link). (looks_in (get_or ls j d) < looks_in (get_or l j d)) × (found_empty_in (get_or l j d) ≡ true)) (sym (ap (λ l. l.items) links)) (all.1, all.2)) in
    record {
      same = account_nothing k z w ∙ account_nothing h k (vain_nothing h g k t v);
      looked = λ j h'. (let d = some_of ls (omega arith) in subst (λ (p : ℕ × ℕ). p.0 < p.1) (λ i. (sym (get_or-map looks_in ls j d 0 h') i, sym (get_or-map looks_in zs j d 0 (omega arith)) i)) (vain j d h').0);
      empty = λ j h'. (let d = some_of ls (omega arith) in get_or-map found_empty_in zs j d true (omega arith) ∙ (vain j d h').1);
      read = (let a = t.reads in let b = v.reads in omega (arith, a, b, read));
      resting = last ∙ len;
    }

nothing_refl : (h : Hand) → TakesNothing h h
nothing_refl h = record { own = record { deque = refl; view = refl; room = refl }; links = all_alike_refl h.links.items; left = refl; reads = omega arith }

-- a turn that found nothing, and then read the count at rest
pub quiet_turn : (h g k r z : Hand) → TakesNothing h g → LooksInVain g k → ChangesRest k r → ReadsCount r z → TakesNothing h z
quiet_turn h g k r z t v c d = reads_nothing h r z (rest_nothing h k r (vain_nothing h g k t v) c) d

pub vain_turn : (h g k r z : Hand) → TakesNothing h g → LooksInVain g k → ChangesRest k r → ReadsCount r z → last_read z ≡ hands_beside r → FoundNothing h z
vain_turn h g k r z t v c d last = found_nothing h g k z t v (reads_nothing k r z (rest_nothing k k r (nothing_refl k) c) d) (d.links ∙ c.links) (let a = c.reads in let b = d.reads in omega (arith, a, b))
    (last ∙ ap (λ l. length l.items) (sym d.links))
