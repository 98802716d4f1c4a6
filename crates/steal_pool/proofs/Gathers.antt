-- Gathered hands keep the law of their pool.
use Rattle.std.proofs.Common.{◌≡◌, ℕ, ◌+◌, ◌-◌, ◌<◌, ◌≤◌, Some, None, All, List, [], ◌∷◌, length, get_or, map, sum_by, slice_get, refl, sym, ap, ◌∙◌, subst, arith, ⊎_elim}
use Rattle.std.proofs.lemmas.List.{length-map, get_or-map}
use Rattle.std.proofs.lemmas.Option.{get_or_from_slice_get, slice_get_cases}
use Rattle.steal_pool.specs.declared.deque.Link.{Link}
use Rattle.steal_pool.specs.declared.hand.Hand.{Hand}
use Rattle.steal_pool.specs.declared.rule.DequeView.{DequeView}
use Rattle.steal_pool.specs.Law.{weigh, weigh_all, weigh_of, IsSub, AllSub, total}
use Rattle.steal_pool.specs.Account.{Account, taken_by, account_of, deque_of}
use Rattle.steal_pool.specs.Gathering.{absorbed, column, AllFit, AllAbsorbed, AreLawful}
use Rattle.steal_pool.specs.Pool.{own_of, IsPool}
use Rattle.steal_pool.specs.PoolLaw.{one_at, PoolLaw, own_view, IsSettled, left_in}
use Rattle.steal_pool.proofs.Rows.{some_of, get_or-any}
use Rattle.steal_pool.proofs.Sums.{upto, upto_plus, upto_le, sum_upto, taken_weight, stolen_weight, by_columns}
use Rattle.steal_pool.proofs.Absorbing.{column_thieves, length-column, get_or-column, absorbed_parts, absorbed_put, absorbed_taken, absorbed_weight, absorbed_sub}

links_wide : (hands : List Hand) → IsPool hands → (j : ℕ) (d : Hand) → j < length hands → length (get_or hands j d).links.items ≡ length hands
links_wide hands p j d h =
    let a : length (map deque_of (get_or hands j d).links.items) ≡ length (map own_of hands) = ap length (p j d h).links in
    sym (length-map (get_or hands j d).links.items deque_of) ∙ (a ∙ length-map hands own_of)

pub pool_fits : (hands : List Hand) → IsPool hands → AllFit hands
pool_fits hands p = (
  links_wide hands p,
  λ j k c d e hj hk.
      let inside : k < length (get_or hands j c).links.items = (let w = links_wide hands p j c hj in omega (arith, w, hk)) in
      sym (get_or-map deque_of (get_or hands j c).links.items k e (deque_of e) inside)
      ∙ (ap (λ l. get_or l k (deque_of e)) (p j c hj).links ∙ get_or-map own_of hands k d (deque_of e) hk),
)

-- a link of some hand
link_at : (hands : List Hand) → IsPool hands → (k : ℕ) (d : Hand) → k < length hands → Link
link_at hands p k d h = some_of (get_or hands k d).links.items (let w = links_wide hands p k d h in omega (arith, w, h))

pub all_whole : (hands mids : List Hand) → IsPool hands → AllAbsorbed hands mids → All (λ h. (own_view h).parts ≡ 65) mids
all_whole hands mids p a k d h =
    let low : k < length hands = (let s = a.0 in omega (arith, h, s)) in
    let e = link_at hands p k d low in
    let v = a.1 k d e low in
    let parts = absorbed_parts (own_view (get_or hands k d)) (column e k hands) (column_thieves e k hands) in
    let wide = length-column e k hands in
    let names = length-map hands own_of in
    let was = (p k d low).parts in
    ap (λ (u : DequeView). u.parts) v ∙ omega (arith, parts, wide, names, was)

pub all_settled : (mids news : List Hand) → All (λ h. (own_view h).parts ≡ 65) mids → AreLawful mids news → All IsSettled news
all_settled mids news whole l k d h =
    let low : k < length mids = (let s = l.0 in omega (arith, h, s)) in
    let r = l.1 k d low in
    record {
      whole = ap (λ (v : DequeView). v.parts) r.view ∙ whole k d low;
      bounded = λ f. (let e = r.law.1.0 f in let p = ap (λ (v : DequeView). weigh f v.put) r.view in let t = ap (λ (v : DequeView). weigh_of f v) r.view in omega (arith, e, p, t));
    }

-- what the owner of deque k knows in the end: its own view and a column of others
ends_as : (hands mids news : List Hand) → AllAbsorbed hands mids → AreLawful mids news → (k : ℕ) (d : Hand) (e : Link) → k < length hands → own_view (get_or news k d) ≡ absorbed (own_view (get_or hands k d)) (column e k hands)
ends_as hands mids news a l k d e h = (l.1 k d (let s = a.0 in omega (arith, h, s))).view ∙ a.1 k d e h

-- its weights
ends_taken : (hands : List Hand) → IsPool hands → (w : ℕ → ℕ) (k : ℕ) (d : Hand) (e : Link) (v : DequeView) → k < length hands → v ≡ absorbed (own_view (get_or hands k d)) (column e k hands)
    → weigh_of w v ≡ weigh w (own_view (get_or hands k d)).taken + total (taken_weight w) (column e k hands)
ends_taken hands p w k d e v h is =
    let old : DequeView = own_view (get_or hands k d) in
    let all = absorbed_weight w old (column e k hands) (column_thieves e k hands) in
    let none : weigh_all w old.joined ≡ 0 = ap (weigh_all w) (p k d h).joined in
    let taken : weigh w (absorbed old (column e k hands)).taken ≡ weigh w old.taken = ap (weigh w) (absorbed_taken old (column e k hands)) in
    ap (λ (u : DequeView). weigh_of w u) is ∙ omega (arith, all, none, taken)

-- the sums over all deques
module _ (hands mids news : List Hand) (p : IsPool hands) (a : AllAbsorbed hands mids) (l : AreLawful mids news) (w : ℕ → ℕ) (c : Hand) (e : Link) where
  abbrev popped : ℕ → ℕ
  popped k = weigh w (own_view (get_or hands k c)).taken

  abbrev put : ℕ → ℕ
  put k = weigh w (own_view (get_or hands k c)).put

  abbrev stolen : ℕ → ℕ
  stolen k = total (taken_weight w) (column e k hands)

  long : length news ≡ length hands
  long = l.0 ∙ a.0

  any : (k : ℕ) (d : Hand) → k < length hands → get_or hands k d ≡ get_or hands k c
  any k d h = get_or-any hands k d c h

  sum_put : sum_by (λ (v : DequeView). weigh w v.put) (map own_view news) ≡ upto (length hands) put
  sum_put = sum_upto (λ (v : DequeView). weigh w v.put) (map own_view news) (length hands) put (length-map news own_view ∙ long)
      (λ k v h. (let here : k < length news = (let s = long in omega (arith, h, s)) in
      ap (λ (u : DequeView). weigh w u.put) (get_or-map own_view news k c v here ∙ ends_as hands mids news a l k c e h)
      ∙ ap (weigh w) (absorbed_put (own_view (get_or hands k c)) (column e k hands))))

  sum_taken : sum_by (λ (v : DequeView). weigh_of w v) (map own_view news) ≡ upto (length hands) popped + sum_by (stolen_weight w) hands
  sum_taken = sum_upto (λ (v : DequeView). weigh_of w v) (map own_view news) (length hands) (λ k. popped k + stolen k) (length-map news own_view ∙ long)
      (λ k v h. (let here : k < length news = (let s = long in omega (arith, h, s)) in
      ends_taken hands p w k c e (get_or (map own_view news) k v) h (get_or-map own_view news k c v here ∙ ends_as hands mids news a l k c e h)))
      ∙ (upto_plus (length hands) popped stolen ∙ ap (λ (m : ℕ). upto (length hands) popped + m) (by_columns w e (length hands) hands (links_wide hands p)))

  sum_pushed : sum_by (λ (x : Account). weigh w x.pushed) (map account_of hands) ≡ upto (length hands) put
  sum_pushed = sum_upto (λ (x : Account). weigh w x.pushed) (map account_of hands) (length hands) put (length-map hands account_of)
      (λ k x h. ap (λ (y : Account). weigh w y.pushed) (get_or-map account_of hands k c x h))

  sum_accounts : sum_by (λ (x : Account). weigh w x.popped + weigh_all w x.stolen) (map account_of hands) ≡ upto (length hands) popped + sum_by (stolen_weight w) hands
  sum_accounts =
      let by_place : ℕ → ℕ = λ k. stolen_weight w (get_or hands k c) in
      sum_upto (λ (x : Account). weigh w x.popped + weigh_all w x.stolen) (map account_of hands) (length hands) (λ k. popped k + by_place k) (length-map hands account_of)
      (λ k x h. ap (λ (y : Account). weigh w y.popped + weigh_all w y.stolen) (get_or-map account_of hands k c x h))
      ∙ (upto_plus (length hands) popped by_place
      ∙ ap (λ (m : ℕ). upto (length hands) popped + m) (sym (sum_upto (stolen_weight w) hands (length hands) by_place refl (λ k d h. ap (stolen_weight w) (any k d h)))))

  bounded : All IsSettled news → sum_by (λ (v : DequeView). weigh_of w v) (map own_view news) ≤ sum_by (λ (v : DequeView). weigh w v.put) (map own_view news)
  bounded settled =
      let m : ℕ = length hands in
      let f : ℕ → ℕ = λ k. weigh_of w (own_view (get_or news k c)) in
      let g : ℕ → ℕ = λ k. weigh w (own_view (get_or news k c)).put in
      let small : (k : ℕ) → k < m → k < length news = λ k h. (let s = long in omega (arith, h, s)) in
      let one = sum_upto (λ (v : DequeView). weigh_of w v) (map own_view news) m f (length-map news own_view ∙ long) (λ k v h. ap (λ (u : DequeView). weigh_of w u) (get_or-map own_view news k c v (small k h))) in
      let two = sum_upto (λ (v : DequeView). weigh w v.put) (map own_view news) m g (length-map news own_view ∙ long) (λ k v h. ap (λ (u : DequeView). weigh w u.put) (get_or-map own_view news k c v (small k h))) in
      let three = upto_le m f g (λ k h. (settled k c (small k h)).bounded w) in
      omega (arith, one, two, three)

  pub balances : All IsSettled news → sum_by (λ (x : Account). weigh w x.popped + weigh_all w x.stolen) (map account_of hands)
      + (sum_by (λ (v : DequeView). weigh w v.put) (map own_view news) - sum_by (λ (v : DequeView). weigh_of w v) (map own_view news)) ≡ sum_by (λ (x : Account). weigh w x.pushed) (map account_of hands)
  balances settled = let less = bounded settled in let q = sum_put in let t = sum_taken in let r = sum_pushed in let u = sum_accounts in omega (arith, less, q, t, r, u)

-- an element that there is stands inside the row
inside_get : {X : Type 0} (xs : List X) (i : ℕ) (x : X) → slice_get xs i ≡ Some x → i < length xs
inside_get xs i x is = ⊎_elim (λ (t : (y : _) × (i < length xs) × (slice_get xs i ≡ Some y) × (get_or xs i y ≡ y)). t.1)
    (λ (t : (length xs ≤ i) × (slice_get xs i ≡ None)). let e : None ≡ Some x = sym t.1 ∙ is in absurd (cc)) (slice_get_cases xs i).1

-- the law of deque k, by what its owner knew and a column of others
law_of : (hands mids news : List Hand) → AllAbsorbed hands mids → AreLawful mids news → (k : ℕ) (d : Hand) (e : Link) → k < length hands
    → (let old = own_view (get_or hands k d) in IsSub old.taken old.put × AllSub (absorbed old (column e k hands)).joined old.put)
law_of hands mids news a l k d e h =
    let old : DequeView = own_view (get_or hands k d) in
    let all : DequeView = absorbed old (column e k hands) in
    let law = (l.1 k d (let s = a.0 in omega (arith, h, s))).law.1 in
    let is : own_view (get_or mids k d) ≡ all = a.1 k d e h in
    let put : (own_view (get_or mids k d)).put ≡ old.put = ap (λ (v : DequeView). v.put) is ∙ absorbed_put old (column e k hands) in
    let taken : (own_view (get_or mids k d)).taken ≡ old.taken = ap (λ (v : DequeView). v.taken) is ∙ absorbed_taken old (column e k hands) in (
      subst (λ (z : List ℕ × List ℕ). IsSub z.0 z.1) (λ i. (taken i, put i)) law.1,
      subst (λ (z : List (List ℕ) × List ℕ). AllSub z.0 z.1) (λ i. ((is i).joined, put i)) law.2,
    )

law_at : (hands mids news : List Hand) → IsPool hands → AllAbsorbed hands mids → AreLawful mids news → All IsSettled news → Hand → Link → PoolLaw (map account_of hands) (left_in (map own_view news))
law_at hands mids news p a l settled c e = record {
  balanced = λ x. balances hands mids news p a l (one_at x) c e settled;
  popped = λ k b h. (let low : k < length hands = (let s : length (map account_of hands) ≡ length hands = length-map hands account_of in omega (arith, h, s)) in
      subst (λ (y : Account). IsSub y.popped y.pushed) (sym (get_or-map account_of hands k c b low)) (law_of hands mids news a l k c e low).0);
  stolen = λ j k x y at_j at_k.
      (let s : length (map account_of hands) ≡ length hands = length-map hands account_of in
      let low_j : j < length hands = (let i = inside_get (map account_of hands) j x at_j in omega (arith, i, s)) in
      let low_k : k < length hands = (let i = inside_get (map account_of hands) k y at_k in omega (arith, i, s)) in
      let is_x : account_of (get_or hands j c) ≡ x = sym (get_or-map account_of hands j c x low_j) ∙ get_or_from_slice_get (map account_of hands) j x x at_j in
      let is_y : account_of (get_or hands k c) ≡ y = sym (get_or-map account_of hands k c y low_k) ∙ get_or_from_slice_get (map account_of hands) k y y at_k in
      let links : List Link = (get_or hands j c).links.items in
      let wide : k < length links = (let w = links_wide hands p j c low_j in omega (arith, w, low_k)) in
      let old : DequeView = own_view (get_or hands k c) in
      let part : IsSub (get_or (column e k hands) j old).taken old.put = absorbed_sub old (column e k hands) old.put j old (let w = length-column e k hands in omega (arith, w, low_j)) (law_of hands mids news a l k c e low_k).1 in
      let took : (get_or (column e k hands) j old).taken ≡ get_or (map taken_by links) k [] = ap (λ (v : DequeView). v.taken) (get_or-column e k hands j c old low_j) ∙ sym (get_or-map taken_by links k e [] wide) in
      subst (λ (z : Account × Account). IsSub (get_or z.0.stolen k []) z.1.pushed) (λ i. (is_x i, is_y i)) (subst (λ (z : List ℕ). IsSub z old.put) took part));
}

pub pool_law : (hands mids news : List Hand) → IsPool hands → AllAbsorbed hands mids → AreLawful mids news → All IsSettled news → PoolLaw (map account_of hands) (left_in (map own_view news))
pool_law [] mids [] p a l s = record {
  balanced = λ x. refl;
  popped = λ k d h. absurd (omega arith);
  stolen = λ j k x y at_j at_k. (let i = inside_get [] j x at_j in absurd (omega (arith, i)));
}
pool_law [] mids (x ∷ news) p a l s = (let c = a.0 in let d = l.0 in absurd (omega (arith, c, d)))
pool_law (h ∷ hs) mids news p a l s = law_at (h ∷ hs) mids news p a l s h (link_at (h ∷ hs) p 0 h (omega arith))
