-- The queue of two watched literals a clause: what is pending.
use Rattle.std.proofs.Common.{◌≡◌, ◌∙◌, ◌≢◌, ◌⊎◌, inl, inr, refl, sym, ap, subst, ℕ, ◌+◌, ◌<◌, ◌≤◌, List, [], ◌∷◌, ◌++◌, length, drop, set, get_or, Some, true, not, IsTrue, Vec, Global, arith}
use Rattle.std.specs.Prelude.{Contains, All, slice_get}
use Rattle.std.proofs.Math.ListN.{drop_of_length-le}
use Rattle.std.proofs.lemmas.Option.{slice_get_within, slice_get-get_or}
use Rattle.std.proofs.lemmas.List.Elements.{All-contains, All-push, All-weaker}
use Rattle.clause_search.specs.declared.literal.Variable.TheVariants.{Atom}
use Rattle.clause_search.specs.declared.literal.Literal.{Literal}
use Rattle.clause_search.specs.Encoding.{literal}
use Rattle.clause_search.specs.Clauses.{Cnf}
use Rattle.clause_search.specs.declared.table.Table.{Table}
use Rattle.clause_search.specs.declared.watches.Watches.{Watches}
use Rattle.clause_search.specs.Table.{opposite, value_at, value_for, stands, is_true, is_false, is_undecided, SetsOne}
use Rattle.clause_search.specs.Found.{IsSettledBy, SeesAll}
use Rattle.clause_search.specs.declared.clause.Found.{Found}
use Rattle.clause_search.specs.declared.clause.Found.TheVariants.{Settled, Unit as Single, Conflict}
use Rattle.clause_search.specs.Pairs.{IsGuarded, Keeps, Moves}
use Rattle.clause_search.specs.Lists.{list_at, code_of}
use Rattle.clause_search.specs.Watches.{IsPending, AllGuarded, HasLists, IsWatching, VisitsAll}
use Rattle.clause_search.proofs.Sets.{open_or_stands, open_stands_not, same_literal, not_not, sets_there, sets_only, sets_still}
use Rattle.clause_search.proofs.Watching.{same_number, later, get_append, get_last, rewatched, written}

none-in : (j : ℕ) → Contains [] j → ⊥
none-in j (k, h, e) = absurd (omega arith)

pub opposite_same : (m l : Literal) → opposite m ≡ opposite l → m ≡ l
opposite_same m l e = same_literal l m (ap (λ (k : Literal). k.variable) e) (sym (not_not m.positive) ∙ ap not (ap (λ (k : Literal). k.positive) e) ∙ not_not l.positive)

-- the literal whose opposite is at the head of the queue is false
pub known_false : (t : Table) (q : Literal) → IsTrue (is_true t q) → IsTrue (is_false t (opposite q))
known_false t q h = ap (stands (value_at t q.variable)) (not_not q.positive) ∙ h

pub opposite_twice : (q : Literal) → opposite (opposite q) ≡ q
opposite_twice q = same_literal q (opposite (opposite q)) refl (not_not q.positive)

some-equal : (x y : Literal) → Some x ≡ Some y → x ≡ y
some-equal x y e = cc

module _ (lists : Vec (Vec ℕ Global) Global) (atoms axes : ℕ) (queue : List Literal) (next at : ℕ) (l : Literal) (head : slice_get queue next ≡ Some (opposite l)) where
  at-head : (m : Literal) (place : ℕ) → slice_get queue place ≡ Some (opposite m) → place ≡ next → m ≡ l
  at-head m place q e = opposite_same m l (some-equal (opposite m) (opposite l) (sym q ∙ ap (slice_get queue) e ∙ head))

  -- after one clause of the list
  pub next_pending : (i : ℕ) → at < length (list_at lists (code_of atoms axes l)) → get_or (list_at lists (code_of atoms axes l)) at i ≡ i →
      (j : ℕ) (m : Literal) → (m ≡ l → j ≡ i → ⊥) → IsPending lists atoms axes queue next at j m → IsPending lists atoms axes queue next (at + 1) j m
  next_pending i h e j m other p = record {
    place = p.place;
    ahead = p.ahead;
    queued = p.queued;
    unseen = λ s. let same = at-head m p.place p.queued s in
        subst (λ (k : Literal). Contains (drop (at + 1) (list_at lists (code_of atoms axes k))) j) (sym same)
        (elim (later (list_at lists (code_of atoms axes l)) at i j h e (subst (λ (k : Literal). Contains (drop at (list_at lists (code_of atoms axes k))) j) same (p.unseen s))) [
          | inl f ↦ absurd (other same f)
          | inr q ↦ q
        ]);
  }

  -- after all clauses of the list
  pub done_pending : length (list_at lists (code_of atoms axes l)) ≤ at → (j : ℕ) (m : Literal) → Contains (list_at lists (code_of atoms axes m)) j → IsPending lists atoms axes queue next at j m → IsPending lists atoms axes queue (next + 1) 0 j m
  done_pending h j m listed p = elim (same_number p.place next) [
    | inl s ↦
        let same = at-head m p.place p.queued s in
        absurd (none-in j (subst (λ (xs : List ℕ). Contains xs j) (drop_of_length-le (list_at lists (code_of atoms axes l)) h)
        (subst (λ (k : Literal). Contains (drop at (list_at lists (code_of atoms axes k))) j) same (p.unseen s))))
    | inr d ↦ record { place = p.place; ahead = after next p.place p.ahead d; queued = p.queued; unseen = λ _. listed }
  ]
    where
      after : (n k : ℕ) → n ≤ k → k ≢ n → n + 1 ≤ k
      after n k a d = omega arith

-- a literal more in the queue
module _ (lists : Vec (Vec ℕ Global) Global) (atoms axes : ℕ) (queue : List Literal) (next at : ℕ) (l : Literal) where
  pub pushed_pending : (j : ℕ) (m : Literal) → IsPending lists atoms axes queue next at j m → IsPending lists atoms axes (queue ++ (l ∷ [])) next at j m
  pushed_pending j m p = record { place = p.place; ahead = p.ahead; queued = get_append queue (l ∷ []) p.place (opposite m) p.queued; unseen = p.unseen }

  pub new_pending : next ≤ length queue → (next ≡ length queue → at ≡ 0) → (j : ℕ) (m : Literal) → opposite m ≡ l → Contains (list_at lists (code_of atoms axes m)) j → IsPending lists atoms axes (queue ++ (l ∷ [])) next at j m
  new_pending h fresh j m e listed = record {
    place = length queue;
    ahead = h;
    queued = get_last queue l ∙ ap Some (sym e);
    unseen = λ s. subst (λ (n : ℕ). Contains (drop n (list_at lists (code_of atoms axes m))) j) (sym (fresh (sym s))) listed;
  }

-- ---- all clauses

module _ (c : Cnf) (w : Watches) (h : HasLists c w) where
  pub listed_in : (i : ℕ) (clause : List Literal) (m : Literal) → slice_get c.clauses i ≡ Some clause → Contains clause m → Contains (list_at w.lists (code_of w.atoms w.axes m)) i
  listed_in i clause m e p =
      subst (λ (n : ℕ). Contains (list_at w.lists (code_of n w.axes m)) i) (sym h.same_atoms)
      (subst (λ (n : ℕ). Contains (list_at w.lists (code_of c.atoms n m)) i) (sym h.same_axes)
      (All-contains (λ (k : Literal). Contains (list_at w.lists (code_of c.atoms c.axes k)) i) clause m (h.listed i clause e) p))

  -- the next literal of the queue is due
  pub next_literal : (values : Table) (l : Literal) → slice_get w.queue.items w.next ≡ Some (opposite l) → length (list_at w.lists (code_of w.atoms w.axes l)) ≤ w.at → (n : ℕ) →
      AllGuarded c values (IsPending w.lists w.atoms w.axes w.queue.items w.next w.at) w.first.items w.second.items n →
      AllGuarded c values (IsPending w.lists w.atoms w.axes w.queue.items (w.next + 1) 0) w.first.items w.second.items n
  next_literal values l head all n old i b clause x y e f s = let g = old i b clause x y e f s in record {
    first_in = g.first_in;
    second_in = g.second_in;
    first_guard = λ k. elim (g.first_guard k) [
      | inl p ↦ inl (done_pending w.lists w.atoms w.axes w.queue.items w.next w.at l head all i x (listed_in i clause x e g.first_in) p)
      | inr t ↦ inr t
    ];
    second_guard = λ k. elim (g.second_guard k) [
      | inl p ↦ inl (done_pending w.lists w.atoms w.axes w.queue.items w.next w.at l head all i y (listed_in i clause y e g.second_in) p)
      | inr t ↦ inr t
    ];
    differ = g.differ;
  }

  -- a literal was made true, and put into the queue
  module _ (t u : Table) (l : Literal) (sets : SetsOne t u l.variable (value_for l.positive)) (free : IsTrue (is_undecided t l.variable)) (watching : IsWatching c t w) where
    still-true : (m : Literal) → IsTrue (is_true t m) → IsTrue (is_true u m)
    still-true = sets_still t u l sets (λ k. open_stands_not (value_at t l.variable) (not l.positive) free k)

    side : (i : ℕ) (clause : List Literal) (x y : Literal) → slice_get c.clauses i ≡ Some clause → Contains clause x → (IsTrue (is_false t x) → IsPending w.lists w.atoms w.axes w.queue.items w.next w.at i x ⊎ IsTrue (is_true t y)) →
        IsTrue (is_false u x) → IsPending w.lists w.atoms w.axes (w.queue.items ++ (l ∷ [])) w.next w.at i x ⊎ IsTrue (is_true u y)
    side i clause x y e p g f = elim (sets_only t u l sets (opposite x) f) [
      | inl k ↦ elim (g k) [
        | inl q ↦ inl (pushed_pending w.lists w.atoms w.axes w.queue.items w.next w.at l i x q)
        | inr s ↦ inr (still-true y s)
      ]
      | inr k ↦ inl (new_pending w.lists w.atoms w.axes w.queue.items w.next w.at l watching.queue_ahead watching.fresh i x k (listed_in i clause x e p))
    ]

    pub pushed_guarded : AllGuarded c u (IsPending w.lists w.atoms w.axes (w.queue.items ++ (l ∷ [])) w.next w.at) w.first.items w.second.items w.started
    pushed_guarded i b clause x y e f s = let g = watching.guarded i b clause x y e f s in record {
      first_in = g.first_in;
      second_in = g.second_in;
      first_guard = side i clause x y e g.first_in g.first_guard;
      second_guard = side i clause y x e g.second_in g.second_guard;
      differ = elim g.differ [ inl n ↦ inl n | inr b ↦ inr (still-true x b.0, still-true y b.1) ];
    }

    pub pushed_true : All (λ (m : Literal). IsTrue (is_true u m)) (w.queue.items ++ (l ∷ []))
    pushed_true = All-push (λ (m : Literal). IsTrue (is_true u m)) w.queue.items l (All-weaker (λ (m : Literal). IsTrue (is_true t m)) (λ (m : Literal). IsTrue (is_true u m)) still-true w.queue.items watching.queued_true) (sets_there t u l sets)

-- ---- at rest

nothing-pending : (lists : Vec (Vec ℕ Global) Global) (atoms axes : ℕ) (queue : List Literal) (next at i : ℕ) (m : Literal) → length queue ≤ next → IsPending lists atoms axes queue next at i m → ⊥
nothing-pending lists atoms axes queue next at i m h p = let l : p.place < length queue = slice_get_within queue p.place (opposite m) p.queued in absurd (omega (arith, p.ahead))

module _ (values : Table) (pending : Literal → Type 0) (none : (m : Literal) → pending m → ⊥) (clause : List Literal) (x y : Literal) (g : IsGuarded values pending clause x y) where
  one-open : (a b : Literal) → (IsTrue (is_false values a) → pending a ⊎ IsTrue (is_true values b)) → IsTrue (is_true values a) ⊎ (IsTrue (is_true values b) ⊎ IsTrue (is_undecided values a.variable))
  one-open a b h = elim (open_or_stands (value_at values a.variable) a.positive) [
    | inl t ↦ inl t
    | inr r ↦ elim r [
      | inl f ↦ elim (h f) [ inl p ↦ absurd (none a p) | inr t ↦ inr (inl t) ]
      | inr o ↦ inr (inr o)
    ]
  ]

  two : IsTrue (is_undecided values x.variable) → IsTrue (is_true values x) ⊎ (IsTrue (is_true values y) ⊎ IsTrue (is_undecided values y.variable)) → IsSettledBy values clause
  two o (inl t) = inl (x, g.first_in, t)
  two o (inr (inl t)) = inl (y, g.second_in, t)
  two o (inr (inr p)) = elim g.differ [
    | inl n ↦ inr (x, y, g.first_in, g.second_in, n, o, p)
    | inr b ↦ inl (x, g.first_in, b.0)
  ]

  turned : IsTrue (is_true values y) ⊎ (IsTrue (is_true values x) ⊎ IsTrue (is_undecided values y.variable)) → IsTrue (is_true values x) ⊎ (IsTrue (is_true values y) ⊎ IsTrue (is_undecided values y.variable))
  turned (inl t) = inr (inl t)
  turned (inr (inl t)) = inl t
  turned (inr (inr o)) = inr (inr o)

  settles : IsTrue (is_true values x) ⊎ (IsTrue (is_true values y) ⊎ IsTrue (is_undecided values x.variable)) → IsSettledBy values clause
  settles (inl t) = inl (x, g.first_in, t)
  settles (inr (inl t)) = inl (y, g.second_in, t)
  settles (inr (inr o)) = two o (turned (one-open y x g.second_guard))

  pub settled_pair : IsSettledBy values clause
  settled_pair = settles (one-open x y g.first_guard)

abbrev blank : Literal
blank = literal (Atom 0) true

-- where nothing is pending, each clause is settled
pub all_settled : (c : Cnf) (values : Table) (w : Watches) → IsWatching c values w → w.started ≡ length c.clauses → length w.queue.items ≤ w.next → All (IsSettledBy values) c.clauses
all_settled c values w h all done i d l =
    let first : i < length w.first.items = omega (arith, h.lists_hold.firsts, w.first.ok.0) in
    let second : i < length w.second.items = omega (arith, h.lists_hold.seconds, w.second.ok.0) in
    let within : i < w.started = omega arith in
    let pending = IsPending w.lists w.atoms w.axes w.queue.items w.next w.at in
    let x = get_or w.first.items i blank in let y = get_or w.second.items i blank in
    settled_pair values (pending i) (λ m p. nothing-pending w.lists w.atoms w.axes w.queue.items w.next w.at i m done p) (get_or c.clauses i d) x y
    (h.guarded i within (get_or c.clauses i d) x y (slice_get-get_or c.clauses i d l) (slice_get-get_or w.first.items i blank first) (slice_get-get_or w.second.items i blank second))

-- ---- a visit

pub read : (xs : List Literal) (i : ℕ) (x : Literal) → i < length xs → x ≡ get_or xs i x → slice_get xs i ≡ Some x
read xs i x h e = slice_get-get_or xs i x h ∙ ap Some (sym e)

-- the watched literals that are read are guarded
pub guarded_here : (c : Cnf) (values : Table) (w : Watches) → IsWatching c values w → (i : ℕ) (clause : List Literal) (x y : Literal) → i < w.started → slice_get c.clauses i ≡ Some clause → x ≡ get_or w.first.items i x → y ≡ get_or w.second.items i y →
    IsGuarded values (IsPending w.lists w.atoms w.axes w.queue.items w.next w.at i) clause x y
guarded_here c values w h i clause x y l e f s =
    let first : i < length w.first.items = omega (arith, h.few, h.lists_hold.firsts, w.first.ok.0) in
    let second : i < length w.second.items = omega (arith, h.few, h.lists_hold.seconds, w.second.ok.0) in
    h.guarded i l clause x y e (read w.first.items i x first f) (read w.second.items i y second s)

module _ (c : Cnf) (values : Table) (w : Watches) (h : IsWatching c values w) (l : Literal) (head : slice_get w.queue.items w.next ≡ Some (opposite l)) (more : w.at < length (list_at w.lists (code_of w.atoms w.axes l))) (k i : ℕ) (code : k ≡ code_of w.atoms w.axes l) (entry : get_or (list_at w.lists k) w.at i ≡ i) where
  entry-is : get_or (list_at w.lists (code_of w.atoms w.axes l)) w.at i ≡ i
  entry-is = subst (λ (n : ℕ). get_or (list_at w.lists n) w.at i ≡ i) code entry

  step-on : (j : ℕ) (m : Literal) → (m ≡ l → j ≡ i → ⊥) → IsPending w.lists w.atoms w.axes w.queue.items w.next w.at j m → IsPending w.lists w.atoms w.axes w.queue.items w.next (w.at + 1) j m
  step-on = next_pending w.lists w.atoms w.axes w.queue.items w.next w.at l head i more entry-is

  -- a clause that is not looked at yet
  pub skipped : w.started ≤ i → AllGuarded c values (IsPending w.lists w.atoms w.axes w.queue.items w.next (w.at + 1)) w.first.items w.second.items w.started
  skipped late j b clause x y e f s = let g = h.guarded j b clause x y e f s in record {
    first_in = g.first_in;
    second_in = g.second_in;
    first_guard = λ n. elim (g.first_guard n) [ inl p ↦ inl (step-on j x (λ _ same. later-one j b same) p) | inr t ↦ inr t ];
    second_guard = λ n. elim (g.second_guard n) [ inl p ↦ inl (step-on j y (λ _ same. later-one j b same) p) | inr t ↦ inr t ];
    differ = g.differ;
  }
    where
      later-one : (j : ℕ) → j < w.started → j ≡ i → ⊥
      later-one j b same = absurd (omega arith)

  pub visited : IsTrue (is_false values l) → (clause : List Literal) (x y x' y' : Literal) → i < w.started → slice_get c.clauses i ≡ Some clause → x ≡ get_or w.first.items i x → y ≡ get_or w.second.items i y →
      Keeps values l x y x' y' ⊎ (Moves values clause l x y x' y' ⊎ Moves values clause l y x y' x') →
      AllGuarded c values (IsPending w.lists w.atoms w.axes w.queue.items w.next (w.at + 1)) (set w.first.items i x') (set w.second.items i y') w.started
  visited known clause x y x' y' b e f s says =
      let g = guarded_here c values w h i clause x y b e f s in
      let before = IsPending w.lists w.atoms w.axes w.queue.items w.next w.at in
      let after = IsPending w.lists w.atoms w.axes w.queue.items w.next (w.at + 1) in
      written c values before after w.first.items w.second.items w.started i clause x' y' e
      (rewatched values (before i) (after i) clause l known (λ m n p. step-on i m (λ same _. n same) p) x y x' y' g says)
      (λ j n m p. step-on j m (λ _ same. n same) p) w.started (λ j b _. b) h.guarded

  pub not_fresh : w.next ≡ length w.queue.items → ⊥
  not_fresh e = let inside : w.next < length w.queue.items = slice_get_within w.queue.items w.next (opposite l) head in absurd (omega arith)

-- ---- all literals of the queue

pub head_is : (queue : List Literal) (next : ℕ) (q l : Literal) → next < length queue → q ≡ get_or queue next q → l ≡ opposite q → slice_get queue next ≡ Some (opposite l)
head_is queue next q l h e f = read queue next q h e ∙ ap Some (sym (opposite_twice q) ∙ ap opposite (sym f))

pub same_head : (xs ys : List Literal) (m n : ℕ) (l : Literal) → ys ≡ xs → n ≡ m → slice_get xs m ≡ Some (opposite l) → slice_get ys n ≡ Some (opposite l)
same_head xs ys m n l e f h = ap (λ (zs : List Literal). slice_get zs n) e ∙ ap (slice_get xs) f ∙ h

pub sees : (c : Cnf) (values : Table) (w : Watches) (r : Found) → IsWatching c values w → VisitsAll c values w r → SeesAll c values r
sees c values w Settled h s = all_settled c values w h s.all_started s.none_due
sees c values w (Single l) h s = s
sees c values w Conflict h s = s
