-- Looks at one deque after the other.
use Rattle.std.proofs.Common.{Option, Some, None, MatchOption, ◌≡◌, ◌≢◌, ℕ, ◌+◌, ◌<◌, ◌≤◌, List, [], ◌∷◌, ◌++◌, length, set, get_or, refl, sym, ap, ◌∙◌, subst, arith, ⊎_elim, length-set, get_or-set_other, get_or-set_same}
use Rattle.std.proofs.lemmas.Bool.{cases_lt}
use Rattle.crossbeam_deque.specs.Handles.{view, stealer_deque}
use Rattle.steal_pool.specs.declared.deque.Link.{Link}
use Rattle.steal_pool.specs.declared.rule.DequeView.{DequeView}
use Rattle.steal_pool.specs.Links.{Alike, AllAlike, LookedInVain, AllLookedInVain, Took, Steals}
use Rattle.steal_pool.proofs.Rows.{get_or-any}

abbrev more : DequeView → ℕ → DequeView
more v x = record v { taken = v.taken ++ x ∷ [] }

pub alike_refl : (l : Link) → Alike l l
alike_refl l = (refl, refl, omega arith)

pub alike_then : (l m n : Link) → Alike l m → Alike m n → Alike l n
alike_then l m n a b = (b.0 ∙ a.0, b.1 ∙ a.1, (let x = a.2 in let y = b.2 in omega (arith, x, y)))

pub alike_is : (l m : Link) → m ≡ l → Alike l m
alike_is l m e = subst (λ (x : Link). Alike l x) (sym e) (alike_refl l)

-- in vain before or after looks that took nothing
pub vain_then : (l m n : Link) → LookedInVain l m → n ≡ m → LookedInVain l n
vain_then l m n v e = subst (λ (x : Link). LookedInVain l x) (sym e) v

pub then_vain : (l m n : Link) → Alike l m → LookedInVain m n → LookedInVain l n
then_vain l m n a v = (alike_then l m n a v.0, (let x = a.2 in let y = v.1 in omega (arith, x, y)), v.2)

pub all_alike : (ls ms : List Link) (a b : ℕ) → AllLookedInVain ls ms a b → AllAlike ls ms
all_alike ls ms a b r = (
  r.same,
  λ j d h. ⊎_elim
      (λ (low : j < a). alike_is (get_or ls j d) (get_or ms j d) (r.before j d low))
      (λ (high : a ≤ j). ⊎_elim (λ (in_range : j < b). (r.within j d high in_range).0) (λ (out : b ≤ j). alike_is (get_or ls j d) (get_or ms j d) (r.behind j d out)) (cases_lt j b))
      (cases_lt j a),
)

-- a row of looks goes on behind its end, or before its beginning
pub goes_on : (ls ms ns : List Link) (a b c : ℕ) → a ≤ b → b ≤ c → AllLookedInVain ls ms a b → AllLookedInVain ms ns b c → AllLookedInVain ls ns a c
goes_on ls ms ns a b c low high r s = record {
  same = s.same ∙ r.same;
  within = λ j d h k. ⊎_elim
      (λ (in_first : j < b). vain_then (get_or ls j d) (get_or ms j d) (get_or ns j d) (r.within j d h in_first) (s.before j d in_first))
      (λ (out : b ≤ j). then_vain (get_or ls j d) (get_or ms j d) (get_or ns j d) (alike_is (get_or ls j d) (get_or ms j d) (r.behind j d out)) (s.within j d out k))
      (cases_lt j b);
  before = λ j d h. s.before j d (omega arith) ∙ r.before j d h;
  behind = λ j d h. s.behind j d h ∙ r.behind j d (omega arith);
}

pub goes_before : (ls ms ns : List Link) (a b c : ℕ) → a ≤ b → b ≤ c → AllLookedInVain ls ms b c → AllLookedInVain ms ns a b → AllLookedInVain ls ns a c
goes_before ls ms ns a b c low high r s = record {
  same = s.same ∙ r.same;
  within = λ j d h k. ⊎_elim
      (λ (in_second : j < b). then_vain (get_or ls j d) (get_or ms j d) (get_or ns j d) (alike_is (get_or ls j d) (get_or ms j d) (r.before j d in_second)) (s.within j d h in_second))
      (λ (out : b ≤ j). vain_then (get_or ls j d) (get_or ms j d) (get_or ns j d) (r.within j d out k) (s.behind j d out))
      (cases_lt j b);
  before = λ j d h. s.before j d h ∙ r.before j d (omega arith);
  behind = λ j d h. s.behind j d (omega arith) ∙ r.behind j d h;
}

-- an id is stolen after looks in vain
pub then_steals : (ls ms ns : List Link) (x : ℕ) → AllAlike ls ms → Steals ms ns x → Steals ls ns x
then_steals ls ms ns x a s = (
  s.0,
  record {
    same = s.1.same ∙ a.0;
    inside = (let h = s.1.inside in let e = a.0 in omega (arith, h, e));
    here = λ d. (let t = s.1.here d in let u = a.1 s.0 d (let h = s.1.inside in let e = a.0 in omega (arith, h, e)) in
        (t.0 ∙ u.0, t.1 ∙ ap (λ (v : DequeView). more v x) u.1));
    others = λ j d h ne. alike_then (get_or ls j d) (get_or ms j d) (get_or ns j d) (a.1 j d h) (s.1.others j d (let e = a.0 in omega (arith, h, e)) ne);
  },
)

-- one link is written
pub took_at : (ls now : List Link) (k x : ℕ) (r m : Link) → length now ≡ length ls → k < length ls → ((d : Link) → Alike (get_or ls k d) (get_or now k d)) → ((j : ℕ) (d : Link) → j ≢ k → get_or now j d ≡ get_or ls j d)
    → Took x (get_or now k r) m → Steals ls (set now k m) x
took_at ls now k x r m len inside here others took = (
  k,
  record {
    same = length-set now k m ∙ len;
    inside = inside;
    here = λ d. (let e = get_or-set_same now k m d (omega arith) in let a = here d in let any = get_or-any now k r d (omega arith) in
        subst (λ (y : Link). Took x (get_or ls k d) y) (sym e)
        (took.0 ∙ (ap (λ (y : Link). stealer_deque y.stealer) any ∙ a.0), took.1 ∙ ap (λ (v : DequeView). more v x) (ap (λ (y : Link). view y.pass) any ∙ a.1)));
    others = λ j d h ne. alike_is (get_or ls j d) (get_or (set now k m) j d) (get_or-set_other now k j m d ne ∙ others j d ne);
  },
)

pub vain_at : (ls now : List Link) (k : ℕ) (r m : Link) → length now ≡ length ls → k < length ls → ((d : Link) → Alike (get_or ls k d) (get_or now k d)) → ((j : ℕ) (d : Link) → j ≢ k → get_or now j d ≡ get_or ls j d)
    → LookedInVain (get_or now k r) m → AllLookedInVain ls (set now k m) k (k + 1)
vain_at ls now k r m len inside here others vain = record {
  same = length-set now k m ∙ len;
  within = λ j d low high. (let e : k ≡ j = omega arith in subst (λ (i : ℕ). LookedInVain (get_or ls i d) (get_or (set now k m) i d)) e
      (subst (λ (y : Link). LookedInVain (get_or ls k d) y) (sym (get_or-set_same now k m d (omega arith)))
      (then_vain (get_or ls k d) (get_or now k d) m (here d) (subst (λ (y : Link). LookedInVain y m) (get_or-any now k r d (omega arith)) vain))));
  before = λ j d h. (let ne : j ≢ k = (λ e. omega arith) in get_or-set_other now k j m d ne ∙ others j d ne);
  behind = λ j d h. (let ne : j ≢ k = (λ e. omega arith) in get_or-set_other now k j m d ne ∙ others j d ne);
}

-- a look that took nothing
pub looked_at : (now : List Link) (k : ℕ) (r m : Link) (ls : List Link) → k < length now → ((d : Link) → Alike (get_or ls k d) (get_or now k d)) → Alike (get_or now k r) m → (d : Link) → Alike (get_or ls k d) (get_or (set now k m) k d)
looked_at now k r m ls inside here a d = subst (λ (y : Link). Alike (get_or ls k d) y) (sym (get_or-set_same now k m d inside))
    (alike_then (get_or ls k d) (get_or now k d) m (here d) (subst (λ (y : Link). Alike y m) (get_or-any now k r d inside) a))

-- a row of looks from a start on, and then one before it
pub around : (o : Option ℕ) (ls ms ns : List Link) (s n : ℕ) → s ≤ n → AllLookedInVain ls ms s n → MatchOption o (AllLookedInVain ms ns 0 s) (λ x. Steals ms ns x) → MatchOption o (AllLookedInVain ls ns 0 n) (λ x. Steals ls ns x)
around None ls ms ns s n low r t = goes_before ls ms ns 0 s n (omega arith) low r t
around (Some x) ls ms ns s n low r t = then_steals ls ms ns x (all_alike ls ms s n r) t
