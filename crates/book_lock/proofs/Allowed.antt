-- Each step keeps the rule.
use Rattle.std.proofs.Common.{◌≡◌, ◌≢◌, ◌⊎◌, ℕ, zero, suc, ◌+◌, ◌<◌, ◌≤◌, true, false, List, [], ◌∷◌, ◌++◌, length, set, get_or, eqb, ne_eqb, refl, sym, ap, ◌∙◌, subst, inl, inr, ⊎_elim, arith, le_refl, Option, Some, length-set, length-append, get_or-set_same}
use mathlib.Core.Logic.{dite}
use mathlib.Core.Option.{some, none, some-injective, some-ne-none}
use native.Mathlib.Decide.{ℕ_discrete, dec_le}
use lib.ListN.{get_elem?}
use prog.Atomic.{either}
use lib.Seq.{set-get_or}
use Rattle.atomic_table.specs.Table.{State, Me, step, keeps, takes, gives, stepped, Allows, Splits, Joins, opening, Final, Seen}
use Rattle.atomic_table.proofs.Lists.{at_set, set_here, set_else, set_again, at_last}
use Rattle.book_lock.specs.declared.views.Entry.{Entry}
use Rattle.book_lock.specs.declared.views.JoinedSeat.{JoinedSeat}
use Rattle.book_lock.specs.declared.views.Stage.{Stage}
use Rattle.book_lock.specs.declared.views.Stage.TheVariants.{Idle, Turn}
use Rattle.book_lock.specs.declared.views.SeatView.{SeatView}
use Rattle.book_lock.specs.History.{entry, calls_by, IsHistory, IsLegal}
use Rattle.book_lock.specs.Rule.{IsTurn, IsStageOf, parts_of, IsJoinedNumber, IsSpent, ArePairs, IsAccount, IsViewAt, IsOut, IsFree, IsTaken, HasKeeper, LockInvariant, first_view, left_view, new_view, HaveCalls, IsClosing, joined_view, spent_view}
use Rattle.book_lock.specs.SlotSteps.{IsInSlot, IsTurnOf, take_step, IsCallOf, end_step, number_step, match_step}
use Rattle.book_lock.proofs.Rows.{total_set, total_snoc, at_front, at_end, calls_front, shorter_front, longer_in, names_left, names_right, total_two, below_length, prefix_refl, prefix_more, prefix_trans, calls_by-mine, calls_by-other, leaves_snoc, legal_last}

-- a turn that is taken only where it is free
pub taken_if_free : (n : ℕ) → 0 < either (eqb n 0) 1 n
taken_if_free zero = omega arith
taken_if_free (suc n) = subst (λ b. 0 < either b 1 (suc n)) (sym (ne_eqb (suc n) 0 (λ e. omega arith))) (omega arith)

module _ {O : Type 0} where
  turn_of : (st : Stage O) (b : O) → st ≡ Turn b → IsTurn st
  turn_of st b is = subst IsTurn (sym is) tt

  no_turn : (st : Stage O) → st ≡ Idle → ¬ IsTurn st
  no_turn st idle h = subst IsTurn idle h

  -- nothing is said of an object where the seat has no turn
  any_now : (now now' : O) (st : Stage O) → ¬ IsTurn st → IsStageOf now st → IsStageOf now' st
  any_now now now' Idle idle k = tt
  any_now now now' (Turn b) idle k = absurd (idle tt)

module _ {O C R : Type 0} where
  -- what a set list of views says of a place
  pub set_cases : (P : ℕ → SeatView O C R → Type 0) (vs : List (SeatView O C R)) (id : ℕ) (w : SeatView O C R) → P id w → ((j : ℕ) (u : SeatView O C R) → j ≢ id → get_elem? vs j ≡ some u → P j u)
      → (j : ℕ) (u : SeatView O C R) → get_elem? (set vs id w) j ≡ some u → P j u
  set_cases P vs id w mine others j u e = ⊎_elim (λ (t : (j ≡ id) × (w ≡ u)). subst (λ (x : ℕ × SeatView O C R). P x.0 x.1) (λ i. (sym t.0 i, t.1 i)) mine)
      (λ (t : (j ≢ id) × (get_elem? vs j ≡ some u)). others j u t.0 t.1) (at_set vs id j w u e)

  same_view : (vs : List (SeatView O C R)) (j : ℕ) (v u : SeatView O C R) → get_elem? vs j ≡ some v → get_elem? vs j ≡ some u → v ≡ u
  same_view vs j v u a b = some-injective v u (sym a ∙ b)

  -- a seat's parts stay: who was spent is spent
  spent_stays : (vs : List (SeatView O C R)) (id : ℕ) (v w : SeatView O C R) (n : ℕ) → get_elem? vs id ≡ some v → w.parts ≡ v.parts → IsSpent vs n → IsSpent (set vs id w) n
  spent_stays vs id v w n at same h u e = ⊎_elim (λ (t : (n ≡ id) × (w ≡ u)). ap parts_of (sym t.1) ∙ (same ∙ h v (subst (λ (k : ℕ). get_elem? vs k ≡ some v) (sym t.0) at)))
      (λ (t : (n ≢ id) × (get_elem? vs n ≡ some u)). h u t.1) (at_set vs id n w u e)

  pairs_stay : (log : List (Entry C R)) (vs : List (SeatView O C R)) (id : ℕ) (v w : SeatView O C R) → get_elem? vs id ≡ some v → w.parts ≡ v.parts → (ps : List (JoinedSeat C R)) → ArePairs log vs ps → ArePairs log (set vs id w) ps
  pairs_stay log vs id v w at same [] h = tt
  pairs_stay log vs id v w at same (p ∷ ps) h = (subst (λ (n : ℕ). p.number < n) (sym (length-set vs id w)) h.0, h.1, spent_stays vs id v w p.number at same h.2, pairs_stay log vs id v w at same ps h.3)

  -- nobody in use has a pair's number, so its calls stay when a seat in use makes one
  pairs_more : (log : List (Entry C R)) (vs : List (SeatView O C R)) (id : ℕ) (v : SeatView O C R) (c : C) (r : R) → get_elem? vs id ≡ some v → 0 < v.parts → (ps : List (JoinedSeat C R)) → ArePairs log vs ps → ArePairs (log ++ entry id c r ∷ []) vs ps
  pairs_more log vs id v c r at some_part [] h = tt
  pairs_more log vs id v c r at some_part (p ∷ ps) h = (
    h.0,
    calls_by-other p.number id log c r (λ e. let z : v.parts ≡ 0 = h.2 v (subst (λ (k : ℕ). get_elem? vs k ≡ some v) e at) in omega arith) ∙ h.1,
    h.2,
    pairs_more log vs id v c r at some_part ps h.3,
  )

module _ {O C R : Type 0} (meets : O → C → Type 0) (steps : O → C → R → O → Type 0) (first : O) (all : ℕ) where
  abbrev St : Type 0
  St = State (Option O) (SeatView O C R)

  abbrev M : Type 0
  M = Me (Option O) (SeatView O C R)

  abbrev Rule : St → Type 0
  Rule = LockInvariant meets steps first all

  keeper_stays : (vs : List (SeatView O C R)) (id : ℕ) (v w : SeatView O C R) (n : ℕ) → get_elem? vs id ≡ some v → w.parts ≡ v.parts → w.joined ≡ v.joined → HasKeeper vs n → HasKeeper (set vs id w) n
  keeper_stays vs id v w n at same pairs k = dite (ℕ_discrete k.0 id)
      (λ e. let is : v ≡ k.1 = same_view vs id v k.1 at (subst (λ (z : ℕ). get_elem? vs z ≡ some k.1) e k.2) in (
        id,
        w,
        set_here vs id w (below_length vs id v at),
        subst (λ (z : ℕ). 0 < z) (ap parts_of (sym is) ∙ sym same) k.3,
        subst (λ (z : ℕ × List (JoinedSeat C R)). (n ≡ z.0) ⊎ IsJoinedNumber n z.1) (λ i. (e i, (ap (λ (u : SeatView O C R). u.joined) (sym is) ∙ sym pairs) i)) k.4,
      ))
      (λ ne. (k.0, k.1, set_else vs id k.0 w ne ∙ k.2, k.3, k.4))

  -- what a seat knows stays when another's stage changes
  knows_stays : (vs : List (SeatView O C R)) (log : List (Entry C R)) (now : O) (id : ℕ) (v w : SeatView O C R) → get_elem? vs id ≡ some v → w.parts ≡ v.parts → (j : ℕ) (u : SeatView O C R) → IsViewAt first log now vs j u → IsViewAt first log now (set vs id w) j u
  knows_stays vs log now id v w at same j u k = record {
    used = k.used;
    stage = k.stage;
    fits = λ p. let f = k.fits p in record {
      origin = f.origin;
      seen = f.seen;
      beside = f.beside;
      mine = f.mine;
      pairs = pairs_stay log vs id v w at same u.joined f.pairs;
      named = f.named;
      unnamed = f.unnamed;
    };
  }

  abbrev staged : SeatView O C R → Stage O → SeatView O C R
  staged v st = record v { stage = st }

  -- a free turn is taken, and the object comes out of the slot
  takes_out : (s : St) (r : Rule s) (id n : ℕ) (v : SeatView O C R) (x : Option O) → get_elem? s.views id ≡ some v → v.stage ≡ Idle → 0 < v.parts → 0 < n → ((j : ℕ) (u : SeatView O C R) → get_elem? s.views j ≡ some u → ¬ IsTurn u.stage)
      → Rule (stepped s 0 n id [] (staged v (Turn r.now)) (takes 0 x))
  takes_out s r id n v x at idle some_part taken nobody_else =
      let w : SeatView O C R = staged v (Turn r.now) in
      let before = r.each id v at in
      let wide = r.wide in
      record {
        log = r.log;
        now = r.now;
        legal = r.legal;
        wide = length-set s.words 0 n ∙ wide;
        deep = length-set s.homes 0 none ∙ r.deep;
        shared = (let q = total_set parts_of s.views id v w at in let a = r.shared in omega (arith, q));
        each = set_cases (λ j u. IsViewAt first r.log r.now (set s.views id w) j u) s.views id w
            (record {
              used = λ _. some_part;
              stage = refl;
              fits = λ p. (let f = before.fits p in record {
                origin = f.origin;
                seen = f.seen;
                beside = f.beside;
                mine = f.mine;
                pairs = pairs_stay r.log s.views id v w at refl v.joined f.pairs;
                named = f.named;
                unnamed = f.unnamed;
              });
            })
            (λ j u other e. knows_stays s.views r.log r.now id v w at refl j u (r.each j u e));
        apart = λ j k x y a b c d.
            set_cases (λ j x. (k : ℕ) (y : SeatView O C R) → get_elem? (set s.views id w) k ≡ some y → IsTurn x.stage → IsTurn y.stage → j ≡ k) s.views id w
            (set_cases (λ k y. IsTurn w.stage → IsTurn y.stage → id ≡ k) s.views id w (λ _ _. refl) (λ k y other e c d. absurd (nobody_else k y e d)))
            (λ j x other e k y b c d. absurd (nobody_else j x e c))
            j x a k y b c d;
        home = inr (
          subst (λ (z : ℕ). 0 < z) (sym (get_or-set_same s.words 0 n 0 (omega arith))) taken,
          (id, w, set_here s.views id w (below_length s.views id v at), tt),
        );
        keeper = λ n l. keeper_stays s.views id v w n at refl refl (r.keeper n (subst (λ (z : ℕ). n < z) (length-set s.views id w) l));
        nobody = λ n l. r.nobody n (subst (λ (z : ℕ). z ≤ n) (length-set s.views id w) l);
      }

  -- a turn that another seat has stays taken
  stays_taken : (s : St) (r : Rule s) (id n : ℕ) (v : SeatView O C R) (cs : List (ℕ × Option O)) → get_elem? s.views id ≡ some v → 0 < n → IsOut s.views → Rule (stepped s 0 n id cs v keeps)
  stays_taken s r id n v cs at taken out =
      let wide = r.wide in
      subst (λ (vs : List (SeatView O C R)). Rule record { words = set s.words 0 n; homes = s.homes; views = vs }) (sym (set_again s.views id v at)) record {
        log = r.log;
        now = r.now;
        legal = r.legal;
        wide = length-set s.words 0 n ∙ wide;
        deep = r.deep;
        shared = r.shared;
        each = r.each;
        apart = r.apart;
        home = inr (subst (λ (z : ℕ). 0 < z) (sym (get_or-set_same s.words 0 n 0 (omega arith))) taken, out);
        keeper = r.keeper;
        nobody = r.nobody;
      }

  -- the word becomes what is not 0, and the seat takes the turn if it was 0
  pub take_allowed : (slots id : ℕ) (me : M) (a b : ℕ) (f : ℕ → ℕ) → ((n : ℕ) → 0 < f n) → me.0.stage ≡ Idle → me.1 ≡ [] → 0 < me.0.parts → Allows Rule slots id me 0 f (take_step meets steps (step slots 0 a b none) me)
  take_allowed slots id me a b f taken idle none_held some_part s r deep at small =
      let v : SeatView O C R = me.0 in
      let found : ℕ = get_or s.words 0 0 in
      let fit = (r.each id v at).fits some_part in
      ⊎_elim
      (λ (h : IsFree r.now s).
      let w : SeatView O C R = staged v (Turn r.now) in (
        w,
        takes 0 (Some r.now),
        h.1.1 ∙ ap (λ (z : Option O). some (some z)) h.1.2,
        subst (λ (cs : List (ℕ × Option O)). Rule (stepped s 0 (f found) id cs w (takes 0 (Some r.now)))) (sym none_held) (takes_out s r id (f found) v (Some r.now) at idle some_part (taken found) h.1.3),
        ((λ _. (r.now, refl, λ o is. (r.log, subst (λ (z : O). IsHistory meets steps z r.log r.now) (origin_is o (sym fit.origin ∙ is)) r.legal))), λ more. absurd (let z = h.0 in omega arith)),
      ))
      (λ (h : IsTaken s). (
        v,
        keeps,
        tt,
        stays_taken s r id (f found) v me.1 at (taken found) h.1,
        ((λ is. absurd (let z = h.0 in omega arith)), λ _. refl),
      ))
      r.home
    where
      origin_is : (f : O) → Some first ≡ Some f → first ≡ f
      origin_is f e = cc

  abbrev after_call : SeatView O C R → List (Entry C R) → Entry C R → SeatView O C R
  after_call v log e = record v { stage = Idle; seen = log ++ e ∷ []; mine = v.mine ++ e ∷ [] }

  abbrev carried_or : Option O → List (ℕ × Option O) → Option O
  carried_or d [] = d
  carried_or d (y ∷ ys) = y.1

  own_calls : (log : List (Entry C R)) (id : ℕ) (v : SeatView O C R) (c : C) (a : R) → v.number ≡ id → calls_by id log ≡ v.mine → calls_by id (log ++ entry v.number c a ∷ []) ≡ v.mine ++ entry v.number c a ∷ []
  own_calls log id v c a number mine = subst (λ (n : ℕ). calls_by n (log ++ entry v.number c a ∷ []) ≡ v.mine ++ entry v.number c a ∷ []) number
      (calls_by-mine v.number log c a ∙ ap (λ l. l ++ entry v.number c a ∷ []) (subst (λ (n : ℕ). calls_by n log ≡ v.mine) (sym number) mine))

  legal_after : (s : St) (r : Rule s) (b b' : O) (n : ℕ) (c : C) (a : R) → b ≡ r.now → meets b c → steps b c a b' → IsHistory meets steps first (r.log ++ entry n c a ∷ []) b'
  legal_after s r b b' n c a here may did = leaves_snoc meets steps first r.now r.log n c a b' r.legal (subst (λ (z : O). meets z c) here may) (subst (λ (z : O). steps z c a b') here did)

  -- the turn ends: the call joins the history, and the object goes back
  puts_back : (s : St) (r : Rule s) (id : ℕ) (v : SeatView O C R) (b b' : O) (x : Option O) (c : C) (a : R) → get_elem? s.views id ≡ some v → v.stage ≡ Turn b → v.named ≡ true → x ≡ Some b' → meets b c → steps b c a b'
      → Rule (stepped s 0 0 id ((0, x) ∷ []) (after_call v r.log (entry v.number c a)) gives)
  puts_back s r id v b b' x c a at is named inside may did =
      let e : Entry C R = entry v.number c a in
      let log' : List (Entry C R) = r.log ++ e ∷ [] in
      let w : SeatView O C R = after_call v r.log e in
      let before = r.each id v at in
      let here : b ≡ r.now = subst (IsStageOf r.now) is before.stage in
      let turn : IsTurn v.stage = turn_of v.stage b is in
      let some_part : 0 < v.parts = before.used turn in
      let fit = before.fits some_part in
      let number : v.number ≡ id = fit.named named in
      let wide = r.wide in
      let deep = r.deep in
      let others : (j : ℕ) (u : SeatView O C R) → j ≢ id → get_elem? s.views j ≡ some u → ¬ IsTurn u.stage = λ j u ne at' h. ne (r.apart j id u v at' at h turn) in
      let other_entry : (n : ℕ) → n ≢ id → calls_by n log' ≡ calls_by n r.log = λ n ne. calls_by-other n v.number r.log c a (λ k. ne (sym k ∙ number)) in
      let own : calls_by id log' ≡ v.mine ++ e ∷ [] = own_calls r.log id v c a number fit.mine in
      let pairs' : (ps : List (JoinedSeat C R)) → ArePairs r.log s.views ps → ArePairs log' (set s.views id w) ps = λ ps h.
      pairs_stay log' s.views id v w at refl ps (subst (λ (n : ℕ). ArePairs (r.log ++ entry n c a ∷ []) s.views ps) (sym number) (pairs_more r.log s.views id v c a at some_part ps h)) in
      record {
        log = log';
        now = b';
        legal = legal_after s r b b' v.number c a here may did;
        wide = length-set s.words 0 0 ∙ wide;
        deep = length-set s.homes 0 (some x) ∙ deep;
        shared = (let q = total_set parts_of s.views id v w at in let a = r.shared in omega (arith, q));
        each = set_cases (λ j u. IsViewAt first log' b' (set s.views id w) j u) s.views id w
            (record {
              used = λ h. absurd h;
              stage = tt;
              fits = λ p. record {
                origin = fit.origin;
                seen = prefix_refl log';
                beside = prefix_trans v.beside r.log log' (prefix_trans v.beside v.seen r.log fit.beside fit.seen) (e ∷ [], refl);
                mine = own;
                pairs = pairs' v.joined fit.pairs;
                named = fit.named;
                unnamed = fit.unnamed;
              };
            })
            (λ j u other at'. (let k = r.each j u at' in record {
              used = k.used;
              stage = any_now r.now b' u.stage (others j u other at') k.stage;
              fits = λ p. (let f = k.fits p in record {
                origin = f.origin;
                seen = prefix_more u.seen r.log (e ∷ []) f.seen;
                beside = f.beside;
                mine = other_entry j other ∙ f.mine;
                pairs = pairs' u.joined f.pairs;
                named = f.named;
                unnamed = f.unnamed;
              });
            }));
        apart = λ j k x y p q d d'.
            set_cases (λ j x. (k : ℕ) (y : SeatView O C R) → get_elem? (set s.views id w) k ≡ some y → IsTurn x.stage → IsTurn y.stage → j ≡ k) s.views id w
            (λ k y _ d d'. absurd d)
            (λ j x other at' k y _ d d'. absurd (others j x other at' d))
            j x p k y q d d';
        home = inl (
          get_or-set_same s.words 0 0 0 (omega arith),
          (x, set_here s.homes 0 (some x) (omega arith), inside, set_cases (λ j u. ¬ IsTurn u.stage) s.views id w (λ h. h) others),
        );
        keeper = λ n l. keeper_stays s.views id v w n at refl refl (r.keeper n (subst (λ (z : ℕ). n < z) (length-set s.views id w) l));
        nobody = λ n l. (let l' = subst (λ (z : ℕ). z ≤ n) (length-set s.views id w) l in let at_id = below_length s.views id v at in other_entry n (λ k. omega arith) ∙ r.nobody n l');
      }

  end_allowed_at : (slots id : ℕ) (v : SeatView O C R) (b b' : O) (said : Option C) (answered : Option R) (c : C) (a : R) → v.stage ≡ Turn b → v.named ≡ true → said ≡ Some c → answered ≡ Some a → meets b c → steps b c a b'
      → Allows Rule slots id (v, (0, Some b') ∷ []) 0 (λ _. 0) (end_step meets steps said answered (step slots 0 0 0 none) (v, (0, Some b') ∷ []))
  end_allowed_at slots id v b b' said answered c a is named said_is answered_is may did s r deep at small =
      let e : Entry C R = entry v.number c a in
      let w : SeatView O C R = after_call v r.log e in
      let before = r.each id v at in
      let fit = before.fits (before.used (turn_of v.stage b is)) in
      let number : v.number ≡ id = fit.named named in
      let here : b ≡ r.now = subst (IsStageOf r.now) is before.stage in (
        w,
        gives,
        tt,
        puts_back s r id v b b' (Some b') c a at is named refl may did,
        λ c' a' said' answered'.
            let p : Some c ≡ Some c' = sym said_is ∙ said' in
            let q : Some a ≡ Some a' = sym answered_is ∙ answered' in
            let same_c : c ≡ c' = cc in
            let same_a : a ≡ a' = cc in (
              subst (λ (z : C × R). IsCallOf meets steps v z.0 z.1 w) (λ i. (same_c i, same_a i)) record {
                legal = λ f o. (b', subst (λ (z : O). IsHistory meets steps z (r.log ++ e ∷ []) b') (origin_is f (sym fit.origin ∙ o)) (legal_after s r b b' v.number c a here may did));
                between = fit.seen.0;
                seen = ap (λ l. l ++ e ∷ []) (sym fit.seen.1);
                mine = refl;
                all_mine = subst (λ (n : ℕ). calls_by n (r.log ++ e ∷ []) ≡ v.mine ++ e ∷ []) (sym number) (own_calls r.log id v c a number fit.mine);
                rest = refl;
              },
              refl,
            ),
      )
    where
      origin_is : (f : O) → Some first ≡ Some f → first ≡ f
      origin_is f e = cc

  pub end_allowed : (slots id : ℕ) (me : M) (b b' : O) (said : Option C) (answered : Option R) (c : C) (a : R) → me.1 ≡ (0, Some b') ∷ [] → me.0.stage ≡ Turn b → me.0.named ≡ true → said ≡ Some c → answered ≡ Some a → meets b c → steps b c a b'
      → Allows Rule slots id me 0 (λ _. 0) (end_step meets steps said answered (step slots 0 0 0 none) me)
  end_allowed slots id me b b' said answered c a carried is named said_is answered_is may did =
      subst (λ (m : M). Allows Rule slots id m 0 (λ _. 0) (end_step meets steps said answered (step slots 0 0 0 none) m)) (λ i. (me.0, sym carried i)) (end_allowed_at slots id me.0 b b' said answered c a is named said_is answered_is may did)

  at_old : (vs : List (SeatView O C R)) (id : ℕ) (w z : SeatView O C R) (j : ℕ) → j < length vs → get_elem? (set vs id w ++ z ∷ []) j ≡ get_elem? (set vs id w) j
  at_old vs id w z j l = at_front (set vs id w) (z ∷ []) j (subst (λ (n : ℕ). j < n) (sym (length-set vs id w)) l)

  spent_split : (vs : List (SeatView O C R)) (id : ℕ) (v w z : SeatView O C R) (n : ℕ) → get_elem? vs id ≡ some v → 0 < v.parts → n < length vs → IsSpent vs n → IsSpent (set vs id w ++ z ∷ []) n
  spent_split vs id v w z n at some_part l h u e = ⊎_elim (λ (t : (n ≡ id) × (w ≡ u)). let none_left : v.parts ≡ 0 = h v (subst (λ (k : ℕ). get_elem? vs k ≡ some v) (sym t.0) at) in absurd (omega arith))
      (λ (t : (n ≢ id) × (get_elem? vs n ≡ some u)). h u t.1) (at_set vs id n w u (sym (at_old vs id w z n l) ∙ e))

  longer_split : (vs : List (SeatView O C R)) (id : ℕ) (w z : SeatView O C R) → length (set vs id w ++ z ∷ []) ≡ length vs + 1
  longer_split vs id w z = length-append (set vs id w) (z ∷ []) ∙ ap (λ (n : ℕ). n + 1) (length-set vs id w)

  pairs_split : (log : List (Entry C R)) (vs : List (SeatView O C R)) (id : ℕ) (v w z : SeatView O C R) → get_elem? vs id ≡ some v → 0 < v.parts → (ps : List (JoinedSeat C R)) → ArePairs log vs ps → ArePairs log (set vs id w ++ z ∷ []) ps
  pairs_split log vs id v w z at some_part [] h = tt
  pairs_split log vs id v w z at some_part (p ∷ ps) h = (let l = h.0 in let n = longer_split vs id w z in omega arith, h.1, spent_split vs id v w z p.number at some_part h.0 h.2, pairs_split log vs id v w z at some_part ps h.3)

  keeper_split : (vs : List (SeatView O C R)) (id : ℕ) (v w z : SeatView O C R) (n : ℕ) → get_elem? vs id ≡ some v → 0 < w.parts → w.joined ≡ v.joined → HasKeeper vs n → HasKeeper (set vs id w ++ z ∷ []) n
  keeper_split vs id v w z n at some_part pairs k =
      let l = below_length vs id v at in
      let lk = below_length vs k.0 k.1 k.2 in
      dite (ℕ_discrete k.0 id)
      (λ e. let is : v ≡ k.1 = same_view vs id v k.1 at (subst (λ (z : ℕ). get_elem? vs z ≡ some k.1) e k.2) in (
        id,
        w,
        at_old vs id w z id l ∙ set_here vs id w l,
        some_part,
        subst (λ (z : ℕ × List (JoinedSeat C R)). (n ≡ z.0) ⊎ IsJoinedNumber n z.1) (λ i. (e i, (ap (λ (u : SeatView O C R). u.joined) (sym is) ∙ sym pairs) i)) k.4,
      ))
      (λ ne. (k.0, k.1, at_old vs id w z k.0 lk ∙ (set_else vs id k.0 w ne ∙ k.2), k.3, k.4))

  -- a seat is split
  pub split_allowed : (id : ℕ) (v : SeatView O C R) → 1 < v.parts → v.named ≡ true → Splits Rule id v (left_view v) (new_view v)
  split_allowed id v two named s r at =
      let w : SeatView O C R = left_view v in
      let z : SeatView O C R = new_view v in
      let vs : List (SeatView O C R) = s.views in
      let views' : List (SeatView O C R) = set vs id w ++ z ∷ [] in
      let before = r.each id v at in
      let fit = before.fits (omega arith) in
      let l = below_length vs id v at in
      let n = longer_split vs id w z in
      let some_part : 0 < v.parts = omega arith in
      let all_cases : (P : ℕ → SeatView O C R → Type 0) → P id w → P (length vs) z → ((j : ℕ) (u : SeatView O C R) → j ≢ id → get_elem? vs j ≡ some u → P j u) → (j : ℕ) (u : SeatView O C R) → get_elem? views' j ≡ some u → P j u = λ P mine new others j u e.
      ⊎_elim (λ (t : (j < length (set vs id w)) × (get_elem? (set vs id w) j ≡ some u)). set_cases P vs id w mine others j u t.1)
      (λ (t : (j ≡ length (set vs id w)) × (z ≡ u)). subst (λ (x : ℕ × SeatView O C R). P x.0 x.1) (λ i. (sym (t.0 ∙ length-set vs id w) i, t.1 i)) new) (at_end (set vs id w) z u j e) in
      record {
        log = r.log;
        now = r.now;
        legal = r.legal;
        wide = r.wide;
        deep = r.deep;
        shared = (let q = total_set parts_of vs id v w at in let p = total_snoc parts_of (set vs id w) z in let a = r.shared in omega (arith, p, q));
        each = all_cases (λ j u. IsViewAt first r.log r.now views' j u)
            (record {
              used = λ _. omega arith;
              stage = before.stage;
              fits = λ p. record {
                origin = fit.origin;
                seen = fit.seen;
                beside = fit.beside;
                mine = fit.mine;
                pairs = pairs_split r.log vs id v w z at some_part v.joined fit.pairs;
                named = fit.named;
                unnamed = fit.unnamed;
              };
            })
            (record {
              used = λ h. absurd h;
              stage = tt;
              fits = λ p. record {
                origin = fit.origin;
                seen = fit.seen;
                beside = (v.seen, refl);
                mine = r.nobody (length vs) (le_refl (length vs));
                pairs = tt;
                named = λ e. absurd (cc);
                unnamed = λ _. subst (λ (k : ℕ). k < length vs) (sym (fit.named named)) l;
              };
            })
            (λ j u other e. (let k = r.each j u e in record {
              used = k.used;
              stage = k.stage;
              fits = λ p. (let f = k.fits p in record {
                origin = f.origin;
                seen = f.seen;
                beside = f.beside;
                mine = f.mine;
                pairs = pairs_split r.log vs id v w z at some_part u.joined f.pairs;
                named = f.named;
                unnamed = f.unnamed;
              });
            }));
        apart = λ j k x y a b c d.
            all_cases (λ j x. (k : ℕ) (y : SeatView O C R) → get_elem? views' k ≡ some y → IsTurn x.stage → IsTurn y.stage → j ≡ k)
            (all_cases (λ k y. IsTurn v.stage → IsTurn y.stage → id ≡ k) (λ _ _. refl) (λ c d. absurd d) (λ k y other e c d. r.apart id k v y at e c d))
            (λ k y _ c d. absurd c)
            (λ j x other e. all_cases (λ k y. IsTurn x.stage → IsTurn y.stage → j ≡ k) (λ c d. r.apart j id x v e at c d) (λ c d. absurd d) (λ k y _ e' c d. r.apart j k x y e e' c d))
            j x a k y b c d;
        home = ⊎_elim
            (λ (h : IsFree r.now s). inl (h.0, (h.1.0, h.1.1, h.1.2, all_cases (λ j u. ¬ IsTurn u.stage) (h.1.3 id v at) (λ x. x) (λ j u other e. h.1.3 j u e))))
            (λ (h : IsTaken s). (let lk = below_length vs h.1.0 h.1.1 h.1.2 in dite (ℕ_discrete h.1.0 id)
            (λ e. inr (h.0, (id, w, at_old vs id w z id l ∙ set_here vs id w l, subst (λ (u : SeatView O C R). IsTurn u.stage) (sym (same_view vs id v h.1.1 at (subst (λ (k : ℕ). get_elem? vs k ≡ some h.1.1) e h.1.2))) h.1.3)))
            (λ ne. inr (h.0, (h.1.0, h.1.1, at_old vs id w z h.1.0 lk ∙ (set_else vs id h.1.0 w ne ∙ h.1.2), h.1.3))))) r.home;
        keeper = λ k below. dite (ℕ_discrete k (length vs))
            (λ e. (length vs, z, at_last (set vs id w) z (length vs) (length-set vs id w), omega arith, inl e))
            (λ ne. keeper_split vs id v w z k at (omega arith) refl (r.keeper k (omega arith)));
        nobody = λ k above. r.nobody k (omega arith);
      }

  -- a load that changes what a seat in use is called, or what it match_allowed
  renames : (s : St) (r : Rule s) (i id : ℕ) (v w : SeatView O C R) (cs : List (ℕ × Option O)) → get_elem? s.views id ≡ some v → w.parts ≡ v.parts → w.stage ≡ v.stage → w.joined ≡ v.joined
      → (0 < v.parts → IsAccount first r.log s.views id v → IsAccount first r.log s.views id w) → Rule (stepped s i (get_or s.words i 0) id cs w keeps)
  renames s r i id v w cs at parts stage pairs turn =
      let before = r.each id v at in
      let back : IsTurn w.stage → IsTurn v.stage = λ d. subst IsTurn stage d in
      subst (λ (ws : List ℕ). Rule record { words = ws; homes = s.homes; views = set s.views id w }) (sym (set-get_or s.words i 0)) record {
        log = r.log;
        now = r.now;
        legal = r.legal;
        wide = r.wide;
        deep = r.deep;
        shared = (let q = total_set parts_of s.views id v w at in let a = r.shared in omega (arith, q));
        each = set_cases (λ j u. IsViewAt first r.log r.now (set s.views id w) j u) s.views id w
            (record {
              used = λ d. subst (λ (z : ℕ). 0 < z) (sym parts) (before.used (back d));
              stage = subst (IsStageOf r.now) (sym stage) before.stage;
              fits = λ p. (let some_part : 0 < v.parts = omega arith in let f = turn some_part (before.fits some_part) in record {
                origin = f.origin;
                seen = f.seen;
                beside = f.beside;
                mine = f.mine;
                pairs = pairs_stay r.log s.views id v w at parts w.joined f.pairs;
                named = f.named;
                unnamed = f.unnamed;
              });
            })
            (λ j u other e. knows_stays s.views r.log r.now id v w at parts j u (r.each j u e));
        apart = λ j k x y a b c d.
            set_cases (λ j x. (k : ℕ) (y : SeatView O C R) → get_elem? (set s.views id w) k ≡ some y → IsTurn x.stage → IsTurn y.stage → j ≡ k) s.views id w
            (set_cases (λ k y. IsTurn w.stage → IsTurn y.stage → id ≡ k) s.views id w (λ _ _. refl) (λ k y other e c d. r.apart id k v y at e (back c) d))
            (λ j x other e. set_cases (λ k y. IsTurn x.stage → IsTurn y.stage → j ≡ k) s.views id w (λ c d. r.apart j id x v e at c (back d)) (λ k y _ e' c d. r.apart j k x y e e' c d))
            j x a k y b c d;
        home = ⊎_elim
            (λ (h : IsFree r.now s). inl (h.0, (h.1.0, h.1.1, h.1.2, set_cases (λ j u. ¬ IsTurn u.stage) s.views id w (λ x. h.1.3 id v at (back x)) (λ j u other e. h.1.3 j u e))))
            (λ (h : IsTaken s). dite (ℕ_discrete h.1.0 id)
            (λ e. inr (h.0, (id, w, set_here s.views id w (below_length s.views id v at), subst IsTurn (ap (λ (u : SeatView O C R). u.stage) (sym (same_view s.views id v h.1.1 at (subst (λ (k : ℕ). get_elem? s.views k ≡ some h.1.1) e h.1.2))) ∙ sym stage) h.1.3)))
            (λ ne. inr (h.0, (h.1.0, h.1.1, set_else s.views id h.1.0 w ne ∙ h.1.2, h.1.3)))) r.home;
        keeper = λ n l. keeper_stays s.views id v w n at parts pairs (r.keeper n (subst (λ (z : ℕ). n < z) (length-set s.views id w) l));
        nobody = λ n l. r.nobody n (subst (λ (z : ℕ). z ≤ n) (length-set s.views id w) l);
      }

  -- a new seat finds its number
  pub number_allowed : (slots id : ℕ) (me : M) → me.0.named ≡ false → 0 < me.0.parts → me.0.mine ≡ [] → Allows Rule slots id me 0 (λ n. n) (number_step (step slots 0 0 0 none) me)
  number_allowed slots id me unnamed some_part none_made s r deep at small =
      let v : SeatView O C R = me.0 in
      let w : SeatView O C R = record v { named = true; number = id } in
      let fit = (r.each id v at).fits some_part in (
        w,
        keeps,
        tt,
        renames s r 0 id v w me.1 at refl refl refl (λ p f. record {
          origin = f.origin;
          seen = f.seen;
          beside = f.beside;
          mine = f.mine;
          pairs = f.pairs;
          named = λ _. refl;
          unnamed = λ e. absurd (cc);
        }),
        (
          record {
            rest = refl;
            other = λ e. (let low = fit.unnamed unnamed in omega arith);
            none_seen = calls_front id v.seen r.log fit.seen (fit.mine ∙ none_made);
          },
          refl,
        ),
      )

  pub number_allowed_at : (slots id : ℕ) (me : M) (v : SeatView O C R) → me ≡ (new_view v, []) → Allows Rule slots id me 0 (λ n. n) (number_step (step slots 0 0 0 none) me)
  number_allowed_at slots id me v e = subst (λ (m : M). Allows Rule slots id m 0 (λ n. n) (number_step (step slots 0 0 0 none) m)) (sym e) (number_allowed slots id (new_view v, []) refl (omega arith) refl)

  -- a seat match_allowed the two histories that it was joined from
  pub match_allowed : (slots id : ℕ) (me : M) → 0 < me.0.parts → Allows Rule slots id me 0 (λ n. n) (match_step (step slots 0 0 0 none) me)
  match_allowed slots id me some_part s r deep at small =
      let v : SeatView O C R = me.0 in
      let w : SeatView O C R = record v { beside = [] } in
      let fit = (r.each id v at).fits some_part in (
        w,
        keeps,
        tt,
        renames s r 0 id v w me.1 at refl refl refl (λ p f. record {
          origin = f.origin;
          seen = f.seen;
          beside = (v.seen, refl);
          mine = f.mine;
          pairs = f.pairs;
          named = f.named;
          unnamed = f.unnamed;
        }),
        (refl, fit.beside),
      )

  pairs_joined : (log : List (Entry C R)) (vs vs' : List (SeatView O C R)) → length vs' ≡ length vs → ((n : ℕ) → IsSpent vs n → IsSpent vs' n) → (ps : List (JoinedSeat C R)) → ArePairs log vs ps → ArePairs log vs' ps
  pairs_joined log vs vs' len spent [] h = tt
  pairs_joined log vs vs' len spent (p ∷ ps) h = (subst (λ (n : ℕ). p.number < n) (sym len) h.0, h.1, spent p.number h.2, pairs_joined log vs vs' len spent ps h.3)

  pairs_both : (log : List (Entry C R)) (vs : List (SeatView O C R)) (ps qs : List (JoinedSeat C R)) → ArePairs log vs ps → ArePairs log vs qs → ArePairs log vs (ps ++ qs)
  pairs_both log vs [] qs h k = k
  pairs_both log vs (p ∷ ps) qs h k = (h.0, h.1, h.2, pairs_both log vs ps qs h.3 k)

  pub match_allowed_at : (slots id : ℕ) (me : M) (v w : SeatView O C R) (cs : List (ℕ × Option O)) → me ≡ (joined_view v w, cs) → 0 < v.parts → Allows Rule slots id me 0 (λ n. n) (match_step (step slots 0 0 0 none) me)
  match_allowed_at slots id me v w cs e p = subst (λ (m : M). Allows Rule slots id m 0 (λ n. n) (match_step (step slots 0 0 0 none) m)) (sym e) (match_allowed slots id (joined_view v w, cs) (omega arith))

  -- a seat takes in another
  pub join_allowed : (id : ℕ) (v : SeatView O C R) (other : ℕ) (w : SeatView O C R) → w.stage ≡ Idle → 0 < v.parts → 0 < w.parts → v.named ≡ true → w.named ≡ true → Joins Rule id v other w (joined_view v w) spent_view
  join_allowed id v other w idle some_part some_part' named named' s r at apart' there =
      let both : SeatView O C R = joined_view v w in
      let gone : SeatView O C R = spent_view in
      let vs : List (SeatView O C R) = s.views in
      let mid : List (SeatView O C R) = set vs id both in
      let views' : List (SeatView O C R) = set mid other gone in
      let at' : get_elem? vs other ≡ some w = sym (set_else vs id other both apart') ∙ there in
      let before = r.each id v at in
      let before' = r.each other w at' in
      let fit = before.fits some_part in
      let fit' = before'.fits some_part' in
      let l = below_length vs id v at in
      let l' = below_length vs other w at' in
      let len : length views' ≡ length vs = length-set mid other gone ∙ length-set vs id both in
      let number : w.number ≡ other = fit'.named named' in
      let here : get_elem? views' id ≡ some both = set_else mid other id gone (λ e. apart' (sym e)) ∙ set_here vs id both l in
      let gone_here : get_elem? views' other ≡ some gone = set_here mid other gone (subst (λ (n : ℕ). other < n) (sym (length-set vs id both)) l') in
      let as_was : (j : ℕ) → j ≢ id → j ≢ other → get_elem? views' j ≡ get_elem? vs j = λ j n m. set_else mid other j gone m ∙ set_else vs id j both n in
      let all_cases : (P : ℕ → SeatView O C R → Type 0) → P id both → P other gone → ((j : ℕ) (u : SeatView O C R) → j ≢ id → j ≢ other → get_elem? vs j ≡ some u → P j u) → (j : ℕ) (u : SeatView O C R) → get_elem? views' j ≡ some u → P j u = λ P mine new others.
      set_cases P mid other gone new (λ j u m e. ⊎_elim (λ (t : (j ≡ id) × (both ≡ u)). subst (λ (x : ℕ × SeatView O C R). P x.0 x.1) (λ i. (sym t.0 i, t.1 i)) mine) (λ (t : (j ≢ id) × (get_elem? vs j ≡ some u)). others j u t.0 m t.1) (at_set vs id j both u e)) in
      let spent' : (n : ℕ) → IsSpent vs n → IsSpent views' n = λ n h u e. all_cases (λ j u. j ≡ n → u.parts ≡ 0)
      (λ is. (let z : v.parts ≡ 0 = h v (subst (λ (k : ℕ). get_elem? vs k ≡ some v) is at) in absurd (omega arith)))
      (λ _. refl)
      (λ j u _ _ e' is. h u (subst (λ (k : ℕ). get_elem? vs k ≡ some u) is e')) n u e refl in
      let gone_spent : IsSpent views' other = λ u e. ap parts_of (sym (some-injective gone u (sym gone_here ∙ e))) in
      let pairs' : (ps : List (JoinedSeat C R)) → ArePairs r.log vs ps → ArePairs r.log views' ps = λ ps h. pairs_joined r.log vs views' len spent' ps h in
      record {
        log = r.log;
        now = r.now;
        legal = r.legal;
        wide = r.wide;
        deep = r.deep;
        shared = (let q = total_set parts_of vs id v both at in let p = total_set parts_of mid other w gone there in let a = r.shared in omega (arith, p, q));
        each = all_cases (λ j u. IsViewAt first r.log r.now views' j u)
            (record {
              used = λ _. omega arith;
              stage = before.stage;
              fits = λ p. record {
                origin = fit.origin;
                seen = longer_in v.seen w.seen r.log fit.seen fit'.seen;
                beside = shorter_front v.seen w.seen r.log fit.seen fit'.seen;
                mine = fit.mine;
                pairs = (
                  subst (λ (n : ℕ). n < length views') (sym number) (subst (λ (n : ℕ). other < n) (sym len) l'),
                  subst (λ (n : ℕ). calls_by n r.log ≡ w.mine) (sym number) fit'.mine,
                  subst (IsSpent views') (sym number) gone_spent,
                  pairs_both r.log views' w.joined v.joined (pairs' w.joined fit'.pairs) (pairs' v.joined fit.pairs),
                );
                named = fit.named;
                unnamed = fit.unnamed;
              };
            })
            (record { used = λ h. absurd h; stage = tt; fits = λ p. absurd (omega arith) })
            (λ j u _ _ e. (let k = r.each j u e in record {
              used = k.used;
              stage = k.stage;
              fits = λ p. (let f = k.fits p in record {
                origin = f.origin;
                seen = f.seen;
                beside = f.beside;
                mine = f.mine;
                pairs = pairs' u.joined f.pairs;
                named = f.named;
                unnamed = f.unnamed;
              });
            }));
        apart = λ j k x y a b c d.
            all_cases (λ j x. (k : ℕ) (y : SeatView O C R) → get_elem? views' k ≡ some y → IsTurn x.stage → IsTurn y.stage → j ≡ k)
            (all_cases (λ k y. IsTurn v.stage → IsTurn y.stage → id ≡ k) (λ _ _. refl) (λ c d. absurd d) (λ k y _ _ e c d. r.apart id k v y at e c d))
            (λ k y _ c d. absurd c)
            (λ j x _ _ e. all_cases (λ k y. IsTurn x.stage → IsTurn y.stage → j ≡ k) (λ c d. r.apart j id x v e at c d) (λ c d. absurd d) (λ k y _ _ e' c d. r.apart j k x y e e' c d))
            j x a k y b c d;
        home = ⊎_elim
            (λ (h : IsFree r.now s). inl (h.0, (h.1.0, h.1.1, h.1.2, all_cases (λ j u. ¬ IsTurn u.stage) (h.1.3 id v at) (λ x. x) (λ j u _ _ e. h.1.3 j u e))))
            (λ (h : IsTaken s). dite (ℕ_discrete h.1.0 id)
            (λ e. inr (h.0, (id, both, here, subst (λ (u : SeatView O C R). IsTurn u.stage) (sym (same_view vs id v h.1.1 at (subst (λ (k : ℕ). get_elem? vs k ≡ some h.1.1) e h.1.2))) h.1.3)))
            (λ ne. dite (ℕ_discrete h.1.0 other)
            (λ e. absurd (no_turn w.stage idle (subst (λ (u : SeatView O C R). IsTurn u.stage) (sym (same_view vs other w h.1.1 at' (subst (λ (k : ℕ). get_elem? vs k ≡ some h.1.1) e h.1.2))) h.1.3)))
            (λ ne'. inr (h.0, (h.1.0, h.1.1, as_was h.1.0 ne ne' ∙ h.1.2, h.1.3))))) r.home;
        keeper = λ k below. (let q = r.keeper k (subst (λ (n : ℕ). k < n) len below) in dite (ℕ_discrete q.0 id)
            (λ e. (let is = same_view vs id v q.1 at (subst (λ (z : ℕ). get_elem? vs z ≡ some q.1) e q.2) in (
              id,
              both,
              here,
              (omega arith),
              ⊎_elim (λ (t : k ≡ q.0). inl (t ∙ e)) (λ (t : IsJoinedNumber k q.1.joined). inr (inr (names_right k w.joined v.joined (subst (λ (u : SeatView O C R). IsJoinedNumber k u.joined) (sym is) t)))) q.4,
            )))
            (λ ne. dite (ℕ_discrete q.0 other)
            (λ e. (let is = same_view vs other w q.1 at' (subst (λ (z : ℕ). get_elem? vs z ≡ some q.1) e q.2) in (
              id,
              both,
              here,
              (omega arith),
              ⊎_elim (λ (t : k ≡ q.0). inr (inl (number ∙ sym (t ∙ e)))) (λ (t : IsJoinedNumber k q.1.joined). inr (inr (names_left k w.joined v.joined (subst (λ (u : SeatView O C R). IsJoinedNumber k u.joined) (sym is) t)))) q.4,
            )))
            (λ ne'. (q.0, q.1, as_was q.0 ne ne' ∙ q.2, q.3, q.4))));
        nobody = λ k above. r.nobody k (subst (λ (n : ℕ). n ≤ k) len above);
      }

  -- the lock at the start
  pub opening_holds : (x : Option O) → x ≡ Some first → 0 < all → Rule (opening (0 ∷ []) (x ∷ []) (first_view first all))
  opening_holds x inside some_part =
      let v : SeatView O C R = first_view first all in
      let alone : (P : ℕ → SeatView O C R → Type 0) → P 0 v → (j : ℕ) (u : SeatView O C R) → get_elem? (v ∷ []) j ≡ some u → P j u = λ P one. only v P one in
      record {
        log = [];
        now = first;
        legal = refl;
        wide = refl;
        deep = refl;
        shared = omega arith;
        each = alone (λ j u. IsViewAt first [] first (v ∷ []) j u) (record {
          used = λ h. absurd h;
          stage = tt;
          fits = λ p. record {
            origin = refl;
            seen = ([], refl);
            beside = ([], refl);
            mine = refl;
            pairs = tt;
            named = λ _. refl;
            unnamed = λ e. absurd (cc);
          };
        });
        apart = λ j k a b p q d d'. alone (λ j a. IsTurn a.stage → j ≡ k) (λ d. absurd d) j a p d;
        home = inl (refl, (x, refl, inside, alone (λ j u. ¬ IsTurn u.stage) (λ h. h)));
        keeper = λ n below. (0, v, refl, some_part, inl (omega arith));
        nobody = λ n above. refl;
      }
    where
      only : (v : SeatView O C R) (P : ℕ → SeatView O C R → Type 0) → P 0 v → (j : ℕ) (u : SeatView O C R) → get_elem? (v ∷ []) j ≡ some u → P j u
      only v P one zero u e = subst (P 0) (some-injective v u e) one
      only v P one (suc j) u e = absurd (some-ne-none u (sym e))

  pairs_hold : (log : List (Entry C R)) (vs : List (SeatView O C R)) (ps : List (JoinedSeat C R)) → ArePairs log vs ps → HaveCalls log ps
  pairs_hold log vs [] h = tt
  pairs_hold log vs (p ∷ ps) h = (h.1, pairs_hold log vs ps h.3)

  -- the lock at the end, where one seat has every part
  pub closing_of : (words : List ℕ) (xs : List (Option O)) (id : ℕ) (v : SeatView O C R) (y : Option O) → Final (Seen Rule id v) words xs → v.parts ≡ all → v.stage ≡ Idle → 0 < v.parts → v.named ≡ true → get_elem? xs 0 ≡ some y
      → (o : O) × (y ≡ Some o) × IsClosing meets steps first v o
  closing_of words xs id v y final whole idle some_part named there =
      let s = final.0 in
      let r = final.1.0 in
      let at = final.1.1 in
      let fit = (r.each id v at).fits some_part in
      let number : v.number ≡ id = fit.named named in
      let others : (j : ℕ) (u : SeatView O C R) → j ≢ id → get_elem? s.views j ≡ some u → u.parts ≡ 0 = λ j u ne e.
      (let t = total_two parts_of s.views j id u v ne e at in let a = r.shared in omega (arith, t)) in
      let only : (j : ℕ) (u : SeatView O C R) → get_elem? s.views j ≡ some u → 0 < u.parts → j ≡ id = λ j u e p. dite (ℕ_discrete j id) (λ k. k) (λ ne. (let z = others j u ne e in absurd (omega arith))) in
      ⊎_elim
      (λ (h : IsFree r.now s).
      let same : h.1.0 ≡ y = some-injective h.1.0 y (sym (final.4 0 h.1.0 h.1.1) ∙ there) in (
        r.now,
        sym same ∙ h.1.2,
        record {
          log = r.log;
          legal = r.legal;
          seen = fit.seen;
          mine = subst (λ (n : ℕ). calls_by n r.log ≡ v.mine) (sym number) fit.mine;
          joined = pairs_hold r.log s.views v.joined fit.pairs;
          no_others = λ n ne none. dite (dec_le (length s.views) n)
              (λ above. r.nobody n above)
              (λ below. (let q = r.keeper n (omega arith) in let e = only q.0 q.1 q.2 q.3 in let is = same_view s.views id v q.1 at (subst (λ (z : ℕ). get_elem? s.views z ≡ some q.1) e q.2) in
              ⊎_elim (λ (t : n ≡ q.0). absurd (ne (t ∙ (e ∙ sym number)))) (λ (t : IsJoinedNumber n q.1.joined). absurd (none (subst (λ (u : SeatView O C R). IsJoinedNumber n u.joined) (sym is) t))) q.4));
        },
      ))
      (λ (h : IsTaken s).
      let e = only h.1.0 h.1.1 h.1.2 ((r.each h.1.0 h.1.1 h.1.2).used h.1.3) in
      let is = same_view s.views id v h.1.1 at (subst (λ (z : ℕ). get_elem? s.views z ≡ some h.1.1) e h.1.2) in
      absurd (no_turn v.stage idle (subst (λ (u : SeatView O C R). IsTurn u.stage) (sym is) h.1.3)))
      r.home

module _ {O C R : Type 0} (meets : O → C → Type 0) (steps : O → C → R → O → Type 0) where
  -- what was taken out is what the seat's stage number_allowed
  pub took_is : (m m' : Me (Option O) (SeatView O C R)) (o : O) → IsTurnOf meets steps m m' → IsInSlot m' o
      → (m'.0 ≡ record m.0 { stage = Turn o }) × ((first : O) → m.0.origin ≡ Some first → (log : List (Entry C R)) × IsHistory meets steps first log o)
  took_is m m' o t k =
      let p : Some t.0 ≡ Some o = ap (carried_or meets steps t.0 0 (Some o)) (sym (ap (λ (z : Me (Option O) (SeatView O C R)). z.1) t.1) ∙ k) in
      let e : t.0 ≡ o = cc in
      (ap (λ (z : Me (Option O) (SeatView O C R)). z.0) t.1 ∙ (λ i. record m.0 { stage = Turn (e i) }), subst (λ (z : O). (first : O) → m.0.origin ≡ Some first → (log : List (Entry C R)) × IsHistory meets steps first log z) e t.2)

  -- a call extends what the seat had seen, whatever its stage was
  pub extends_from : (v u w : SeatView O C R) (o : O) (c : C) (r : R) → u ≡ record v { stage = Turn o } → IsCallOf meets steps u c r w → IsCallOf meets steps v c r w
  extends_from v u w o c r e x = subst (λ (z : SeatView O C R). IsCallOf meets steps z c r w → IsCallOf meets steps v c r w) (sym e) (λ y. record {
    legal = y.legal;
    between = y.between;
    seen = y.seen;
    mine = y.mine;
    all_mine = y.all_mine;
    rest = y.rest;
  }) x

  -- a call that was made is a step of the object
  pub made_step : (first : O) (v w : SeatView O C R) (c : C) (r : R) → v.origin ≡ Some first → IsCallOf meets steps v c r w → (m : O) × (m' : O) × steps m c r m'
  made_step first v w c r o x = legal_last meets steps first (v.seen ++ x.between) (entry v.number c r) (subst (IsLegal meets steps first) x.seen (x.legal first o))
