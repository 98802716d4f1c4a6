-- The last of a name among the first names of the top, and its place.
use Rattle.std.proofs.Common.{◌≡◌, ℕ, zero, suc, ◌+◌, ◌-◌, ◌<◌, ◌≤◌, arith, List, [], ◌∷◌, ◌++◌, map, length, Bool, true, false, cond, Option, Some, None, refl, ap, sym, ◌∙◌, subst, ◌⊎◌, inl, inr}
use Rattle.std.specs.Prelude.{slice_get, option_map}
use Rattle.std.specs.Borrow.{Bor}
use Rattle.std.specs.HashMap.{HashMap, get_by, UpdatesBy}
use Rattle.std.specs.Str.{bytes_eq}
use Rattle.std.proofs.lemmas.List.{length-append, length-map, map-append}
use Rattle.std.proofs.lemmas.Map.Text.{hash_map_updates_str}
use Rattle.std.proofs.lemmas.Option.{slice_get_past, slice_get_within, slice_get-map}
use Rattle.std.proofs.lemmas.Slice.Eq.{bytes_eq-Decides}
use Rattle.root_rewriting.proofs.TreeLists.{get_end, get_longer, get_cases}
use Rattle.root_rewriting.specs.TreeNames.{IsTable, if_named, top_known, top_of, top_place}
use Rattle.root_rewriting.specs.declared.unfold.top.Entry.{Entry}
use Rattle.root_rewriting.specs.declared.unfold.top.Known.{Known}
use Rattle.root_rewriting.specs.declared.unfold.top.Top.{Top}

-- how many places a search may still look at
abbrev pub places_left : Option ℕ → ℕ
places_left None = 0
places_left (Some n) = suc n

abbrev place_in : ℕ → Option (ℕ × Known) → ℕ
place_in n None = n
place_in n (Some p) = p.0

abbrev known_in : Known → Option (ℕ × Known) → Known
known_in k None = k
known_in k (Some p) = p.1

-- a name of the top that is found
pub record Found (x : List ℕ) (top : List Top) (n i : ℕ) (k : Known) : Type 0 where
  pub entry : Top
  pub there : slice_get top i ≡ Some entry
  pub below : i < n
  pub named : bytes_eq x entry.name.now ≡ true
  pub known : k ≡ entry.known

one_more : (d m : ℕ) → suc d + m ≡ suc (d + m)
one_more d m = omega arith

module _ (x : List ℕ) (top : List Top) where
  found-more : {n i : ℕ} {k : Known} → Found x top n i k → Found x top (suc n) i k
  found-more f = record { entry = f.entry; there = f.there; below = omega (arith, f.below); named = f.named; known = f.known }

  found-entry : (n : ℕ) (t : Option Top) (before : Option (ℕ × Known)) (i : ℕ) (k : Known) → slice_get top n ≡ t → (before ≡ Some (i, k) → Found x top n i k) →
      if_named x n t before ≡ Some (i, k) → Found x top (suc n) i k
  found-entry n None before i k e f h = found-more (f h)
  found-entry n (Some t) before i k e f h = go (bytes_eq x t.name.now) refl h
    where
      go : (b : Bool) → bytes_eq x t.name.now ≡ b → cond b (Some (n, t.known)) before ≡ Some (i, k) → Found x top (suc n) i k
      go true g h1 = let same : n ≡ i = ap (place_in n) h1 in record { entry = t; there = subst (λ j. slice_get top j ≡ Some t) same e; below = omega (arith, same); named = g; known = sym (ap (known_in t.known) h1) }
      go false g h1 = found-more (f h1)

  pub known_found : (n i : ℕ) (k : Known) → top_known x top n ≡ Some (i, k) → Found x top n i k
  known_found zero i k h = cc
  known_found (suc n) i k h = found-entry n (slice_get top n) (top_known x top n) i k refl (known_found n i k) h

  -- fewer names in front of which nothing is found have nothing either
  none-entry : (n : ℕ) (t : Option Top) (before : Option (ℕ × Known)) → if_named x n t before ≡ None → before ≡ None
  none-entry n None before h = h
  none-entry n (Some t) before h = go (bytes_eq x t.name.now) h
    where
      go : (b : Bool) → cond b (Some (n, t.known)) before ≡ None → before ≡ None
      go true g = cc
      go false g = g

  pub none_below : (d m : ℕ) → top_known x top (d + m) ≡ None → top_known x top m ≡ None
  none_below zero m h = subst (λ o. top_known x top o ≡ None) (omega arith) h
  none_below (suc d) m h = none_below d m (none-entry (d + m) (slice_get top (d + m)) (top_known x top (d + m)) (subst (λ o. top_known x top o ≡ None) (one_more d m) h))

  -- what is found below a place is found among fewer names too
  some-entry : (n : ℕ) (t : Option Top) (before : Option (ℕ × Known)) (i : ℕ) (k : Known) → i < n → if_named x n t before ≡ Some (i, k) → before ≡ Some (i, k)
  some-entry n None before i k l h = h
  some-entry n (Some t) before i k l h = go (bytes_eq x t.name.now) h
    where
      go : (b : Bool) → cond b (Some (n, t.known)) before ≡ Some (i, k) → before ≡ Some (i, k)
      go true g = let same : n ≡ i = ap (place_in n) g in let absurd : ⊥ = omega (arith, same, l) in elim absurd [ ]
      go false g = g

  pub some_below : (d m i : ℕ) (k : Known) → i < m → top_known x top (d + m) ≡ Some (i, k) → top_known x top m ≡ Some (i, k)
  some_below zero m i k l h = subst (λ o. top_known x top o ≡ Some (i, k)) (omega arith) h
  some_below (suc d) m i k l h =
      some_below d m i k l (some-entry (d + m) (slice_get top (d + m)) (top_known x top (d + m)) i k (omega (arith, l)) (subst (λ o. top_known x top o ≡ Some (i, k)) (one_more d m) h))

  pub none_fewer : (n m : ℕ) → m ≤ n → top_known x top n ≡ None → top_known x top m ≡ None
  none_fewer n m l h = none_below (n - m) m (subst (λ o. top_known x top o ≡ None) (omega (arith, l)) h)

  pub some_fewer : (n m i : ℕ) (k : Known) → m ≤ n → i < m → top_known x top n ≡ Some (i, k) → top_known x top m ≡ Some (i, k)
  some_fewer n m i k l below h = some_below (n - m) m i k below (subst (λ o. top_known x top o ≡ Some (i, k)) (omega (arith, l)) h)

  -- there is nothing behind the last name
  pub known_past : (d : ℕ) → top_known x top (d + length top) ≡ top_known x top (length top)
  known_past zero = ap (top_known x top) (omega arith)
  known_past (suc d) = ap (top_known x top) (one_more d (length top)) ∙ ap (λ t. if_named x (d + length top) t (top_known x top (d + length top))) (slice_get_past top (d + length top) (omega arith)) ∙ known_past d

-- equal names are found alike
pub known_same : (x y : List ℕ) (top : List Top) (n : ℕ) → bytes_eq x y ≡ true → top_known y top n ≡ top_known x top n
known_same x y top n h = ap (λ z. top_known z top n) (sym ((bytes_eq-Decides x y).0 h))

-- a place that is known is that of something known
pub record Placed (x : List ℕ) (top : List Top) (n i : ℕ) : Type 0 where
  pub known : Known
  pub is : top_known x top n ≡ Some (i, known)

pub placed : (x : List ℕ) (top : List Top) (n i : ℕ) → top_place x top n ≡ Some i → Placed x top n i
placed x top n i h = go (top_known x top n) refl h
  where
    go : (o : Option (ℕ × Known)) → top_known x top n ≡ o → option_map (λ p. p.0) o ≡ Some i → Placed x top n i
    go None e g = cc
    go (Some (j, k)) e g = let same : j ≡ i = cc g in record { known = k; is = e ∙ ap (λ l. Some (l, k)) same }

pub unplaced : (x : List ℕ) (top : List Top) (n : ℕ) → None ≡ top_place x top n → top_known x top n ≡ None
unplaced x top n h = go (top_known x top n) refl h
  where
    go : (o : Option (ℕ × Known)) → top_known x top n ≡ o → None ≡ option_map (λ p. p.0) o → top_known x top n ≡ None
    go None e g = e
    go (Some (j, k)) e g = cc

-- an earlier place is lower
pub places_fall : (x : List ℕ) (top : List Top) (i : ℕ) (o : Option ℕ) → o ≡ top_place x top i → places_left o < suc i
places_fall x top i None h = omega arith
places_fall x top i (Some j) h = let p = placed x top i j (sym h) in let f = known_found x top i j p.known p.is in omega (arith, f.below)

-- ---- one name more

pub known_longer : (x : List ℕ) (top more : List Top) (n : ℕ) → n ≤ length top → top_known x (top ++ more) n ≡ top_known x top n
known_longer x top more zero h = refl
known_longer x top more (suc n) h =
    ap (λ o. if_named x n o (top_known x (top ++ more) n)) (get_longer top more n (omega (arith, h))) ∙ ap (λ b. if_named x n (slice_get top n) b) (known_longer x top more n (omega (arith, h)))

pub place_longer : (x : List ℕ) (top more : List Top) (n : ℕ) → n ≤ length top → top_place x (top ++ more) n ≡ top_place x top n
place_longer x top more n h = ap (option_map (λ (p : ℕ × Known). p.0)) (known_longer x top more n h)

-- the last name is found first
pub place_added : (x : List ℕ) (top : List Top) (t : Top) → top_place x (top ++ (t ∷ [])) (suc (length top)) ≡ cond (bytes_eq x t.name.now) (Some (length top)) (top_place x top (length top))
place_added x top t =
    ap (λ o. option_map (λ (p : ℕ × Known). p.0) (if_named x (length top) o (top_known x (top ++ (t ∷ [])) (length top)))) (get_end top t)
    ∙ split (bytes_eq x t.name.now) (top_known x (top ++ (t ∷ [])) (length top)) (place_longer x top (t ∷ []) (length top) (omega arith))
  where
    split : (b : Bool) (before : Option (ℕ × Known)) {o : Option ℕ} → option_map (λ p. p.0) before ≡ o → option_map (λ p. p.0) (cond b (Some (length top, t.known)) before) ≡ cond b (Some (length top)) o
    split true before h = refl
    split false before h = h

-- ---- the names in a table

pub place_within : (x : List ℕ) (entries : List Entry) (n i : ℕ) → top_place x (map top_of entries) n ≡ Some i → i < length entries
place_within x entries n i h =
    let p = placed x (map top_of entries) n i h in let f = known_found x (map top_of entries) n i p.known p.is in
    subst (λ l. i < l) (length-map entries top_of) (slice_get_within (map top_of entries) i f.entry f.there)

-- a place that is known is that of the entry there
pub record Named (x : List ℕ) (entries : List Entry) (n i : ℕ) (e : Entry) : Type 0 where
  pub known : top_known x (map top_of entries) n ≡ Some (i, e.top.known)
  pub same : bytes_eq x e.top.name.now ≡ true
  pub below : i < n

pub place_named : (x : List ℕ) (entries : List Entry) (n i : ℕ) (e : Entry) → top_place x (map top_of entries) n ≡ Some i → slice_get entries i ≡ Some e → Named x entries n i e
place_named x entries n i e h there =
    let p = placed x (map top_of entries) n i h in
    let f = known_found x (map top_of entries) n i p.known p.is in
    let here : Some f.entry ≡ Some e.top = sym f.there ∙ slice_get-map top_of entries i ∙ ap (option_map top_of) there in
    let one : f.entry ≡ e.top = cc here in
    record {
      known = p.is ∙ ap (λ k. Some (i, k)) (f.known ∙ ap (λ (t : Top). t.known) one);
      same = subst (λ (t : Top). bytes_eq x t.name.now ≡ true) one f.named;
      below = f.below;
    }

-- the last place of all is that of more names than there are, too
pub place_past : (x : List ℕ) (entries : List Entry) (d : ℕ) → top_place x (map top_of entries) (length entries) ≡ top_place x (map top_of entries) (d + length entries)
place_past x entries d =
    subst (λ l. top_place x (map top_of entries) l ≡ top_place x (map top_of entries) (d + l)) (length-map entries top_of) (ap (option_map (λ (p : ℕ × Known). p.0)) (sym (known_past x (map top_of entries) d)))

named_other_way : (x y : List ℕ) → bytes_eq x y ≡ bytes_eq y x
named_other_way x y = one (bytes_eq x y) (bytes_eq y x) (λ h. (bytes_eq-Decides y x).1 (sym ((bytes_eq-Decides x y).0 h))) (λ h. (bytes_eq-Decides x y).1 (sym ((bytes_eq-Decides y x).0 h)))
  where
    one : (a b : Bool) → (a ≡ true → b ≡ true) → (b ≡ true → a ≡ true) → a ≡ b
    one true b f g = sym (f refl)
    one false true f g = g refl
    one false false f g = refl

-- the places of a table with one name more
module _ {S : Type 0} (entries : List Entry) (t : Top) (earlier : Option ℕ) (old new : HashMap (Bor (List ℕ)) ℕ S) (is : IsTable entries old)
    (before : earlier ≡ get_by (λ k. bytes_eq t.name.now k.now) old)
    (more : UpdatesBy (λ a b. bytes_eq a.now b.now) (λ k. bytes_eq t.name.now k.now) old new (Some (length entries))) where
  abbrev tops : List Top
  tops = map top_of entries

  abbrev added : Entry
  added = record { top = t; earlier = earlier }

  tops_more : map top_of (entries ++ (added ∷ [])) ≡ tops ++ (t ∷ [])
  tops_more = map-append top_of entries (added ∷ [])

  count_more : length (entries ++ (added ∷ [])) ≡ suc (length entries)
  count_more = omega (arith, length-append entries (added ∷ []))

  last_more : (x : List ℕ) → get_by (λ k. bytes_eq x k.now) new ≡ top_place x (map top_of (entries ++ (added ∷ []))) (length (entries ++ (added ∷ [])))
  last_more x =
      hash_map_updates_str t.name.now old new (Some (length entries)) more x
      ∙ ap (λ b. cond b (Some (length entries)) (get_by (λ k. bytes_eq x k.now) old)) (named_other_way t.name.now x)
      ∙ ap (cond (bytes_eq x t.name.now) (Some (length entries))) (is.last_places x)
      ∙ subst (λ n. cond (bytes_eq x t.name.now) (Some n) (top_place x tops n) ≡ top_place x (tops ++ (t ∷ [])) (suc n)) (length-map entries top_of) (sym (place_added x tops t))
      ∙ sym (ap (λ l. top_place x l (suc (length entries))) tops_more)
      ∙ ap (top_place x (map top_of (entries ++ (added ∷ [])))) (sym count_more)

  earlier_more : (i : ℕ) (e : Entry) → slice_get (entries ++ (added ∷ [])) i ≡ Some e → e.earlier ≡ top_place e.top.name.now (map top_of (entries ++ (added ∷ []))) i
  earlier_more i e h = go (get_cases entries added i e h)
    where
      go : ((slice_get entries i ≡ Some e) ⊎ ((i ≡ length entries) × (added ≡ e))) → e.earlier ≡ top_place e.top.name.now (map top_of (entries ++ (added ∷ []))) i
      go (inl there) =
          is.earlier_places i e there
          ∙ sym (place_longer e.top.name.now tops (t ∷ []) i (let l = slice_get_within entries i e there in omega (arith, l, length-map entries top_of)))
          ∙ ap (λ l. top_place e.top.name.now l i) (sym tops_more)
      go (inr at) =
          subst (λ (a : Entry). a.earlier ≡ top_place a.top.name.now (map top_of (entries ++ (added ∷ []))) i) at.1 (
          before
          ∙ is.last_places t.name.now
          ∙ sym (place_longer t.name.now tops (t ∷ []) (length entries) (omega (arith, length-map entries top_of)))
          ∙ ap (λ l. top_place t.name.now l (length entries)) (sym tops_more)
          ∙ ap (top_place t.name.now (map top_of (entries ++ (added ∷ [])))) (sym at.0))

  pub table_more : IsTable (entries ++ (added ∷ [])) new
  table_more = record { last_places = last_more; earlier_places = earlier_more }
