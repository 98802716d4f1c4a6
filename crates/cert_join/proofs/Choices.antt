-- Which of the trees of one place is taken, and the steps from one tree to the next.
use Rattle.std.proofs.Common.{◌≡◌, ◌≢◌, ◌<◌, ◌≤◌, ◌+◌, ◌-◌, ◌^◌, ℕ, List, [], ◌∷◌, ◌++◌, Bool, true, false, not, ◌&&◌, cond, Option, Some, None, MatchOption, length, map, min, drop, get_or, slice_set, refl, ap, sym, ◌∙◌, subst, ⊎_elim, arith}
use Rattle.std.specs.List.{AllByRecursion, slice_get}
use Rattle.std.proofs.lemmas.Option.{slice_get_read, slice_get_within}
use Rattle.cover_model.specs.Derivation.{Tree}
use Rattle.cert_joined.specs.Joined.{closes, first_closed}
use Rattle.cert_join.specs.declared.cursor.Mark.{Mark}
use Rattle.cert_join.specs.declared.joiner.Step.{Step}
use Rattle.cert_join.specs.declared.joiner.Step.TheVariants.{Read, On, Over}
use Rattle.cert_join.specs.declared.weighing.Weighing.{Weighing}
use Rattle.cert_join.specs.Ahead.{AreBefore}
use Rattle.cert_join.specs.Spot.{Spot, IsBefore}
use Rattle.cert_join.specs.Weighed.{AreAhead, AreApart, Branch, IsAtFirst, IsChoosing, IsGone, IsMarkOf, IsMarked, IsWeighStep, IsWeighed, IsWeighing, IsWithin, behind_tree, cert_of, first_closing, forest_texts, or_else, passed}
use Rattle.cert_join.proofs.Places.{before_at, before_set, get_first, get_set_other, get_set_same, none_from, set_again}
use Rattle.cert_join.proofs.Weighs.{forest_one}

-- ---- the tree that is taken

by_test : (t : Bool) (b c : Branch) (bs : List Branch) → (first_closing b bs).tree ≡ first_closed b.tree (map (λ (d : Branch). d.tree) bs)
    → (cond t c (first_closing b bs)).tree ≡ cond t c.tree (first_closed b.tree (map (λ (d : Branch). d.tree) bs))
by_test true b c bs h = refl
by_test false b c bs h = h

-- it is the one of the definition of joining
pub first_closing_tree : (b : Branch) (bs : List Branch) → (first_closing b bs).tree ≡ first_closed b.tree (map (λ (c : Branch). c.tree) bs)
first_closing_tree b [] = refl
first_closing_tree b (c ∷ bs) = by_test (closes c.tree) b c bs (first_closing_tree b bs)

-- what is behind a tree that leaves something, or nothing
chosen_on : (certs : List (List ℕ)) (taken b : Branch) (more : List Branch) (leaves : Bool) (f c : Option (ℕ × Mark)) (m : Mark)
    → IsChoosing certs taken (b ∷ more) f c → IsMarkOf (cert_of certs b) b m → closes b.tree ≡ not leaves
    → IsChoosing certs taken more (or_else f (b.part, m)) (cond leaves c (or_else c (b.part, m)))
chosen_on certs taken b more true f (Some d) m h k e = h
chosen_on certs taken b more false f (Some d) m h k e = h
chosen_on certs taken b more true (Some g) None m h k e = (h.0, h.1, h.2 ∙ ap (λ (t : Bool). cond t b (first_closing h.0 more)) e)
chosen_on certs taken b more false (Some g) None m h k e =
    subst (λ (x : Branch). IsMarked certs x (b.part, m)) (sym (h.2 ∙ ap (λ (t : Bool). cond t b (first_closing h.0 more)) e)) (refl, k)
chosen_on certs taken b more true None None m h k e = (b, (refl, k), h ∙ ap (λ (t : Bool). cond t b (first_closing b more)) e)
chosen_on certs taken b more false None None m h k e =
    subst (λ (x : Branch). IsMarked certs x (b.part, m)) (sym (h ∙ ap (λ (t : Bool). cond t b (first_closing b more)) e)) (refl, k)

-- ---- from one tree to the next

still_ahead : (lines : List (List (List ℕ))) (part : ℕ) (ls : List (List ℕ)) (bs : List Branch) → AreAhead lines bs → AllByRecursion (λ (c : Branch). c.part ≢ part) bs
    → AreAhead (slice_set lines part ls) bs
still_ahead lines part ls [] h k = tt
still_ahead lines part ls (c ∷ bs) h k = ((get_set_other lines part c.part ls k.0 ∙ h.0.0, h.0.1), still_ahead lines part ls bs h.1 k.1)

and_true : (t : Bool) → (t && true) ≡ t
and_true true = refl
and_true false = refl

-- at the beginning of the first of these
pub starts : (certs : List (List ℕ)) (lines : List (List (List ℕ))) (bs : List Branch) (w : Weighing) → AreAhead lines bs → w.waiting ≡ 1 → w.mark ≡ None → w.leaves ≡ false
    → IsAtFirst certs lines bs w
starts certs lines [] w h one none false_ = tt
starts certs lines (c ∷ bs) w h one none closed = (
  (
    c.tree ∷ [],
    record {
      fit = (h.0.1, tt);
      waiting = one;
      some = omega arith;
      leaves = sym (ap (λ (t : Bool). not t && (closes c.tree && true)) closed ∙ and_true (closes c.tree));
      mark = subst (λ (o : Option Mark). MatchOption o ((c.tree ∷ []) ≡ c.tree ∷ []) (IsMarkOf (cert_of certs c) c)) (sym none) refl;
    },
    h.0.0 ∙ ap (λ (ls : List (List ℕ)). Some ls) (sym (forest_one c)),
  ),
  h.1,
)

module _ (certs : List (List ℕ)) (taken : Branch) (end : List (List (List ℕ))) (w : Weighing) (spots : List Spot) (lines : List (List (List ℕ))) (b : Branch) (more : List Branch)
    (before : AreBefore certs lines spots) (parts : drop w.place w.parts.items ≡ map (λ (c : Branch). c.part) (b ∷ more)) (ends : passed (b ∷ more) lines ≡ end)
    (apart : AreApart (b ∷ more)) (first : IsAtFirst certs lines (b ∷ more) w) (choosing : IsChoosing certs taken (b ∷ more) w.first w.closed) where
  -- it goes on in the tree
  goes : (new : Weighing) (s : Spot) (left : List Tree) → IsWithin (cert_of certs b) b left new → IsBefore (cert_of certs b) (forest_texts left ++ b.behind) s
      → new ≡ record w { waiting = new.waiting; mark = new.mark; leaves = new.leaves } → IsWeighing certs taken end new (slice_set spots b.part s)
  goes new s left h k same =
      let ls = forest_texts left ++ b.behind in
      record {
        lines = slice_set lines b.part ls;
        due = b ∷ more;
        before = before_set certs lines spots b.part ls s before k;
        parts = ap (λ (x : Weighing). drop x.place x.parts.items) same ∙ parts;
        ends = ap (passed more) (set_again lines b.part ls b.behind) ∙ ends;
        apart = apart;
        first = ((left, h, get_set_same lines b.part _ ls first.0.2), still_ahead lines b.part ls more first.1 apart.0);
        choosing = subst (λ (x : Weighing). IsChoosing certs taken (b ∷ more) x.first x.closed) (sym same) choosing;
      }

  -- it is behind the tree
  goes_behind : (s : Spot) (m : Mark) (v : Weighing) → length w.parts.items ≤ 2 ^ 64 - 1 → IsMarkOf (cert_of certs b) b m → IsBefore (cert_of certs b) b.behind s → closes b.tree ≡ not v.leaves
      → v ≡ record w { waiting = v.waiting; mark = v.mark; leaves = v.leaves } → IsWeighing certs taken end (behind_tree b.part m v) (slice_set spots b.part s)
  goes_behind s m v few mark k closed same =
      let here = get_first w.parts.items (map (λ (c : Branch). c.part) more) w.place b.part parts in
      let next : min (w.place + 1) (2 ^ 64 - 1) ≡ w.place + 1 = omega (arith, here.2, few) in
      record {
        lines = slice_set lines b.part b.behind;
        due = more;
        before = before_set certs lines spots b.part b.behind s before k;
        parts = ap (λ (x : Weighing). drop (min (x.place + 1) (2 ^ 64 - 1)) x.parts.items) same ∙ ap (λ (n : ℕ). drop n w.parts.items) next ∙ here.1;
        ends = ends;
        apart = apart.1;
        first = starts certs (slice_set lines b.part b.behind) more (behind_tree b.part m v) (still_ahead lines b.part b.behind more first.1 apart.0) refl refl refl;
        choosing = chosen_on certs taken b more v.leaves v.first v.closed m (subst (λ (x : Weighing). IsChoosing certs taken (b ∷ more) x.first x.closed) (sym same) choosing) mark closed;
      }

  stepped : (new : Weighing) (s : Spot) (r : Step) → length w.parts.items ≤ 2 ^ 64 - 1 → IsGone (cert_of certs b) b w new s r
      → IsWeighStep certs taken end new (slice_set spots b.part s) r
  stepped new s Over few h = absurd h
  stepped new s On few h =
      ⊎_elim (λ g. goes new s g.0 g.1 g.2 g.3)
      (λ g. subst (λ (x : Weighing). IsWeighing certs taken end x (slice_set spots b.part s)) (sym g.5) (goes_behind s g.0 g.1 few g.2 g.3 g.4 g.6)) h
  stepped new s (Read part) few h =
      ⊎_elim (λ g. goes new s g.0 g.1 g.2 g.3)
      (λ g. subst (λ (x : Weighing). IsWeighing certs taken end x (slice_set spots b.part s)) (sym g.5) (goes_behind s g.0 g.1 few g.2 g.3 g.4 g.6)) h

-- ---- a step, by what is due

-- none: all were gone through
pub over : (certs : List (List ℕ)) (taken : Branch) (end : List (List (List ℕ))) (w : Weighing) (spots : List Spot) → IsWeighing certs taken end w spots → length w.parts.items ≤ w.place
    → IsWeighed certs taken end w spots
over certs taken end w spots h past = by_due h.due h.before h.parts h.ends h.choosing where
  by_due : (due : List Branch) → AreBefore certs h.lines spots → drop w.place w.parts.items ≡ map (λ (b : Branch). b.part) due → passed due h.lines ≡ end
      → IsChoosing certs taken due w.first w.closed → IsWeighed certs taken end w spots
  by_due [] before parts ends choosing = record { before = subst (λ (ls : List (List (List ℕ))). AreBefore certs ls spots) ends before; choosing = choosing }
  by_due (b ∷ more) before parts ends choosing = absurd (omega (arith, (get_first w.parts.items (map (λ (c : Branch). c.part) more) w.place b.part parts).2, past))

-- the next certificate's number, of which these are what the code reads
next_part : (w : Weighing) (b : Branch) (ps : List ℕ) (part : ℕ) → drop w.place w.parts.items ≡ b.part ∷ ps → w.place < length w.parts.items → part ≡ get_or w.parts.items w.place part
    → part ≡ b.part
next_part w b ps part e lt is =
    let here = get_first w.parts.items ps w.place b.part e in
    let read = slice_get_read w.parts.items (length w.parts.items) w.place part refl lt is in
    let both : Some part ≡ Some b.part = sym read ∙ here.0 in
    cc

-- it is one of those that are there
pub is_there : (certs : List (List ℕ)) (taken : Branch) (end : List (List (List ℕ))) (w : Weighing) (spots : List Spot) (part : ℕ) → IsWeighing certs taken end w spots
    → w.place < length w.parts.items → part ≡ get_or w.parts.items w.place part → length spots ≤ part → ⊥
is_there certs taken end w spots part h lt is past = by_due h.due h.before h.parts h.first where
  by_due : (due : List Branch) → AreBefore certs h.lines spots → drop w.place w.parts.items ≡ map (λ (b : Branch). b.part) due → IsAtFirst certs h.lines due w → ⊥
  by_due [] before parts first = absurd (omega (arith, none_from w.parts.items w.place parts, lt))
  by_due (b ∷ more) before parts first =
      let t = before_at certs h.lines spots b.part _ before first.0.2 in
      absurd (omega (arith, past, next_part w b (map (λ (c : Branch). c.part) more) part parts lt is, slice_get_within spots b.part t.0 t.1))

-- its cursor takes a step
pub weigh_on : (certs : List (List ℕ)) (taken : Branch) (end : List (List (List ℕ))) (w new : Weighing) (spots : List Spot) (part : ℕ) (s s' : Spot) (r : Step)
    → IsWeighing certs taken end w spots → w.place < length w.parts.items → length w.parts.items ≤ 2 ^ 64 - 1 → part ≡ get_or w.parts.items w.place part → part < length spots
    → s ≡ get_or spots part s
    → ((cert : List ℕ) (b : Branch) (left : List Tree) → part ≡ b.part → IsWithin cert b left w → IsBefore cert (forest_texts left ++ b.behind) s → IsGone cert b w new s' r)
    → IsWeighStep certs taken end new (slice_set spots part s') r
weigh_on certs taken end w new spots part s s' r h lt few is there read step = by_due h.due h.before h.parts h.ends h.apart h.first h.choosing where
  by_due : (due : List Branch) → AreBefore certs h.lines spots → drop w.place w.parts.items ≡ map (λ (b : Branch). b.part) due → passed due h.lines ≡ end → AreApart due
      → IsAtFirst certs h.lines due w → IsChoosing certs taken due w.first w.closed → IsWeighStep certs taken end new (slice_set spots part s') r
  by_due [] before parts ends apart first choosing = absurd (omega (arith, none_from w.parts.items w.place parts, lt))
  by_due (b ∷ more) before parts ends apart first choosing =
      let same = next_part w b (map (λ (c : Branch). c.part) more) part parts lt is in
      let t = before_at certs h.lines spots b.part _ before first.0.2 in
      let at : slice_get spots part ≡ Some s = slice_get_read spots (length spots) part s refl there read in
      let both : Some t.0 ≡ Some s = sym t.1 ∙ ap (slice_get spots) (sym same) ∙ at in
      let one : t.0 ≡ s = cc in
      let stands = subst (λ (x : Spot). IsBefore (cert_of certs b) (forest_texts first.0.0 ++ b.behind) x) one t.2 in
      subst (λ (n : ℕ). IsWeighStep certs taken end new (slice_set spots n s') r) (sym same)
      (stepped certs taken end w spots h.lines b more before parts ends apart first choosing new s' r few (step (cert_of certs b) b first.0.0 same first.0.1 stands))

-- ---- what follows for the one who asked

by_cases : (P : Branch → Type 0) (b c : Branch) (bs : List Branch) (t : Bool) → P c → P (first_closing b bs) → P (cond t c (first_closing b bs))
by_cases P b c bs true h k = h
by_cases P b c bs false h k = k

-- what holds of each tree holds of the one that is taken
pub holds_of_taken : (P : Branch → Type 0) (b : Branch) (bs : List Branch) → P b → AllByRecursion P bs → P (first_closing b bs)
holds_of_taken P b [] h k = h
holds_of_taken P b (c ∷ bs) h k = by_cases P b c bs (closes c.tree) k.0 (holds_of_taken P b bs h k.1)

-- no other lines than those of these certificates were passed
pub passed_other : (bs : List Branch) (lines : List (List (List ℕ))) (i : ℕ) → AllByRecursion (λ (b : Branch). i ≢ b.part) bs → slice_get (passed bs lines) i ≡ slice_get lines i
passed_other [] lines i h = refl
passed_other (b ∷ bs) lines i h = passed_other bs (slice_set lines b.part b.behind) i h.1 ∙ get_set_other lines b.part i b.behind h.0

turned : (i : ℕ) (bs : List Branch) → AllByRecursion (λ (c : Branch). c.part ≢ i) bs → AllByRecursion (λ (c : Branch). i ≢ c.part) bs
turned i [] h = tt
turned i (c ∷ bs) h = ((λ e. h.0 (sym e)), turned i bs h.1)

-- each of them stands behind its tree
pub passed_at : (bs : List Branch) (lines : List (List (List ℕ))) → AreAhead lines bs → AreApart bs → AllByRecursion (λ (b : Branch). slice_get (passed bs lines) b.part ≡ Some b.behind) bs
passed_at [] lines h k = tt
passed_at (b ∷ bs) lines h k = (
  passed_other bs (slice_set lines b.part b.behind) b.part (turned b.part bs k.0) ∙ get_set_same lines b.part _ b.behind h.0.0,
  passed_at bs (slice_set lines b.part b.behind) (still_ahead lines b.part b.behind bs h.1 k.0) k.1,
)
