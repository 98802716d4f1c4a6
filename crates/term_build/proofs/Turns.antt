-- Each turn leaves fewer.
use Rattle.std.proofs.Common.{◌≡◌, ℕ, zero, suc, ◌+◌, ◌-◌, ◌<◌, List, [], ◌∷◌, ◌++◌, map, length, Bool, true, false, cond, Option, Some, None, nat_eq, refl, ap, ap₂, sym, ◌∙◌, subst, arith, replicate, length-append}
use Rattle.std.specs.Prelude.{slice_get, slice_set, Result, Ok, Err}
use Rattle.term_build.specs.Sketch.{SketchNode, yes_sketch}
use Rattle.term_build.specs.Shapes.{Frame, IfDone, frame_of, children, node_at}
use Rattle.term_build.specs.Turns.{done_of, turns_of, turns_unless, turns_at, sum_below, turns_left, AreNested, AreStacked, IsMadeIn, IsRooted, IsTurn}
use Rattle.term_build.specs.declared.shape.Frame as code_frame
use Rattle.term_build.specs.declared.stop.Stop.{Stop}
use Rattle.term_build.proofs.Lists.{get_below, get_index}
use Rattle.term_build.proofs.Shaping.{popped}

-- ---- sums

same-sum : (f g : ℕ → ℕ) (n : ℕ) → ((j : ℕ) → j < n → g j ≡ f j) → sum_below g n ≡ sum_below f n
same-sum f g zero h = refl
same-sum f g (suc n) h = ap₂ (λ a b. a + b) (h n (omega arith)) (same-sum f g n (λ j l. h j (omega (arith, l))))

-- one summand is less, and the others are the same
less-sum : (f g : ℕ → ℕ) (n k : ℕ) → k < n → g k < f k → ((j : ℕ) → nat_eq k j ≡ false → g j ≡ f j) → sum_below g n < sum_below f n
less-sum f g zero k h l same = absurd (omega (arith, h))
less-sum f g (suc n) k h l same = by (nat_eq k n) refl (λ less. less-sum f g n k less l same)
  where
    differ : (j : ℕ) → j < n → k ≡ n → nat_eq k j ≡ false
    differ j a b = grind (arith, a, b)

    by : (b : Bool) → nat_eq k n ≡ b → (k < n → sum_below g n < sum_below f n) → sum_below g (suc n) < sum_below f (suc n)
    by true e before =
        let at : k ≡ n = grind (arith, e) in
        let here : g n < f n = subst (λ (i : ℕ). g i < f i) at l in
        omega (arith, here, same-sum f g n (λ j a. same j (differ j a at)))
    by false e before =
        let less : k < n = grind (arith, h, e) in
        omega (arith, same n e, before less)

-- ---- a frame at the top

done-other : (xs : List Frame) (f : Frame) (k : ℕ) → nat_eq f.node k ≡ false → done_of (xs ++ (f ∷ [])) k ≡ done_of xs k
done-other [] f k e = ap (λ (b : Bool). cond b (Some (length f.numbers)) None) e
done-other (x ∷ xs) f k e = ap (λ (o : Option ℕ). cond (nat_eq x.node k) (Some (length x.numbers)) o) (done-other xs f k e)

done-here : (xs : List Frame) (f : Frame) (k : ℕ) → nat_eq f.node k ≡ true → done_of xs k ≡ None → done_of (xs ++ (f ∷ [])) k ≡ Some (length f.numbers)
done-here [] f k e h = ap (λ (b : Bool). cond b (Some (length f.numbers)) None) e
done-here (x ∷ xs) f k e h = by (nat_eq x.node k) refl (λ below. done-here xs f k e below)
  where
    by : (b : Bool) → nat_eq x.node k ≡ b → (done_of xs k ≡ None → done_of (xs ++ (f ∷ [])) k ≡ Some (length f.numbers)) → done_of ((x ∷ xs) ++ (f ∷ [])) k ≡ Some (length f.numbers)
    by true e' above = let no : Some (length x.numbers) ≡ None = sym (ap (λ (b : Bool). cond b (Some (length x.numbers)) (done_of xs k)) e') ∙ h in cc
    by false e' above =
        let below : done_of xs k ≡ None = sym (ap (λ (b : Bool). cond b (Some (length x.numbers)) (done_of xs k)) e') ∙ h in
        ap (λ (b : Bool). cond b (Some (length x.numbers)) (done_of (xs ++ (f ∷ [])) k)) e' ∙ above below

eq-self : (k : ℕ) → nat_eq k k ≡ true
eq-self k = grind arith

-- what is known of the frame at the top
record Top (memo : List (Option ℕ)) (n : ℕ) (xs : List Frame) (k : ℕ) : Type 0 where
  below : k < n
  unmade : slice_get memo k ≡ Some None
  before : AreNested memo n xs
  alone : done_of xs k ≡ None

top-of : (memo : List (Option ℕ)) (n : ℕ) (xs : List Frame) (f : Frame) → AreNested memo n (xs ++ (f ∷ [])) → Top memo n xs f.node
top-of memo n [] f h = record { below = h.0; unmade = h.1; before = tt; alone = refl }
top-of memo n (x ∷ xs) f h =
    let t = top-of memo x.node xs f h.2 in
    let apart : nat_eq x.node f.node ≡ false = grind (arith, t.below) in record {
      below = omega (arith, t.below, h.0);
      unmade = t.unmade;
      before = (h.0, h.1, t.before);
      alone = ap (λ (b : Bool). cond b (Some (length x.numbers)) (done_of xs f.node)) apart ∙ t.alone;
    }

nested-same : (memo : List (Option ℕ)) (n : ℕ) (xs : List Frame) (f f' : Frame) → f'.node ≡ f.node → AreNested memo n (xs ++ (f ∷ [])) → AreNested memo n (xs ++ (f' ∷ []))
nested-same memo n [] f f' e h = (subst (λ (k : ℕ). k < n) (sym e) h.0, subst (λ (k : ℕ). slice_get memo k ≡ Some None) (sym e) h.1, tt)
nested-same memo n (x ∷ xs) f f' e h = (h.0, h.1, nested-same memo x.node xs f f' e h.2)

nested-more : (memo : List (Option ℕ)) (n : ℕ) (xs : List Frame) (f c : Frame) → c.node < f.node → slice_get memo c.node ≡ Some None → AreNested memo n (xs ++ (f ∷ [])) → AreNested memo n ((xs ++ (f ∷ [])) ++ (c ∷ []))
nested-more memo n [] f c l u h = (h.0, h.1, (l, u, tt))
nested-more memo n (x ∷ xs) f c l u h = (h.0, h.1, nested-more memo x.node xs f c l u h.2)

get-other : (xs : List (Option ℕ)) (k j : ℕ) (v : Option ℕ) → nat_eq k j ≡ false → slice_get (slice_set xs k v) j ≡ slice_get xs j
get-other [] k j v e = refl
get-other (x ∷ xs) zero zero v e = cc
get-other (x ∷ xs) zero (suc j) v e = refl
get-other (x ∷ xs) (suc k) zero v e = refl
get-other (x ∷ xs) (suc k) (suc j) v e = get-other xs k j v (grind (arith, e))

get-same : (xs : List (Option ℕ)) (k : ℕ) (w v : Option ℕ) → slice_get xs k ≡ Some w → slice_get (slice_set xs k v) k ≡ Some v
get-same [] k w v h = cc
get-same (x ∷ xs) zero w v h = refl
get-same (x ∷ xs) (suc k) w v h = get-same xs k w v h

nested-made : (memo : List (Option ℕ)) (n k j : ℕ) (xs : List Frame) → AreNested memo n xs → done_of xs k ≡ None → AreNested (slice_set memo k (Some j)) n xs
nested-made memo n k j [] h e = tt
nested-made memo n k j (x ∷ xs) h e = by (nat_eq x.node k) refl (λ above. nested-made memo x.node k j xs h.2 above)
  where
    by : (b : Bool) → nat_eq x.node k ≡ b → (done_of xs k ≡ None → AreNested (slice_set memo k (Some j)) x.node xs) → AreNested (slice_set memo k (Some j)) n (x ∷ xs)
    by true e' rest = let no : Some (length x.numbers) ≡ None = sym (ap (λ (b : Bool). cond b (Some (length x.numbers)) (done_of xs k)) e') ∙ e in cc
    by false e' rest =
        let above : done_of xs k ≡ None = sym (ap (λ (b : Bool). cond b (Some (length x.numbers)) (done_of xs k)) e') ∙ e in
        let apart : nat_eq k x.node ≡ false = grind (arith, e') in
        (h.0, get-other memo k x.node (Some j) apart ∙ h.1, rest above)

-- ---- the root

root-same : (memo : List (Option ℕ)) (root : ℕ) (xs : List Frame) (f f' : Frame) → f'.node ≡ f.node → IsRooted memo root (xs ++ (f ∷ [])) → IsRooted memo root (xs ++ (f' ∷ []))
root-same memo root [] f f' e h = e ∙ h
root-same memo root (x ∷ xs) f f' e h = h

root-more : (memo : List (Option ℕ)) (root : ℕ) (xs : List Frame) (f c : Frame) → IsRooted memo root (xs ++ (f ∷ [])) → IsRooted memo root ((xs ++ (f ∷ [])) ++ (c ∷ []))
root-more memo root [] f c h = h
root-more memo root (x ∷ xs) f c h = h

root-made : (memo : List (Option ℕ)) (root j : ℕ) (xs : List Frame) (f : Frame) → slice_get memo f.node ≡ Some None → IsRooted memo root (xs ++ (f ∷ [])) → IsRooted (slice_set memo f.node (Some j)) root xs
root-made memo root j [] f u h = (j, subst (λ (k : ℕ). slice_get (slice_set memo f.node (Some j)) k ≡ Some (Some j)) h (get-same memo f.node None (Some j) u))
root-made memo root j (x ∷ xs) f u h = h

-- ---- the three turns

module _ (ds : List SketchNode) (memo : List (Option ℕ)) (xs : List Frame) (f : Frame) (nested : AreNested memo (length ds) (xs ++ (f ∷ []))) where
  size : ℕ → ℕ
  size k = length (children (node_at ds k))

  by-done : (stack : List Frame) (k : ℕ) (o : Option ℕ) → slice_get memo k ≡ Some None → done_of stack k ≡ o → turns_at ds memo stack k ≡ turns_of (length (children (node_at ds k))) o
  by-done stack k o u e = ap₂ (λ p q. turns_unless p (turns_of (length (children (node_at ds k))) q)) u e

  here-is : turns_at ds memo (xs ++ (f ∷ [])) f.node ≡ suc (length (children (node_at ds f.node)) - length f.numbers)
  here-is = let t = top-of memo (length ds) xs f nested in by-done (xs ++ (f ∷ [])) f.node (Some (length f.numbers)) t.unmade (done-here xs f f.node (eq-self f.node) t.alone)

  -- the next child is made already
  pub turn_on : (f' : Frame) → f'.node ≡ f.node → length f'.numbers ≡ suc (length f.numbers) → length f.numbers < length (children (node_at ds f.node)) → IsTurn ds memo memo (xs ++ (f ∷ [])) (xs ++ (f' ∷ []))
  unfolding turns_left
  turn_on f' e n h =
      let t = top-of memo (length ds) xs f nested in
      let same : nat_eq f'.node f.node ≡ true = ap (λ (k : ℕ). nat_eq k f.node) e ∙ eq-self f.node in
      let here : turns_at ds memo (xs ++ (f' ∷ [])) f.node ≡ suc (length (children (node_at ds f.node)) - length f'.numbers) = by-done (xs ++ (f' ∷ [])) f.node (Some (length f'.numbers)) t.unmade (done-here xs f' f.node same t.alone) in
      record {
        nested = nested-same memo (length ds) xs f f' e nested;
        rooted = λ root r. root-same memo root xs f f' e r;
        falls = less-sum (turns_at ds memo (xs ++ (f ∷ []))) (turns_at ds memo (xs ++ (f' ∷ []))) (length ds) f.node t.below (omega (arith, here, here-is, n, h))
            (λ j a. ap (λ o. turns_unless (slice_get memo j) (turns_of (length (children (node_at ds j))) o))
            (done-other xs f' j (ap (λ (k : ℕ). nat_eq k j) e ∙ a) ∙ sym (done-other xs f j a)));
      }

  -- the next child is begun
  pub turn_down : (c : Frame) → c.node < f.node → slice_get memo c.node ≡ Some None → c.numbers ≡ [] → IsTurn ds memo memo (xs ++ (f ∷ [])) ((xs ++ (f ∷ [])) ++ (c ∷ []))
  unfolding turns_left
  turn_down c l u n =
      let t = top-of memo (length ds) xs f nested in
      let more = nested-more memo (length ds) xs f c l u nested in
      let k = top-of memo (length ds) (xs ++ (f ∷ [])) c more in
      let before : turns_at ds memo (xs ++ (f ∷ [])) c.node ≡ suc (suc (length (children (node_at ds c.node)))) = by-done (xs ++ (f ∷ [])) c.node None u k.alone in
      let after : turns_at ds memo ((xs ++ (f ∷ [])) ++ (c ∷ [])) c.node ≡ suc (length (children (node_at ds c.node)) - length c.numbers) =
      by-done ((xs ++ (f ∷ [])) ++ (c ∷ [])) c.node (Some (length c.numbers)) u (done-here (xs ++ (f ∷ [])) c c.node (eq-self c.node) k.alone) in
      record {
        nested = more;
        rooted = λ root r. root-more memo root xs f c r;
        falls = less-sum (turns_at ds memo (xs ++ (f ∷ []))) (turns_at ds memo ((xs ++ (f ∷ [])) ++ (c ∷ []))) (length ds) c.node k.below (omega (arith, before, after))
            (λ j a. ap (λ o. turns_unless (slice_get memo j) (turns_of (length (children (node_at ds j))) o)) (done-other (xs ++ (f ∷ [])) c j a));
      }

  -- the node is made
  pub turn_up : (j : ℕ) → IsTurn ds memo (slice_set memo f.node (Some j)) (xs ++ (f ∷ [])) xs
  unfolding turns_left
  turn_up j =
      let t = top-of memo (length ds) xs f nested in
      let made : turns_at ds (slice_set memo f.node (Some j)) xs f.node ≡ 0 =
      ap (λ o. turns_unless o (turns_of (length (children (node_at ds f.node))) (done_of xs f.node))) (get-same memo f.node None (Some j) t.unmade) in
      record {
        nested = nested-made memo (length ds) f.node j xs t.before t.alone;
        rooted = λ root r. root-made memo root j xs f t.unmade r;
        falls = less-sum (turns_at ds memo (xs ++ (f ∷ []))) (turns_at ds (slice_set memo f.node (Some j)) xs) (length ds) f.node t.below (omega (arith, made, here-is))
            (λ i a. ap₂ (λ p o. turns_unless p (turns_of (length (children (node_at ds i))) o)) (get-other memo f.node i (Some j) a) (sym (done-other xs f i a)));
      }

-- ---- as the stack's items

pub turned_on : (ds : List SketchNode) (memo : List (Option ℕ)) (stack stack' : List code_frame.Frame) (f f' : code_frame.Frame) (d : SketchNode) (n c j : ℕ) → AreStacked ds memo (map frame_of stack ++ (frame_of f ∷ [])) →
    slice_get ds f.node ≡ Some d → n ≡ length f.numbers.items → Some c ≡ slice_get (children d) n → stack' ≡ stack ++ (f' ∷ []) → f'.node ≡ f.node → f'.numbers.items ≡ f.numbers.items ++ (j ∷ []) →
    IsTurn ds memo memo (map frame_of stack ++ (frame_of f ∷ [])) (map frame_of stack')
turned_on ds memo stack stack' f f' d n c j nested e size h items node numbers =
    let at : node_at ds f.node ≡ d = get_index ds f.node d yes_sketch e in
    let child : slice_get (children (node_at ds f.node)) (length f.numbers.items) ≡ Some c =
    ap (λ (x : SketchNode). slice_get (children x) (length f.numbers.items)) at ∙ ap (λ (k : ℕ). slice_get (children d) k) (sym size) ∙ sym h in
    subst (λ (xs : List Frame). IsTurn ds memo memo (map frame_of stack ++ (frame_of f ∷ [])) xs) (sym (popped stack' stack f' items))
    (turn_on ds memo (map frame_of stack) (frame_of f) nested (frame_of f') node (omega (arith, ap (λ (js : List ℕ). length js) numbers, length-append f.numbers.items (j ∷ [])))
    (get_below (children (node_at ds f.node)) (length f.numbers.items) c child))

pub turned_down : (ds : List SketchNode) (memo : List (Option ℕ)) (stack stack' stack'' : List code_frame.Frame) (f f' g' : code_frame.Frame) (c : ℕ) → AreStacked ds memo (map frame_of stack ++ (frame_of f ∷ [])) →
    c < f.node → slice_get memo c ≡ Some None → stack' ≡ stack ++ (f' ∷ []) → frame_of f' ≡ frame_of f → stack'' ≡ stack' ++ (g' ∷ []) → g'.node ≡ c → g'.numbers.items ≡ [] →
    IsTurn ds memo memo (map frame_of stack ++ (frame_of f ∷ [])) (map frame_of stack'')
turned_down ds memo stack stack' stack'' f f' g' c nested l u items same items' node numbers =
    let all : map frame_of stack'' ≡ (map frame_of stack ++ (frame_of f ∷ [])) ++ (frame_of g' ∷ []) =
    popped stack'' stack' g' items' ∙ ap (λ (xs : List Frame). xs ++ (frame_of g' ∷ [])) (popped stack' stack f' items ∙ ap (λ (x : Frame). map frame_of stack ++ (x ∷ [])) same) in
    subst (λ (xs : List Frame). IsTurn ds memo memo (map frame_of stack ++ (frame_of f ∷ [])) xs) (sym all)
    (turn_down ds memo (map frame_of stack) (frame_of f) nested (frame_of g') (subst (λ (k : ℕ). k < f.node) (sym node) l) (subst (λ (k : ℕ). slice_get memo k ≡ Some None) (sym node) u) numbers)

pub turned_up : {X : Type 0} (ds : List SketchNode) (memo memo' : List (Option ℕ)) (stack : List code_frame.Frame) (f : code_frame.Frame) (r : Result X Stop) → AreStacked ds memo (map frame_of stack ++ (frame_of f ∷ [])) → IfDone r (IsMadeIn memo memo' f.node) →
    IfDone r (IsTurn ds memo memo' (map frame_of stack ++ (frame_of f ∷ [])) (map frame_of stack))
turned_up ds memo memo' stack f (Ok x) nested h =
    subst (λ (m : List (Option ℕ)). IsTurn ds memo m (map frame_of stack ++ (frame_of f ∷ [])) (map frame_of stack)) (sym h.1) (turn_up ds memo (map frame_of stack) (frame_of f) nested h.0)
turned_up ds memo memo' stack f (Err e) nested h = tt

-- ---- the root alone

get-none : (n k : ℕ) → k < n → slice_get (replicate n (let x : Option ℕ = None in x)) k ≡ Some None
get-none zero k h = absurd (omega (arith, h))
get-none (suc n) zero h = refl
get-none (suc n) (suc k) h = get-none n k (omega (arith, h))

alone : (stack before : List code_frame.Frame) (f : code_frame.Frame) → stack ≡ before ++ (f ∷ []) → before ≡ [] → map frame_of stack ≡ frame_of f ∷ []
alone stack before f e h = popped stack before f e ∙ ap (λ (xs : List code_frame.Frame). map frame_of xs ++ (frame_of f ∷ [])) h

pub stacked_first : (ds : List SketchNode) (memo items : List (Option ℕ)) (n root : ℕ) (stack before : List code_frame.Frame) (f : code_frame.Frame) → memo ≡ items → items ≡ replicate n None → n ≡ length ds → root < length ds →
    stack ≡ before ++ (f ∷ []) → before ≡ [] → f.node ≡ root → AreStacked ds memo (map frame_of stack)
stacked_first ds memo items n root stack before f e h size below items-are b node =
    let under : f.node < length ds = subst (λ (k : ℕ). k < length ds) (sym node) below in
    let unmade : slice_get memo f.node ≡ Some None = ap (λ (xs : List (Option ℕ)). slice_get xs f.node) (e ∙ h) ∙ get-none n f.node (omega (arith, under, size)) in
    subst (λ (xs : List Frame). AreStacked ds memo xs) (sym (alone stack before f items-are b)) (under, unmade, tt)

pub rooted_first : (memo : List (Option ℕ)) (root : ℕ) (stack before : List code_frame.Frame) (f : code_frame.Frame) → stack ≡ before ++ (f ∷ []) → before ≡ [] → f.node ≡ root → IsRooted memo root (map frame_of stack)
rooted_first memo root stack before f e b node = subst (λ (xs : List Frame). IsRooted memo root xs) (sym (alone stack before f e b)) node
