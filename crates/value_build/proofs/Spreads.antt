-- Pairs of the sketch, one after another.
use Rattle.std.proofs.Common.{◌≡◌, ℕ, List, [], ◌∷◌, ◌++◌, map, refl, ap, sym, ◌∙◌, subst, append_assoc, append-nil}
use Rattle.std.specs.Prelude.{Result, Ok, IsErr}
use Rattle.std.specs.declared.alloc.AllocError.{AllocError}
use Rattle.poly_graph.specs.Term.{Term, Kind}
use Rattle.script_model.specs.Sexp.{Place}
use Rattle.script_model.specs.Meaning.{neighbours, pairs}
use Rattle.script_forms.specs.Terms.{Unfolded}
use Rattle.term_build.specs.Built.{BuilderModel}
use Rattle.term_build.specs.Sketch.{SketchNode}
use Rattle.term_build.specs.Pairs.{Draws, DrawsEach, Sketches, ComparesTwo, ConnectsTwo, compared, tree_at, trees_at}
use Rattle.term_build.specs.declared.connectives.Pair.{Pair}
use Rattle.term_build.proofs.Pairs.{grown_self, grown_both, pair_more, each_more, ended}
use Rattle.value_build.specs.Chains.{others_of, spread_over, AreTrees, AddsComparisons, ComparesEach, IsSpreading, Comparing, Spreading, AddsConnected, ConnectsEach, Connecting, ConnectingEach}
use Rattle.value_build.specs.declared.chains.Spread.{Spread}
use Rattle.value_build.specs.declared.chains.Spread.TheVariants.{Next, Later}

-- ---- lists

pub spread_next : {X Y : Type 0} (f : X → X → Y) (xs : List X) → spread_over Next f xs ≡ neighbours f xs
spread_next f [] = refl
spread_next f (x ∷ []) = refl
spread_next f (x ∷ y ∷ xs) = ap (λ rest. f x y ∷ rest) (spread_next f (y ∷ xs))

pub spread_later : {X Y : Type 0} (f : X → X → Y) (xs : List X) → spread_over Later f xs ≡ pairs f xs
spread_later f [] = refl
spread_later f (x ∷ xs) = ap (λ rest. map (f x) xs ++ rest) (spread_later f xs)

pub others_trees : (s : Spread) (ts : List Term) (ks : List ℕ) → AreTrees ts ks → AreTrees ts (others_of s ks)
others_trees Later ts ks h = h
others_trees Next ts [] h = tt
others_trees Next ts (k ∷ ks) h = (h.0, tt)

pub trees_of_others : (s : Spread) (ts : List Term) (ks : List ℕ) → trees_at ts (others_of s ks) ≡ others_of s (trees_at ts ks)
trees_of_others Later ts ks = refl
trees_of_others Next ts [] = refl
trees_of_others Next ts (k ∷ ks) = refl

pub each_end : (ts : List Term) (ds : List SketchNode) (us : List Unfolded) (ps : List Pair) (u : Unfolded) (p : Pair) → DrawsEach ts ds us ps → Draws ts ds u p → DrawsEach ts ds (us ++ (u ∷ [])) (ps ++ (p ∷ []))
each_end ts ds [] [] u p h k = (k, tt)
each_end ts ds (v ∷ us) (q ∷ ps) u p h k = (h.0, each_end ts ds us ps u p h.1 k)
each_end ts ds [] (q ∷ ps) u p h k = elim h [ ]
each_end ts ds (v ∷ us) [] u p h k = elim h [ ]

-- ---- one more pair

pub spread_more : (m : BuilderModel) (ts : List Term) (ds e e' : List SketchNode) (us : List Unfolded) (ps ps' : List Pair) (u : Unfolded) (p : Pair) (left : List Unfolded) → ps' ≡ ps ++ (p ∷ []) → IsSpreading m ts ds e us ps (u ∷ left) →
    Sketches e e' m (Draws ts e' u) (Ok p) → IsSpreading m ts ds e' us ps' left
spread_more m ts ds e e' us ps ps' u p left is h k = record {
  grown = grown_both ds e e' h.grown k.grown;
  sketch = k.sketch;
  done = h.done ++ (u ∷ []);
  drawn = subst (λ (qs : List Pair). DrawsEach ts e' (h.done ++ (u ∷ [])) qs) (sym is) (each_end ts e' h.done ps u p (each_more ts e e' h.done ps k.grown h.drawn) k.drawn);
  same = append_assoc h.done (u ∷ []) left ∙ h.same;
}

pub spread_ended : {X Y : Type 0} (P : X → Type 0) (Q : Y → Type 0) (m : BuilderModel) (ts : List Term) (ds e e' : List SketchNode) (us : List Unfolded) (ps : List Pair) (left : List Unfolded) (x : Result X AllocError) (r : Result Y AllocError) → IsErr r → IsSpreading m ts ds e us ps left →
    Sketches e e' m P x → Sketches ds e' m Q r
spread_ended P Q m ts ds e e' us ps left x r is h k = ended ds e' m Q r is (grown_both ds e e' h.grown k.grown) k.sketch

pub spread_done : (m : BuilderModel) (ts : List Term) (ds e : List SketchNode) (us : List Unfolded) (ps : List Pair) → IsSpreading m ts ds e us ps [] → DrawsEach ts e us ps
spread_done m ts ds e us ps h = subst (λ (vs : List Unfolded). DrawsEach ts e vs ps) (sym (append-nil h.done) ∙ h.same) h.drawn

-- ---- one tree with others

pub comparing_begun : (f : Unfolded → Unfolded → Unfolded) (ds : List SketchNode) (k : ℕ) (ks : List ℕ) (ps : List Pair) → Comparing f ds ds k ks ps ps ks
comparing_begun f ds k ks ps = λ m ts us s b a l d. (a, record { grown = grown_self ds; sketch = s; done = us; drawn = d; same = refl })

pub comparing_step : (kind : Kind) (at : Place) (ds e e' : List SketchNode) (k j : ℕ) (ks : List ℕ) (ps qs qs' : List Pair) (p : Pair) (left : List ℕ) → qs' ≡ qs ++ (p ∷ []) → Comparing (compared kind at) ds e k ks ps qs (j ∷ left) →
    ComparesTwo kind at e e' k j (Ok p) → Comparing (compared kind at) ds e' k ks ps qs' left
comparing_step kind at ds e e' k j ks ps qs qs' p left is h w = λ m ts us s b a l d. let g = h m ts us s b a l d in
    (g.0.1, spread_more m ts ds e e' _ qs qs' (compared kind at (tree_at ts k) (tree_at ts j)) p _ is g.1 (w m ts g.1.sketch b g.0.0 l))

pub comparing_ended : {X : Type 0} (kind : Kind) (at : Place) (ds e e' : List SketchNode) (k j : ℕ) (ks : List ℕ) (ps qs qs' : List Pair) (left : List ℕ) (x : Result Pair AllocError) (r : Result X AllocError) → IsErr r → Comparing (compared kind at) ds e k ks ps qs (j ∷ left) →
    ComparesTwo kind at e e' k j x → AddsComparisons (compared kind at) ds e' k ks ps qs' r
comparing_ended kind at ds e e' k j ks ps qs qs' left x r is h w = λ m ts us s b a l d. let g = h m ts us s b a l d in
    spread_ended (Draws ts e' (compared kind at (tree_at ts k) (tree_at ts j))) (λ _. DrawsEach ts e' (us ++ map (compared kind at (tree_at ts k)) (trees_at ts ks)) qs') m ts ds e e' _ qs _ x r is g.1 (w m ts g.1.sketch b g.0.0 l)

pub comparing_done : {X : Type 0} (f : Unfolded → Unfolded → Unfolded) (ds e : List SketchNode) (k : ℕ) (ks : List ℕ) (ps qs : List Pair) (x : X) → Comparing f ds e k ks ps qs [] → AddsComparisons f ds e k ks ps qs (Ok x)
comparing_done f ds e k ks ps qs x h = λ m ts us s b a l d. let g = h m ts us s b a l d in
    record { grown = g.1.grown; sketch = g.1.sketch; drawn = spread_done m ts ds e _ qs g.1 }

-- ---- each tree with those that belong with it

pub spreading_begun : (s : Spread) (f : Unfolded → Unfolded → Unfolded) (ds : List SketchNode) (ks : List ℕ) → Spreading s f ds ds ks [] ks
spreading_begun s f ds ks = λ m ts k a l. (a, record { grown = grown_self ds; sketch = k; done = []; drawn = tt; same = refl })

pub spreading_step : {X : Type 0} (s : Spread) (f : Unfolded → Unfolded → Unfolded) (ds e e' : List SketchNode) (k : ℕ) (ks left : List ℕ) (ps qs : List Pair) (x : X) → Spreading s f ds e ks ps (k ∷ left) →
    AddsComparisons f e e' k (others_of s left) ps qs (Ok x) → Spreading s f ds e' ks qs left
spreading_step s f ds e e' k ks left ps qs x h w = λ m ts i a l. let g = h m ts i a l in
    let n = w m ts g.1.done g.1.sketch g.0.0 (others_trees s ts left g.0.1) l g.1.drawn in (
      g.0.1,
      record {
        grown = grown_both ds e e' g.1.grown n.grown;
        sketch = n.sketch;
        done = g.1.done ++ map (f (tree_at ts k)) (trees_at ts (others_of s left));
        drawn = n.drawn;
        same = append_assoc g.1.done (map (f (tree_at ts k)) (trees_at ts (others_of s left))) (spread_over s f (trees_at ts left))
            ∙ ap (λ vs. g.1.done ++ (map (f (tree_at ts k)) vs ++ spread_over s f (trees_at ts left))) (trees_of_others s ts left) ∙ g.1.same;
      },
    )

pub spreading_ended : {X V : Type 0} (items : V → List Pair) (s : Spread) (f : Unfolded → Unfolded → Unfolded) (ds e e' : List SketchNode) (k : ℕ) (ks left : List ℕ) (ps qs : List Pair) (x : Result X AllocError) (r : Result V AllocError) → IsErr r → Spreading s f ds e ks ps (k ∷ left) →
    AddsComparisons f e e' k (others_of s left) ps qs x → ComparesEach items s f ds e' ks r
spreading_ended items s f ds e e' k ks left ps qs x r is h w = λ m ts i a l. let g = h m ts i a l in
    let n = w m ts g.1.done g.1.sketch g.0.0 (others_trees s ts left g.0.1) l g.1.drawn in
    ended ds e' m (λ ps. DrawsEach ts e' (spread_over s f (trees_at ts ks)) (items ps)) r is (grown_both ds e e' g.1.grown n.grown) n.sketch

pub spreading_done : {V : Type 0} (items : V → List Pair) (s : Spread) (f : Unfolded → Unfolded → Unfolded) (ds e : List SketchNode) (ks : List ℕ) (ps : V) → Spreading s f ds e ks (items ps) [] → ComparesEach items s f ds e ks (Ok ps)
spreading_done items s f ds e ks ps h = λ m ts i a l. let g = h m ts i a l in record { grown = g.1.grown; sketch = g.1.sketch; drawn = spread_done m ts ds e _ (items ps) g.1 }

-- ---- one Bool expression with others

-- the formula of a pair that stands first
first-each : (ts : List Term) (ds : List SketchNode) (vs : List Unfolded) (q : Pair) (qs : List Pair) → DrawsEach ts ds vs (q ∷ qs) → (v : Unfolded) × (ws : List Unfolded) × (vs ≡ v ∷ ws) × Draws ts ds v q × DrawsEach ts ds ws qs
first-each ts ds (v ∷ ws) q qs h = (v, ws, refl, h.0, h.1)
first-each ts ds [] q qs h = elim h [ ]

none-each : (ts : List Term) (ds : List SketchNode) (vs : List Unfolded) → DrawsEach ts ds vs [] → vs ≡ []
none-each ts ds [] h = refl
none-each ts ds (v ∷ vs) h = elim h [ ]

pub connecting_begun : (f : Unfolded → Unfolded → Unfolded) (ds : List SketchNode) (p : Pair) (qs ps : List Pair) → Connecting f ds ds p qs ps ps qs
connecting_begun f ds p qs ps = λ m ts u vs us s d e a. record { others = vs; each = e; rest = record { grown = grown_self ds; sketch = s; done = us; drawn = a; same = refl } }

pub connecting_step : (f : Unfolded → Unfolded → Unfolded) (ds e e' : List SketchNode) (p q x : Pair) (qs ps ps1 ps2 left : List Pair) → ps2 ≡ ps1 ++ (x ∷ []) → Connecting f ds e p qs ps ps1 (q ∷ left) → ConnectsTwo f e e' p q (Ok x) →
    Connecting f ds e' p qs ps ps2 left
connecting_step f ds e e' p q x qs ps ps1 ps2 left is h w = λ m ts u vs us s d b a.
    let g = h m ts u vs us s d b a in let k = first-each ts e g.others q left g.each in
    let n = w m ts u k.0 g.rest.sketch (pair_more ts ds e u p g.rest.grown d) k.3 in
    record {
      others = k.1;
      each = each_more ts e e' k.1 left n.grown k.4;
      rest = spread_more m ts ds e e' _ ps1 ps2 (f u k.0) x (map (f u) k.1) is (subst (λ (ws : List Unfolded). IsSpreading m ts ds e (us ++ map (f u) vs) ps1 (map (f u) ws)) k.2 g.rest) n;
    }

pub connecting_ended : {X : Type 0} (f : Unfolded → Unfolded → Unfolded) (ds e e' : List SketchNode) (p q : Pair) (qs ps ps1 ps2 left : List Pair) (x : Result Pair AllocError) (r : Result X AllocError) → IsErr r → Connecting f ds e p qs ps ps1 (q ∷ left) → ConnectsTwo f e e' p q x →
    AddsConnected f ds e' p qs ps ps2 r
connecting_ended f ds e e' p q qs ps ps1 ps2 left x r is h w = λ m ts u vs us s d b a.
    let g = h m ts u vs us s d b a in let k = first-each ts e g.others q left g.each in
    let n = w m ts u k.0 g.rest.sketch (pair_more ts ds e u p g.rest.grown d) k.3 in
    ended ds e' m (λ _. DrawsEach ts e' (us ++ map (f u) vs) ps2) r is (grown_both ds e e' g.rest.grown n.grown) n.sketch

pub connecting_done : {X : Type 0} (f : Unfolded → Unfolded → Unfolded) (ds e : List SketchNode) (p : Pair) (qs ps ps1 : List Pair) (x : X) → Connecting f ds e p qs ps ps1 [] → AddsConnected f ds e p qs ps ps1 (Ok x)
connecting_done f ds e p qs ps ps1 x h = λ m ts u vs us s d b a. let g = h m ts u vs us s d b a in
    record { grown = g.rest.grown; sketch = g.rest.sketch; drawn = spread_done m ts ds e _ ps1 (subst (λ (ws : List Unfolded). IsSpreading m ts ds e (us ++ map (f u) vs) ps1 (map (f u) ws)) (none-each ts e g.others g.each) g.rest) }

-- ---- each with those that belong with it

each-others : (s : Spread) (ts : List Term) (ds : List SketchNode) (us : List Unfolded) (ps : List Pair) → DrawsEach ts ds us ps → DrawsEach ts ds (others_of s us) (others_of s ps)
each-others Later ts ds us ps h = h
each-others Next ts ds [] [] h = tt
each-others Next ts ds (u ∷ us) (p ∷ ps) h = (h.0, tt)
each-others Next ts ds [] (p ∷ ps) h = elim h [ ]
each-others Next ts ds (u ∷ us) [] h = elim h [ ]

pub each_begun : (s : Spread) (f : Unfolded → Unfolded → Unfolded) (ds : List SketchNode) (qs : List Pair) → ConnectingEach s f ds ds qs [] qs
each_begun s f ds qs = λ m ts us k a. record { others = us; each = a; rest = record { grown = grown_self ds; sketch = k; done = []; drawn = tt; same = refl } }

pub each_step : {X : Type 0} (s : Spread) (f : Unfolded → Unfolded → Unfolded) (ds e e' : List SketchNode) (q : Pair) (qs left ps ps' : List Pair) (x : X) → ConnectingEach s f ds e qs ps (q ∷ left) →
    AddsConnected f e e' q (others_of s left) ps ps' (Ok x) → ConnectingEach s f ds e' qs ps' left
each_step s f ds e e' q qs left ps ps' x h w = λ m ts us i a. let g = h m ts us i a in let k = first-each ts e g.others q left g.each in
    let n = w m ts k.0 (others_of s k.1) g.rest.done g.rest.sketch k.3 (each-others s ts e k.1 left k.4) g.rest.drawn in
    record {
      others = k.1;
      each = each_more ts e e' k.1 left n.grown k.4;
      rest = record {
        grown = grown_both ds e e' g.rest.grown n.grown;
        sketch = n.sketch;
        done = g.rest.done ++ map (f k.0) (others_of s k.1);
        drawn = n.drawn;
        same = append_assoc g.rest.done (map (f k.0) (others_of s k.1)) (spread_over s f k.1) ∙ ap (λ ws. g.rest.done ++ spread_over s f ws) (sym k.2) ∙ g.rest.same;
      };
    }

pub each_ended : {X V : Type 0} (items : V → List Pair) (s : Spread) (f : Unfolded → Unfolded → Unfolded) (ds e e' : List SketchNode) (q : Pair) (qs left ps ps' : List Pair) (x : Result X AllocError) (r : Result V AllocError) → IsErr r → ConnectingEach s f ds e qs ps (q ∷ left) →
    AddsConnected f e e' q (others_of s left) ps ps' x → ConnectsEach items s f ds e' qs r
each_ended items s f ds e e' q qs left ps ps' x r is h w = λ m ts us i a. let g = h m ts us i a in let k = first-each ts e g.others q left g.each in
    let n = w m ts k.0 (others_of s k.1) g.rest.done g.rest.sketch k.3 (each-others s ts e k.1 left k.4) g.rest.drawn in
    ended ds e' m (λ ps. DrawsEach ts e' (spread_over s f us) (items ps)) r is (grown_both ds e e' g.rest.grown n.grown) n.sketch

pub each_done : {V : Type 0} (items : V → List Pair) (s : Spread) (f : Unfolded → Unfolded → Unfolded) (ds e : List SketchNode) (qs : List Pair) (ps : V) → ConnectingEach s f ds e qs (items ps) [] → ConnectsEach items s f ds e qs (Ok ps)
each_done items s f ds e qs ps h = λ m ts us i a. let g = h m ts us i a in
    record { grown = g.rest.grown; sketch = g.rest.sketch; drawn = spread_done m ts ds e _ (items ps) (subst (λ (ws : List Unfolded). IsSpreading m ts ds e (spread_over s f us) (items ps) (spread_over s f ws)) (none-each ts e g.others g.each) g.rest) }
