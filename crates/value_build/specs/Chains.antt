-- Pairs of the sketch for each two arguments that belong together.
use Rattle.std.specs.Prelude.{◌≡◌, ℕ, ◌<◌, ◌≤◌, List, [], ◌∷◌, ◌++◌, length, map, take, Result}
use Rattle.std.specs.declared.alloc.AllocError.{AllocError}
use Rattle.poly_graph.specs.Term.{Term}
use Rattle.script_forms.specs.Terms.{Unfolded}
use Rattle.script_forms.specs.Unfolded.{xor_of}
use Rattle.term_build.specs.Built.{BuilderModel}
use Rattle.term_build.specs.Sketch.{SketchNode, IsSketch}
use Rattle.term_build.specs.Pairs.{Grown, Draws, DrawsEach, Sketches, tree_at, trees_at, same_of}
use Rattle.term_build.specs.declared.connectives.Pair.{Pair}
use Rattle.value_build.specs.declared.chains.Spread.{Spread}
use Rattle.value_build.specs.declared.chains.Spread.TheVariants.{Next, Later}

abbrev pub others_of : {X : Type 0} → Spread → List X → List X
others_of Next xs = take 1 xs
others_of Later xs = xs

-- f at each two arguments that belong together
abbrev pub spread_over : {X Y : Type 0} → Spread → (X → X → Y) → List X → List Y
spread_over s f [] = []
spread_over s f (x ∷ xs) = map (f x) (others_of s xs) ++ spread_over s f xs

-- numbers of trees
abbrev pub AreTrees : List Term → List ℕ → Type 0
AreTrees ts [] = Unit {0}
AreTrees ts (k ∷ ks) = (k < length ts) × AreTrees ts ks

-- f of a first tree and each of others is drawn after what was drawn
abbrev pub AddsComparisons : {X : Type 0} → (Unfolded → Unfolded → Unfolded) → List SketchNode → List SketchNode → ℕ → List ℕ → List Pair → List Pair → Result X AllocError → Type 0
AddsComparisons f ds ds' k ks ps ps' r = (m : BuilderModel) (ts : List Term) (us : List Unfolded) → IsSketch m ds → k < length ts → AreTrees ts ks → length ts ≤ length m.nodes → DrawsEach ts ds us ps →
    Sketches ds ds' m (λ _. DrawsEach ts ds' (us ++ map (f (tree_at ts k)) (trees_at ts ks)) ps') r

-- where V holds pairs
abbrev pub ComparesEach : {V : Type 0} → (V → List Pair) → Spread → (Unfolded → Unfolded → Unfolded) → List SketchNode → List SketchNode → List ℕ → Result V AllocError → Type 0
ComparesEach items s f ds ds' ks r = (m : BuilderModel) (ts : List Term) → IsSketch m ds → AreTrees ts ks → length ts ≤ length m.nodes →
    Sketches ds ds' m (λ ps. DrawsEach ts ds' (spread_over s f (trees_at ts ks)) (items ps)) r

-- what is drawn, with what is left, is all
pub record IsSpreading (m : BuilderModel) (ts : List Term) (ds ds' : List SketchNode) (us : List Unfolded) (ps : List Pair) (left : List Unfolded) : Type 0 where
  pub grown : Grown ds ds'
  pub sketch : IsSketch m ds'
  pub done : List Unfolded
  pub drawn : DrawsEach ts ds' done ps
  pub same : done ++ left ≡ us

-- while one tree is compared with others
abbrev pub Comparing : (Unfolded → Unfolded → Unfolded) → List SketchNode → List SketchNode → ℕ → List ℕ → List Pair → List Pair → List ℕ → Type 0
Comparing f ds ds' k ks ps ps' left = (m : BuilderModel) (ts : List Term) (us : List Unfolded) → IsSketch m ds → k < length ts → AreTrees ts ks → length ts ≤ length m.nodes → DrawsEach ts ds us ps →
    AreTrees ts left × IsSpreading m ts ds ds' (us ++ map (f (tree_at ts k)) (trees_at ts ks)) ps' (map (f (tree_at ts k)) (trees_at ts left))

-- while each tree is compared with those that belong with it
abbrev pub Spreading : Spread → (Unfolded → Unfolded → Unfolded) → List SketchNode → List SketchNode → List ℕ → List Pair → List ℕ → Type 0
Spreading s f ds ds' ks ps left = (m : BuilderModel) (ts : List Term) → IsSketch m ds → AreTrees ts ks → length ts ≤ length m.nodes →
    AreTrees ts left × IsSpreading m ts ds ds' (spread_over s f (trees_at ts ks)) ps (spread_over s f (trees_at ts left))

-- ---- Bool expressions

abbrev pub two_of : Spread → Unfolded → Unfolded → Unfolded
two_of Next = same_of
two_of Later = xor_of

-- f of a first formula and each of others is drawn after what was drawn
abbrev pub AddsConnected : {X : Type 0} → (Unfolded → Unfolded → Unfolded) → List SketchNode → List SketchNode → Pair → List Pair → List Pair → List Pair → Result X AllocError → Type 0
AddsConnected f ds ds' p qs ps ps' r = (m : BuilderModel) (ts : List Term) (u : Unfolded) (vs us : List Unfolded) → IsSketch m ds → Draws ts ds u p → DrawsEach ts ds vs qs → DrawsEach ts ds us ps →
    Sketches ds ds' m (λ _. DrawsEach ts ds' (us ++ map (f u) vs) ps') r

abbrev pub ConnectsEach : {V : Type 0} → (V → List Pair) → Spread → (Unfolded → Unfolded → Unfolded) → List SketchNode → List SketchNode → List Pair → Result V AllocError → Type 0
ConnectsEach items s f ds ds' qs r = (m : BuilderModel) (ts : List Term) (us : List Unfolded) → IsSketch m ds → DrawsEach ts ds us qs →
    Sketches ds ds' m (λ ps. DrawsEach ts ds' (spread_over s f us) (items ps)) r

-- what is drawn, with what g makes of the formulas that are left, is all
pub record IsConnecting (g : List Unfolded → List Unfolded) (m : BuilderModel) (ts : List Term) (ds ds' : List SketchNode) (us : List Unfolded) (ps left : List Pair) : Type 0 where
  pub others : List Unfolded
  pub each : DrawsEach ts ds' others left
  pub rest : IsSpreading m ts ds ds' us ps (g others)

abbrev pub Connecting : (Unfolded → Unfolded → Unfolded) → List SketchNode → List SketchNode → Pair → List Pair → List Pair → List Pair → List Pair → Type 0
Connecting f ds ds' p qs ps ps' left = (m : BuilderModel) (ts : List Term) (u : Unfolded) (vs us : List Unfolded) → IsSketch m ds → Draws ts ds u p → DrawsEach ts ds vs qs → DrawsEach ts ds us ps →
    IsConnecting (λ ws. map (f u) ws) m ts ds ds' (us ++ map (f u) vs) ps' left

abbrev pub ConnectingEach : Spread → (Unfolded → Unfolded → Unfolded) → List SketchNode → List SketchNode → List Pair → List Pair → List Pair → Type 0
ConnectingEach s f ds ds' qs ps left = (m : BuilderModel) (ts : List Term) (us : List Unfolded) → IsSketch m ds → DrawsEach ts ds us qs →
    IsConnecting (λ ws. spread_over s f ws) m ts ds ds' (spread_over s f us) ps left
