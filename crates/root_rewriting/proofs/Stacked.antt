-- What a stack of frames comes to, and how it goes on.
use Rattle.std.proofs.Common.{◌≡◌, ℕ, List, [], ◌∷◌, ◌++◌, refl, sym, subst}
use Rattle.std.specs.Prelude.{slice_get, Some}
use Rattle.script_roots.specs.Tree.{Tree}
use Rattle.smt_sexp.specs.declared.sexps.Sexps as arena
use Rattle.root_rewriting.specs.Nodes.{AreBelow, trees_in}
use Rattle.root_rewriting.specs.Walking.{Grows, Waits, KnowsNodes, Enters, Leaves}
use Rattle.root_rewriting.specs.declared.unfold.trees.Node.{Node}
use Rattle.root_rewriting.proofs.Arena.{nodes_length}
use Rattle.root_rewriting.specs.declared.unfold.top.Top.{Top}
use Rattle.root_rewriting.specs.declared.unfold.frames.Scope.{Scope}
use Rattle.root_rewriting.specs.declared.unfold.frames.Frame.{Frame}
use Rattle.root_rewriting.specs.declared.unfold.frames.Frame.TheVariants as frame
use Rattle.root_rewriting.specs.declared.unfold.frames.Next.{Next}
use Rattle.root_rewriting.specs.declared.unfold.frames.Next.TheVariants as next
use Rattle.root_rewriting.proofs.Growth.{grows_none, grows_then, knows_stays, locals_stay, trees_stay, trees_below}

-- behind this tree, which goes to the last frame, the whole is that one
abbrev pub Stacked : List Tree → arena.Sexps → List Top → List Frame → Tree → Tree → Type 0
Stacked m s top [] t whole = whole ≡ t
Stacked m s top (f ∷ above) t whole = (mid : Tree) × Stacked m s top above t mid × Waits m s top f mid whole

pub keeps_nodes : (ns : List Node) (s : arena.Sexps) (top : List Top) (f : Frame) (u t : Tree) → Waits (trees_in ns) s top f u t → KnowsNodes ns f
keeps_nodes ns s top (frame.Call c) u t h = subst (λ (n : ℕ). AreBelow n c.parts.items) (nodes_length ns) (trees_below (trees_in ns) h.done c.parts.items h.parts)
keeps_nodes ns s top (frame.Let l x) u t h = tt

module _ (m m1 : List Tree) (s : arena.Sexps) (top : List Top) (g : Grows m m1) where
  waits-stay : (f : Frame) (u t : Tree) → Waits m s top f u t → Waits m1 s top f u t
  waits-stay (frame.Call c) u t h = record {
    names = h.names;
    knows = knows_stays m m1 s top c.scope.visible c.scope.locals.value h.names g h.knows;
    done = h.done;
    parts = trees_stay m m1 g h.done c.parts.items h.parts;
    call = h.call;
  }
  waits-stay (frame.Let l x) u t h = record {
    names = h.names;
    knows = knows_stays m m1 s top l.scope.visible l.scope.locals.value h.names g h.knows;
    done = h.done;
    stand = locals_stay m m1 g l.bound h.done h.stand;
    binds = h.binds;
  }

  stacked-stays : (fs : List Frame) (t whole : Tree) → Stacked m s top fs t whole → Stacked m1 s top fs t whole
  stacked-stays [] t whole h = h
  stacked-stays (f ∷ above) t whole h = (h.0, stacked-stays above t h.0 h.1, waits-stay f h.0 whole h.2)

module _ (m : List Tree) (s : arena.Sexps) (top : List Top) (f : Frame) where
  stacked-push : (fs : List Frame) (u t whole : Tree) → Waits m s top f u t → Stacked m s top fs t whole → Stacked m s top (fs ++ (f ∷ [])) u whole
  stacked-push [] u t whole w h = (u, refl, subst (λ (x : Tree). Waits m s top f u x) (sym h) w)
  stacked-push (g ∷ above) u t whole w h = (h.0, stacked-push above u t h.0 w h.1, h.2)

  stacked-pop : (fs : List Frame) (u whole : Tree) → Stacked m s top (fs ++ (f ∷ [])) u whole → (t : Tree) × Waits m s top f u t × Stacked m s top fs t whole
  stacked-pop [] u whole h = (whole, subst (λ (x : Tree). Waits m s top f x whole) h.1 h.2, refl)
  stacked-pop (g ∷ above) u whole h = let p = stacked-pop above u h.0 h.1 in (p.0, p.1, (h.0, p.2, h.2))

-- ---- a walk that goes on

-- what was made stays, this tree is in hand, and the stack makes the whole of it
pub record Within (InHand : Tree → Type 0) (start now : List Tree) (s : arena.Sexps) (top : List Top) (stack : List Frame) (whole : Tree) : Type 0 where
  pub grows : Grows start now
  pub here : Tree
  pub inner : InHand here
  pub stacked : Stacked now s top stack here whole

-- a frame goes on with a tree
abbrev pub Resumes : List Tree → arena.Sexps → List Top → Frame → ℕ → Tree → Type 0
Resumes m s top f k t = (u : Tree) × Waits m s top f u t × (slice_get m k ≡ Some u)

module _ (s : arena.Sexps) (top : List Top) (whole : Tree) where
  pub within_begins : (m : List Tree) (n : Next) → Leaves m s top n whole → Within (Leaves m s top n) m m s top [] whole
  within_begins m n h = record { grows = grows_none m; here = whole; inner = h; stacked = refl }

  pub within_goes : (InHand : Tree → Type 0) (start now new : List Tree) (stack : List Frame) (n : Next) (h : Within InHand start now s top stack whole) → Grows now new → Leaves new s top n h.here →
      Within (Leaves new s top n) start new s top stack whole
  within_goes InHand start now new stack n h g i = record { grows = grows_then start now new h.grows g; here = h.here; inner = i; stacked = stacked-stays now new s top g stack h.here whole h.stacked }

  module _ (start now : List Tree) (stack : List Frame) where
    -- a frame comes onto the stack
    pub within_waits : (f : Frame) (scope : Scope) (at : ℕ) → Within (Leaves now s top (next.Wait f scope at)) start now s top stack whole → Within (Enters now s top scope at) start now s top (stack ++ (f ∷ [])) whole
    within_waits f scope at h = let i = h.inner in record { grows = h.grows; here = i.here; inner = i.enters; stacked = stacked-push now s top f stack i.here h.here whole i.waits h.stacked }

    -- the last frame gets a tree
    pub within_resumes : (f : Frame) (k : ℕ) → Within (Leaves now s top (next.Back k)) start now s top (stack ++ (f ∷ [])) whole → Within (Resumes now s top f k) start now s top stack whole
    within_resumes f k h = let p = stacked-pop now s top f stack h.here whole h.stacked in record { grows = h.grows; here = p.0; inner = (h.here, p.1, h.inner); stacked = p.2 }
