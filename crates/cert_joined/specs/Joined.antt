-- The trees that several certificates have at one place, and the one that joins them.
use Rattle.std.specs.Prelude.{◌≡◌, List, [], ◌∷◌, Bool, false, cond, not, ◌&&◌, IsTrue, map}
use Rattle.std.specs.List.{AllByRecursion}
use Rattle.cover_model.specs.Rules.{Line}
use Rattle.cover_model.specs.Derivation.{Tree, leaf, then, fork}
use Rattle.cert_resumed.specs.Resumed.{is_leaving}

-- the tree is one line, which leaves the state open or stuck
abbrev pub leaves_at_once : Tree → Bool
leaves_at_once (leaf l) = is_leaving l
leaves_at_once (then l t) = false
leaves_at_once (fork l t u) = false

-- those of the trees that go on
abbrev pub going_on : List Tree → List Tree
going_on [] = []
going_on (t ∷ ts) = cond (leaves_at_once t) (going_on ts) (t ∷ going_on ts)

-- the tree leaves nothing
abbrev pub closes : Tree → Bool
closes (leaf l) = not (is_leaving l)
closes (then l t) = closes t
closes (fork l t u) = closes t && closes u

-- the first of them that leaves nothing, or else this one
abbrev pub first_closed : Tree → List Tree → Tree
first_closed first [] = first
first_closed first (t ∷ ts) = cond (closes t) t (first_closed first ts)

abbrev pub first_line : Tree → Line
first_line (leaf l) = l
first_line (then l t) = l
first_line (fork l t u) = l

-- a tree joins these, which stand at one place
pub data Joins : List Tree → Tree → Type 0 where
  -- none goes on
  none : (t : Tree) (ts : List Tree) → going_on (t ∷ ts) ≡ [] → Joins (t ∷ ts) t
  -- one does
  one : (t : Tree) (ts : List Tree) → going_on ts ≡ t ∷ [] → Joins ts t
  -- all that go on have the same line, below which each has its own trees
  ends : (l : Line) (more ts : List Tree) → going_on ts ≡ leaf l ∷ more → AllByRecursion (λ (t : Tree). t ≡ leaf l) more → Joins ts (leaf l)
  steps : (l : Line) (us ts : List Tree) (u : Tree) → going_on ts ≡ map (λ (t : Tree). then l t) us → Joins us u → Joins ts (then l u)
  forks : (l : Line) (us : List (Tree × Tree)) (ts : List Tree) (u v : Tree) → going_on ts ≡ map (λ (x : Tree × Tree). fork l x.0 x.1) us →
      Joins (map (λ (x : Tree × Tree). x.0) us) u → Joins (map (λ (x : Tree × Tree). x.1) us) v → Joins ts (fork l u v)
  -- they have different lines, and one is taken whole
  differ : (t : Tree) (more ts : List Tree) → going_on ts ≡ t ∷ more → (AllByRecursion (λ (u : Tree). first_line u ≡ first_line t) more → ⊥) → Joins ts (first_closed t (t ∷ more))

-- no trees differ at any place
abbrev pub IsAgreed : {ts : List Tree} {u : Tree} → Joins ts u → Type 0
IsAgreed (none t ts e) = Unit {0}
IsAgreed (one t ts e) = Unit {0}
IsAgreed (ends l more ts e same) = Unit {0}
IsAgreed (steps l us ts u e j) = IsAgreed j
IsAgreed (forks l us ts u v e j j') = IsAgreed j × IsAgreed j'
IsAgreed (differ t more ts e d) = ⊥

-- what a joined tree keeps of one of those that it joins
pub data Keeps : Tree → Tree → Type 0 where
  -- that left its state, so whatever stands there goes on from it
  goes_on : (t u : Tree) → IsTrue (leaves_at_once t) → Keeps t u
  -- the same line, and below it likewise
  same_end : (l : Line) → Keeps (leaf l) (leaf l)
  same_step : (l : Line) (t u : Tree) → Keeps t u → Keeps (then l t) (then l u)
  same_fork : (l : Line) (t t' u u' : Tree) → Keeps t u → Keeps t' u' → Keeps (fork l t t') (fork l u u')
  -- another tree, which leaves nothing
  closed : (t u : Tree) → IsTrue (closes u) → Keeps t u
  -- another tree, where this one leaves something
  dropped : (t u : Tree) → closes t ≡ false → Keeps t u
