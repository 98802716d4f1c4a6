-- Equal factors of a product, in groups.
use Rattle.std.specs.Prelude.{◌≡◌, ℕ, zero, suc, ◌+◌, ◌<◌, List, [], ◌∷◌, ◌++◌, length, replicate, Bool, true, false, Option, Some, None, cond, nat_eq, option_map}
use Rattle.std.specs.HashMap.{HashMap, get}
use Rattle.script_forms.specs.Terms.{beside, gathered, gathered_with}
use Rattle.term_build.specs.Built.{BuilderModel, IsMade, stand_of}
use Rattle.term_build.specs.Pairs.{tree_at, trees_at}
use Rattle.term_build.specs.Steps.{as_constant, tree_of}
use Rattle.value_build.specs.Arithmetic.{AreNodes}
use Rattle.value_build.specs.declared.gather.Group.{Group}

-- the factors, each as often as it stands
abbrev pub expanded : List Group → List ℕ
expanded [] = []
expanded (g ∷ gs) = replicate g.times g.factor ++ expanded gs

-- a factor that stands once
abbrev pub one_of : ℕ → Group
one_of k = record { factor = k; times = 1 }

-- the factor of the group at this place stands once more
abbrev pub raised : List Group → ℕ → List Group
raised [] p = []
raised (g ∷ gs) zero = record { factor = g.factor; times = suc g.times } ∷ gs
raised (g ∷ gs) (suc p) = g ∷ raised gs p

-- the place of the first group of this factor
abbrev pub group_of : List Group → ℕ → Option ℕ
group_of [] k = None
group_of (g ∷ gs) k = cond (nat_eq g.factor k) (Some 0) (option_map suc (group_of gs k))

-- whether a factor stands among these
abbrev pub is_among : ℕ → List ℕ → Bool
is_among k [] = false
is_among k (j ∷ js) = cond (nat_eq k j) true (is_among k js)

-- whether equal factors stand in rows
abbrev pub are_in_rows : ℕ → List ℕ → Bool
are_in_rows k [] = true
are_in_rows k (j ∷ js) = cond (nat_eq k j) (are_in_rows k js) (cond (is_among k js) false (are_in_rows j js))

abbrev pub all_in_rows : List ℕ → Bool
all_in_rows [] = true
all_in_rows (k ∷ ks) = are_in_rows k ks

-- each has a factor, which stands
abbrev pub EachGroup : BuilderModel → List Group → Type 0
EachGroup m [] = Unit {0}
EachGroup m (g ∷ gs) = (g.factor < length m.nodes) × (0 < g.times) × EachGroup m gs

-- groups, with the place of each whose factor is no constant
pub record AreGroups {S : Type 0} (m : BuilderModel) (groups : List Group) (places : HashMap ℕ ℕ S) : Type 0 where
  pub each : EachGroup m groups
  pub found : (k : ℕ) → k < length m.nodes → as_constant (tree_of m k) ≡ None → get nat_eq places k ≡ group_of groups k

-- one factor more stands beside those that are equal
pub record AddsFactor {S : Type 0} (m : BuilderModel) (old new : List Group) (places : HashMap ℕ ℕ S) (k : ℕ) : Type 0 where
  pub grouped : AreGroups m new places
  pub factors : trees_at (stand_of m).trees (expanded new) ≡ beside (tree_at (stand_of m).trees k) (trees_at (stand_of m).trees (expanded old))

-- what is left, after some of the factors, is put to the groups
pub record IsGathering {S : Type 0} (m : BuilderModel) (nodes left : List ℕ) (groups : List Group) (places : HashMap ℕ ℕ S) : Type 0 where
  pub made : IsMade m
  pub below : AreNodes m left
  pub grouped : AreGroups m groups places
  pub counted : length (expanded groups) + length left ≡ length nodes
  pub same : gathered (trees_at (stand_of m).trees nodes) ≡ gathered_with (trees_at (stand_of m).trees (expanded groups)) (trees_at (stand_of m).trees left)

-- these nodes are the factors, gathered
abbrev pub Gathers : BuilderModel → List ℕ → List ℕ → Type 0
Gathers m nodes factors = (trees_at (stand_of m).trees factors ≡ gathered (trees_at (stand_of m).trees nodes)) × AreNodes m factors
