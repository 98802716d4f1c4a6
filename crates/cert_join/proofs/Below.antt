-- What a line leaves, how many trees it has below it, and whether its state stays.
use Rattle.std.proofs.Common.{◌≡◌, refl, sym, subst}
use Rattle.cover_model.specs.Rules.{Line, narrow_by, end_by, mark_by, branch_by, stay_by, open_state, stuck_atom}
use Rattle.cover_model.specs.Derivation.{Tree, leaf, then, fork}
use Rattle.cert_joined.specs.Joined.{first_line, leaves_at_once}
use Rattle.cert_joined.specs.Covers.{Arity, ends, goes_on, splits, arity, IsShaped}
use Rattle.cert_join.specs.Kinds.{left_kind, arity_of, does_stay}

pub arity_left : (l : Line) → arity l ≡ arity_of (left_kind l)
arity_left (narrow_by n) = refl
arity_left (end_by e) = refl
arity_left (mark_by m) = refl
arity_left (branch_by b) = refl
arity_left (stay_by open_state) = refl
arity_left (stay_by (stuck_atom j)) = refl

-- a tree of one line leaves its state at once where the line's state stays
pub leaving_left : (l : Line) → leaves_at_once (leaf l) ≡ does_stay (left_kind l)
leaving_left (narrow_by n) = refl
leaving_left (end_by e) = refl
leaving_left (mark_by m) = refl
leaving_left (branch_by b) = refl
leaving_left (stay_by open_state) = refl
leaving_left (stay_by (stuck_atom j)) = refl

-- a tree of this shape, by the number of trees below its first line
abbrev pub HasBelow : Arity → Tree → Type 0
HasBelow ends t = t ≡ leaf (first_line t)
HasBelow goes_on t = (u : Tree) × (t ≡ then (first_line t) u) × IsShaped u
HasBelow splits t = (u : Tree) × (v : Tree) × (t ≡ fork (first_line t) u v) × IsShaped u × IsShaped v

has-below : (t : Tree) → IsShaped t → HasBelow (arity (first_line t)) t
has-below (leaf l) h = let P : Arity → Type 0 = λ a. HasBelow a (leaf l) in subst P (sym h) refl
has-below (then l t) h = let P : Arity → Type 0 = λ a. HasBelow a (then l t) in subst P (sym h.0) (t, refl, h.1)
has-below (fork l t u) h = let P : Arity → Type 0 = λ a. HasBelow a (fork l t u) in subst P (sym h.0) (t, u, refl, h.1, h.2)

-- the trees below the first line of a tree, by what that line leaves
pub below_first : (t : Tree) → IsShaped t → HasBelow (arity_of (left_kind (first_line t))) t
below_first t h = let P : Arity → Type 0 = λ a. HasBelow a t in subst P (arity_left (first_line t)) (has-below t h)
