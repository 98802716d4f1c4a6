-- A problem with a limit of its goal, the term of an atom.
--
-- The limit says that the goal is at most d, a multiple of 2^-k: there is one more atom, 2^k * t - n at most 0, where t is the goal and n is
-- 2^k * d, and the form asks for it too. Loosened by m it says that the goal is at most d + m / 2^k. Its two constants are new, so
-- that each node of the graph stands once.
use Rattle.std.specs.Prelude.{ℕ, ◌+◌, ◌-◌, ◌*◌, ◌/◌, ◌^◌, List, [], ◌∷◌, ◌++◌, length, Bool, false, not, ◌&&◌, ◌||◌, ℤ, pos, negsuc, neg_ℤ, nat_abs, nat_eq, nat_le}
use Rattle.std.specs.Ordering.{int_eq}
use Rattle.dyadic.specs.Fraction.{Fraction, whole}
use Rattle.dyadic.specs.Rounding.{Dyadic}
use Rattle.poly_graph.specs.Term.{Node, constant_node, multiply_node, add_node, le}
use Rattle.poly_graph.specs.Form.{atom_is, all_form, no_forms, more_forms}
use Rattle.poly_graph.specs.Problem.{Problem, atom_at}

-- ---- the constants

-- 2^k
abbrev pub scale_of : ℕ → Fraction
scale_of k = whole (pos (2 ^ k))

-- whole multiples of 2^-k in the size of d
abbrev pub limit_size : ℕ → Dyadic → ℕ
limit_size k d = nat_abs d.units / 2 ^ (120 - k)

abbrev pub opposite : ℕ → ℤ → ℤ
opposite n (pos u) = neg_ℤ (pos n)
opposite n (negsuc u) = pos n

-- minus 2^k * d
abbrev pub offset_of : ℕ → Dyadic → Fraction
offset_of k d = whole (opposite (limit_size k d) d.units)

-- ---- which limits there are

abbrev pub is_constant : Fraction → Node → Bool
is_constant q (constant_node r) = int_eq q.num r.num && nat_eq q.den r.den
is_constant q n = false

abbrev pub has_constant : List Node → Fraction → Bool
has_constant [] q = false
has_constant (n ∷ nodes) q = is_constant q n || has_constant nodes q

-- d is a multiple of 2^-k, and both constants are of a size that is kept, and new
abbrev pub is_limit : Problem → ℕ → Dyadic → Bool
is_limit p k d =
    nat_le k 119 && nat_eq (limit_size k d * 2 ^ (120 - k)) (nat_abs d.units) && nat_le (limit_size k d) (10 ^ 36) &&
    not (has_constant p.nodes (scale_of k)) && not (has_constant (constant_node (scale_of k) ∷ p.nodes) (offset_of k d))

-- ---- the problem

-- where a graph has so many nodes
abbrev pub limit_nodes : ℕ → ℕ → Fraction → Fraction → List Node
limit_nodes n t scale offset = constant_node scale ∷ multiply_node n t ∷ constant_node offset ∷ add_node (n + 1) (n + 2) ∷ []

-- with these constants
abbrev pub with_limit : Problem → ℕ → Fraction → Fraction → Problem
with_limit p g scale offset = record {
  axes = p.axes;
  nodes = p.nodes ++ limit_nodes (length p.nodes) (atom_at p g).0 scale offset;
  atoms = p.atoms ++ ((length p.nodes + 3, le) ∷ []);
  form = all_form (more_forms p.form (more_forms (atom_is (length p.atoms)) no_forms));
}

abbrev pub limited : Problem → ℕ → ℕ → Dyadic → Problem
limited p g k d = with_limit p g (scale_of k) (offset_of k d)
