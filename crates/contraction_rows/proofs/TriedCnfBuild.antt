-- The problems that the tests try are problems.
use Rattle.std.proofs.Common.{◌≡◌, refl, sym, subst, ℕ, zero, suc, ◌<◌, List, [], ◌∷◌, ◌++◌, length, IsTrue, ltb→lt, arith}
use Rattle.std.specs.Prelude.{All}
use Rattle.std.specs.Bool.{passes}
use Rattle.std.proofs.lemmas.List.Elements.{All-nil, All-cons}
use Rattle.std.proofs.lemmas.Nat.Gcd.{IsGcd-from_zero, IsGcd-swap}
use Rattle.dyadic.specs.Point.{bool_sort}
use Rattle.dyadic.proofs.Equal.{both_true}
use Rattle.poly_graph.specs.Term.{Node, Kind, le}
use Rattle.poly_graph.specs.Form.{Form}
use Rattle.poly_graph.specs.FormGraph.{FormNode, yes_node, no_node, atom_node, bool_node, all_node, any_node, form_at, picked, node_form, forms_after}
use Rattle.poly_graph.specs.Problem.{Axis, IsDeclared, IsConstant, IsNode, HasSort, IsForm, AreForms, sorts_of_axes}
use Rattle.poly_graph.specs.ProblemViews.{IsWhole}
use Rattle.contraction_rows.specs.TriedCnfBuild.{nought, tried_nodes, tried_atoms, tried_axis, tried_axes, is_known, are_known}

-- a form over what there is
abbrev Fits : Form ℕ → Type 0
Fits f = IsForm (sorts_of_axes tried_axes) 5 f

fits-end : (done : List (Form ℕ)) (f : Form ℕ) → ((k : ℕ) → Fits (form_at done k)) → Fits f → (k : ℕ) → Fits (form_at (done ++ (f ∷ [])) k)
fits-end [] f g h zero = h
fits-end [] f g h (suc k) = tt
fits-end (e ∷ done) f g h zero = g zero
fits-end (e ∷ done) f g h (suc k) = fits-end done f (λ j. g (suc j)) h k

fits-picked : (done : List (Form ℕ)) (ks : List ℕ) → ((k : ℕ) → Fits (form_at done k)) → AreForms (sorts_of_axes tried_axes) 5 (picked done ks)
fits-picked done [] g = tt
fits-picked done (k ∷ ks) g = (g k, fits-picked done ks g)

bool-axis : (i : ℕ) → i < 2 → HasSort bool_sort (sorts_of_axes tried_axes) i
bool-axis zero l = tt
bool-axis (suc zero) l = tt
bool-axis (suc (suc i)) l = absurd (omega arith)

fits-node : (done : List (Form ℕ)) (n : FormNode) → IsTrue (is_known n) → ((k : ℕ) → Fits (form_at done k)) → Fits (node_form done n)
fits-node done yes_node h g = tt
fits-node done no_node h g = tt
fits-node done (atom_node j) h g = ltb→lt j 5 (passes _ h)
fits-node done (bool_node i v) h g = bool-axis i (ltb→lt i 2 (passes _ h))
fits-node done (all_node ks) h g = fits-picked done ks g
fits-node done (any_node ks) h g = fits-picked done ks g

fits-after : (done : List (Form ℕ)) (nodes : List FormNode) → IsTrue (are_known nodes) → ((k : ℕ) → Fits (form_at done k)) → (k : ℕ) → Fits (form_at (forms_after done nodes) k)
fits-after done [] h g = g
fits-after done (n ∷ nodes) h g =
    let e = both_true (is_known n) (are_known nodes) h in
    fits-after (done ++ (node_form done n ∷ [])) nodes e.1 (fits-end done (node_form done n) g (fits-node done n e.0 g))

constant-nought : IsConstant nought
constant-nought = (omega arith, IsGcd-swap 1 0 1 (IsGcd-from_zero 1 0 refl), omega arith, omega arith)

abbrev low : ℕ × Kind → Type 0
low a = a.0 < 1

abbrev one : List (ℕ × Kind)
one = (0, le) ∷ []

abbrev two : List (ℕ × Kind)
two = (0, le) ∷ one

abbrev three : List (ℕ × Kind)
three = (0, le) ∷ two

abbrev four : List (ℕ × Kind)
four = (0, le) ∷ three

one-more : (xs : List (ℕ × Kind)) → All low xs → All low ((0, le) ∷ xs)
one-more xs h = let l : 0 < 1 = omega arith in All-cons low (0, le) xs l h

each-atom : All (λ (a : ℕ × Kind). a.0 < length tried_nodes) tried_atoms
each-atom = one-more four (one-more three (one-more two (one-more one (one-more [] (All-nil low)))))

-- the problem of these parts is whole
pub tried_whole : (forms : List FormNode) (root : ℕ) → IsTrue (are_known forms) → root < length forms → IsWhole (record { axes = tried_axes; nodes = tried_nodes; atoms = tried_atoms; forms = forms; root = root })
tried_whole forms root h l = record {
  problem = record {
    bounds = All-cons (λ (a : Axis). IsDeclared a.declared) tried_axis (tried_axis ∷ []) tt (All-cons (λ (a : Axis). IsDeclared a.declared) tried_axis [] tt (All-nil (λ (a : Axis). IsDeclared a.declared)));
    ordered = refl;
    nodes = All-cons (IsNode (sorts_of_axes tried_axes)) _ [] constant-nought (All-nil (IsNode (sorts_of_axes tried_axes)));
    atoms = each-atom;
    form = fits-after [] forms h (λ k. tt) root;
  };
  root = l;
}

-- so is one of parts that are equal to these
pub whole_of : (axes : List Axis) (nodes : List Node) (atoms : List (ℕ × Kind)) (forms : List FormNode) (root : ℕ) → axes ≡ tried_axes → nodes ≡ tried_nodes → atoms ≡ tried_atoms → IsTrue (are_known forms) → root < length forms →
    IsWhole (record { axes = axes; nodes = nodes; atoms = atoms; forms = forms; root = root })
whole_of axes nodes atoms forms root e f g h l =
    subst (λ (x : List Axis). IsWhole (record { axes = x; nodes = nodes; atoms = atoms; forms = forms; root = root })) (sym e)
    (subst (λ (x : List Node). IsWhole (record { axes = tried_axes; nodes = x; atoms = atoms; forms = forms; root = root })) (sym f)
    (subst (λ (x : List (ℕ × Kind)). IsWhole (record { axes = tried_axes; nodes = tried_nodes; atoms = x; forms = forms; root = root })) (sym g) (tried_whole forms root h l)))
