-- What the clones of nodes and of a problem's parts keep.
use Rattle.std.proofs.Common.{◌≡◌, ℕ, List, [], ◌∷◌, ◌++◌, map, take, refl, ap, ap₂, sym, ◌∙◌}
use Rattle.std.proofs.lemmas.List.{map-append, take-map}
use Rattle.std.specs.List.{AllZip, AppendsClones, each_same}
use Rattle.poly_graph.specs.contracts.form_node.FormNodeClone.TheImpl as form_clone
use Rattle.poly_graph.specs.contracts.axis.AxisClone.TheImpl as axis_clone
use Rattle.poly_graph.specs.declared.form_node.FormNode.{FormNode}
use Rattle.poly_graph.specs.declared.form_node.FormNode.TheVariants.{True, False, AtomIs, BoolIs, And, Or}
use Rattle.poly_graph.specs.declared.axis.Axis.{Axis}
use Rattle.poly_graph.specs.FormGraph
use Rattle.poly_graph.specs.FormGraph.{forms_in_order, forms_size}
use Rattle.poly_graph.specs.FormViews.{form_node_of}
use Rattle.poly_graph.specs.ProblemViews.{axis_of, declared_of, parts_of}
use Rattle.poly_graph.specs.Problem
use Rattle.poly_graph.specs.declared.node.Atom.{Atom}
use Rattle.poly_graph.specs.Term
use Rattle.poly_graph.specs.Views.{atom_of}

-- clones have the same images
pub map_clones : {X Y : Type 0} (f : X → Y) (C : X → X → Type 0) (xs ys : List X) → ((x y : X) → C x y → f y ≡ f x) → AllZip C xs ys → map f ys ≡ map f xs
map_clones f C [] [] g h = refl
map_clones f C [] (y ∷ ys) g h = absurd h
map_clones f C (x ∷ xs) [] g h = absurd h
map_clones f C (x ∷ xs) (y ∷ ys) g h = ap₂ (λ a more. a ∷ more) (g x y h.0) (map_clones f C xs ys g h.1)

-- the images of the first elements of a list, and then of others
pub joined_items : {X Y : Type 0} (f : X → Y) (all xs ys : List X) (k : ℕ) (vs : List Y) → all ≡ take k xs ++ ys → map f xs ≡ vs → map f all ≡ take k vs ++ map f ys
joined_items f all xs ys k vs is view = ap (map f) is ∙ map-append f (take k xs) ys ∙ ap (λ zs. zs ++ map f ys) (sym (take-map f k xs) ∙ ap (take k) view)

-- the same of clones
pub joined_clones : {X Y : Type 0} (f : X → Y) (C : X → X → Type 0) (all first xs ys : List X) (k : ℕ) (vs : List Y) → ((x y : X) → C x y → f y ≡ f x) → AllZip C (take k xs) first → AppendsClones C first all ys → map f xs ≡ vs → map f all ≡ take k vs ++ map f ys
joined_clones f C all first xs ys k vs same h more view =
    ap (map f) more.1 ∙ map-append f first more.0
    ∙ ap₂ (λ a b. a ++ b) (map_clones f C (take k xs) first same h ∙ sym (take-map f k xs) ∙ ap (take k) view) (map_clones f C ys more.0 same more.2)

pub form_clone_is : (a b : FormNode) → (form_clone.ghosts).is_clone a b → form_node_of b ≡ form_node_of a
form_clone_is True True h = refl
form_clone_is False False h = refl
form_clone_is (AtomIs i) (AtomIs j) h = ap FormGraph.atom_node h
form_clone_is (BoolIs i v) (BoolIs j w) h = ap₂ FormGraph.bool_node h.0 h.1
form_clone_is (And a) (And b) h = ap FormGraph.all_node (each_same a.items b.items h.0)
form_clone_is (Or a) (Or b) h = ap FormGraph.any_node (each_same a.items b.items h.0)
form_clone_is _ _ h = absurd h

pub axis_clone_is : (a b : Axis) → (axis_clone.ghosts).is_clone a b → axis_of b ≡ axis_of a
axis_clone_is a b h = ap₂ (λ (n : List ℕ) (d : Problem.Declared). record { name = n; declared = d }) (each_same a.name.items b.name.items h.0.0) (ap declared_of h.1)

pub same_parts : (axes axes' : List Axis) (nodes nodes' : List Term.Node) (atoms atoms' : List Atom) (forms forms' : List FormGraph.FormNode) (root : ℕ) → map axis_of axes ≡ map axis_of axes' → nodes ≡ nodes' → atoms ≡ atoms' → forms ≡ forms' →
    parts_of axes nodes atoms forms root ≡ parts_of axes' nodes' atoms' forms' root
same_parts axes axes' nodes nodes' atoms atoms' forms forms' root a n t f = λ i. record { axes = a i; nodes = n i; atoms = map atom_of (t i); forms = f i; root = root }
