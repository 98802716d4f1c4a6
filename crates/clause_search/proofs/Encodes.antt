-- The encoding is the form as clauses.
use Rattle.std.proofs.lemmas.List.{length-map}
use Rattle.std.proofs.Common.{◌≡◌, ◌∙◌, refl, sym, ap, map, subst, ℕ, ◌<◌, List, [], ◌∷◌, ◌++◌, length, true, IsTrue}
use Rattle.std.specs.Prelude.{All}
use Rattle.std.proofs.lemmas.List.Elements.{All-weaker}
use Rattle.poly_graph.specs.FormGraph.{FormNode, forms_in_order}
use Rattle.poly_graph.specs.ProblemViews.{Parts, IsWhole}
use Rattle.clause_search.specs.declared.literal.Variable.{Variable}
use Rattle.clause_search.specs.declared.literal.Variable.TheVariants.{Atom, BoolIs, Helper}
use Rattle.clause_search.specs.declared.literal.Literal.{Literal}
use Rattle.clause_search.specs.Clauses.{Cnf, IsFormOf, IsVariableOf, IsVariableIn, AreNamed}
use Rattle.clause_search.specs.Encoding.{variable_at, literal, first_clauses, encoding}
use Rattle.clause_search.proofs.Same.{same_models}
use Rattle.clause_search.proofs.Sorts.{sort_within}
use Rattle.clause_search.proofs.Named.{encoding_named}

pub encodes : (p : Parts) → IsWhole p → IsTrue (forms_in_order 0 p.forms) → IsFormOf p (record { clauses = encoding p; atoms = length p.atoms; axes = length p.axes; helpers = length p.forms })
encodes p whole ordered = record { same = same_models p whole ordered; named = encoding_named p ordered whole.root; atoms = refl; axes = refl }

variable-counted : (p : Parts) (helpers : ℕ) (v : Variable) → IsVariableOf p helpers v → IsVariableIn (length p.atoms) (length p.axes) helpers v
variable-counted p helpers (Atom j) h = h
variable-counted p helpers (BoolIs i v) h = sort_within p.axes i h
variable-counted p helpers (Helper k) h = h

encoding-counted : (p : Parts) → IsWhole p → IsTrue (forms_in_order 0 p.forms) → AreNamed (length p.atoms) (length p.axes) (length p.forms) (encoding p)
encoding-counted p whole ordered =
    All-weaker (λ (clause : List Literal). All (λ (l : Literal). IsVariableOf p (length p.forms) l.variable) clause) (λ (clause : List Literal). All (λ (l : Literal). IsVariableIn (length p.atoms) (length p.axes) (length p.forms) l.variable) clause)
    (λ clause h. All-weaker (λ (l : Literal). IsVariableOf p (length p.forms) l.variable) (λ (l : Literal). IsVariableIn (length p.atoms) (length p.axes) (length p.forms) l.variable) (λ l. variable-counted p (length p.forms) l.variable) clause h)
    (encoding p) (encoding_named p ordered whole.root)

-- what the code gathers, and how many atoms, axes and helpers it counts
pub record IsGathered (p : Parts) (made : List (List Literal)) (atoms axes count : ℕ) : Type 0 where
  pub clauses : made ≡ encoding p
  pub atom_count : atoms ≡ length p.atoms
  pub axis_count : axes ≡ length p.axes
  pub helpers : count ≡ length p.forms

joined : (p : Parts) (forms : List FormNode) (before made : List (List Literal)) (k count root : ℕ) (v : Variable) → forms ≡ p.forms → count ≡ length forms → k ≡ count → before ≡ first_clauses p k →
    root ≡ p.root → v ≡ variable_at p root → made ≡ before ++ ((literal v true ∷ []) ∷ []) → made ≡ encoding p
joined p forms before made k count root v a b d e f g h = cc

pub gathered : (p : Parts) (forms : List FormNode) (before made : List (List Literal)) (k atoms axes count root : ℕ) (v : Variable) → forms ≡ p.forms → count ≡ length forms → k ≡ count → before ≡ first_clauses p k →
    root ≡ p.root → v ≡ variable_at p root → made ≡ before ++ ((literal v true ∷ []) ∷ []) → atoms ≡ length p.atoms → axes ≡ length p.axes → IsGathered p made atoms axes count
gathered p forms before made k atoms axes count root v a b d e f g h i j = record {
  clauses = joined p forms before made k count root v a b d e f g h;
  atom_count = i;
  axis_count = j;
  helpers = cc;
}

counts-named : (p : Parts) (made clauses : List (List Literal)) (atoms axes count a b c : ℕ) → atoms ≡ a → axes ≡ b → count ≡ c → made ≡ clauses → AreNamed a b c clauses → AreNamed atoms axes count made
counts-named p made clauses atoms axes count a b c d e f g h =
    subst (λ (x : ℕ). AreNamed x axes count made) (sym d) (subst (λ (y : ℕ). AreNamed a y count made) (sym e) (subst (λ (z : ℕ). AreNamed a b z made) (sym f) (subst (AreNamed a b c) (sym g) h)))

-- each literal of what the code gathers has a variable that is counted
pub gathered_named : (p : Parts) (forms : List FormNode) (made : List (List Literal)) (atoms axes count : ℕ) → IsWhole p → IsTrue (forms_in_order 0 forms) → forms ≡ p.forms → IsGathered p made atoms axes count → AreNamed atoms axes count made
gathered_named p forms made atoms axes count whole ordered a g =
    counts-named p made (encoding p) atoms axes count (length p.atoms) (length p.axes) (length p.forms) g.atom_count g.axis_count g.helpers g.clauses (encoding-counted p whole (subst (λ (ns : List FormNode). IsTrue (forms_in_order 0 ns)) a ordered))

same-cnf : (p : Parts) (made : List (List Literal)) (atoms axes count : ℕ) (c : Cnf) → made ≡ encoding p → atoms ≡ length p.atoms → axes ≡ length p.axes → count ≡ length p.forms → c ≡ record { clauses = made; atoms = atoms; axes = axes; helpers = count } →
    c ≡ record { clauses = encoding p; atoms = length p.atoms; axes = length p.axes; helpers = length p.forms }
same-cnf p made atoms axes count c a b d e f = cc

-- what the code gathers is the form as clauses
pub made_encodes : (p : Parts) (forms : List FormNode) (made : List (List Literal)) (atoms axes count : ℕ) (c : Cnf) → IsWhole p → IsTrue (forms_in_order 0 forms) → forms ≡ p.forms → IsGathered p made atoms axes count →
    c ≡ record { clauses = made; atoms = atoms; axes = axes; helpers = count } → IsFormOf p c
made_encodes p forms made atoms axes count c whole ordered a g e =
    subst (IsFormOf p) (sym (same-cnf p made atoms axes count c g.clauses g.atom_count g.axis_count g.helpers e)) (encodes p whole (subst (λ (ns : List FormNode). IsTrue (forms_in_order 0 ns)) a ordered))

-- the root is a node
pub root_within : (p : Parts) (root : ℕ) → IsWhole p → root ≡ p.root → root < length p.forms
root_within p root whole e = subst (λ (k : ℕ). k < length p.forms) (sym e) whole.root

-- as many as are seen
pub as_many : {X Y : Type 0} (f : X → Y) (xs : List X) (ys : List Y) (n : ℕ) → n ≡ length xs → map f xs ≡ ys → n ≡ length ys
as_many f xs ys n e h = e ∙ sym (length-map xs f) ∙ ap length h
