-- Faults and values of a certificate, what is due in it, and the tests of one line.
use Rattle.cover_line.specs.Line.{Block, bound_of, no_factor, Factor}
use Rattle.std.specs.Prelude.{ℕ, List, [], ◌∷◌, ◌++◌, Bool, true, false, not, ◌&&◌, ◌||◌, Option, Some, None, nat_eq, nat_lt, length}
use Rattle.dyadic.specs.Rounding.{exact}
use Rattle.cover_line.specs.Words.{RuleWord, Operands, of_nothing, of_atom, of_lemma, of_atom_lemma, of_axis, of_axis_place, of_multipliers, of_squares, of_groups, operands_of}
use Rattle.cert_read.specs.CertLine.{BoolWord, says_false, says_true, says_both}
use Rattle.interval_model.specs.Space.{Domain, bool_domain, Space}
use Rattle.poly_graph.specs.Problem.{Axis, Problem, first_crossed}
pub use Rattle.cover_model.specs.Fits.{coordinate_of, coordinates, is_near, are_near}
use Rattle.cover_model.specs.State.{State, Loosenings, delta_of, sure}
use Rattle.poly_graph.specs.Marks.{member, marks_of}
use Rattle.cover_model.specs.Combination.{Multipliers}
use Rattle.cover_model.specs.Rules.{Line, Left, closed, one, two, stays}

pub data CertFault : Type 0 where
  BadHeader BadNumber : CertFault
  -- with the first word of the line
  RuleFails : RuleWord → CertFault
  -- the lemmas that `keep` names may not be kept; it is told as a rule that fails
  KeepFails : CertFault
  -- the goal may be below its lower bound, or there is none here; it is told as a rule that fails
  OverFails : CertFault
  Missing Extra WrongBound NotShown BadLine LineTooLong TooLong : CertFault

-- A line of a tree with its standing: the state where it is written, a box with the marks of the atoms, which the lines
-- before it left.
pub record Standing : Type 0 where
  pub state : State
  pub does : Line

-- the value of an accepted certificate
pub data Value : Type 0 where
  -- the point, axis by axis
  at_point : Space → Value
  -- the states that stay open or stuck, in the tree's order, each with its line
  left_open : List Standing → Value

-- ---- what is due, once the header's version, margin and delta are known

pub data Due : Type 0 where
  version_due : Due
  -- the version is known, then the margin too
  margin_due : ℕ → Due
  delta_due : ℕ → ℕ → Due
  bound_due kind_due : Loosenings → Due
  -- the number of lemmas and the states of those that stand: the next lemma, or `tree`
  next_due : Loosenings → ℕ → List State → Due
  -- a lemma's state: the axes to come, and the domains that stand
  axis_due : Loosenings → ℕ → List State → Axis → List Axis → Space → Due
  yes_due : Loosenings → ℕ → List State → Space → Due
  no_due : Loosenings → ℕ → List State → Space → List ℕ → Due
  -- a line of a lemma's tree: the lemma's state, the state where the line stands, and those that wait behind it
  lemma_due : Loosenings → ℕ → List State → State → State → List State → Due
  -- the first line of the main tree, and a later one: its state, those that wait, and what stayed
  root_due : Loosenings → List State → Due
  tree_due : Loosenings → List State → State → List State → List Standing → Due
  -- the axes of the point to come, and the domains that stand
  coordinate_due : Loosenings → Axis → List Axis → Space → Due
  -- the value, with the states of the lemmas
  end_due : Loosenings → List State → Value → Due
  -- after the last line
  nothing_due : Loosenings → List State → Value → Due

-- what comes of a line: what is due then, or its fault
pub data NextOf (D : Type 0) : Type 0 where
  on : D → NextOf D
  faulty : CertFault → NextOf D

abbrev pub Next : Type 0
Next = NextOf Due

abbrev pub given : {D : Type 0} → Bool → D → CertFault → NextOf D
given true d f = on d
given false d f = faulty f

-- ---- the header

-- a version of the format for one check
abbrev pub is_version : ℕ → Bool
is_version v = nat_eq v 1 || nat_eq v 2 || nat_eq v 5

abbrev pub same_bound : Option ℕ → Option ℕ → Bool
same_bound None None = true
same_bound (Some m) (Some n) = nat_eq m n
same_bound _ _ = false

-- ---- states of lemmas

abbrev pub bool_domain_of : BoolWord → Domain
bool_domain_of says_both = bool_domain true true
bool_domain_of says_false = bool_domain true false
bool_domain_of says_true = bool_domain false true

abbrev pub ascends : List ℕ → Bool
ascends [] = true
ascends (i ∷ []) = true
ascends (i ∷ j ∷ rest) = nat_lt i j && ascends (j ∷ rest)

-- no number stands in both
abbrev pub apart : List ℕ → List ℕ → Bool
apart [] ns = true
apart (y ∷ ys) ns = not (member y ns) && apart ys ns

abbrev pub all_below : ℕ → List ℕ → Bool
all_below n [] = true
all_below n (j ∷ js) = nat_lt j n && all_below n js

-- the state with these atoms marked yes, and no
abbrev pub state_of : Problem → Space → List ℕ → List ℕ → State
state_of p space ys ns = record { space = space; marks = marks_of (length p.atoms) ys ns }

-- ---- lines of trees

abbrev pub is_atom : Problem → ℕ → Bool
is_atom p j = nat_lt j (length p.atoms)

abbrev pub is_axis : Problem → ℕ → Bool
is_axis p axis = nat_lt axis (length p.axes)

abbrev pub are_atoms : Problem → Multipliers → Bool
are_atoms p [] = true
are_atoms p ((j, l) ∷ rest) = is_atom p j && are_atoms p rest

abbrev pub are_axes : Problem → List ℕ → Bool
are_axes p [] = true
are_axes p (i ∷ m) = is_axis p i && are_axes p m

abbrev pub are_all_axes : Problem → List (List ℕ) → Bool
are_all_axes p [] = true
are_all_axes p (m ∷ ms) = are_axes p m && are_all_axes p ms

abbrev pub is_factor_there : Problem → Factor → Bool
is_factor_there p no_factor = true
is_factor_there p (bound_of i) = is_axis p i

-- the axes of these blocks are there
abbrev pub are_blocks_there : Problem → List Block → Bool
are_blocks_there p [] = true
are_blocks_there p (b ∷ bs) = is_factor_there p b.factor && are_all_axes p b.monomials && are_blocks_there p bs

abbrev pub are_there : Problem → Operands → Bool
are_there p of_nothing = true
are_there p (of_atom j) = is_atom p j
are_there p (of_lemma i) = true
are_there p (of_atom_lemma j i) = is_atom p j
are_there p (of_axis axis) = is_axis p axis
are_there p (of_axis_place axis c) = is_axis p axis
are_there p (of_multipliers ms) = are_atoms p ms
are_there p (of_squares ms bs) = are_atoms p ms && are_blocks_there p bs
are_there p (of_groups js ks) = all_below (length p.atoms) js && all_below (length p.atoms) ks

-- the atoms and axes that the line names are there
abbrev pub names_well : Problem → Line → Bool
names_well p l = are_there p (operands_of l)

-- what comes of a line of the main tree by what its rule leaves; k says what is due by the states that wait and what stayed
abbrev pub after_rule : Option Left → CertFault → Standing → List State → List Standing → (List State → List Standing → Due) → Next
after_rule None f x pending done k = faulty f
after_rule (Some closed) f x pending done k = on (k pending done)
after_rule (Some stays) f x pending done k = on (k pending (done ++ (x ∷ [])))
after_rule (Some (one S')) f x pending done k = on (k (S' ∷ pending) done)
after_rule (Some (two S' S'')) f x pending done k = on (k (S' ∷ S'' ∷ pending) done)

-- the same in a lemma's tree, where no state may stay
abbrev pub after_lemma_rule : Option Left → CertFault → List State → (List State → Due) → Next
after_lemma_rule None f pending k = faulty f
after_lemma_rule (Some closed) f pending k = on (k pending)
after_lemma_rule (Some stays) f pending k = faulty f
after_lemma_rule (Some (one S')) f pending k = on (k (S' ∷ pending))
after_lemma_rule (Some (two S' S'')) f pending k = on (k (S' ∷ S'' ∷ pending))

abbrev pub tree_goes_on : Loosenings → List State → List State → List Standing → Due
tree_goes_on s lemmas [] done = end_due s lemmas (left_open done)
tree_goes_on s lemmas (S ∷ pending) done = tree_due s lemmas S pending done

abbrev pub lemma_goes_on : Loosenings → ℕ → List State → State → List State → Due
lemma_goes_on s k lemmas L [] = next_due s k (lemmas ++ (L ∷ []))
lemma_goes_on s k lemmas L (S ∷ pending) = lemma_due s k lemmas L S pending

abbrev pub axis_next : Loosenings → ℕ → List State → List Axis → Space → Due
axis_next s k lemmas [] space = yes_due s k lemmas space
axis_next s k lemmas (a ∷ axes) space = axis_due s k lemmas a axes space

abbrev pub is_some_axis : Option ℕ → Bool
is_some_axis None = false
is_some_axis (Some i) = true

-- the declared box is empty
abbrev pub is_crossed_box : Problem → Bool
is_crossed_box p = is_some_axis (first_crossed p)

-- a tree's line is one too many where a lemma's tree is complete
abbrev pub extra_after : List State → CertFault
extra_after [] = Missing
extra_after lemmas = Extra

abbrev pub extra_at_end : Value → CertFault
extra_at_end (at_point space) = Missing
extra_at_end (left_open left) = Extra

-- ---- points

abbrev pub coordinate_next : Loosenings → List Axis → Space → Due
coordinate_next s [] space = end_due s [] (at_point space)
coordinate_next s (a ∷ axes) space = coordinate_due s a axes space

-- the form is sure over a point, and each of its Real coordinates lies within delta of the declared bounds
abbrev pub is_shown : Problem → Loosenings → Value → Bool
is_shown p s (at_point space) = sure p s space && are_near (exact (delta_of s)) p.axes (coordinates space)
is_shown p s (left_open left) = true
