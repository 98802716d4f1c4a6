-- What is proved of the least width.
use Rattle.std.specs.Prelude.{◌≡◌, ◌<◌, ◌≤◌, ℕ, length, not, IsTrue, None}
use Rattle.interval_model.specs.Space.{Space, is_upright, space_within}
use Rattle.poly_graph.specs.Problem.{Problem, IsProblem, first_crossed}
use Rattle.cover_model.specs.State.{State, Loosenings, atom_enclosure}
use Rattle.cover_model.specs.Rules.{is_stuck_atom}
use Rattle.cover_model.specs.Honest.{is_small}
use Rattle.cover_model.specs.Root.{root_space}
use Rattle.width_plan.specs.Width.{is_fine}
use Rattle.width_plan.specs.Plan.{is_narrower, fits, is_far, Answer, IsPlan, least_bits}

-- Over every space within the root whose sides are at most 2^-bits, an atom that the bits fit has an enclosure narrower than delta minus margin.
abbrev pub EnclosureIsNarrow : Type 0
EnclosureIsNarrow = (p : Problem) → IsProblem p → (delta_bits margin_bits bits : ℕ) (space : Space) → IsTrue (is_upright space) → IsTrue (space_within space (root_space p)) → IsTrue (is_fine bits space) →
    (j : ℕ) → IsTrue (fits p delta_bits margin_bits bits j) → IsTrue (is_narrower delta_bits margin_bits (atom_enclosure p space j))

-- Where no axis reaches too far, a space within the root has sides of at most 2^-bits once each side that can be halved has.
abbrev pub SmallIsFine : Type 0
SmallIsFine = (p : Problem) (bits : ℕ) → bits ≤ 60 → ((i : ℕ) → IsTrue (not (is_far (root_space p) bits i))) → (space : Space) → IsTrue (is_upright space) → IsTrue (space_within space (root_space p)) →
    IsTrue (is_small bits space) → IsTrue (is_fine bits space)

-- With the least width of a plan, no state within the root whose sides are small has an atom that may hold and does not surely hold.
abbrev pub NothingIsStuck : Type 0
NothingIsStuck = (p : Problem) → IsProblem p → first_crossed p ≡ None → (s : Loosenings) (bits : ℕ) → IsPlan p s.delta_bits s.margin_bits (least_bits bits) →
    (S : State) → IsTrue (is_upright S.space) → IsTrue (space_within S.space (root_space p)) → IsTrue (is_small bits S.space) →
    (j : ℕ) → j < length p.atoms → IsTrue (not (is_stuck_atom p s S j))

-- So each atom is narrow over every such space where the answer is a number of bits and no bounds cross.
abbrev pub IsNarrowBy : Problem → ℕ → ℕ → Answer → Type 0
IsNarrowBy p delta_bits margin_bits (least_bits bits) =
    first_crossed p ≡ None → (space : Space) → IsTrue (is_upright space) → IsTrue (space_within space (root_space p)) → IsTrue (is_fine bits space) →
    (j : ℕ) → j < length p.atoms → IsTrue (is_narrower delta_bits margin_bits (atom_enclosure p space j))
IsNarrowBy p delta_bits margin_bits _ = Unit {0}
