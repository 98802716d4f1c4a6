-- The texts of covers and points: accepted, with the lines of the main tree where they stand.
use Rattle.std.proofs.Common.{◌≡◌, ℕ, List, [], ◌∷◌, Option, ◌≤◌, IsTrue, All, map, ap, ◌∙◌, sym, subst, length, arith}
use Rattle.std.proofs.lemmas.List.Elements.{All-map}
use Rattle.interval_model.specs.Space.{Space}
use Rattle.poly_graph.specs.Problem.{Problem, crosses}
use Rattle.cover_model.specs.State.{Loosenings, root_state}
use Rattle.cover_model.specs.Honest.{is_honest}
use Rattle.cover_model.specs.Derivation.{Tree, tree_lines}
use Rattle.cert_read.specs.CertLine.{CertLine, crossing}
use Rattle.cert_model.specs.Due.{Standing, left_open, at_point, is_shown}
use Rattle.cert_model.specs.Accepted.{IsAccepted, is_header, most_lemmas}
use Rattle.cert_model.specs.Standing.{Stands, branches_of, branches, standing, IsHonest}
use Rattle.cert_model.specs.Written.{rule_lines, left_standing, tree_standing, tree_branches, IsHonestTree, LemmaTree, lemma_states, AreLemmaTrees, cover_lines, point_lines}
use Rattle.cert_model.specs.Derived.{AreSingle}
use Rattle.cert_model.specs.Laws.{CanBeWritten, IsLawfulCover, tree_text, crossing_text, point_text}
use Rattle.cert_model.proofs.Spells.{text_has_lines, text_stands}
use Rattle.cert_model.proofs.Takes.{branches_stand}
use Rattle.cert_model.proofs.Writes.{cover_accepted, cover_stands, crossing_accepted, crossing_stands, point_accepted, point_stands}

pub tree_accepted : (p : Problem) (b : Option ℕ) (s : Loosenings) (lemmas : List LemmaTree) (t : Tree) → IsLawfulCover p s [] lemmas t → CanBeWritten (cover_lines s b lemmas (rule_lines (tree_lines t))) →
    IsAccepted p b (tree_text s b lemmas t) s (left_open (left_standing p s (lemma_states lemmas) (root_state p) t))
tree_accepted p b s lemmas t h k =
    text_has_lines p b (cover_lines s b lemmas (rule_lines (tree_lines t))) k.0 k.1
    ∙ cover_accepted p b s lemmas h.loosenings (omega (arith, h.count)) h.lemma_trees h.not_crossed t h.left h.lawful h.names

pub tree_stand : (p : Problem) (b : Option ℕ) (s : Loosenings) (lemmas : List LemmaTree) (t : Tree) → IsLawfulCover p s [] lemmas t → CanBeWritten (cover_lines s b lemmas (rule_lines (tree_lines t))) →
    standing p b (tree_text s b lemmas t) ≡ map (λ (x : Standing). record { loosenings = s; line = x }) (tree_standing p s (lemma_states lemmas) (root_state p) t)
tree_stand p b s lemmas t h k =
    text_stands p b (cover_lines s b lemmas (rule_lines (tree_lines t))) k.0
    ∙ cover_stands p b s lemmas h.loosenings (omega (arith, h.count)) h.lemma_trees h.not_crossed t h.left h.lawful h.names

pub tree_honest : (p : Problem) (b : Option ℕ) (s : Loosenings) (lemmas : List LemmaTree) (t : Tree) → IsLawfulCover p s [] lemmas t → CanBeWritten (cover_lines s b lemmas (rule_lines (tree_lines t))) →
    (w : ℕ) → IsHonestTree p w s (lemma_states lemmas) (root_state p) t → IsHonest p b w (tree_text s b lemmas t)
tree_honest p b s lemmas t h k w g =
    let stood : Standing → Stands = λ (x : Standing). record { loosenings = s; line = x } in
    subst (λ (xs : List Stands). All (λ (x : Stands). IsTrue (is_honest p w x.loosenings x.line.state x.line.does)) xs) (sym (tree_stand p b s lemmas t h k))
    (All-map (λ (x : Stands). IsTrue (is_honest p w x.loosenings x.line.state x.line.does)) stood (tree_standing p s (lemma_states lemmas) (root_state p) t) g)

pub tree_branch : (p : Problem) (b : Option ℕ) (s : Loosenings) (lemmas : List LemmaTree) (t : Tree) → IsLawfulCover p s [] lemmas t → CanBeWritten (cover_lines s b lemmas (rule_lines (tree_lines t))) →
    branches p b (tree_text s b lemmas t) ≡ tree_branches t
tree_branch p b s lemmas t h k = ap branches_of (tree_stand p b s lemmas t h k) ∙ branches_stand p b s (lemma_states lemmas) h.lawful

pub crossing_texts : (p : Problem) (b : Option ℕ) (s : Loosenings) (lemmas : List LemmaTree) → IsTrue (is_header s) → length lemmas ≤ most_lemmas →
    AreLemmaTrees p s [] lemmas → (i : ℕ) → IsTrue (crosses p i) → CanBeWritten (cover_lines s b lemmas (crossing i ∷ [])) →
    IsAccepted p b (crossing_text s b lemmas i) s (left_open []) × (standing p b (crossing_text s b lemmas i) ≡ [])
crossing_texts p b s lemmas f h g i c k =
    let ls : List CertLine = cover_lines s b lemmas (crossing i ∷ []) in
    (text_has_lines p b ls k.0 k.1 ∙ crossing_accepted p b s lemmas f h g i c, text_stands p b ls k.0 ∙ crossing_stands p b s lemmas f h g i c)

pub point_texts : (p : Problem) (b : Option ℕ) (s : Loosenings) → IsTrue (is_header s) → (space : Space) → AreSingle p.axes space → IsTrue (is_shown p s (at_point space)) →
    CanBeWritten (point_lines s b space) → IsAccepted p b (point_text s b space) s (at_point space) × (standing p b (point_text s b space) ≡ [])
point_texts p b s f space g h k =
    let ls : List CertLine = point_lines s b space in
    (text_has_lines p b ls k.0 k.1 ∙ point_accepted p b s f space g h, text_stands p b ls k.0 ∙ point_stands p b s f space g h)
