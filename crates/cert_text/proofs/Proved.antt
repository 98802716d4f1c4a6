-- The certificate of a book is accepted and honest.
use Rattle.std.proofs.Common.{◌≡◌, List, [], ◌++◌, map, All, IsTrue, ap, sym, ◌∙◌, subst, arith}
use Rattle.std.proofs.lemmas.List.{length-map}
use Rattle.std.proofs.lemmas.List.Elements.{All-map}
use Rattle.dyadic.proofs.Equal.{both_pass}
use Rattle.cover_model.specs.State.{State, delta_of, sure, root_state}
use Rattle.cover_model.specs.Derivation.{Tree}
use Rattle.cover_model.specs.Rules.{open_line}
use Rattle.cover_model.specs.Honest.{is_honest}
use Rattle.cover_model.specs.Fits.{coordinates, are_near}
use Rattle.dyadic.specs.Rounding.{exact}
use Rattle.cert_model.specs.Due.{Standing, left_open}
use Rattle.cert_model.specs.Accepted.{accepted}
use Rattle.cert_model.specs.Standing.{Stands}
use Rattle.cert_model.specs.Written.{lemma_states, left_standing, tree_standing, IsHonestTree, AreLemmaTrees}
use Rattle.cert_model.specs.Laws.{IsLawfulCover}
use Rattle.cert_model.proofs.Texts.{tree_accepted, tree_stand, tree_honest, tree_branch, crossing_texts, point_texts}
use Rattle.cover_book.specs.Model.{BookModel, IsOfRoot, problem_in, margins_of, loosenings_in}
use Rattle.cover_book.specs.Tree.{lemma_tree, lemma_trees, cover_lemmas}
use Rattle.cover_book.specs.Laws.{IsTreeOfBook}
use Rattle.cover_book.proofs.Meaning.{tree_is_honest, rooted_tree_is_cover}
use Rattle.cover_book.proofs.Opens.{first_crosses}
use Rattle.cert_text.specs.Laws.{BookTextIsAccepted, BookTextBranches, BookTextEndsHonestly, BookTextIsHonest, CrossedTextIsAccepted, PointTextIsAccepted}
use Rattle.cert_text.proofs.Margins.{header_fits}

-- ---- a book that opened in the root state with no lemmas

own-lawful : (b : BookModel) (t : Tree) (left : List Standing) → IsTreeOfBook b t left → IsOfRoot b → b.kept ≡ [] → IsLawfulCover (problem_in b) (loosenings_in b) [] (lemma_trees b) t
own-lawful b t left i r none = subst (λ (ks : List State). IsLawfulCover (problem_in b) (loosenings_in b) ks (lemma_trees b) t) none (rooted_tree_is_cover b t left r i)

own-lemmas : (b : BookModel) → b.kept ≡ [] → lemma_states (lemma_trees b) ≡ cover_lemmas b
own-lemmas b none = ap (λ (ks : List State). ks ++ lemma_states (lemma_trees b)) (sym none)

pub book_text_is_accepted : BookTextIsAccepted
book_text_is_accepted b t left i r none k =
    tree_accepted (problem_in b) b.options.bound (loosenings_in b) (lemma_trees b) t (own-lawful b t left i r none) k
    ∙ ap (λ (xs : List Standing). accepted (loosenings_in b) (left_open xs)) (ap (λ (ks : List State). left_standing (problem_in b) (loosenings_in b) ks (root_state (problem_in b)) t) (own-lemmas b none)
    ∙ ap (λ (S : State). left_standing (problem_in b) (loosenings_in b) (cover_lemmas b) S t) (sym r) ∙ i.stands)

pub book_text_branches : BookTextBranches
book_text_branches b t left i r none k = tree_branch (problem_in b) b.options.bound (loosenings_in b) (lemma_trees b) t (own-lawful b t left i r none) k ∙ i.branches

pub book_text_ends_honestly : BookTextEndsHonestly
book_text_ends_honestly b t left i r none k =
    let P : Stands → Type 0 = λ (x : Stands). (x.line.does ≡ open_line → ⊥) → IsTrue (is_honest (problem_in b) b.options.least_bits x.loosenings x.line.state x.line.does) in
    let Q : Standing → Type 0 = λ (x : Standing). (x.does ≡ open_line → ⊥) → IsTrue (is_honest (problem_in b) b.options.least_bits (loosenings_in b) x.state x.does) in
    let stood : Standing → Stands = λ (x : Standing). record { loosenings = loosenings_in b; line = x } in
    let lines : List State → List Standing = λ ks. tree_standing (problem_in b) (loosenings_in b) ks (root_state (problem_in b)) t in
    subst (All P) (sym (tree_stand (problem_in b) b.options.bound (loosenings_in b) (lemma_trees b) t (own-lawful b t left i r none) k ∙ ap (λ (ks : List State). map stood (lines ks)) (own-lemmas b none)))
    (All-map P stood (lines (cover_lemmas b)) (subst (λ (S : State). All Q (tree_standing (problem_in b) (loosenings_in b) (cover_lemmas b) S t)) r i.honest))

pub book_text_is_honest : BookTextIsHonest
book_text_is_honest b w t left i r none k f = tree_honest (problem_in b) b.options.bound (loosenings_in b) (lemma_trees b) t (own-lawful b t left i r none) k b.options.least_bits
    (subst (λ (ks : List State). IsHonestTree (problem_in b) b.options.least_bits (loosenings_in b) ks (root_state (problem_in b)) t) (sym (own-lemmas b none))
    (subst (λ (S : State). IsHonestTree (problem_in b) b.options.least_bits (loosenings_in b) (cover_lemmas b) S t) r (tree_is_honest b w t left i f)))

pub crossed_text_is_accepted : CrossedTextIsAccepted
crossed_text_is_accepted b w none i e k =
    crossing_texts (problem_in b) b.options.bound (loosenings_in b) (lemma_trees b) (header_fits (margins_of b.options) w.limits.margins) (omega (arith, length-map b.lemmas lemma_tree, w.few_lemmas))
    (subst (λ (ks : List State). AreLemmaTrees (problem_in b) (loosenings_in b) ks (lemma_trees b)) none w.lemmas) i (first_crosses (problem_in b) i e) k

pub point_text_is_accepted : PointTextIsAccepted
point_text_is_accepted p bound s f space h k = (point_texts p bound s f space h.single (both_pass (sure p s space) (are_near (exact (delta_of s)) p.axes (coordinates space)) h.surely h.near) k).0
