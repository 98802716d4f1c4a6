-- Where an expression stands among those that were written.
use Rattle.std.proofs.Common.{◌≡◌, ◌+◌, List, [], ◌∷◌, ◌++◌, refl, ap, sym, ◌∙◌, arith, length, get_or, append_assoc}
use Rattle.std.proofs.lemmas.List.{append-nil, drop_at}
use Rattle.script_model.specs.Sexp.{Sexp, none}
use Rattle.smt_sexp.specs.Arena.{Bead, table, items_at, first_of}
use Rattle.smt_sexp.specs.Building.{flat, flat_back}
use Rattle.smt_sexp.proofs.Beads.{first_flat, table_drop}

flat_back_append : (later before : List Sexp) → flat_back (later ++ before) ≡ flat_back before ++ flat_back later
flat_back_append [] before = sym (append-nil (flat_back before))
flat_back_append (e ∷ later) before =
    ap (λ bs. bs ++ flat e) (flat_back_append later before) ∙ append_assoc (flat_back before) (flat_back later) (flat e)

-- what stands behind some beads
behind_beads : (bs tail : List Bead) → get_or (table (bs ++ tail)) (length bs) none ≡ get_or (table tail) 0 none
behind_beads bs tail =
    let same : length bs + 0 ≡ length bs = omega arith in
    sym (table_drop (bs ++ tail) (length bs) 0 ∙ ap (λ n. get_or (table (bs ++ tail)) n none) same) ∙ ap (λ xs. get_or (table xs) 0 none) (drop_at bs tail (length bs) refl)

pub found_behind : (bs : List Bead) (later before : List Sexp) (e : Sexp) → bs ≡ flat_back (later ++ e ∷ before) → first_of (items_at bs (length (flat_back before))) ≡ e
unfolding items_at
found_behind bs later before e is =
    let apart : bs ≡ flat_back before ++ (flat e ++ flat_back later) = is ∙ flat_back_append later (e ∷ before) ∙ append_assoc (flat_back before) (flat e) (flat_back later) in
    ap (λ xs. first_of (get_or (table xs) (length (flat_back before)) none)) apart ∙ ap first_of (behind_beads (flat_back before) (flat e ++ flat_back later) ∙ first_flat e (flat_back later))
