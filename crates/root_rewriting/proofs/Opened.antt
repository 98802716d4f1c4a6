-- Groups that are being written.
use Rattle.std.proofs.Common.{◌≡◌, ℕ, suc, ◌+◌, ◌<◌, ◌≤◌, ◌^◌, List, [], ◌∷◌, ◌++◌, length, length-append, refl, ap, sym, ◌∙◌, subst, arith}
use Rattle.std.specs.Prelude.{OnOk, Result, Ok, Err}
use Rattle.std.proofs.lemmas.List.{append-nil}
use Rattle.script_model.specs.Sexp.{Place, Sexp, Sexps, leaf, group, none, symbol}
use Rattle.smt_sexp.proofs.Beads.{flats_backwards}
use Rattle.smt_sexp.specs.Arena.{Bead, open_bead, shut_bead}
use Rattle.smt_sexp.specs.Building.{flat, flats, flat_back}
use Rattle.smt_sexp.specs.Lexicon.{Unclosed, backwards}
use Rattle.smt_sexp.specs.Writing.{HasOpen, Shuts, Writes, Written, tokens_in}
use Rattle.smt_sexp.specs.declared.writing.Writer.{Writer}
use Rattle.script_roots.specs.Refused.{tokens_of}
use Rattle.root_rewriting.specs.Opened.{CanWrite, IsOpened, symbol_at}
use Rattle.root_rewriting.specs.Spelling.{Heads, IsWriting, Stops}
use Rattle.root_rewriting.specs.declared.spelling.Stop.{Stop}
use Rattle.root_rewriting.specs.declared.spelling.Stop.TheVariants.{TooLong, Memory}

pub on_ok_both : {T E P Q R : Type 0} (r : Result T E) → OnOk r P → OnOk r Q → (P → Q → R) → OnOk r R
on_ok_both (Ok x) p q f = f p q
on_ok_both (Err e) p q f = tt

-- its head is written
pub headed : (old new : Writer) (at : Place) (name : List ℕ) → Heads old new at name → IsOpened old new at (symbol_at at name ∷ [])
headed old new at name h = record { stands = h.stands; count = omega (arith, h.count) }

-- an expression more in it
pub more_in : (old mid new : Writer) (at : Place) (before : List Sexp) (e : Sexp) → IsOpened old mid at before → Writes mid new e → IsOpened old new at (e ∷ before)
more_in old mid new at before e o w = record {
  stands = λ us tops h. w.stands (record { opened = at; before = before } ∷ us) tops (o.stands us tops h);
  count = omega (arith, o.count, w.count, length-append (flat_back before) (flat e));
}

-- its closing is written
pub closed : (old mid new : Writer) (at : Place) (before : List Sexp) → IsOpened old mid at before → Shuts mid new → tokens_in new ≡ tokens_in mid + 1 → Writes old new (group at (backwards before none))
closed old mid new at before o shuts count =
    let inside : List Bead = flats (backwards before none) in
    let same : length inside ≡ length (flat_back before) = ap length (flats_backwards before none ∙ append-nil (flat_back before)) in
    let all : length (inside ++ shut_bead ∷ []) ≡ length inside + 1 = length-append inside (shut_bead ∷ []) in
    let whole : length (flat (group at (backwards before none))) ≡ suc (length (inside ++ shut_bead ∷ [])) = refl in
    record {
      stands = λ us tops h. shuts (record { opened = at; before = before }) us tops (o.stands us tops h);
      count = omega (arith, o.count, count, same, all, whole);
    }

-- it is open
pub opened : (old new : Writer) (at : Place) (before : List Sexp) (beyond : ℕ) → CanWrite old beyond → IsOpened old new at before → HasOpen new
opened old new at before beyond c o = (record { opened = at; before = before } ∷ c.us, c.tops, o.stands c.us c.tops c.written, omega arith)

pub opened_room : (old new : Writer) (at : Place) (before : List Sexp) (beyond more : ℕ) → CanWrite old beyond → IsOpened old new at before → beyond + 1 + length (flat_back before) ≤ more → CanWrite new more
opened_room old new at before beyond more c o h = record { us = record { opened = at; before = before } ∷ c.us; tops = c.tops; written = o.stands c.us c.tops c.written; room = omega (arith, c.room, o.count, h) }

pub opened_writing : (old new : Writer) (at : Place) (before : List Sexp) (beyond : ℕ) → CanWrite old beyond → IsOpened old new at before → IsWriting new
opened_writing old new at before beyond c o = (record { opened = at; before = before } ∷ c.us, c.tops, o.stands c.us c.tops c.written)

-- ---- why nothing more is written

pub stops_more : (s : Stop) (m n : ℕ) → Stops s m → m ≤ n → Stops s n
stops_more TooLong m n h le = omega (arith, h, le)
stops_more Memory m n h le = tt

-- in a group, for as many tokens as it has
pub stops_inside : (s : Stop) (old new : Writer) (at : Place) (before : List Sexp) (t : Sexp) (n : ℕ) → IsOpened old new at before → Stops s (tokens_in new + tokens_of t) →
    1 + length (flat_back before) + tokens_of t ≤ n → Stops s (tokens_in old + n)
stops_inside s old new at before t n o h le = stops_more s (tokens_in new + tokens_of t) (tokens_in old + n) h (omega (arith, o.count, le))
