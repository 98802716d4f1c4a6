-- Where the lemmas begin, and where they end.
use Rattle.std.proofs.Common.{◌≡◌, ℕ, List, [], ◌∷◌, map, length, refl, ap, subst}
use Rattle.std.specs.List.{AllByRecursion}
use Rattle.cert_read.specs.CertLine.{tree_word}
use Rattle.cert_read.specs.LineText.{IsSpelled}
use Rattle.cert_joined.specs.Covers.{Cover, IsTextOf, AreTextsOf, lemmas_lines}
use Rattle.cert_join.specs.Ahead.{AreBefore}
use Rattle.cert_join.specs.Spot.{Spot}
use Rattle.cert_join.specs.Written.{behind_header, behind_lemmas, text_of, written_from}
use Rattle.cert_join.specs.LemmasDue.{all_left, covers_of, each_ahead, lemmas_due, tree_part, AreAsLong, AreLemmasDue, HasLemmas, LemmasLeft, none}
use Rattle.cert_join.specs.declared.lemmas.Lemmas.{Lemmas}
use Rattle.cert_join.proofs.LemmaLines.{all_append}
use Rattle.cert_join.proofs.LemmasAll.{are_due, begun_at, due_left}

text-has : (c : Cover) (bytes : List ℕ) → IsTextOf c bytes → HasLemmas c
text-has c bytes h = record {
  inner = tt;
  spelled = tt;
  boxes = h.boxes;
  lemmas_spelled = (all_append IsSpelled (lemmas_lines 0 c.lemmas) (tree_word ∷ tree_part c.tree) h.spelled.1.1.1.1.1).0;
}

pub texts_have : (covers : List Cover) (certs : List (List ℕ)) → AreTextsOf covers certs → AllByRecursion HasLemmas covers
texts_have [] [] h = tt
texts_have (c ∷ covers) (bytes ∷ certs) h = (text-has c bytes h.0, texts_have covers certs h.1)
texts_have [] (bytes ∷ certs) h = absurd h
texts_have (c ∷ covers) [] h = absurd h

-- behind the headers all lemmas are left
pub lemmas_start : (covers : List Cover) (certs numbers : List (List ℕ)) (spots : List Spot) → AreTextsOf covers certs → AreBefore certs (map behind_header covers) spots →
    length numbers ≡ length covers → AreAsLong numbers covers → AreLemmasDue certs numbers (all_left [] covers) (begun_at 0 0) spots
lemmas_start covers certs numbers spots texts before many long = are_due certs numbers [] covers 0 spots before (texts_have covers certs texts) many long

pub start_covers : (covers : List Cover) → covers_of (all_left [] covers) ≡ covers
start_covers [] = refl
start_covers (c ∷ covers) = refl

-- what is written of them
pub lemmas_written : (covers : List Cover) (numbers : List (List ℕ)) → length numbers ≡ length covers →
    text_of (lemmas_due numbers (begun_at 0 0) (all_left [] covers)) ≡ text_of (lemmas_lines 0 (written_from 0 numbers covers))
lemmas_written covers numbers many = ap text_of (due_left numbers [] covers 0 many)

-- where all are behind nothing is written any more, and the main trees are ahead
pub lemmas_end : (certs numbers : List (List ℕ)) (f : LemmasLeft) (s : Lemmas) (spots : List Spot) → AreLemmasDue certs numbers f s spots → f ≡ none (covers_of f) →
    AreBefore certs (map behind_lemmas (covers_of f)) spots × (text_of (lemmas_due numbers s f) ≡ [])
lemmas_end certs numbers f s spots h e =
    let P : LemmasLeft → Type 0 = λ g. AreBefore certs (each_ahead s.begun g) spots in
    (subst P e h.before, ap (λ (g : LemmasLeft). text_of (lemmas_due numbers s g)) e)
