-- Lists of lemmas that grow.
use Rattle.std.proofs.Common.{◌≡◌, List, [], ◌∷◌, ◌++◌, append-nil, append_assoc, ap, sym, ◌∙◌}
use Rattle.std.proofs.lemmas.List.Elements.{All-nil, All-push}
use Rattle.poly_graph.specs.ProblemViews.{Parts}
use Rattle.cover_data.specs.declared.margins.Margins.{Margins}
use Rattle.cover_data.specs.Models.{LemmaModel}
use Rattle.lemma_shelf.specs.Lemmas.{IsLemmaOf, Appends}

module _ (p : Parts) (m : Margins) where
  -- nothing more
  pub appends_none : (xs : List LemmaModel) → Appends p m xs xs
  appends_none xs = record { more = []; items = sym (append-nil xs); lemmas = All-nil (IsLemmaOf p m) }

  -- one more
  pub appends_one : (xs ys zs : List LemmaModel) (L : LemmaModel) → Appends p m xs ys → IsLemmaOf p m L → zs ≡ ys ++ (L ∷ []) → Appends p m xs zs
  appends_one xs ys zs L h l e = record {
    more = h.more ++ (L ∷ []);
    items = e ∙ ap (λ (vs : List LemmaModel). vs ++ (L ∷ [])) h.items ∙ append_assoc xs h.more (L ∷ []);
    lemmas = All-push (IsLemmaOf p m) h.more L h.lemmas l;
  }
