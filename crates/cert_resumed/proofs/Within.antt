-- What stayed are states of the problem within the root.
use Rattle.std.proofs.Common.{◌≡◌, ℕ, List, [], ◌∷◌, Option, IsTrue, All, sym, ap, ◌∙◌, subst}
use Rattle.std.specs.List.{AllByRecursion}
use Rattle.std.proofs.lemmas.List.Elements.{All-nil, All-cons}
use Rattle.poly_graph.specs.Problem.{Problem, IsProblem}
use Rattle.cover_model.specs.State.{root_state, covers}
use Rattle.cover_model.specs.Fits.{FitsProblem}
use Rattle.cover_model.specs.Derivation.{EachWithin}
use Rattle.cover_model.proofs.Lies.{tree_within}
use Rattle.cert_model.specs.Due.{Standing}
use Rattle.cert_model.specs.Derived.{states_of}
use Rattle.cert_model.proofs.Takes.{standing_states}
use Rattle.cert_model.proofs.Carries.{root_fits}
use Rattle.cert_resumed.specs.Resumed.{CoverRead, IsCoverRead}
use Rattle.cert_resumed.proofs.Known.{known}
use Rattle.cert_resumed.proofs.Fitting.{tree_fits}

module _ (p : Problem) where
  abbrev Fine : Standing → Type 0
  Fine x = FitsProblem p x.state × IsTrue (covers (root_state p) x.state)

  both-fine : (xs : List Standing) → AllByRecursion (FitsProblem p) (states_of xs) → EachWithin (root_state p) (states_of xs) → All Fine xs
  both-fine [] f w = All-nil Fine
  both-fine (x ∷ xs) f w = All-cons Fine x xs (f.0, w.0) (both-fine xs f.1 w.1)

pub left_fits : (p : Problem) → IsProblem p → (b : Option ℕ) (bytes : List ℕ) (c : CoverRead) → IsCoverRead p b bytes c →
    All (λ (x : Standing). FitsProblem p x.state × IsTrue (covers (root_state p) x.state)) c.left
left_fits p g b bytes c h =
    let k = known p b bytes c h in
    let same : k.main.rest ≡ states_of c.left = sym (standing_states p b c.loosenings c.lemmas k.main.lawful) ∙ ap states_of k.main.stands in
    both-fine p c.left
    (subst (AllByRecursion (FitsProblem p)) same (tree_fits p g c.loosenings c.lemmas k.main.lawful (root_fits p g k.main.not_crossed)))
    (subst (EachWithin (root_state p)) same (tree_within p g c.loosenings c.lemmas k.main.lawful))
