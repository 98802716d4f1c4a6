-- Books that calls lead to.
use Rattle.std.proofs.Common.{◌≡◌, ◌⊎◌, inl, inr, ℕ, ◌≤◌, refl, sym, ap, subst, ◌∙◌, arith}
use Rattle.cover_data.specs.declared.margins.Margins.{Margins}
use Rattle.cover_data.specs.declared.margins.Options.{Options}
use Rattle.cover_data.specs.Margins.{AreMargins, options_in}
use Rattle.cover_book.specs.declared.calls.Call.{Call}
use Rattle.cover_book.specs.declared.calls.Reply.{Reply}
use Rattle.cover_book.specs.Model.{BookModel, opening, raised}
use Rattle.cover_book.specs.Steps.{MayBeCalled, BookStep}
use Rattle.cover_book.specs.Limits.{IsWithinLimits}
use Rattle.poly_graph.specs.ProblemViews.{Parts}
use Rattle.cover_book.proofs.Grown.{step_keeps_problem}
use Rattle.solve_core.specs.Reaches.{Reaches, stays, calls, IsSearched, in_one_version, in_two_versions}
use Rattle.solve_core.specs.Solved.{IsInVersionOf}

pub one_call : (b b' : BookModel) (call : Call) (reply : Reply) → MayBeCalled b call → BookStep b call reply b' → Reaches b b'
one_call b b' call reply m s = calls b call reply stays m s

pub reaches_through : {b c : BookModel} → Reaches b c → {d : BookModel} → Reaches c d → Reaches b d
reaches_through h stays = h
reaches_through h (calls c call reply k m s) = calls c call reply (reaches_through h k) m s

pub reaches_same : {b c : BookModel} → Reaches b c → (c.problem ≡ b.problem) × (c.options ≡ b.options) × (c.kept ≡ b.kept) × (c.root ≡ b.root)
reaches_same stays = (refl, refl, refl, refl)
reaches_same (calls {d = d} c call reply k m s) = let e = reaches_same k in let f = step_keeps_problem c call reply d s in (f.0 ∙ e.0, f.1 ∙ e.1, f.2 ∙ e.2, f.3 ∙ e.3)

pub same_reaches : {b b' : BookModel} → b' ≡ b → Reaches b b'
same_reaches {b = b} e = subst (Reaches b) (sym e) stays

pub reaches_from : {a b c d : BookModel} → b ≡ a → Reaches b c → d ≡ c → Reaches a d
reaches_from {d = d} e h f = subst (λ (x : BookModel). Reaches x d) e (subst (Reaches _) (sym f) h)

-- ---- in one version or two

pub own_version : (x y : Options) (v : ℕ) → x ≡ options_in v y → x ≡ options_in x.version y
own_version x y v e = e ∙ ap (λ (n : ℕ). options_in n y) (sym (ap (λ (z : Options). z.version) e))

pub searched_same : {b c : BookModel} → IsSearched b c → (c.problem ≡ b.problem) × (c.options ≡ options_in c.options.version b.options) × (c.kept ≡ b.kept) × (c.root ≡ b.root)
searched_same {b = b} {c = d} (in_one_version h) = let e = reaches_same h in (e.0, own_version d.options b.options b.options.version e.1, e.2, e.3)
searched_same {b = b} {c = d} (in_two_versions c h k) =
    let e = reaches_same h in let f = reaches_same k in
    (f.0 ∙ e.0, own_version d.options b.options 5 (f.1 ∙ ap (options_in 5) e.1), f.2 ∙ e.2, f.3 ∙ e.3)

-- a book that was searched for goes over to version 5, where it is not of that
pub searched_raised : {b c : BookModel} → IsSearched b c → IsSearched b (raised c)
searched_raised {c = d} (in_one_version h) = in_two_versions d h stays
searched_raised {b = b} {c = d} (in_two_versions c h k) =
    let five : d.options.version ≡ 5 = ap (λ (z : Options). z.version) (reaches_same k).1 in
    let same : raised d ≡ d = ap (λ (z : Options). record d { options = z }) (ap (λ (n : ℕ). options_in n d.options) (sym five)) in
    subst (IsSearched b) (sym same) (in_two_versions c h k)

module _ (o : Options) (book : BookModel) (same : book.options ≡ options_in book.options.version o) where
  pub in_its_version : (b : BookModel) → Reaches book b → IsInVersionOf o book.options.version b
  in_its_version b h =
      let e = (reaches_same h).1 ∙ same in
      record { options = own_version b.options o book.options.version e; version = inl (ap (λ (z : Options). z.version) e) }

  pub in_that_of_options : o.version ≡ 5 → (c b : BookModel) → Reaches book c → Reaches (raised c) b → IsInVersionOf o book.options.version b
  in_that_of_options five c b h k =
      let e = (reaches_same k).1 ∙ ap (options_in 5) ((reaches_same h).1 ∙ same) in
      record { options = own_version b.options o 5 e; version = inr (ap (λ (z : Options). z.version) e ∙ sym five) }

  pub raised_options : o.version ≡ 5 → (c : BookModel) → Reaches book c → (raised c).options ≡ o
  raised_options five c h = ap (options_in 5) ((reaches_same h).1 ∙ same) ∙ ap (λ (n : ℕ). options_in n o) (sym five)

  -- a book that is as it opened, in version 5
  pub opens_in_version_5 : o.version ≡ 5 → (p : Parts) → book ≡ opening p book.options → raised book ≡ opening p o
  opens_in_version_5 five p e =
      let later : options_in 5 book.options ≡ o = ap (options_in 5) same ∙ ap (λ (n : ℕ). options_in n o) (sym five) in
      ap raised e ∙ ap (opening p) later

pub is_version_5 : (m : Margins) → AreMargins m → 5 ≤ m.version → m.version ≡ 5
is_version_5 m h k = elim h.version_is [ inl e ↦ absurd (omega (arith, e, k)) | inr e ↦ e ]

-- the limits are the same in version 2 and in that of the options
pub limits_in : (p : Parts) (o : Options) (v : ℕ) → (v ≡ 2) ⊎ (v ≡ o.version) → IsWithinLimits p o → IsWithinLimits p (options_in v o)
limits_in p o v e h = record {
  margins = record {
    some_delta = h.margins.some_delta;
    few_delta = h.margins.few_delta;
    above_delta = h.margins.above_delta;
    few_margin = h.margins.few_margin;
    few_least = h.margins.few_least;
    version_is = elim e [ inl k ↦ inl k | inr k ↦ elim h.margins.version_is [ inl f ↦ inl (k ∙ f) | inr f ↦ inr (k ∙ f) ] ];
  };
  budget = h.budget;
  axes = h.axes;
  atoms = h.atoms;
}
