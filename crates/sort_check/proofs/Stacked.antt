-- What a stack of frames comes to, and how it goes on.
use Rattle.std.proofs.Common.{◌≡◌, ℕ, List, [], ◌∷◌, ◌++◌, refl, sym, subst, ◌∙◌}
use Rattle.std.specs.Prelude.{Ok, Err}
use Rattle.script_model.specs.Sexp.{Place}
use Rattle.script_model.specs.Reading.{Names, meaning}
use Rattle.smt_sexp.specs.Arena.{expression_at}
use Rattle.smt_sexp.specs.Views.{place_of}
use Rattle.smt_sexp.specs.declared.sexps.Sexps as arena
use Rattle.smt_script.specs.Views.{sort_of}
use Rattle.smt_script.specs.declared.command.Parameter.{Parameter}
use Rattle.smt_script.specs.declared.command.Sort as code_sort
use Rattle.sort_check.specs.Sorts.{Sorted, SortFault, of_sort, ill, sorting}
use Rattle.sort_check.specs.Views.{IsSortAnswer, around, fault_of}
use Rattle.sort_check.specs.Walking.{Waits, Leaves, Turns}
use Rattle.sort_check.specs.declared.stop.Stop.{Stop}
use Rattle.sort_check.specs.declared.stop.Stop.TheVariants as stops
use Rattle.sort_check.specs.declared.frames.Frame.{Frame}
use Rattle.sort_check.specs.declared.frames.Next.{Next}
use Rattle.sort_check.proofs.Waiting.{waits_fail}

module _ (s : arena.Sexps) (ns : Names Sorted) where
  -- behind this sort, which goes to the last frame, the whole is that one
  abbrev pub Stacked : List Frame → Sorted → Sorted → Type 0
  Stacked [] t whole = whole ≡ t
  Stacked (f ∷ above) t whole = (mid : Sorted) × Stacked above t mid × Waits s ns f mid whole

  stacked-push : (f : Frame) (fs : List Frame) (u t whole : Sorted) → Waits s ns f u t → Stacked fs t whole → Stacked (fs ++ (f ∷ [])) u whole
  stacked-push f [] u t whole w h = (u, refl, subst (λ (x : Sorted). Waits s ns f u x) (sym h) w)
  stacked-push f (g ∷ above) u t whole w h = (h.0, stacked-push f above u t h.0 w h.1, h.2)

  stacked-pop : (f : Frame) (fs : List Frame) (u whole : Sorted) → Stacked (fs ++ (f ∷ [])) u whole → (t : Sorted) × Waits s ns f u t × Stacked fs t whole
  stacked-pop f [] u whole h = (whole, subst (λ (x : Sorted). Waits s ns f x whole) h.1 h.2, refl)
  stacked-pop f (g ∷ above) u whole h = let p = stacked-pop f above u h.0 h.1 in (p.0, p.1, (h.0, p.2, h.2))

  stacked-fails : (fs : List Frame) (t whole : Sorted) (at : Place) (x : SortFault) → Stacked fs t whole → t ≡ ill at x → whole ≡ ill at x
  stacked-fails [] t whole at x h e = h ∙ e
  stacked-fails (f ∷ above) t whole at x h e = waits_fail s ns f h.0 whole at x h.2 (stacked-fails above t h.0 at x h.1 e)

  -- ---- a walk that goes on

  -- this sort is in hand, and the stack makes the whole of it
  pub record Within (InHand : Sorted → Type 0) (stack : List Frame) (whole : Sorted) : Type 0 where
    pub here : Sorted
    pub inner : InHand here
    pub stacked : Stacked stack here whole

  -- the sort of an expression
  abbrev pub Enters : List Parameter → ℕ → Sorted → Type 0
  Enters locals at t = t ≡ meaning sorting (around locals ns) (expression_at s at)

  module _ (whole : Sorted) where
    pub within_begins : (n : Next) → Leaves s ns n whole → Within (Leaves s ns n) [] whole
    within_begins n h = record { here = whole; inner = h; stacked = refl }

    module _ (stack : List Frame) where
      pub within_goes : (InHand : Sorted → Type 0) (n : Next) (h : Within InHand stack whole) → Leaves s ns n h.here → Within (Leaves s ns n) stack whole
      within_goes InHand n h i = record { here = h.here; inner = i; stacked = h.stacked }

      -- a frame comes onto the stack
      pub within_waits : (f : Frame) (locals : List Parameter) (at : ℕ) → Within (Waits s ns f (meaning sorting (around locals ns) (expression_at s at))) stack whole →
          Within (Enters locals at) (stack ++ (f ∷ [])) whole
      within_waits f locals at h =
          let u = meaning sorting (around locals ns) (expression_at s at) in
          record { here = u; inner = refl; stacked = stacked-push f stack u h.here whole h.inner h.stacked }

      -- the last frame gets a sort
      pub within_resumes : (f : Frame) (sort : code_sort.Sort) → Within (λ t. t ≡ of_sort (sort_of sort)) (stack ++ (f ∷ [])) whole → Within (Waits s ns f (of_sort (sort_of sort))) stack whole
      within_resumes f sort h =
          let p = stacked-pop f stack h.here whole h.stacked in
          record { here = p.0; inner = subst (λ (u : Sorted). Waits s ns f u p.0) h.inner p.1; stacked = p.2 }

      -- what stops is the fault of the whole
      pub within_stops : (InHand : Sorted → Type 0) (stop : Stop) (h : Within InHand stack whole) → Turns s ns h.here (Err stop) → IsSortAnswer (Err stop) whole
      within_stops InHand (stops.Fault at f) h g = stacked-fails stack h.here whole (place_of at) (fault_of f) h.stacked g
      within_stops InHand stops.Memory h g = tt

      -- the expression that is entered goes on
      pub within_enters : (locals : List Parameter) (at : ℕ) (n : Next) → Within (Enters locals at) stack whole → Turns s ns (meaning sorting (around locals ns) (expression_at s at)) (Ok n) → Within (Leaves s ns n) stack whole
      within_enters locals at n h g = within_goes (Enters locals at) n h (subst (λ (t : Sorted). Leaves s ns n t) (sym h.inner) g)

      -- the expression that is entered stops
      pub within_ends : (locals : List Parameter) (at : ℕ) (stop : Stop) → Within (Enters locals at) stack whole → Turns s ns (meaning sorting (around locals ns) (expression_at s at)) (Err stop) → IsSortAnswer (Err stop) whole
      within_ends locals at stop h g = within_stops (Enters locals at) stop h (subst (λ (t : Sorted). Turns s ns t (Err stop)) (sym h.inner) g)
