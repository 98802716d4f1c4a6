use Rattle.std.proofs.Common.{◌≡◌, ◌∙◌, ◌++◌, [], ◌∷◌, ap, List, ℕ, true, false, Vec, Global}
use Rattle.cert_upgrade.specs.Upgraded.{newest_line}
use Rattle.cert_upgrade.proofs.Breaks.{written_so}
use Rattle.cert_upgrade.proofs.upgrade.Goals.{then-lacks_break+in_ok-push, else-lacks_break}
use Rattle.cert_upgrade.proofs.upgrade.Goals as goal

pub returns-clause-text : goal.returns-clause-text
returns-clause-text c =
    let first : c.extend_from_slice.new.self.items ≡ newest_line ++ (10 ∷ []) =
    c.in_ok-extend_from_slice.ensures.items ∙ ap (λ (x : List ℕ). x ++ (newest_line ++ (10 ∷ []))) c.new-text.ensures.items in
    let second : c.extend_from_slice-2.new.self.items ≡ c.extend_from_slice.new.self.items ++ c.behind_first_break-rest.result.now = c.in_ok-extend_from_slice-2.ensures.items in
    elim c.if-lacks_break.branch [
      | then-lacks_break+in_ok-push w ↦
          written_so c.args.cert.now c.behind_first_break-rest.result.now c.extend_from_slice.new.self.items c.if-lacks_break.text.items true c.behind_first_break-rest.ensures w.if-lacks_break.ensures first
          (ap (λ (v : Vec ℕ Global). v.items) w.text-is ∙ w.in_ok-push.ensures.items ∙ ap (λ (x : List ℕ). x ++ (10 ∷ [])) second)
      | else-lacks_break w ↦
          written_so c.args.cert.now c.behind_first_break-rest.result.now c.extend_from_slice.new.self.items c.if-lacks_break.text.items false c.behind_first_break-rest.ensures w.if-lacks_break.ensures first
          (ap (λ (v : Vec ℕ Global). v.items) w.text-is ∙ second)
    ]
