-- Bytes that a reader and a checker have between them.
use Rattle.std.proofs.Common.{◌≡◌, ◌⊎◌, ℕ, List, [], ◌∷◌, ◌++◌, map, Bool, Option, Some, None, Result, Ok, IsTrue, refl, ap, sym, ◌∙◌, inl, inr, append_assoc}
use Rattle.std.proofs.lemmas.List.{map-append}
use Rattle.std.specs.Prelude.{option_map}
use Rattle.cert_read.specs.CertLine.{parsed}
use Rattle.cert_read.specs.LineText.{text_of_lines}
use Rattle.cert_read.specs.Reading.{lines_ahead}
use Rattle.cert_read.proofs.Pieces.{lacks}
use Rattle.cert_read.proofs.Ahead.{lines_after}
use Rattle.cert_model.specs.Accepted.{reached}
use Rattle.cert_model.specs.Least.{GoalCourse}
use Rattle.cert_check.specs.declared.fault.CertFault.{CertFault}
use Rattle.cert_check.specs.Work.{course_map}
use Rattle.cert_check.proofs.Firsts.{reading, all_lack, whole_more, text_more}
use Rattle.cert_least.specs.Aims.{Aim, aim_course, goal_start, lean_goal}
use Rattle.cert_least.specs.Checked.{GoalChecked, fresh}
use Rattle.cert_least.specs.Courses.{after_all, IsUnderWay, Takes, led_by, IsFed, IsAt}
use Rattle.cert_least.proofs.Led.{after_append, led_all}

module _ (c : Aim) where
  -- where more lines lead
  pub led_more : (xs ys : List (List ℕ)) → after_all c (course_map lean_goal (aim_course c xs)) (map parsed ys) ≡ course_map lean_goal (aim_course c (xs ++ ys))
  led_more xs ys =
      ap (λ (x : GoalCourse). after_all c x (map parsed ys)) (led_all c xs)
      ∙ sym (after_append c (reached goal_start 0) (map parsed xs) (map parsed ys))
      ∙ ap (after_all c (reached goal_start 0)) (sym (map-append parsed xs ys))
      ∙ sym (led_all c (xs ++ ys))

-- where the lines led, from those of the old checker on
pub led_after : (old new : GoalChecked) (taken ls : List (List ℕ)) (r : Result (Unit {0}) CertFault) → old.course ≡ led_by old taken → Takes old (map parsed ls) new r →
    (new.course ≡ None) ⊎ (new.course ≡ led_by new (taken ++ ls))
led_after old new taken ls r e t = elim t.course [
  | inl h ↦ inl h
  | inr h ↦ inr (
      h ∙ ap (option_map (λ (x : GoalCourse). after_all old.aim x (map parsed ls))) e
      ∙ ap (λ (x : GoalCourse). Some x) (led_more old.aim taken ls)
      ∙ ap (λ (c : Aim). Some (course_map lean_goal (aim_course c (taken ++ ls)))) (sym t.aim)
      )
]

-- after all lines ahead were taken
pub at_fed : (old new : GoalChecked) (bytes unread : List ℕ) (e : Bool) (r : Result (Unit {0}) CertFault) → IsFed bytes old unread → Takes old (map parsed (lines_ahead (reading unread e))) new r → IsAt new bytes e
at_fed old new bytes unread e r f t =
    let same : lines_ahead (reading bytes e) ≡ f.taken ++ lines_ahead (reading unread e) =
    ap (λ (u : List ℕ). lines_ahead (reading u e)) f.text ∙ lines_after f.taken unread e (all_lack f.taken f.whole) in
    elim (led_after old new f.taken (lines_ahead (reading unread e)) r f.led t) [
      | inl h ↦ inl h
      | inr h ↦ inr (h ∙ ap (led_by new) (sym same))
    ]

under-way : (c : Option GoalCourse) → IsUnderWay c → c ≡ None → ⊥
under-way None h e = h
under-way (Some c) h e = cc

-- after one line that ends with a line feed
pub fed_line : (old new : GoalChecked) (bytes unread l rest : List ℕ) → IsFed bytes old unread → Takes old (parsed l ∷ []) new (Ok tt) → IsTrue (lacks 10 l) → unread ≡ l ++ (10 ∷ rest) → IsFed bytes new rest
fed_line old new bytes unread l rest f t k e = record {
  taken = f.taken ++ (l ∷ []);
  whole = whole_more f.taken l f.whole k;
  text = f.text ∙ ap (λ (u : List ℕ). text_of_lines f.taken ++ u) (e ∙ sym (append_assoc l (10 ∷ []) rest)) ∙ sym (append_assoc (text_of_lines f.taken) (l ++ (10 ∷ [])) rest)
      ∙ ap (λ (u : List ℕ). u ++ rest) (sym (text_more f.taken l));
  led = elim (led_after old new f.taken (l ∷ []) (Ok tt) f.led t) [
    | inl h ↦ absurd (under-way new.course t.answers h)
    | inr h ↦ h
  ];
}

-- ---- laws for callers

-- a piece is fed
pub fed_on : (c : GoalChecked) (bytes unread piece : List ℕ) → IsFed bytes c unread → IsFed (bytes ++ piece) c (unread ++ piece)
fed_on c bytes unread piece f = record {
  taken = f.taken;
  whole = f.whole;
  text = ap (λ (u : List ℕ). u ++ piece) f.text ∙ append_assoc (text_of_lines f.taken) unread piece;
  led = f.led;
}

-- nothing is fed yet
pub led_nothing : (c : GoalChecked) → c ≡ fresh c.aim → c.course ≡ led_by c []
led_nothing c e = ap (λ (x : GoalChecked). x.course) e ∙ sym (ap (λ (x : GoalCourse). Some x) (led_all c.aim []))

pub fed_nothing : (c : GoalChecked) → c ≡ fresh c.aim → IsFed [] c []
fed_nothing c e = record { taken = []; whole = tt; text = refl; led = led_nothing c e }
