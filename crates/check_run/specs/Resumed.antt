-- What `resume` may do: a certificate that goes on from the one that was read, and its answer.
use Rattle.std.specs.Prelude.{◌≡◌, ◌⊎◌, ℕ, suc, List, [], ◌∷◌, ◌++◌, Option, codes, decimal}
use Rattle.command_line.specs.Words.{Resume}
use Rattle.poly_graph.specs.Problem.{Problem}
use Rattle.interval_model.specs.Space.{Space}
use Rattle.cover_model.specs.State.{Loosenings, in_version}
use Rattle.cert_model.specs.Due.{Standing, Value, at_point, left_open}
use Rattle.cert_model.specs.Accepted.{IsAccepted, Verdict, accepted, refused, verdict}
use Rattle.cert_model.specs.AnswerText.{delta_sat_text, left_text, solve_text, verdict_text}
use Rattle.cert_upgrade.specs.Upgraded.{upgraded}
use Rattle.cert_resumed.specs.Resumed.{Share, IsResumption, all_lemmas, each_left, joined, own_left, others, IsVersionBehind}
use Rattle.check_run.specs.declared.status.Status.TheVariants.{CertRefused}
use Rattle.check_run.specs.Course.{Course, says, gives}

-- ---- answers

abbrev pub share_of : Resume → Share
share_of words = record { number = words.share.number; count = words.share.count }

-- nothing is left in the share, and so many states in others: lines of the share, of their number and of the margin
abbrev pub part_text : Share → ℕ → Loosenings → List ℕ
part_text h n s =
    codes "part " ++ (decimal h.number ++ (codes "/" ++ (decimal h.count ++ (codes "\nopen " ++ (decimal n ++ (codes "\nmargin 1b-" ++ (decimal s.margin_bits ++ codes "\n")))))))

-- by what is left in the share, and how many states are in others
abbrev pub share_text : Problem → ℕ → Share → Loosenings → List Standing → ℕ → List ℕ
share_text p budget h s [] (suc n) = part_text h (suc n) s
share_text p budget h s own n = left_text p s budget own

-- ---- what goes on from a cover with open or stuck states

module _ (p : Problem) (b : Option ℕ) (words : Resume) (cert_in cert : List ℕ) where
  -- what the trees of the states that stayed leave
  abbrev pub trees_left : IsResumption p b words.least_bits words.budget (share_of words) cert_in cert → List (List Standing)
  trees_left r = each_left p (in_version r.version r.read.loosenings) (all_lemmas r.read r.lemmas) r.read.left r.trees

  -- a cover, with the answer of its share
  pub record IsMoreCovered (s : Loosenings) (v : Value) (text : List ℕ) : Type 0 where
    pub resumed : IsResumption p b words.least_bits words.budget (share_of words) cert_in cert
    pub value : v ≡ left_open (joined (trees_left resumed))
    pub answer : text ≡ share_text p words.budget (share_of words) s (own_left (share_of words) 0 (trees_left resumed)) (others (share_of words) 0 (trees_left resumed))

  -- a point
  pub record IsFoundBehind (s : Loosenings) (v : Value) (text : List ℕ) : Type 0 where
    pub space : Space
    pub value : v ≡ at_point space
    pub answer : text ≡ delta_sat_text p s space

  -- what was read as this value, at this margin and delta, is written again, or goes on
  abbrev pub GoesOn : Loosenings → Value → Value → List ℕ → Type 0
  GoesOn s (left_open (x ∷ left)) v text = IsFoundBehind s v text ⊎ IsMoreCovered s v text
  GoesOn s w v text = (cert ≡ upgraded cert_in) × (v ≡ w) × (text ≡ solve_text p words.budget s w)

-- A certificate that is accepted is written again or goes on; what is written is accepted in its version or a later one, at the same margin and delta.
pub record IsMore (p : Problem) (b : Option ℕ) (words : Resume) (cert_in : List ℕ) (s : Loosenings) (w : Value) (cert text : List ℕ) : Type 0 where
  pub version : ℕ
  pub behind : IsVersionBehind s.version version
  pub value : Value
  pub accepted : IsAccepted p b cert (in_version version s) value
  pub goes_on : GoesOn p b words cert_in cert s w value text

abbrev pub CanResumeBy : Verdict → Problem → Option ℕ → Resume → List ℕ → Course → Type 0
CanResumeBy (accepted s w) p b words cert_in course = (cert : List ℕ) × (text : List ℕ) × IsMore p b words cert_in s w cert text × (course ≡ gives words.out cert text)
CanResumeBy (refused fault n) p b words cert_in course = course ≡ says CertRefused (verdict_text (refused fault n))

-- `resume`: by the verdict of what CertIn held. One that is refused is so at its first fault, and none is written.
abbrev pub CanResume : Problem → Option ℕ → Resume → List ℕ → Course → Type 0
CanResume p b words cert_in course = CanResumeBy (verdict p b cert_in) p b words cert_in course
