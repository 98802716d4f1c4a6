-- What a cover is resumed to.
use Rattle.std.specs.Prelude.{◌≡◌, ℕ, List, [], ◌∷◌, false, Option, IsTrue}
use Rattle.interval_model.specs.Space.{Space}
use Rattle.poly_graph.specs.Problem.{Problem}
use Rattle.cover_model.specs.Fits.{IsShownAt}
use Rattle.cover_model.specs.State.{in_version}
use Rattle.cert_model.specs.Due.{Standing, at_point}
use Rattle.cert_model.specs.Accepted.{IsAccepted}
use Rattle.cert_model.specs.AnswerText.{has_open}
use Rattle.cert_text.specs.Stuck.{stuck_at}
use Rattle.cert_base.specs.Base.{loosenings_of, IsBase}
use Rattle.cert_base.specs.declared.base.Base.{Base}
use Rattle.cert_resumed.specs.Resumed.{IsResumption, IsVersionBehind, all_lemmas, each_left, others, own_left}
use Rattle.cert_resume.specs.Request.{share_of}
use Rattle.cert_resume.specs.declared.answer.Cover.{Cover}
use Rattle.cert_resume.specs.declared.answer.Own.{Own}
use Rattle.cert_resume.specs.declared.answer.Own.TheVariants as own
use Rattle.cert_resume.specs.declared.answer.Resumed.{Resumed}
use Rattle.cert_resume.specs.declared.answer.Resumed.TheVariants as resumed
use Rattle.cert_resume.specs.declared.request.Request.{Request}

-- what is said of these states, which are left in a share
abbrev pub TellsOfOwn : Own → List Standing → Type 0
TellsOfOwn own.Nothing left = left ≡ []
TellsOfOwn own.Open left = IsTrue (has_open left)
TellsOfOwn (own.Stuck atom state) left = (has_open left ≡ false) × ((rest : List Standing) × (left ≡ stuck_at atom state ∷ rest))

-- the certificate goes on from the one that was read, and what is said of the states that are left is so
pub record IsResumedCover (p : Problem) (b : Option ℕ) (r : Request) (bytes : List ℕ) (x : Cover) : Type 0 where
  pub resumption : IsResumption p b r.least_bits r.budget (share_of r.share) bytes x.cert.items
  pub own : let c = resumption.read in
      TellsOfOwn x.own (own_left (share_of r.share) 0 (each_left p (in_version resumption.version c.loosenings) (all_lemmas c resumption.lemmas) c.left resumption.trees))
  pub others : let c = resumption.read in
      x.others ≡ others (share_of r.share) 0 (each_left p (in_version resumption.version c.loosenings) (all_lemmas c resumption.lemmas) c.left resumption.trees)

-- the certificate of a point that is shown, at the margin and delta of the base, in its version or a later one
pub record IsResumedPoint (p : Problem) (base : Base) (cert : List ℕ) (point : Space) : Type 0 where
  pub version : ℕ
  pub behind : IsVersionBehind base.version version
  pub shown : IsShownAt p (in_version version (loosenings_of base)) point
  pub accepted : IsAccepted p base.bound cert (in_version version (loosenings_of base)) (at_point point)

abbrev pub IsResumedTo : Problem → Base → Request → List ℕ → Resumed → Type 0
IsResumedTo p base r bytes (resumed.Point cert point) = IsResumedPoint p base cert.items point
IsResumedTo p base r bytes (resumed.Cover x) = IsResumedCover p base.bound r bytes x

-- of each certificate of which the base was read
abbrev pub IsResumedFrom : Problem → Base → Request → Resumed → Type 0
IsResumedFrom p base r x = (bytes : List ℕ) → IsBase p base.bound bytes base → IsResumedTo p base r bytes x
