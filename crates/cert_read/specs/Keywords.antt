-- The first words of lines, as the code holds them.
use Rattle.std.specs.Prelude.{◌≡◌, ℕ, List, ◌∷◌, cond, Option, Some, None, codes}
use Rattle.std.specs.Str.{bytes_eq}
use Rattle.cover_line.specs.Words.{word_text}
use Rattle.cover_line.specs.Views.{rule_word}
use Rattle.cert_read.specs.declared.keyword.Keyword.{Keyword}
use Rattle.cert_read.specs.declared.keyword.Keyword.TheVariants.{Version, Margin, Delta, Bound, Lower, Goal, Checks, Cover, Keep, Point, Tree, End, Lemma, Real, Bool, Yes, No, Over, Rule}
use Rattle.cert_read.specs.CertLine.{bad_line, by_first}

abbrev pub keyword_text : Keyword → List ℕ
keyword_text Version = codes "dpoly"
keyword_text Margin = codes "margin"
keyword_text Delta = codes "delta"
keyword_text Bound = codes "bound"
keyword_text Lower = codes "lower"
keyword_text Goal = codes "goal"
keyword_text Checks = codes "checks"
keyword_text Cover = codes "cover"
keyword_text Keep = codes "keep"
keyword_text Point = codes "point"
keyword_text Tree = codes "tree"
keyword_text End = codes "end"
keyword_text Lemma = codes "lemma"
keyword_text Real = codes "real"
keyword_text Bool = codes "bool"
keyword_text Yes = codes "yes"
keyword_text No = codes "no"
keyword_text Over = codes "over"
keyword_text (Rule w) = word_text (rule_word w)

-- the word that leads a line outside trees
abbrev pub header_keyword_of : List ℕ → Option Keyword
header_keyword_of w =
    cond (bytes_eq w (codes "dpoly")) (Some Version) (
    cond (bytes_eq w (codes "margin")) (Some Margin) (
    cond (bytes_eq w (codes "delta")) (Some Delta) (
    cond (bytes_eq w (codes "bound")) (Some Bound) (
    cond (bytes_eq w (codes "lower")) (Some Lower) (
    cond (bytes_eq w (codes "goal")) (Some Goal) (
    cond (bytes_eq w (codes "checks")) (Some Checks) (
    cond (bytes_eq w (codes "cover")) (Some Cover) (
    cond (bytes_eq w (codes "keep")) (Some Keep) (
    cond (bytes_eq w (codes "point")) (Some Point) (
    cond (bytes_eq w (codes "tree")) (Some Tree) (
    cond (bytes_eq w (codes "end")) (Some End) (
    cond (bytes_eq w (codes "lemma")) (Some Lemma) (
    cond (bytes_eq w (codes "real")) (Some Real) (
    cond (bytes_eq w (codes "bool")) (Some Bool) (
    cond (bytes_eq w (codes "yes")) (Some Yes) (
    cond (bytes_eq w (codes "no")) (Some No) (
    cond (bytes_eq w (codes "over")) (Some Over) (
    None))))))))))))))))))

-- the word that leads a line; none where no line begins so
abbrev pub IsKeywordIn : List ℕ → Option Keyword → Type 0
IsKeywordIn w (Some k) = w ≡ keyword_text k
IsKeywordIn w None = (ws : List (List ℕ)) → by_first (w ∷ ws) ≡ bad_line
