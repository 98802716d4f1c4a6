-- The states that stayed are those of the lines that leave theirs, in order.
use Rattle.std.proofs.Common.{◌≡◌, ℕ, List, [], ◌∷◌, ◌++◌, map, Bool, true, false, cond, Option, refl, ap, ap₂, sym, ◌∙◌}
use Rattle.std.proofs.lemmas.List.{map-append}
use Rattle.poly_graph.specs.Problem.{Problem}
use Rattle.cover_model.specs.State.{State, Loosenings}
use Rattle.cover_model.specs.Rules.{Line, Left, closed, one, two, stays}
use Rattle.cover_model.specs.Derivation.{Tree, tree_lines, Lawful, at_closed, at_left, at_step, at_fork}
use Rattle.cert_model.specs.Due.{Standing}
use Rattle.cert_model.specs.Written.{leaf_standing, step_standing, fork_standing, left_standing}
use Rattle.cert_resumed.specs.Resumed.{is_leaving, leaving_lines, CoverRead, IsCoverRead, IsSoundRead}
use Rattle.cert_resumed.proofs.Grafts.{leaves_where_stays}
use Rattle.cert_resumed.proofs.Known.{known}

abbrev does_of : List Standing → List Line
does_of xs = map (λ (x : Standing). x.does) xs

append-at : (l : Line) (t : Bool) (ls ms : List Line) → leaving_lines (ls ++ ms) ≡ leaving_lines ls ++ leaving_lines ms →
    cond t (l ∷ leaving_lines (ls ++ ms)) (leaving_lines (ls ++ ms)) ≡ cond t (l ∷ leaving_lines ls) (leaving_lines ls) ++ leaving_lines ms
append-at l true ls ms h = ap (λ (ks : List Line). l ∷ ks) h
append-at l false ls ms h = h

leaving-append : (ls ms : List Line) → leaving_lines (ls ++ ms) ≡ leaving_lines ls ++ leaving_lines ms
leaving-append [] ms = refl
leaving-append (l ∷ ls) ms = append-at l (is_leaving l) ls ms (leaving-append ls ms)

-- a line that goes on
goes-on : (l : Line) (ls : List Line) → is_leaving l ≡ false → leaving_lines (l ∷ ls) ≡ leaving_lines ls
goes-on l ls h = ap (λ (t : Bool). cond t (l ∷ leaving_lines ls) (leaving_lines ls)) h

module _ (p : Problem) (s : Loosenings) (lemmas : List State) where
  tree-leaves : {S : State} {t : Tree} {rest : List State} → Lawful p s lemmas S t rest → does_of (left_standing p s lemmas S t) ≡ leaving_lines (tree_lines t)
  tree-leaves (at_closed {S = S} {l = l} e) = ap (λ (o : Option Left). does_of (leaf_standing S l o)) e ∙ sym (goes-on l [] (leaves_where_stays p s lemmas S l closed e))
  tree-leaves (at_left {S = S} {l = l} e) = ap (λ (o : Option Left). does_of (leaf_standing S l o)) e ∙ sym (ap (λ (t : Bool). cond t (l ∷ []) []) (leaves_where_stays p s lemmas S l stays e))
  tree-leaves (at_step {S = S} {S' = S'} {l = l} {t = t} e r) =
      ap (λ (o : Option Left). does_of (step_standing o (λ X. left_standing p s lemmas X t))) e ∙ tree-leaves r
      ∙ sym (goes-on l (tree_lines t) (leaves_where_stays p s lemmas S l (one S') e))
  tree-leaves (at_fork {S = S} {S' = S'} {S'' = S''} {l = l} {t = t} {u = u} e r r') =
      ap (λ (o : Option Left). does_of (fork_standing o (λ X. left_standing p s lemmas X t) (λ X. left_standing p s lemmas X u))) e
      ∙ map-append (λ (x : Standing). x.does) (left_standing p s lemmas S' t) (left_standing p s lemmas S'' u)
      ∙ ap₂ (λ (ks : List Line) (ms : List Line). ks ++ ms) (tree-leaves r) (tree-leaves r')
      ∙ sym (leaving-append (tree_lines t) (tree_lines u))
      ∙ sym (goes-on l (tree_lines t ++ tree_lines u) (leaves_where_stays p s lemmas S l (two S' S'') e))

pub read_is_sound : (p : Problem) (b : Option ℕ) (bytes : List ℕ) (c : CoverRead) → IsCoverRead p b bytes c → IsSoundRead p c
read_is_sound p b bytes c h = let k = known p b bytes c h in record {
  loosenings = k.loosenings;
  not_crossed = k.main.not_crossed;
  few = k.few;
  leaving = sym (ap does_of k.main.stands) ∙ tree-leaves p c.loosenings c.lemmas k.main.lawful ∙ ap leaving_lines k.main.lines;
}
