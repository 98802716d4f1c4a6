-- Parts that are written as lines are accepted, one after the other.
use Rattle.std.proofs.Common.{◌≡◌, ℕ, zero, suc, ◌+◌, ◌<◌, ◌≤◌, List, [], ◌∷◌, ◌++◌, map, take, Bool, cond, Option, Some, refl, ap, sym, ◌∙◌, subst, nat_eq, nat_le, length, length-append, append_assoc, append-nil, arith}
use Rattle.std.specs.Prelude.{slice_get}
use Rattle.std.proofs.lemmas.Bool.{le-leb}
use Rattle.dyadic.proofs.Equal.{both_pass}
use Rattle.poly_graph.specs.Problem.{Problem}
use Rattle.cover_model.specs.State.{State, Loosenings}
use Rattle.cert_read.specs.CertLine.{CertLine, version, margin, delta, bound, checks, cover, keep, point_word, tree_word, end_word}
use Rattle.cert_model.specs.Due.{BadHeader, WrongBound, KeepFails, Standing, Value, at_point, Due, margin_due, delta_due, bound_due, kind_due, next_due, nothing_due, on, given}
use Rattle.cert_model.specs.Accepted.{reached, course_of_lines, lines_course, most_lemmas, accepted}
use Rattle.cert_model.specs.Standing.{Stands, standing_next, lines_standing}
use Rattle.cert_model.specs.Session.{Part, SessionDue, in_header, header_due, checks_due, part_due, keep_due, first_due, inside_due, all_done, first_part, next_part, inside, kept_by, session_next, session_start, session_ended, stands_in}
use Rattle.cert_model.specs.SessionLaws.{WrittenPart, written_cover, written_point, end_lines, part_lines, parts_lines, session_lines, lemmas_of_part, value_of_part, standing_of_part, IsLawfulPart, AreLawfulParts, values_of_parts, standings_of_parts, is_session_header}
use Rattle.cert_model.specs.Written.{lemma_states, lemmas_lines, point_line}
use Rattle.cert_model.proofs.MarkLists.{other_number}
use Rattle.cert_model.proofs.Writes.{Finishes, same_number, same_bounds, cover_finishes, point_finishes}
use Rattle.cert_model.proofs.SessionLeads.{Passes, and_then, one_line, at_once, of_part, no_part, part_passes, first_passes}

module _ (p : Problem) (later : List (Problem × Bool)) (b : Option ℕ) (k : ℕ) (s : Loosenings) where
  abbrev stood : List Standing → List Stands
  stood xs = map (λ (x : Standing). record { loosenings = s; line = x }) xs

  -- ---- a part

  module _ (t : Part) where
    -- the lines of a part from where its own certificate would go on, up to its end
    finished : (d : Due) (xs : List CertLine) (lemmas : List State) (v : Value) (ys : List Standing) → Finishes t.problem b s d xs lemmas v ys → (ls : List CertLine) →
        Passes p later b k (inside t d) (xs ++ ls) (of_part p later b k t (stood ys)) (next_part s t.problem lemmas (t.values ++ (v ∷ [])) t.later) ls
    finished d xs lemmas v ys f ls =
        subst (λ (zs : List Stands). Passes p later b k (inside t d) (xs ++ ls) (of_part p later b k t zs) (next_part s t.problem lemmas (t.values ++ (v ∷ [])) t.later) ls) f.stand
        (part_passes p later b k t xs d 0 (f.to 0).0 (nothing_due s lemmas v) (f.to 0).1 ls)

    first-line : (i : ℕ) (kept : List State) (xs : List CertLine) (lemmas : List State) (v : Value) (m : ℕ) → course_of_lines t.problem b 0 (next_due s i kept) xs ≡ reached (nothing_due s lemmas v) m →
        (ls : List CertLine) → Passes p later b k (first_due s i kept t) (xs ++ ls) [] (inside_due t (next_due s i kept)) (xs ++ ls)
    first-line i kept [] lemmas v m e ls = cc
    first-line i kept (x ∷ xs) lemmas v m e ls = first_passes p later b k t s i kept x xs 0 m (nothing_due s lemmas v) e ls

    short : (q : ℕ) (xs : List State) → length (take q xs) ≤ length xs
    short zero xs = omega arith
    short (suc q) [] = omega arith
    short (suc q) (x ∷ xs) = omega (arith, short q xs)

    kept-line : (i : ℕ) (kept : List State) → length kept ≤ i → kept ≡ take (length kept) t.may_keep →
        session_next p later b (keep_due s i t) (keep (length kept)) ≡ on (first_due s i kept t)
    kept-line i kept h e =
        let few : length kept ≤ length t.may_keep = omega (arith, ap length e, short (length kept) t.may_keep) in
        ap (λ (c : Bool). given c (first_due s i (take (length kept) t.may_keep) t) KeepFails)
        (both_pass (nat_le (length kept) i) (nat_le (length kept) (length t.may_keep)) (le-leb (length kept) i h) (le-leb (length kept) (length t.may_keep) few))
        ∙ ap (λ (xs : List State). on (first_due s i xs t)) (sym e)

    part-passes : (x : WrittenPart) → IsLawfulPart s t.problem t.may_keep x → (ls : List CertLine) →
        Passes p later b k (part_due s t) (part_lines x ++ ls) (of_part p later b k t (stood (standing_of_part s t.problem x)))
        (next_part s t.problem (lemmas_of_part x) (t.values ++ (value_of_part s t.problem x ∷ [])) t.later) ls
    part-passes (written_cover kept lemmas e) h ls =
        let i : ℕ = length kept + length lemmas in
        let xs : List CertLine = lemmas_lines (length kept) lemmas ++ (tree_word ∷ (end_lines e ++ (end_word ∷ []))) in
        let f = cover_finishes t.problem b s kept lemmas e h.2 h.3 in
        and_then p later b k
        (one_line p later b k (part_due s t) (cover i) (keep (length kept) ∷ (xs ++ ls)) (keep_due s i t) (ap (λ (c : Bool). given c (keep_due s i t) BadHeader) (le-leb i most_lemmas h.1)) refl)
        (and_then p later b k (one_line p later b k (keep_due s i t) (keep (length kept)) (xs ++ ls) (first_due s i kept t) (kept-line i kept (omega arith) h.0) refl)
        (and_then p later b k (first-line i kept xs (kept ++ lemma_states lemmas) (value_of_part s t.problem (written_cover kept lemmas e)) (f.to 0).0 (f.to 0).1 ls)
        (finished (next_due s i kept) xs (kept ++ lemma_states lemmas) (value_of_part s t.problem (written_cover kept lemmas e)) (standing_of_part s t.problem (written_cover kept lemmas e)) f ls)))
    part-passes (written_point space) h ls =
        let f = finished (kind_due s) (point_word ∷ (map point_line space ++ (end_word ∷ []))) [] (at_point space) [] (point_finishes t.problem b s space h.0 h.1) ls in
        let rest : List CertLine = map point_line space ++ (end_word ∷ []) in
        record {
          to = f.to;
          stand = ap (λ (zs : List Stands). zs ++ standing_next (session_next p later b (part_due s t) point_word) (λ d. lines_standing (session_next p later b) (stands_in k) d (rest ++ ls)))
              (sym (no_part p later b k t (nat_eq (length t.values) k))) ∙ f.stand;
        }

  -- ---- all parts

  -- of these lists, the first of which is that of part i, what part k has
  abbrev from_part : ℕ → List (List Standing) → List Stands
  from_part i [] = []
  from_part i (xs ∷ rest) = cond (nat_eq i k) (stood xs) [] ++ from_part (suc i) rest

  parts-pass : (behind : List (Problem × Bool)) (q : Problem) (may_keep : List State) (values : List Value) (parts : List WrittenPart) → AreLawfulParts s q may_keep behind parts →
      Passes p later b k (part_due s (record { problem = q; may_keep = may_keep; later = behind; values = values })) (parts_lines parts)
      (from_part (length values) (standings_of_parts s q behind parts)) (all_done s (values ++ values_of_parts s q behind parts)) []
  parts-pass [] q may_keep values (x ∷ []) h =
      let t : Part = record { problem = q; may_keep = may_keep; later = []; values = values } in let done : SessionDue = all_done s (values ++ (value_of_part s q x ∷ [])) in
      and_then p later b k (part-passes t x h []) (at_once p later b k done done [] refl)
  parts-pass ((r, e) ∷ behind) q may_keep values (x ∷ rest) h =
      let t : Part = record { problem = q; may_keep = may_keep; later = (r, e) ∷ behind; values = values } in
      let v : Value = value_of_part s q x in let done : List Value = values ++ (v ∷ []) in
      let more = parts-pass behind r (kept_by e q (lemmas_of_part x) r) done rest h.1 in
      let count : length done ≡ suc (length values) = length-append values (v ∷ []) ∙ omega arith in
      let first : SessionDue = part_due s (record { problem = r; may_keep = kept_by e q (lemmas_of_part x) r; later = behind; values = done }) in
      and_then p later b k (part-passes t x h.0 (parts_lines rest))
      (subst (λ (vs : List Value). Passes p later b k first (parts_lines rest) (from_part (suc (length values)) (standings_of_parts s r behind rest)) (all_done s vs) [])
      (append_assoc values (v ∷ []) (values_of_parts s r behind rest))
      (subst (λ (i : ℕ). Passes p later b k first (parts_lines rest) (from_part i (standings_of_parts s r behind rest)) (all_done s (done ++ values_of_parts s r behind rest)) []) count more))
  parts-pass [] q may_keep values [] h = absurd h
  parts-pass [] q may_keep values (x ∷ y ∷ rest) h = absurd h
  parts-pass ((r, e) ∷ behind) q may_keep values [] h = absurd h

  parts-count : (behind : List (Problem × Bool)) (q : Problem) (may_keep : List State) (parts : List WrittenPart) → AreLawfulParts s q may_keep behind parts → length parts ≡ suc (length behind)
  parts-count [] q may_keep (x ∷ []) h = refl
  parts-count ((r, e) ∷ behind) q may_keep (x ∷ rest) h = ap suc (parts-count behind r (kept_by e q (lemmas_of_part x) r) rest h.1)
  parts-count [] q may_keep [] h = absurd h
  parts-count [] q may_keep (x ∷ y ∷ rest) h = absurd h
  parts-count ((r, e) ∷ behind) q may_keep [] h = absurd h

  -- ---- the header

  header-passes : is_session_header s → (c : ℕ) → c ≡ suc (length later) → (ls : List CertLine) →
      Passes p later b k session_start (version s.version ∷ margin s.margin_bits ∷ delta s.delta_bits ∷ bound b ∷ checks c ∷ ls) [] (part_due s (first_part p later)) ls
  header-passes h c e ls =
      and_then p later b k
      (one_line p later b k session_start (version s.version) (margin s.margin_bits ∷ delta s.delta_bits ∷ bound b ∷ checks c ∷ ls) (header_due (margin_due s.version))
      (ap (λ (t : Bool). given t (header_due (margin_due s.version)) BadHeader) h.0) refl)
      (and_then p later b k
      (one_line p later b k (header_due (margin_due s.version)) (margin s.margin_bits) (delta s.delta_bits ∷ bound b ∷ checks c ∷ ls) (header_due (delta_due s.version s.margin_bits)) refl refl)
      (and_then p later b k
      (one_line p later b k (header_due (delta_due s.version s.margin_bits)) (delta s.delta_bits) (bound b ∷ checks c ∷ ls) (header_due (bound_due s)) (ap (λ (t : Bool). in_header (given t (bound_due s) BadHeader)) h.1) refl)
      (and_then p later b k
      (one_line p later b k (header_due (bound_due s)) (bound b) (checks c ∷ ls) (checks_due s) (ap (λ (t : Bool). in_header (given t (kind_due s) WrongBound)) (same_bounds b)) refl)
      (one_line p later b k (checks_due s) (checks c) ls (part_due s (first_part p later))
      (ap (λ (t : Bool). given t (part_due s (first_part p later)) BadHeader) (ap (λ (n : ℕ). nat_eq n (suc (length later))) e ∙ same_number (suc (length later)))) refl))))

  pub session_passes : (parts : List WrittenPart) → is_session_header s → AreLawfulParts s p [] later parts →
      Passes p later b k session_start (session_lines s b parts) (from_part 0 (standings_of_parts s p later parts)) (all_done s (values_of_parts s p later parts)) []
  session_passes parts h g = and_then p later b k (header-passes h (length parts) (parts-count later p [] parts g) (parts_lines parts)) (parts-pass later p [] [] parts g)

  -- ---- what part k has

  none-before : (i : ℕ) (yss : List (List Standing)) → k < i → from_part i yss ≡ []
  none-before i [] h = refl
  none-before i (ys ∷ yss) h =
      ap (λ (c : Bool). cond c (stood ys) [] ++ from_part (suc i) yss) (other_number i k (λ e. omega (arith, e, h))) ∙ none-before (suc i) yss (omega (arith, h))

  only-part : (i j : ℕ) (yss : List (List Standing)) (xs : List Standing) → i + j ≡ k → slice_get yss j ≡ Some xs → from_part i yss ≡ stood xs
  only-part i j [] xs e h = cc
  only-part i zero (ys ∷ yss) xs e h =
      let same : ys ≡ xs = cc in
      ap (λ (c : Bool). cond c (stood ys) [] ++ from_part (suc i) yss) (ap (nat_eq i) (sym e ∙ omega arith) ∙ same_number i)
      ∙ ap (λ (zs : List Stands). stood ys ++ zs) (none-before (suc i) yss (omega (arith, e))) ∙ append-nil (stood ys) ∙ ap stood same
  only-part i (suc j) (ys ∷ yss) xs e h =
      ap (λ (c : Bool). cond c (stood ys) [] ++ from_part (suc i) yss) (other_number i k (λ f. omega (arith, e, f)))
      ∙ only-part (suc i) j yss xs (omega (arith, e)) h

  pub parts_stand : (parts : List WrittenPart) → is_session_header s → AreLawfulParts s p [] later parts → (xs : List Standing) → slice_get (standings_of_parts s p later parts) k ≡ Some xs →
      lines_standing (session_next p later b) (stands_in k) session_start (session_lines s b parts) ≡ stood xs
  parts_stand parts h g xs e = (session_passes parts h g).stand ∙ append-nil (from_part 0 (standings_of_parts s p later parts)) ∙ only-part 0 k (standings_of_parts s p later parts) xs (omega arith) e

pub parts_accepted : (p : Problem) (later : List (Problem × Bool)) (b : Option ℕ) (s : Loosenings) (parts : List WrittenPart) → is_session_header s → AreLawfulParts s p [] later parts →
    session_ended (lines_course (session_next p later b) 0 session_start (session_lines s b parts)) ≡ accepted s (values_of_parts s p later parts)
parts_accepted p later b s parts h g = ap session_ended ((session_passes p later b 0 s parts h g).to 0).1
