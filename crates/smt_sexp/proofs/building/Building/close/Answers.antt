use Rattle.std.proofs.Common.{◌≡◌, ◌+◌, ◌-◌, ◌<◌, List, ◌∷◌, [], ◌++◌, length, set, drop, sym, ap, ◌∙◌, arith}
use Rattle.std.proofs.lemmas.List.{length-map}
use Rattle.std.specs.Prelude.{map, nat_eq, ◌&&◌}
use Rattle.std.specs.Option.{option_to_list}
use Rattle.std.specs.Vec.{vec_len, with_item}
use Rattle.script_model.specs.Sexp as sexp
use Rattle.smt_sexp.specs.Arena.{bead_of}
use Rattle.smt_sexp.specs.Building.{starts, opened_of, Stands, group_of, is_exit_inside}
use Rattle.smt_sexp.specs.Lexicon.{Unclosed, is_exit, put}
use Rattle.smt_sexp.specs.declared.sexps.Node.TheVariants as nodes
use Rattle.smt_sexp.proofs.Beads.{opened_within, close_nodes, close_exit, length_starts, open_count}
use Rattle.smt_sexp.proofs.building.Building.close.Goals as goal
use Rattle.smt_sexp.proofs.building.Building.close.Goals.{After-pop, After-unwrap-opened, In_ok-push}

pub unwrap-opened-requires : goal.unwrap-opened-requires
unwrap-opened-requires c =
    let r = c.requires.some in
    c.pop.ensures.variant.1 (omega (arith, length-map c.args.self.now.open.items opened_of, ap length r.2.opened, length_starts r.0 r.1, c.args.self.now.open.ok.0, r.3))

popped : (c : After-unwrap-opened) → c.args.self.now.open.items ≡ c.pop.new.self.items ++ c.unwrap-opened.result ∷ []
popped c = c.pop.ensures.items ∙ ap (λ o. c.pop.new.self.items ++ option_to_list o) c.unwrap-opened.ensures

opened : (c : After-unwrap-opened) (us : List Unclosed) (tops : List sexp.Sexp) → Stands c.args.self.now us tops → map opened_of (c.pop.new.self.items ++ c.unwrap-opened.result ∷ []) ≡ starts us tops
opened c us tops st = ap (map opened_of) (sym (popped c)) ∙ st.opened

within : (c : After-unwrap-opened) → c.unwrap-opened.result.at < length c.args.self.now.nodes.items
within c =
    let r = c.requires.some in
    opened_within c.args.self.now.nodes.items c.pop.new.self.items c.unwrap-opened.result r.0 r.1 r.2.nodes (opened c r.0 r.1 r.2)

pub overflow_add-opened : goal.overflow_add-opened
overflow_add-opened c =
    let w = within (goal.at.overflow_add-opened c).After-unwrap-opened in omega (arith, ap length c.deref.ensures.value, c.deref.type_inv.0)

pub split_at-requires : goal.split_at-requires
split_at-requires c =
    let w = within (goal.at.split_at-requires c).After-unwrap-opened in omega (arith, ap length c.deref.ensures.value)

pub overflow_sub-size : goal.overflow_sub-size
overflow_sub-size c =
    let w = within (goal.at.overflow_sub-size c).After-unwrap-opened in omega (arith, c.len.ensures, c.args.self.now.nodes.ok.0)

pub index_mut-requires : goal.index_mut-requires
index_mut-requires c =
    let w = within (goal.at.index_mut-requires c).After-unwrap-opened in omega (arith, c.in_ok-push.ensures.len, c.args.self.now.nodes.ok.0)

module _ (c : In_ok-push) (u : Unclosed) (us : List Unclosed) (tops : List sexp.Sexp) (st : Stands c.args.self.now (u ∷ us) tops) where
  all_opened : map opened_of (c.pop.new.self.items ++ c.unwrap-opened.result ∷ []) ≡ starts (u ∷ us) tops
  all_opened = ap (map opened_of) (sym (c.pop.ensures.items ∙ ap (λ o. c.pop.new.self.items ++ option_to_list o) c.unwrap-opened.ensures)) ∙ st.opened

  exits : c.is_exit-exits.result ≡ is_exit (group_of u)
  exits =
      c.is_exit-exits.ensures ∙ ap (λ ns. is_exit_inside (map bead_of ns)) (c.split_at.ensures.back ∙ ap (drop (c.unwrap-opened.result.at + 1)) c.deref.ensures.value) ∙
      close_exit c.args.self.now.nodes.items c.pop.new.self.items c.unwrap-opened.result u us tops st.nodes all_opened

  alone : nat_eq (length us) 0 ≡ nat_eq (vec_len c.pop.new.self) 0
  alone =
      let count : length us ≡ vec_len c.pop.new.self = omega (arith, open_count c.pop.new.self.items c.unwrap-opened.result u us tops all_opened, c.pop.new.self.ok.0) in
      ap (λ n. nat_eq n 0) count

  stands : Stands (record {
    nodes = with_item c.push.new.self c.unwrap-opened.result.at (nodes.Open c.unwrap-opened.result.place (c.len.result - c.unwrap-opened.result.at));
    «open» = c.pop.new.self;
  }) (put (group_of u) us tops).0 (put (group_of u) us tops).1
  stands =
      let size : c.len.result - c.unwrap-opened.result.at ≡ length c.args.self.now.nodes.items - c.unwrap-opened.result.at = omega (arith, c.len.ensures, c.args.self.now.nodes.ok.0) in
      let made = close_nodes c.args.self.now.nodes.items c.pop.new.self.items c.unwrap-opened.result u us tops (c.len.result - c.unwrap-opened.result.at) st.nodes all_opened size in
      record {
        nodes = ap (λ ns. map bead_of (set ns c.unwrap-opened.result.at (nodes.Open c.unwrap-opened.result.place (c.len.result - c.unwrap-opened.result.at)))) c.in_ok-push.ensures.items ∙ made.0;
        opened = made.1;
      }

pub returns-then-is_empty-clause-stands : goal.returns-then-is_empty-clause-stands
returns-then-is_empty-clause-stands c = λ u us tops st.
    let before = (goal.at.returns-then-is_empty-clause-stands c).In_ok-push in
    record {
      stands = stands before u us tops st;
      ends_is = exits before u us tops st ∙ ap (λ b. b && is_exit (group_of u)) (sym (alone before u us tops st ∙ sym c.is_empty.ensures ∙ c.if-is_empty.true));
    }

pub returns-else-is_empty-clause-stands : goal.returns-else-is_empty-clause-stands
returns-else-is_empty-clause-stands c = λ u us tops st.
    let before = (goal.at.returns-else-is_empty-clause-stands c).In_ok-push in
    record {
      stands = stands before u us tops st;
      ends_is = c.if-is_empty.false ∙ ap (λ b. b && is_exit (group_of u)) (sym (alone before u us tops st ∙ sym c.is_empty.ensures ∙ c.if-is_empty.false));
    }
