use Rattle.std.proofs.Common.{◌≡◌, sym, subst, ◌<◌, length, List, [], true}
use Rattle.std.specs.Prelude.{Result, Ok, Err}
use Rattle.smt_sexp.specs.Views.{place_of}
use Rattle.poly_graph.specs.Views.{kind_of}
use Rattle.term_build.specs.declared.stop.Stop.{Stop}
use Rattle.term_build.proofs.Emits.{err_is}
use Rattle.value_build.specs.Arms.{Joins, LinksEach, SaysAll}
use Rattle.value_build.specs.Operators.{are_bool}
use Rattle.value_build.specs.Values.{AreKnown}
use Rattle.value_build.specs.declared.value.Value.{Value}
use Rattle.value_build.proofs.Joining.{says_all, says_stop}
use Rattle.value_build.proofs.Arming.{each_known}
use Rattle.value_build.proofs.Taken.{links_made}
use Rattle.value_build.proofs.operate.compare_values.Goals as goal

pub link_each-requires-clause-links : goal.link_each-requires-clause-links
link_each-requires-clause-links c = subst (λ (ls : List Value). AreKnown c.args.maker.now ls) (sym c.new-links.ensures.items) ([], [], tt)

pub join_links-requires-clause-some : goal.join_links-requires-clause-some
join_links-requires-clause-some c = subst (λ (ls : List Value). 0 < length ls) (sym c.as_slice.ensures.value) (links_made c.args.maker.now c.link_each.new.maker c.args.comparing.spread (kind_of c.args.comparing.kind) (place_of c.args.comparing.at) c.args.values.now c.link_each.new.links.items (subst (λ (ls : List Value). LinksEach {X = Unit {0}} c.args.maker.now c.link_each.new.maker c.args.comparing.spread (kind_of c.args.comparing.kind) (place_of c.args.comparing.at) c.args.values.now ls c.link_each.new.links.items (Ok tt)) c.new-links.ensures.items c.in_ok-link_each.ensures.does) c.requires.values c.requires.several).1

pub join_links-requires-clause-bools : goal.join_links-requires-clause-bools
join_links-requires-clause-bools c = subst (λ (ls : List Value). are_bool ls ≡ true) (sym c.as_slice.ensures.value) (links_made c.args.maker.now c.link_each.new.maker c.args.comparing.spread (kind_of c.args.comparing.kind) (place_of c.args.comparing.at) c.args.values.now c.link_each.new.links.items (subst (λ (ls : List Value). LinksEach {X = Unit {0}} c.args.maker.now c.link_each.new.maker c.args.comparing.spread (kind_of c.args.comparing.kind) (place_of c.args.comparing.at) c.args.values.now ls c.link_each.new.links.items (Ok tt)) c.new-links.ensures.items c.in_ok-link_each.ensures.does) c.requires.values c.requires.several).0

pub join_links-requires-clause-known : goal.join_links-requires-clause-known
join_links-requires-clause-known c = subst (λ (ls : List Value). AreKnown c.link_each.new.maker ls) (sym c.as_slice.ensures.value)
    (each_known c.args.maker.now c.link_each.new.maker c.args.comparing.spread (kind_of c.args.comparing.kind) (place_of c.args.comparing.at) c.args.values.now c.link_each.new.links.items (subst (λ (ls : List Value). LinksEach {X = Unit {0}} c.args.maker.now c.link_each.new.maker c.args.comparing.spread (kind_of c.args.comparing.kind) (place_of c.args.comparing.at) c.args.values.now ls c.link_each.new.links.items (Ok tt)) c.new-links.ensures.items c.in_ok-link_each.ensures.does) c.requires.values)

pub returns-clause-does : goal.returns-clause-does
returns-clause-does c = says_all c.args.maker.now.made c.link_each.new.maker.made c.join_links.new.maker.made c.args.maker.now.drawn c.link_each.new.maker.drawn c.join_links.new.maker.drawn c.args.maker.now.bounds c.link_each.new.maker.bounds c.join_links.new.maker.bounds c.args.comparing.spread (kind_of c.args.comparing.kind) (place_of c.args.comparing.at) c.args.values.now c.link_each.new.links.items c.join_links.result (subst (λ (ls : List Value). LinksEach {X = Unit {0}} c.args.maker.now c.link_each.new.maker c.args.comparing.spread (kind_of c.args.comparing.kind) (place_of c.args.comparing.at) c.args.values.now ls c.link_each.new.links.items (Ok tt)) c.new-links.ensures.items c.in_ok-link_each.ensures.does)
    (subst (λ (ls : List Value). Joins c.link_each.new.maker c.join_links.new.maker c.args.comparing.spread ls c.join_links.result) c.as_slice.ensures.value c.join_links.ensures.does)

pub returns-in_err-link_each-clause-does : goal.returns-in_err-link_each-clause-does
returns-in_err-link_each-clause-does c = subst (λ (r : Result Value Stop). SaysAll c.args.maker.now c.link_each.new.maker c.args.comparing.spread (kind_of c.args.comparing.kind) (place_of c.args.comparing.at) c.args.values.now r) (sym (err_is c.from_residual.result c.in_err-link_each.field-0.0 c.from_residual.ensures))
    (says_stop c.args.maker.now.made c.link_each.new.maker.made c.args.maker.now.drawn c.link_each.new.maker.drawn c.link_each.new.maker.drawn c.args.maker.now.bounds c.link_each.new.maker.bounds c.link_each.new.maker.bounds c.args.comparing.spread (kind_of c.args.comparing.kind) (place_of c.args.comparing.at) c.args.values.now c.link_each.new.links.items c.in_err-link_each.field-0.0 (subst (λ (ls : List Value). LinksEach {X = Unit {0}} c.args.maker.now c.link_each.new.maker c.args.comparing.spread (kind_of c.args.comparing.kind) (place_of c.args.comparing.at) c.args.values.now ls c.link_each.new.links.items (Err c.in_err-link_each.field-0.0)) c.new-links.ensures.items c.in_err-link_each.ensures.does))
