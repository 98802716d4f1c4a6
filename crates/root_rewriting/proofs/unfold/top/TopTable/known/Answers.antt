use Rattle.std.proofs.Common.{◌≡◌, ◌+◌, ◌∙◌, arith, ap, sym, map, length, refl, Some, option_map}
use Rattle.std.specs.HashMap.{get_by}
use Rattle.std.specs.Prelude.{slice_get}
use Rattle.std.specs.Str.{bytes_eq}
use Rattle.std.proofs.lemmas.Option.{slice_get_read}
use Rattle.root_rewriting.specs.TreeNames.{top_of, top_place}
use Rattle.root_rewriting.proofs.NameTables.{known_same, none_fewer, place_named, place_past, place_within, places_fall, some_fewer, unplaced}
use Rattle.root_rewriting.proofs.unfold.top.TopTable.known.Goals as goal

pub loop-found-init : goal.loop-found-init
loop-found-init c =
    let entries = c.self.inside.entries.items in let x = c.args.name.now in (
      c.args.visible + length entries,
      omega arith,
      c.copied-found.ensures ∙ c.get.ensures.value ∙ ap (λ y. get_by (λ k. bytes_eq y k.now) c.self.inside.last) c.as_slice.ensures ∙ c.self.invariant.last_places x ∙ place_past x entries c.args.visible,
    )

pub index-entry-requires : goal.index-entry-requires
index-entry-requires c =
    let v = c.loop-found.invariant in
    let within = place_within c.args.name.now c.self.inside.entries.items v.0 c.in-Some.place (sym v.2 ∙ c.in-Some.is) in
    omega (arith, within, c.self.inside.entries.ok.0)

pub returns-then-place-visible : goal.returns-then-place-visible
returns-then-place-visible c =
    let v = c.loop-found.invariant in let entries = c.self.inside.entries.items in let e = c.index-entry.result.now in let x = c.args.name.now in
    let here : top_place x (map top_of entries) v.0 ≡ Some c.in-Some.place = sym v.2 ∙ c.in-Some.is in
    let there : slice_get entries c.in-Some.place ≡ Some e = slice_get_read entries (length entries) c.in-Some.place e refl (place_within x entries v.0 c.in-Some.place here) c.index-entry.ensures in
    let named = place_named x entries v.0 c.in-Some.place e here there in
    rw (← c.self.view_is)
    (sym (some_fewer x (map top_of entries) v.0 c.args.visible c.in-Some.place e.top.known v.1 c.if-place-visible.true named.known))

pub loop-found-smaller : goal.loop-found-smaller
loop-found-smaller c =
    let v = c.loop-found.invariant in let entries = c.self.inside.entries.items in let e = c.index-entry.result.now in let x = c.args.name.now in
    let here : top_place x (map top_of entries) v.0 ≡ Some c.in-Some.place = sym v.2 ∙ c.in-Some.is in
    let there : slice_get entries c.in-Some.place ≡ Some e = slice_get_read entries (length entries) c.in-Some.place e refl (place_within x entries v.0 c.in-Some.place here) c.index-entry.ensures in
    rw c.in-Some.is (places_fall e.top.name.now (map top_of entries) c.in-Some.place e.earlier (c.self.invariant.earlier_places c.in-Some.place e there))

pub loop-found-preserved : goal.loop-found-preserved
loop-found-preserved c =
    let v = c.loop-found.invariant in let entries = c.self.inside.entries.items in let e = c.index-entry.result.now in let x = c.args.name.now in
    let here : top_place x (map top_of entries) v.0 ≡ Some c.in-Some.place = sym v.2 ∙ c.in-Some.is in
    let there : slice_get entries c.in-Some.place ≡ Some e = slice_get_read entries (length entries) c.in-Some.place e refl (place_within x entries v.0 c.in-Some.place here) c.index-entry.ensures in
    let named = place_named x entries v.0 c.in-Some.place e here there in (
      c.in-Some.place,
      omega (arith, c.if-place-visible.false),
      c.self.invariant.earlier_places c.in-Some.place e there ∙ ap (option_map (λ p. p.0)) (known_same x e.top.name.now (map top_of entries) c.in-Some.place named.same),
    )

pub returns : goal.returns
returns c =
    let v = c.loop-found.invariant in let entries = c.self.inside.entries.items in let x = c.args.name.now in
    rw (← c.self.view_is)
    (sym (none_fewer x (map top_of entries) v.0 c.args.visible v.1 (unplaced x (map top_of entries) v.0 (sym c.in_default.is ∙ v.2))))
