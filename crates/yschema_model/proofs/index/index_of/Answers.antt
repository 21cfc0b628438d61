use Rattle.std.proofs.Common.{◌≡◌, ◌+◌, ◌<◌, Some, None, [], ◌∷◌, ◌++◌, take, length, refl, sym, ap, ap₂, ◌∙◌, arith, length-take}
use Rattle.std.specs.Prelude.{if◌then◌else◌, option_map, slice_get, string_bytes, unwrap_or}
use Rattle.std.proofs.lemmas.List.{length-map, take_more, take_all}
use Rattle.std.proofs.lemmas.Option.{slice_get-get_or, slice_get-map, slice_get_read}
use Rattle.yspec.specs.Forest.{first_of}
use Rattle.yspec.specs.schema.Schema.{is_called}
use Rattle.ybase_index.specs.Names.{found_by, is_at, number_among, text_in}
use Rattle.ybase_index.specs.declared.keys.Among.TheVariants.{Children, DataNodes}
use Rattle.ybase_index.proofs.NameLemmas.{apart_among, found_after, none_found}
use Rattle.yschema_model.specs.declared.children.Slot.{Slot}
use Rattle.yschema_model.specs.Layout.{Place, laid, place_of, number_of, data_at, data_above, data_place_of}
use Rattle.yschema_model.specs.Lookup.{first_below, is_data_called, names_in}
use Rattle.yschema_model.proofs.LayoutLemmas.{laid_push}
use Rattle.yschema_model.proofs.NearestLemmas.{nearest_of, handed_on, handed, handed-last, handed_laid, map-append}
use Rattle.yschema_model.proofs.FindLemmas.{child_added, data_added}
use Rattle.yschema_model.proofs.index.index_of.Goals as goal

pub loop-number-init : goal.loop-number-init
unfolding handed
loop-number-init c =
    let numbers = number_among (text_in (names_in c.args.slots.now)) c.args.names.ordered.items in
    record {
      children = λ parent m t. none_found numbers c.in_ok-nodes.nodes Children parent m t (c.in_ok-nodes.ensures Children);
      data_nodes = λ above m t. none_found numbers c.in_ok-nodes.nodes DataNodes above m t (c.in_ok-nodes.ensures DataNodes);
      nearest = c.in_ok-nearest.ensures.items;
    }

pub loop-number-preserved : goal.loop-number-preserved
loop-number-preserved c =
    let slots = c.args.slots.now in
    let i = c.loop-number.number in
    let slot = c.index-slots-number.result in
    let done = take i slots in
    let within = length-take i slots in
    let here : length done ≡ i = omega (arith, within) in
    let step : laid 0 (take (i + 1) slots) ≡ laid 0 done ++ place_of i slot ∷ [] =
    ap (laid 0) (take_more slots i slot (omega arith) ∙ ap (λ r. done ++ r ∷ []) (sym c.index-slots-number.is))
    ∙ (laid_push done slot ∙ ap (λ n. laid 0 done ++ place_of n slot ∷ []) here) in
    let places = handed [] (laid 0 done) in
    let all : handed [] (laid 0 (take (i + 1) slots)) ≡ places ++ handed_on places (place_of i slot) ∷ [] =
    ap (handed []) step ∙ handed-last [] (laid 0 done) (place_of i slot) in
    let data_parent = c.data_parent-above.result in
    let above : data_parent ≡ data_above (nearest_of places) (number_of slot.parent) =
    c.data_parent-above.ensures ∙ ap (λ xs. data_above xs (number_of slot.parent)) (c.deref.ensures.value ∙ c.loop-number.invariant.nearest) in
    let place = data_place_of data_parent i slot in
    let added : places ++ place ∷ [] ≡ handed [] (laid 0 (take (i + 1) slots)) =
    ap (λ q. places ++ data_place_of q i slot ∷ []) above ∙ sym all in
    let name = string_bytes slot.node.name in
    let inside : i < length slots = omega arith in
    let there : text_in (names_in slots) i ≡ name = ap (λ o. unwrap_or o []) (slice_get-map (λ r. string_bytes r.node.name) slots i
    ∙ ap (option_map (λ r. string_bytes r.node.name)) (slice_get-get_or slots i slot inside))
    ∙ ap (λ r. string_bytes r.node.name) (sym c.index-slots-number.is) in
    let ordered = c.args.names.ordered.items in
    let numbers = number_among (text_in (names_in slots)) ordered in
    let given = c.index.result.now in
    let kept : slice_get c.args.names.of_nodes.items i ≡ Some given = slice_get_read c.args.names.of_nodes.items (length c.args.names.of_nodes.items) i given refl (omega (arith, c.requires.names.0, length-map slots (λ (r : Slot). string_bytes r.node.name))) c.index.ensures in
    let named : numbers name ≡ Some given = ap numbers (sym there) ∙ c.requires.names.2 i given kept in
    let after = c.add.new.self in
    let found = found_by numbers in
    let node = c.indexed_node-node.result in
    record {
      children = λ parent m t. child_added parent m t (laid 0 done) i slot data_parent (found c.loop-number.nodes Children parent m t) (found after Children parent m t)
          (found_after node name Children parent m numbers given c.loop-number.nodes after (apart_among (text_in (names_in slots)) ordered) named (c.in_ok-add.ensures.added Children) t
          ∙ ap (λ n. first_of (found c.loop-number.nodes Children parent m t) (if is_at Children parent m t n name then Some n.number else None)) c.indexed_node-node.ensures)
          (c.loop-number.invariant.children parent m t)
          ∙ ap (first_below parent (is_called m t)) (sym step);
      data_nodes = λ q m t. data_added q m t places i slot data_parent (found c.loop-number.nodes DataNodes q m t) (found after DataNodes q m t)
          (found_after node name DataNodes q m numbers given c.loop-number.nodes after (apart_among (text_in (names_in slots)) ordered) named (c.in_ok-add.ensures.added DataNodes) t
          ∙ ap (λ n. first_of (found c.loop-number.nodes DataNodes q m t) (if is_at DataNodes q m t n name then Some n.number else None)) c.indexed_node-node.ensures)
          (c.loop-number.invariant.data_nodes q m t)
          ∙ ap (first_below q (is_data_called m t)) added;
      nearest = c.in_ok-push.ensures.items
          ∙ (ap₂ (λ xs v. xs ++ v ∷ []) c.loop-number.invariant.nearest c.nearest_to.ensures
          ∙ sym (ap nearest_of (sym added) ∙ map-append (λ (p : Place). data_at p.parent p.label) places (place ∷ [])));
    }

pub returns-clause-named : goal.returns-clause-named
returns-clause-named c =
    let slots = c.args.slots.now in
    let i = c.loop-number.number in
    let all = take_all i slots (omega arith) in (
      c.requires.names.1,
      λ parent m t. c.loop-number.invariant.children parent m t ∙ ap (λ rs. first_below parent (is_called m t) (laid 0 rs)) all,
    )

pub returns-clause-written : goal.returns-clause-written
returns-clause-written c above m t =
    let slots = c.args.slots.now in
    let i = c.loop-number.number in
    let all = take_all i slots (omega arith) in
    c.loop-number.invariant.data_nodes above m t
    ∙ (ap (λ rs. first_below above (is_data_called m t) (handed [] (laid 0 rs))) all ∙ ap (first_below above (is_data_called m t)) (handed_laid slots c.requires.laid_out))
