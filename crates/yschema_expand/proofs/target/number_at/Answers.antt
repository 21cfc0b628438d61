use Rattle.std.proofs.Common.{rules, ◌≡◌, ◌-◌, ◌∙◌, Some, true, false, is_some, drop, length, length-drop, map, sym, ap, ap₂, arith}
use Rattle.std.specs.Prelude.{option_map}
use Rattle.yspec.specs.Forest.{size}
use Rattle.yspec.specs.linking.Prefixes as spec
use Rattle.ybase_preorder.specs.Layout.{forest_of, numbered_by}
use Rattle.ybase_preorder.proofs.LabelLemmas.{size-by}
use Rattle.ybase_preorder.proofs.RowLemmas.{size_forest}
use Rattle.ylink_arguments.specs.NameView.{names_view}
use Rattle.yschema_expand.specs.NodeView.{numbered_part}
use Rattle.yschema_expand.specs.TableView.{parts_in, slots_of}
use Rattle.yschema_expand.specs.Targets.{node_seen, found_at}
use Rattle.yschema_expand.proofs.IndexedLemmas.{count_parts, led_there, number_there}
use Rattle.yschema_expand.proofs.PathLemmas.{number_among}
use Rattle.yschema_expand.proofs.TableLemmas.{row_from}
use Rattle.yschema_expand.proofs.target.number_at.Goals as goal

pub returns-in-Some : goal.returns-in-Some
returns-in-Some c = record {
  found = λ modules earlier parent f of_it count at.
      let table = c.args.nodes.table.now in
      let few = count_parts (slots_of table) in
      c.number_at.ensures modules of_it
      ∙ led_there c.args.nodes.first c.in-Some.index.now (parts_in table) (search rules) (omega (arith, few, table.numbered, table.slots.ok.0))
      earlier parent f count at (map (spec.node_name modules c.args.home c.args.owner) (names_view c.args.path.now));
  among = λ modules of_it unindexed. absurd (let clash : true ≡ false = sym (ap is_some c.in-Some.is) ∙ unindexed in cc);
}

pub returns-in_err-found-in-None : goal.returns-in_err-found-in-None
returns-in_err-found-in-None c = record {
  found = λ modules earlier parent f of_it count at.
      number_there (map (spec.node_name modules c.args.home c.args.owner) (names_view c.args.path.now)) c.args.nodes.first _ f _ _ _
      c.from_residual.ensures
      (ap (option_map node_seen) (sym c.in_err-found-in-None.was) ∙ c.node_at.ensures modules of_it)
      c.from-row.ensures.number (c.from-row.ensures.row ∙ row_from c.args.nodes.first (slots_of c.args.nodes.table.now) earlier parent f count at);
  among = λ modules of_it unindexed.
      let first = c.args.nodes.first in
      let slots = slots_of c.args.nodes.table.now in
      let rows = drop first slots in
      let steps = map (spec.node_name modules c.args.home c.args.owner) (names_view c.args.path.now) in
      let f = numbered_by numbered_part first (forest_of rows) in
      let count : size f ≡ length slots - first = size-by numbered_part first (forest_of rows) ∙ (size_forest rows ∙ length-drop first slots) in
      number_among steps first (length slots) f _ _ c.from_residual.ensures
      (ap (option_map node_seen) (sym c.in_err-found-in-None.was) ∙ (c.node_at.ensures modules of_it
      ∙ ap₂ (λ n g. found_at steps n g) c.from-row.ensures.number c.from-row.ensures.row)) count;
}

pub returns-in_ok-found-in-None : goal.returns-in_ok-found-in-None
returns-in_ok-found-in-None c = record {
  found = λ modules earlier parent f of_it count at.
      number_there (map (spec.node_name modules c.args.home c.args.owner) (names_view c.args.path.now)) c.args.nodes.first _ f _ _ _
      (ap Some c.number.ensures)
      (ap (option_map node_seen) (sym c.in_ok-found-in-None.was) ∙ c.node_at.ensures modules of_it)
      c.from-row.ensures.number (c.from-row.ensures.row ∙ row_from c.args.nodes.first (slots_of c.args.nodes.table.now) earlier parent f count at);
  among = λ modules of_it unindexed.
      let first = c.args.nodes.first in
      let slots = slots_of c.args.nodes.table.now in
      let rows = drop first slots in
      let steps = map (spec.node_name modules c.args.home c.args.owner) (names_view c.args.path.now) in
      let f = numbered_by numbered_part first (forest_of rows) in
      let count : size f ≡ length slots - first = size-by numbered_part first (forest_of rows) ∙ (size_forest rows ∙ length-drop first slots) in
      number_among steps first (length slots) f _ _ (ap Some c.number.ensures)
      (ap (option_map node_seen) (sym c.in_ok-found-in-None.was) ∙ (c.node_at.ensures modules of_it
      ∙ ap₂ (λ n g. found_at steps n g) c.from-row.ensures.number c.from-row.ensures.row)) count;
}
