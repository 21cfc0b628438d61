use Rattle.std.proofs.Common.{◌≡◌, ◌+◌, ◌≤◌, suc, ◌++◌, ◌∷◌, [], Some, None, if◌then◌else◌, take, length, map, get_or, arith, sym, ap, ◌∙◌}
use Rattle.std.specs.Prelude.{find, option_map}
use Rattle.yspec.specs.Forest.{first_of}
use Rattle.yspec.specs.linking.SchemaNodes.{number_in}
use Rattle.ybase_preorder.specs.Layout.{labels_by}
use Rattle.ybase_preorder.specs.View.{slots_in}
use Rattle.ybase_preorder.proofs.LabelLemmas.{labels_more}
use Rattle.ybase_index.specs.Index.{found, texts_of}
use Rattle.ybase_index.specs.Names.{is_at, text_in}
use Rattle.yschema_plan.specs.PlannedView.{planned_view}
use Rattle.yschema_plan.specs.Finding.{indexed, is_found, row_name}
use Rattle.yschema_plan.proofs.FindLemmas.{count_of_names, count_of_texts, name_there, node_added, row_names}
use Rattle.yschema_plan.proofs.finding.index_of.Goals as goal

pub of-requires : goal.of-requires
of-requires c =
    let rows = slots_in c.args.table.now in
    let few = c.args.table.now.numbered in
    let count = ap length (c.in_ok-names.ensures ∙ (ap (map row_name) c.slots.ensures ∙ row_names 0 rows)) ∙ count_of_names 0 rows in
    let texts = count_of_texts c.in_ok-names.names.items in
    omega (arith, few, count, texts, c.args.table.now.slots.ok.0)

pub loop-number-init : goal.loop-number-init
loop-number-init c = record {
  texts = c.in_ok-index.ensures.texts ∙ (c.in_ok-names.ensures ∙ (ap (map row_name) c.slots.ensures ∙ row_names 0 (slots_in c.args.table.now)));
  nodes = c.in_ok-index.ensures.nodes;
}

pub add-requires : goal.add-requires
add-requires c =
    let rows = slots_in c.args.table.now in
    let count = ap length c.loop-number.invariant.texts ∙ count_of_names 0 rows in
    let is = ap (λ node. node.number) c.indexed_node.ensures in
    omega (arith, count, is, ap length c.slots-row-items.ensures)

pub loop-number-preserved : goal.loop-number-preserved
loop-number-preserved c =
    let rows = slots_in c.args.table.now in
    let i = c.loop-number.number in
    let row = c.row-item.result in
    let p = planned_view i row.label in
    let done = labels_by planned_view 0 (take i rows) in
    let same = c.slots-row-items.ensures in
    let is = c.row-item.is ∙ ap (λ xs. get_or xs i row) same in
    let within : suc i ≤ length rows = omega (arith, ap length same) in
    let more : done ++ p ∷ [] ≡ labels_by planned_view 0 (take (i + 1) rows) = sym (labels_more planned_view rows i row within is) in
    let named = ap (λ texts. text_in texts i) c.loop-number.invariant.texts ∙ name_there rows i row within is in
    record {
      texts = c.add.ensures.texts ∙ c.loop-number.invariant.texts;
      nodes = λ among above m t. node_added among above m t done p (found c.loop-number.index among above m t) (found c.add.new.self among above m t)
          (c.in_ok-add.ensures.nodes among above m t
          ∙ (ap (λ node. first_of (found c.loop-number.index among above m t) (if is_at among above m t node (text_in (texts_of c.loop-number.index) node.number) then Some node.number else None)) c.indexed_node.ensures
          ∙ ap (λ own. first_of (found c.loop-number.index among above m t) (if is_at among above m t (indexed p) own then Some i else None)) named))
          (c.loop-number.invariant.nodes among above m t)
          ∙ ap (λ ps. option_map number_in (find (is_found among above m t) ps)) more;
    }
