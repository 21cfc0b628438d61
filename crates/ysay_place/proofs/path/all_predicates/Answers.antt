use Rattle.std.proofs.Common.{string_bytes, ap, sym, ◌∙◌}
use Rattle.std.proofs.lemmas.List.{at_drop_all}
use Rattle.yschema_model.specs.Layout.{numbers_of}
use Rattle.yschema_model.specs.View.{view}
use Rattle.yinst_tree.specs.View.{row_view}
use Rattle.ysay_place.proofs.PredicateLemmas.{behind, nothing_before, all_named}
use Rattle.ysay_place.proofs.path.all_predicates.Goals as goal

pub loop-key-init : goal.loop-key-init
loop-key-init c =
    let schema = view c.args.schema.now in
    let row = row_view c.args.row.now in
    let keys = numbers_of c.args.keys.now in
    ap (λ t. behind schema row t keys) c.new-text.ensures.bytes ∙ nothing_before schema row keys

pub returns : goal.returns
returns c =
    let l = c.loop-key in
    let schema = view c.args.schema.now in
    let row = row_view c.args.row.now in
    sym (all_named schema row (string_bytes l.text))
    ∙ (sym (at_drop_all (λ ks. behind schema row (string_bytes l.text) (numbers_of ks)) c.args.keys.now l.key-index c.loop-key-test.false) ∙ l.invariant)
