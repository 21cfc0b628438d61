use Rattle.std.proofs.Common.{◌++◌, None, get_or, length, map, ap, ap₂, ◌∙◌}
use Rattle.ybase_preorder.specs.Layout.{laid, places, seen}
use Rattle.yschema_augment.specs.Arranging.{hung_view}
use Rattle.yschema_expand.specs.NumberedView.{rows_between}
use Rattle.yschema_augment.specs.Hanging.{hung, plain}
use Rattle.yschema_expand.specs.NodeView.{numbered_part}
use Rattle.yschema_expand.specs.TableView.{slots_of}
use Rattle.yschema_augment.proofs.arranging.arranged.Goals as goal

pub returns : goal.returns
returns c =
    let slots = slots_of c.args.nodes.now in
    let starts = c.args.starts.now in
    let all = map (hung_view starts slots c.args.numbers.now) c.args.order.now in
    let own = c.between-own.ensures ∙ ap (λ past. rows_between 0 past slots) (c.number_at.ensures ∙ ap (get_or starts 0) c.len-2.ensures) in
    c.in_ok-add_row.ensures
    ∙ ap₂ (λ made f. seen numbered_part 0 (laid made) ++ places None (length made) (plain (hung all f))) c.new-made.ensures own
