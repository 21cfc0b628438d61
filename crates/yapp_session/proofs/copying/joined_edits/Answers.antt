use Rattle.std.proofs.Common.{ap, ◌∙◌, ◌++◌, arith}
use Rattle.std.proofs.lemmas.List.{map-append}
use Rattle.yinst_path.specs.EditView.{edit_view}
use Rattle.yapp_session.specs.View.{edits_view, group_view}
use Rattle.yapp_session.proofs.ListLemmas.{one_made}
use Rattle.yapp_session.proofs.copying.joined_edits.Goals as goal

pub loop-group-preserved : goal.loop-group-preserved
loop-group-preserved c =
    one_made group_view (edits_view c.loop-group.edits.items) (edits_view c.append.new.self.items) c.args.groups.now c.loop-group.group-index c.group-item.result
    (omega arith) c.group-item.is
    (ap edits_view c.in_ok-append.ensures.items
    ∙ (map-append edit_view c.loop-group.edits.items c.in_ok-copies.copies.items ∙ ap (λ es. edits_view c.loop-group.edits.items ++ es) (c.in_ok-copies.ensures ∙ ap edits_view c.deref.ensures.value)))
    c.loop-group.invariant
