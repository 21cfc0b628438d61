use Rattle.std.proofs.Common.{sym, ap, ap₂, ◌∙◌, ◌++◌}
use Rattle.std.specs.Prelude.{option_map, reverse}
use Rattle.yspec.specs.schema.Schema.{Schema}
use Rattle.yspec.specs.document.Document.{Tree}
use Rattle.yspec_session.specs.Session.{Turns, turns_of}
use Rattle.yinst_path.specs.EditView.{edit_view}
use Rattle.ylive.specs.View.{view}
use Rattle.yapp_difference.specs.Turning.{turn_view, turn_views}
use Rattle.yapp_session.proofs.TextLemmas.{if_done}
use Rattle.yapp_session.proofs.TurnLemmas.{one_reversed}
use Rattle.yapp_session.proofs.turning.add_turn.Goals as goal

pub returns : goal.returns
returns c =
    let live = view c.args.live.now in
    let e = edit_view c.args.edit.now in
    let found = option_map turn_view c.in_ok-found.found.back in
    if_done _ _
    (λ added. added
    ∙ ap (λ ts. turn_views c.args.turns.now.items ++ ts)
    (sym (one_reversed found)
    ∙ ap reverse (ap (λ (t : Turns). t.back) c.in_ok-found.ensures
    ∙ ap₂ (λ (s : Schema) (t : Tree). (turns_of s t e).back) c.schema.ensures c.in_ok-tree.ensures.copy)))
    c.add.result c.add.ensures
