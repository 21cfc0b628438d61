use Rattle.std.proofs.Common.{ap, ◌∙◌, ◌++◌}
use Rattle.std.specs.Prelude.{option_map, option_to_list}
use Rattle.yspec.specs.schema.Schema.{Schema}
use Rattle.yspec_session.specs.Session.{Turns, turns_of}
use Rattle.yinst_tree.specs.View.{tree_view}
use Rattle.yinst_path.specs.EditView.{edit_view}
use Rattle.yapp_difference.specs.Turning.{turn_view, turn_views}
use Rattle.yapp_session.proofs.turning.turns_at.Goals as goal

pub returns : goal.returns
returns c = c.in_ok-add.ensures
    ∙ (ap (λ ts. turn_views ts ++ option_to_list (option_map turn_view c.in_ok-found.found.there)) c.new-turns.ensures.items
    ∙ (ap (λ (t : Turns). t.there) c.in_ok-found.ensures
    ∙ ap (λ (s : Schema). (turns_of s (tree_view c.args.tree.now) (edit_view c.args.edit.now)).there) c.schema.ensures))
