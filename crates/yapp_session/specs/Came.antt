-- What came of the faults of a document, as it is found: by a document and its faults that are kept where that is asked.
use Rattle.std.specs.Prelude.{◌≡◌, ℕ, Bool, false, List, Option, Some, None, if◌then◌else◌}
use Rattle.yspec.specs.text.Text.{Text}
use Rattle.yspec.specs.schema.Schema.{Schema}
use Rattle.yspec.specs.document.Document.{Tree}
use Rattle.yspec.specs.document.Fault.{Fault}
use Rattle.yspec.specs.edit.Live.{Live}
use Rattle.yspec_session.specs.Carrying.{Turn, difference}
use Rattle.yspec_session.specs.Remembering.{Kept, Leads, turns_behind}
use Rattle.ysay_session.specs.AnswerText.{changed_text, changes_text}
use Rattle.yinst_tree.specs.View.{tree_view}
use Rattle.ycheck.specs.View.{views}
use Rattle.yapp_session.specs.Answered.{change_text, told_count, told_in}
use Rattle.yapp_session.specs.declared.telling.Earlier.{Earlier}

abbrev pub earlier_view : Earlier → Tree × List Fault
earlier_view e = (tree_view e.tree, views e.faults.items)

-- a document and its faults, where that is asked
abbrev pub seen : Bool → Option Schema → Live → Option (Tree × List Fault)
seen tells_changes configured live = if tells_changes then Some (live.tree, told_in configured live) else None

-- the text of a change from it, if it was kept
abbrev pub seen_text : Option Schema → Option (Tree × List Fault) → List Turn → Live → ℕ → ℕ → Text
seen_text configured None turns live before after = changed_text before after
seen_text configured (Some e) turns live before after =
    changes_text live.schema e.0 live.tree before after (difference turns e.1 (told_in configured live))

-- the text of going back to a place of the past, where it leads there
abbrev pub Falls : Bool → Option Schema → Live → Kept → ℕ → Text → Live → Type 0
Falls tells_changes configured before k n t after = before.is_stale ≡ false → Leads before.schema k.base k.groups k.later
    → t ≡ change_text tells_changes after.schema before.tree after.tree (told_count configured before)
    (told_count configured after)
    (difference (turns_behind before.schema n k) (told_in configured before) (told_in configured after))
