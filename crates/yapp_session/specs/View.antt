-- What is kept of a session, as its definitions have it.
use Rattle.std.specs.Prelude.{ℕ, ◌-◌, List, Vec, map, take, option_map}
use Rattle.yspec.specs.edit.EditText.{Edit}
use Rattle.yspec_session.specs.Remembering as spec
use Rattle.yspec_session.specs.Remembering.{Kept, until}
use Rattle.yinst_tree.specs.View.{tree_view}
use Rattle.yinst_path.specs.EditView.{edit_view}
use Rattle.yinst_path.specs.declared.edit.Edit as rust
use Rattle.yapp_session.specs.declared.past.Later.{Later}
use Rattle.yapp_session.specs.declared.past.Past.{Past}
use Rattle.yapp_session.specs.declared.past.Since.{Since}

abbrev pub edits_view : List rust.Edit → List Edit
edits_view = map edit_view

abbrev pub group_view : {A : Type 0} → Vec rust.Edit A → List Edit
group_view g = edits_view g.items

abbrev pub groups_view : {A : Type 0} → List (Vec rust.Edit A) → List (List Edit)
groups_view gs = map group_view gs

abbrev pub since_view : Since → spec.Since
since_view s = record { groups = s.groups; kept = s.kept }

abbrev pub later_view : Later → spec.Later
later_view l = record { groups = l.groups; tree = tree_view l.tree }

abbrev pub past_view : Past → Kept
past_view p = record {
  base = tree_view p.base;
  groups = groups_view p.groups.items;
  kept = p.kept;
  begun = option_map since_view p.begun;
  later = option_map later_view p.later;
}

-- with the last group taken back
abbrev pub less_one : ℕ → Kept → Kept
less_one n k = record k { groups = take n k.groups; kept = k.kept - 1; later = until n k.later }
