-- What a line asks for, as requests have it.
use Rattle.std.specs.Prelude.{◌≡◌, ℕ, ◌-◌, Bool, true, false, [], ◌∷◌, Option, Some, None, option_map}
use Rattle.yspec.specs.text.Text.{Text}
use Rattle.yspec.specs.edit.EditText.{position_alone}
use Rattle.yspec_session.specs.Session as spec
use Rattle.yinst_path.specs.EditView.{edit_view, path_view}
use Rattle.yapp_session.specs.declared.request.Request.{Request}
use Rattle.yapp_session.specs.declared.request.Request.TheVariants as rust

-- what isn't served: to save
abbrev pub is_unserved : Option spec.Request → Bool
is_unserved (Some (spec.save file)) = true
is_unserved _ = false

-- the request, where it is served
abbrev pub request_view : Request → Option spec.Request
request_view (rust.Change edit) = Some (spec.change (edit_view edit))
request_view (rust.Faults behind count) = Some (spec.faults behind count)
request_view (rust.Below path) = Some (spec.below (path_view path))
request_view (rust.Value path) = Some (spec.value (path_view path))
request_view rust.Undo = Some spec.undo
request_view rust.Document = Some spec.document
request_view rust.Begin = Some spec.begin
request_view rust.Commit = Some spec.commit
request_view rust.Back = Some spec.back
request_view rust.Unserved = None

abbrev pub AsksAs : Option spec.Request → Option spec.Request → Type 0
AsksAs None asked = is_unserved asked ≡ true
AsksAs (Some r) asked = asked ≡ Some r

abbrev pub Asks : Option Request → Option spec.Request → Type 0
Asks None asked = asked ≡ None
Asks (Some r) asked = AsksAs (request_view r) asked

-- a page of faults from the one of a number on, and perhaps how many
abbrev pub page_from : ℕ → Text → Option spec.Request
page_from first [] = Some (spec.faults (first - 1) None)
page_from first (x ∷ xs) = option_map (λ count. spec.faults (first - 1) (Some count)) (position_alone (x ∷ xs))
