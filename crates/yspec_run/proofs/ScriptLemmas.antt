-- What accepted edits keep, the lines of a script keep.
use Rattle.std.proofs.Common.{Bool, List, [], ◌∷◌, Option, Some, None, Result, Ok, Err}
use Rattle.std.specs.Option.{option_map_or}
use Rattle.yspec.specs.Results.{◌>>=◌}
use Rattle.yspec.specs.text.Text.{Text}
use Rattle.yspec.specs.schema.Schema.{Schema}
use Rattle.yspec.specs.document.Document.{Tree}
use Rattle.yspec.specs.edit.EditText.{Edit}
use Rattle.yspec.specs.edit.Editing.{EditRefusal, applied, tree_or}
use Rattle.yspec_run.specs.Script.{asked_in, after_lines, line_applied}
use Rattle.yspec.proofs.EditProofs.AnswerLemmas.{If}

module _ (P : Tree → Type 0) (is_strict : Bool) (s : Schema) (kept : (t : Tree) (e : Edit) → P t → If P (applied s t e)) where
  decided : (r : Result Tree EditRefusal) (t : Tree) → P t → If P r → P (tree_or r t)
  decided (Ok u) t before so = so
  decided (Err e) t before so = before

  asked_keeps : (asked : Result (Option Edit) EditRefusal) (t : Tree) → P t → If P (asked >>= (λ a. option_map_or (applied s t) a (Ok t)))
  asked_keeps (Ok None) t before = before
  asked_keeps (Ok (Some e)) t before = kept t e before
  asked_keeps (Err e) t before = tt

  pub lines_keep : (lines : List Text) (t : Tree) → P t → P (after_lines is_strict s t lines)
  lines_keep [] t before = before
  lines_keep (line ∷ lines) t before =
      let answer = line_applied is_strict s t line in
      lines_keep lines (tree_or answer t) (decided answer t before (asked_keeps (asked_in is_strict line) t before))
