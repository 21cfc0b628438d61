-- Edited documents, as the definitions' live ones.
use Rattle.std.specs.Prelude.{ℕ, ◌++◌, List, Option, Some, None, codes, decimal, map, option_map, string_bytes}
use Rattle.ysay_lines.specs.Lines.{at_line}
use Rattle.ysay_jumps.specs.Jumps.{jump}
use Rattle.yspec.specs.text.Text.{Text}
use Rattle.yspec.specs.edit.Live.{Live}
use Rattle.yspec_run.specs.Part.{Part}
use Rattle.ylive.specs.View as live_view
use Rattle.yspec_run.specs.Lines.{jumping, script_spot}
use Rattle.yapp_script.specs.Asked.{refused_part}
use Rattle.yapp_script.specs.declared.script.RefusedLine.{RefusedLine}
use Rattle.yapp_report.specs.declared.edited.EditedDocument.{EditedDocument}

abbrev pub live_of : EditedDocument → Live
live_of e = live_view.view e.live

-- refused lines of a script, with the places to which an editor jumps where the name of its file is given
abbrev pub scripted_parts : Option Text → List RefusedLine → List Part
scripted_parts script lines = map (λ line. jumping (script_spot script) (refused_part line)) lines

-- what stands in front of the code of such a line
abbrev pub line_front : Option Text → ℕ → Text
line_front None number = codes "line " ++ (decimal number ++ codes ": ")
line_front (Some script) number = jump script (at_line number 1)

abbrev pub refused_in : EditedDocument → List Part
refused_in e = scripted_parts (option_map string_bytes e.script) e.refused.items
