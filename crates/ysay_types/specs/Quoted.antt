-- Arguments as they are shown.
use Rattle.std.specs.Prelude.{◌++◌, codes}
use Rattle.yspec.specs.text.Text.{Text}
use Rattle.ysay_text.specs.Line.{shown}

-- a word, and an argument in quotes
abbrev pub quoted : Text → Text → Text
quoted word t = word ++ (codes " \"" ++ (shown t ++ codes "\""))
