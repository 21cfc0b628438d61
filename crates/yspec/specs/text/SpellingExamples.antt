-- Worked examples of texts: shapes of what they spell.
use Rattle.std.specs.Prelude.{ℕ, zero, suc, ◌++◌, codes, Option, Some}
use Rattle.yspec.specs.Forest.{Forest, end, node}
use Rattle.yspec.specs.text.Text.{Text}
use Rattle.yspec.specs.text.Statement.{Statement, Slip}

-- a statement in a line
abbrev pub labelled : Text → Option Text → ℕ → Statement
labelled keyword argument line = record { keyword = keyword; argument = argument; line = line }

-- a `module` statement with an argument in line 1, and nothing below it
abbrev pub module_named : Text → Forest Statement
module_named argument = node (labelled (codes "module") (Some argument) 1) end end

abbrev pub slip_of : ℕ → ℕ → Option Slip
slip_of code line = Some (record { code = code; line = line })

-- so many blocks in one another, with a line for each, around a text
abbrev pub nested : ℕ → Text → Text
nested zero inside = inside
nested (suc depth) inside = codes "a {\n" ++ (nested depth inside ++ codes "}")
