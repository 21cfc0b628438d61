-- Modules of two lines, of which something is said.
use Rattle.std.specs.Prelude.{ℕ, codes, Option, Some}
use Rattle.yspec.specs.Forest.{end, node}
use Rattle.yspec.specs.text.Text.{Text}
use Rattle.ysay_text.specs.Sentence.{of_line}

-- what is said of a line of a module that has one statement, in line 2
abbrev pub said : ℕ → Text → Option Text → Text
said line keyword argument = of_line line
    (node (record { keyword = codes "module"; argument = Some (codes "m"); line = 1 })
    (node (record { keyword = keyword; argument = argument; line = 2 }) end end) end)
