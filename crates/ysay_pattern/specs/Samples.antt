-- Modules of two lines, with patterns of which something is said.
use Rattle.std.specs.Prelude.{ℕ, List, [], ◌∷◌, codes, map, Option, Some}
use Rattle.yspec.specs.Forest.{Forest, end, node}
use Rattle.yspec.specs.text.Text.{Text}
use Rattle.yspec.specs.text.Statement.{Statement}
use Rattle.ysay_pattern.specs.Stop.{Stop, stop_of}
use Rattle.ysay_pattern.specs.Said.{of_line}

-- where each stops
abbrev pub stops : List (List ℕ) → List (Option Stop)
stops patterns = map stop_of patterns

-- patterns in line 2
abbrev pub rows : List Text → Forest Statement
rows [] = end
rows (t ∷ ts) = node (record { keyword = codes "pattern"; argument = Some t; line = 2 }) end (rows ts)

abbrev pub said : ℕ → List Text → Text
said line patterns = of_line line
    (node (record { keyword = codes "module"; argument = Some (codes "m"); line = 1 })
    (node (record { keyword = codes "type"; argument = Some (codes "string"); line = 2 }) (rows patterns) end) end)
