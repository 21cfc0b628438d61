-- Worked examples: texts of modules, which rule of the table they break, and which statements are kept of them.
use Rattle.std.specs.Prelude.{ℕ, List, [], ◌∷◌, codes, Option, None, map, option_map}
use Rattle.std.specs.Result.{result_ok}
use Rattle.std.specs.Option.{option_map_or}
use Rattle.yspec.specs.Forest.{Forest, end, join, preorder}
use Rattle.yspec.specs.text.Text.{Text}
use Rattle.yspec.specs.text.Statement.{Statement, module_of}
use Rattle.yspec.specs.schema.Breaks.{Break, least_from}
use Rattle.yspec.specs.edit.Examples.{module_text}
use Rattle.yspec.specs.linking.Keyword.{keyword_text}
use Rattle.yspec.specs.linking.StatementBreaks.{statement_phase}
use Rattle.yspec.specs.linking.Source.{Source, sources_of, argument_in}

-- the top statements of some texts; a text that spells none adds none
abbrev pub statements_in : List Text → Forest Statement
statements_in [] = end
statements_in (t ∷ ts) = join (option_map_or (λ top. top) (result_ok (module_of t)) end) (statements_in ts)

-- what is told of some texts: the code, the module's number, and the line
abbrev pub told_of : Break → ℕ × (ℕ × ℕ)
told_of b = (b.code, (b.module_number, b.line))

abbrev pub told_of_texts : List Text → Option (ℕ × (ℕ × ℕ))
told_of_texts texts = option_map told_of (least_from None (statement_phase (statements_in texts)))

-- what is told of one
abbrev pub told : Text → Option (ℕ × ℕ)
told text = option_map (λ b. (b.code, b.line)) (least_from None (statement_phase (statements_in (text ∷ []))))

-- the same of a module with these lines from line 5 on
abbrev pub told_of_lines : Text → Option (ℕ × ℕ)
told_of_lines lines = told (module_text (codes "m") lines)

-- the statements that are kept, by number: keyword, argument and module
abbrev pub row_of_source : Source → ℕ × (Text × (Text × ℕ))
row_of_source s = (s.number, (keyword_text s.keyword, (argument_in s, s.home)))

abbrev pub kept_of_texts : List Text → List (ℕ × (Text × (Text × ℕ)))
kept_of_texts texts = map row_of_source (preorder (sources_of (statements_in texts)))
