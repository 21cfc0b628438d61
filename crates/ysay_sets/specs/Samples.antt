-- Worked examples: what is said of lines of modules' texts.
use Rattle.std.specs.Prelude.{ℕ, codes, ◌++◌}
use Rattle.std.specs.Option.{option_map_or}
use Rattle.std.specs.Result.{result_ok}
use Rattle.yspec.specs.Forest.{Forest, join}
use Rattle.yspec.specs.text.Text.{Text}
use Rattle.yspec.specs.text.Statement.{Statement, module_of}
use Rattle.ysay_sets.specs.Taken as taken
use Rattle.ysay_sets.specs.Imports as imports

abbrev pub of_text : (Forest Statement → Text) → Text → Text
of_text said text = option_map_or said (result_ok (module_of text)) (codes "unread")

-- of names that are taken in a module that is given alone, and twice
abbrev pub taken_in : ℕ → Text → Text
taken_in line text = of_text (λ m. taken.of_line line m m) text

abbrev pub taken_in_two : ℕ → Text → Text
taken_in_two line text = of_text (λ m. taken.of_line line (join m m) m) text

-- of imports of a module that is given alone
abbrev pub import_in : ℕ → Text → Text
import_in line text = of_text (λ m. imports.of_line line m m) text

abbrev pub names : Text
names = codes "module m {\n  typedef a { type int8; }\n  container c {\n    typedef a { type int8; }\n    grouping a;\n  }\n"
    ++ codes "  identity i;\n  typedef string { type int8; }\n  identity i;\n  typedef b { type int8; } typedef b { type int8; }\n}\n"

abbrev pub importing : Text
importing = codes "module acme-types {\n  import acme-typs { prefix t; }\n  import other { prefix o; }\n"
    ++ codes "  import acme-types { prefix a; revision-date 2024-01-02; }\n  revision 2023-05-01;\n  revision 2024-01-01;\n}\n"
