-- Worked examples: what is said of lines of modules' texts.
use Rattle.std.specs.Prelude.{ℕ, codes, ◌++◌}
use Rattle.std.specs.Option.{option_map_or}
use Rattle.std.specs.Result.{result_ok}
use Rattle.yspec.specs.Forest.{Forest, join}
use Rattle.yspec.specs.text.Text.{Text}
use Rattle.yspec.specs.text.Statement.{Statement, module_of}
use Rattle.ysay_circles.specs.References as references
use Rattle.ysay_circles.specs.Conditions as conditions
use Rattle.ysay_circles.specs.Places as places

abbrev pub of_text : (Forest Statement → Text) → Text → Text
of_text said text = option_map_or said (result_ok (module_of text)) (codes "unread")

-- of what leads back in a module that is given alone, and in one beside another
abbrev pub circle_in : ℕ → Text → Text
circle_in line text = of_text (λ m. references.of_line line m m) text

abbrev pub circle_of_two : ℕ → Text → Text → Text
circle_of_two line text other = of_text (λ m. of_text (λ n. references.of_line line (join m n) m) other) text

abbrev pub condition_in : ℕ → Text → Text
condition_in line text = of_text (λ m. conditions.of_line line m m) text

abbrev pub place_in : ℕ → Text → Text
place_in line text = of_text (places.of_line line) text

abbrev pub definitions : Text
definitions = codes "module m {\n  prefix m;\n  grouping a { leaf x; uses c; uses m:b; }\n  grouping b {\n    uses a;\n    uses d;\n  }\n"
    ++ (codes "  grouping c { uses d; }\n  grouping d { grouping e { uses d; } list l { uses d; } }\n"
    ++ codes "  identity i { base i; base n:j; }\n  typedef t { type union { type int8; type u; } }\n  typedef u { type t; }\n}\n")

abbrev pub here : Text
here = codes "module m {\n  import o { prefix p; }\n  import n { prefix n; }\n}\n"

abbrev pub there : Text
there = codes "module n {\n  import m { prefix m; }\n}\n"

abbrev pub features : Text
features = codes "module m {\n  prefix m;\n  feature ssh { if-feature \"tls or not m:log\"; }\n  feature log {\n    if-feature ssh;\n  }\n"
    ++ codes "  feature tls;\n  leaf a { if-feature shs; }\n  leaf b { if-feature \"tls and m:quic\"; }\n  leaf c { if-feature n:quic; }\n}\n"

abbrev pub operations : Text
operations = codes "module m {\n  list bare {\n    container c {\n      action reset;\n    }\n    list l { key k; notification n; }\n    grouping g { action own; }\n  }\n"
    ++ codes "  container d { action a { input { container e { notification b; } } } action f; }\n}\n"
