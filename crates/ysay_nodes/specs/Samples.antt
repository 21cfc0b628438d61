-- Worked examples: what is said of lines of modules' texts.
use Rattle.std.specs.Prelude.{ℕ, codes, ◌++◌}
use Rattle.std.specs.Option.{option_map_or}
use Rattle.std.specs.Result.{result_ok}
use Rattle.yspec.specs.Forest.{Forest}
use Rattle.yspec.specs.text.Text.{Text}
use Rattle.yspec.specs.text.Statement.{Statement, module_of}
use Rattle.ysay_nodes.specs.Twice as twice
use Rattle.ysay_nodes.specs.Needed as needed
use Rattle.ysay_nodes.specs.Config as config

abbrev pub of_text : (Forest Statement → Text) → Text → Text
of_text said text = option_map_or said (result_ok (module_of text)) (codes "unread")

abbrev pub twice_in : ℕ → Text → Text
twice_in line text = of_text (twice.of_line line) text

abbrev pub needed_in : ℕ → Text → Text
needed_in line text = of_text (needed.of_line line) text

abbrev pub config_in : ℕ → Text → Text
config_in line text = of_text (config.of_line line) text

abbrev pub names : Text
names = codes "module m {\n  leaf mtu { type int8; }\n  choice way {\n    case fast { leaf mtu { type int8; } }\n    case slow { leaf way { type int8; } }\n"
    ++ codes "    container slow;\n  }\n  container c { leaf mtu { type int8; } }\n  list c;\n}\n"

abbrev pub additions : Text
additions = codes "module m {\n  augment /a:b {\n    leaf note { type string; }\n    container open { presence it; leaf p { mandatory true; } }\n"
    ++ (codes "    container shut {\n      list x { min-elements 0; }\n      list y { min-elements 2; }\n    }\n    leaf policy { mandatory true; }\n  }\n"
    ++ codes "  augment /a:c {\n    leaf up { config false; mandatory true; }\n    leaf policy { mandatory true; }\n  }\n}\n")

abbrev pub states : Text
states = codes "module m {\n  container stats {\n    config false;\n    list sample { leaf a; }\n    leaf resets {\n      config true;\n    }\n  }\n"
    ++ codes "  list bare {\n    leaf a;\n  }\n  list own { config false; }\n  leaf b { config true; }\n}\n"
