-- Documents in which entries and items are moved.
use Rattle.std.specs.Prelude.{◌++◌, codes}
use Rattle.yspec.specs.text.Text.{Text}
use Rattle.yspec.specs.edit.Examples.{module_text}
use Rattle.yspec_examples.specs.SchemaExamples.{hosts}

-- three hosts, of which the last lacks a mode
abbrev pub three_hosts : Text
three_hosts = hosts (codes "{\"name\":\"a\",\"auto\":[null]},{\"name\":\"b\",\"auto\":[null]},{\"name\":\"c\"}")

abbrev pub two_named_alike : Text
two_named_alike = hosts (codes "{\"name\":\"a\",\"auto\":[null]},{\"name\":\"a\",\"auto\":[null]}")

-- rules in the order in which they count, and servers by preference
abbrev pub rules_module : Text
rules_module = module_text (codes "r") (codes "  list rule {\n    key id;\n    unique port;\n    leaf id { type uint8; }\n    leaf port { type uint8; }\n    leaf to { type leafref { path /r:server; } }\n    leaf-list tag { type string; }\n  }\n  leaf-list server { type string; }\n  leaf-list seen { config false; type uint8; }\n")

-- two rules with one key, and two with one port
abbrev pub rules_twice : Text
rules_twice = codes "{\"r:rule\":[{\"id\":1,\"port\":5},{\"id\":2},{\"id\":1},{\"id\":3,\"port\":5}],\"r:server\":[\"x\",\"y\",\"x\"]}"

-- a rule that refers to no server
abbrev pub rules_lost : Text
rules_lost = codes "{\"r:rule\":[{\"id\":1},{\"id\":2,\"to\":\"z\"},{\"id\":3,\"to\":\"y\",\"tag\":[\"a\",\"b\",\"a\"]}],\"r:server\":[\"x\",\"y\"],\"r:seen\":[7,7,8]}"
