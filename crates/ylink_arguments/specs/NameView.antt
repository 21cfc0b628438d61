-- Names as the specification's.
use Rattle.std.specs.Prelude.{List, map, option_map}
use Rattle.yspec.specs.linking.Arguments as spec
use Rattle.ylink_arguments.specs.declared.name.Name.{Name}

abbrev pub name_view : Name → spec.Name
name_view n = record { prefix = option_map (λ t. t.now) n.prefix; identifier = n.identifier.now }

abbrev pub names_view : List Name → List spec.Name
names_view = map name_view
