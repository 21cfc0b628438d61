-- What an import asks for, as definitions have it.
use Rattle.std.specs.Prelude.{List, map, option_map, string_bytes}
use Rattle.yspec_search.specs.Search as spec
use Rattle.ylink_search.specs.declared.importing.Wanted.{Wanted}

abbrev pub wanted_view : Wanted → spec.Wanted
wanted_view w = record { name = string_bytes w.name; date = option_map string_bytes w.date; is_augmented = w.is_augmented }

abbrev pub wanted_views : List Wanted → List spec.Wanted
wanted_views = map wanted_view
