-- Places that are found.
use Rattle.std.specs.Prelude.{List, Option, option_map, Vec}
use Rattle.yspec.specs.document.Document as spec
use Rattle.std.specs.declared.alloc.Global.{Global}
use Rattle.yinst_tree.specs.View.{place_view}
use Rattle.yinst_tree.specs.declared.tree.Step.{Step}

abbrev pub steps_of : Option (Vec Step Global) → Option (List spec.Step)
steps_of found = option_map (λ steps. place_view steps.items) found
