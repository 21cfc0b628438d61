-- What is found by its name, as a function of the name.
use Rattle.std.specs.Prelude.{Option}
use Rattle.std.specs.Ordering.{nat_cmp}
use Rattle.std.specs.Cmp.Lexicographic.{slice_cmp}
use Rattle.std.specs.BTreeMap.{get_by}
use Rattle.yspec.specs.text.Text.{Text}
use Rattle.ylink_names.specs.declared.first_named.FirstNamed.{FirstNamed}

abbrev pub named : {V : Type 0} → FirstNamed V → Text → Option V
named found name = get_by (λ k. slice_cmp nat_cmp name k.now) found.by_name
