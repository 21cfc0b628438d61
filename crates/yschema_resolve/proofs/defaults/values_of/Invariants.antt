use Rattle.std.proofs.Common.{◌≡◌, ◌++◌, drop, map}
use Rattle.std.specs.List.{filter_map}
use Rattle.ylink_grammar.specs.SourceView.{stated_view}
use Rattle.yschema_types.specs.ModulesView.{value_by}
use Rattle.yschema_resolve.proofs.defaults.values_of.Given as goal

-- the values so far with those of the texts that are left
abbrev pub invariant-loop-text : goal.invariant-loop-text
invariant-loop-text l = l.values.items ++ filter_map (value_by l.modules l.value_type) (map stated_view (drop l.text-index l.texts))
    ≡ filter_map (value_by l.modules l.value_type) (map stated_view l.texts)
