use Rattle.std.proofs.Common.{◌≡◌, drop, map}
use Rattle.std.specs.List.{list_any}
use Rattle.ylink_grammar.specs.SourceView.{stated_view}
use Rattle.yschema_types.specs.TypesView.{unmarked_view}
use Rattle.yschema_resolve.specs.Values.{is_refused_by}
use Rattle.yschema_resolve.proofs.defaults.is_any_refused.Given as goal

-- one that isn't right is among those that are left
abbrev pub invariant-loop-text : goal.invariant-loop-text
invariant-loop-text l =
    let refused = is_refused_by l.modules l.value_type (unmarked_view l.value_type l.unmarked) in
    list_any refused (map stated_view (drop l.text-index l.texts)) ≡ list_any refused (map stated_view l.texts)
