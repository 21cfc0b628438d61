use Rattle.std.proofs.Common.{◌≡◌, Option, Some, sym, ap, ◌∙◌}
use Rattle.yspec.specs.types.Types.{Val}
use Rattle.yspec_wide.specs.Types.{same_if_any}
use Rattle.ylink_grammar.specs.SourceView.{stated_view}
use Rattle.yschema_types.specs.ModulesView.{value_by}
use Rattle.yschema_types.specs.TypesView.{unmarked_view}
use Rattle.yschema_resolve.specs.Values.{is_right_by}
use Rattle.yschema_resolve.proofs.DefaultLemmas.{right_itself}
use Rattle.yschema_resolve.proofs.defaults.is_right.Goals as goal

pub returns-in-Same : goal.returns-in-Same
returns-in-Same c =
    let names = c.args.modules.now in
    let type = c.args.value_type.now in
    let t = stated_view c.args.stated in
    let so : Some c.in-Some.value ≡ value_by names type t = sym c.in-Some.is ∙ c.in_ok-value.ensures in
    sym (right_itself c.in-Some.value)
    ∙ (ap (λ (o : Option Val). same_if_any o o) so ∙ ap (λ unmarked. is_right_by names type (unmarked_view type unmarked) t) (sym c.in-Same.is))
