use Rattle.std.proofs.Common.{Option, sym, ap, subst, ◌∙◌}
use Rattle.std.specs.Global.{Vec}
use Rattle.std.specs.Option.{option_map_or}
use Rattle.yspec_wide.specs.Types.{unmarked, standing_names, meant_in_of}
use Rattle.yschema_types.specs.MadeTypes.{made_at, type_made, AreTypes}
use Rattle.yschema_types.specs.MadeView.{rows_view}
use Rattle.yschema_types.specs.declared.making.Made.{Made}
use Rattle.yschema_types.proofs.TypeLemmas.{kept_type}
use Rattle.yschema_types.proofs.types.Types.unmarked_type.Goals as goal

pub returns-in-None : goal.returns-in-None
returns-in-None c = λ language plan p standing typed here is.
    let made = c.args.self.now.standing.items in
    let n = c.args.number in
    sym is
    ∙ (sym (kept_type (rows_view made) (standing_names language plan.modules) plan n p typed.standing here)
    ∙ kept_type (rows_view made) (unmarked language) plan n p
    (subst (λ (o : Option (Vec Made)). AreTypes (rows_view (option_map_or (λ m. m.items) o made)) plan (meant_in_of (unmarked language) plan)) c.in-None.is typed.unmarked) here)

pub returns-in-Some : goal.returns-in-Some
returns-in-Some c = λ language plan p standing typed here is.
    let made = c.args.self.now.standing.items in
    let n = c.args.number in
    c.type_held.ensures
    ∙ (ap (λ rows. type_made (made_at (rows_view rows) n)) c.as_slice.ensures.value
    ∙ kept_type _ (unmarked language) plan n p
    (subst (λ (o : Option (Vec Made)). AreTypes (rows_view (option_map_or (λ m. m.items) o made)) plan (meant_in_of (unmarked language) plan)) c.in-Some.is typed.unmarked) here)
