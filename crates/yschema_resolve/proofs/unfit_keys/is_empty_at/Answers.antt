use Rattle.std.proofs.Common.{◌≡◌, false, Some, None, map, sym, ap, ◌∙◌}
use Rattle.std.proofs.lemmas.Result.{IfOk-weaker}
use Rattle.std.specs.Prelude.{option_map}
use Rattle.std.specs.Option.{option_map_or}
use Rattle.yspec.specs.linking.Planned.{meant_in}
use Rattle.yspec_wide.specs.VersionBreaks.{is_empty_meant}
use Rattle.ylink.specs.TypeView.{meant_view}
use Rattle.yschema_types.specs.MeantNodes.{meant_at}
use Rattle.yschema_types.specs.TypesView.{meants_view}
use Rattle.yschema_resolve.proofs.UnfitKeyLemmas.{bare_in, meant_there}
use Rattle.yschema_resolve.proofs.unfit_keys.is_empty_at.Goals as goal

pub returns-in-Some : goal.returns-in-Some
returns-in-Some c = λ plan p are at.
    let n = c.args.number in
    let meant = meant_view c.in-Some.meant.now in
    let there : Some meant ≡ meant_in plan p = ap (option_map (λ m. meant_view m.now)) (sym c.in-Some.is)
    ∙ (c.meant_at.ensures ∙ (ap (λ ms. meant_at (meants_view ms) n) c.as_slice.ensures.value
    ∙ (ap (λ ms. meant_at ms n) are.meant ∙ meant_there plan n p at))) in
    IfOk-weaker c.means_empty.result _ _ (λ b e. e ∙ ap (λ o. option_map_or is_empty_meant o false) there)
    (c.means_empty.ensures (bare_in plan p meant (sym there)))

pub returns-in-None : goal.returns-in-None
returns-in-None c = λ plan p are at.
    let n = c.args.number in
    ap (λ o. option_map_or is_empty_meant o false) (ap (option_map (λ m. meant_view m.now)) (sym c.in-None.is)
    ∙ (c.meant_at.ensures ∙ (ap (λ ms. meant_at (meants_view ms) n) c.as_slice.ensures.value
    ∙ (ap (λ ms. meant_at ms n) are.meant ∙ meant_there plan n p at))))
