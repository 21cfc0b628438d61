use Rattle.std.proofs.Common.{◌≡◌, Some, None, true, refl, sym, ap, subst, ◌∙◌}
use Rattle.yspec.specs.Results.{Fails}
use Rattle.yspec.specs.schema.Breaks.{first_broken, least_from}
use Rattle.yspec_wide.specs.Compiling.{compiled_in, plan_in, whole_plan}
use Rattle.yspec_wide.specs.Expansion.{augmented_in}
use Rattle.yspec_wide.specs.Sources.{sources_in}
use Rattle.yspec_wide.specs.Standing.{standing}
use Rattle.ytext.specs.View.{modules_view}
use Rattle.ybase_preorder.specs.Layout.{places}
use Rattle.ylink_grammar.specs.LanguageView.{language_view}
use Rattle.ylink_standing.specs.StandingView.{IsOf}
use Rattle.ylink.specs.LinkedView as statements
use Rattle.ylink.specs.Told.{told_by, break_view}
use Rattle.yschema_given.specs.Keeping.{are_kept_right}
use Rattle.yschema_given.proofs.SourceLemmas.{sources_keep}
use Rattle.yschema_expand.specs.TableView.{parts_in}
use Rattle.yschema.specs.Phases.{all_addition_breaks, plan_part, Judges}
use Rattle.yschema.proofs.ToldLemmas.{conditions_hold, in_plan, linking_passed, names_told}
use Rattle.yschema.proofs.building.compile_standing.Goals as goal

pub judged_whole-requires-clause-on : goal.judged_whole-requires-clause-on
judged_whole-requires-clause-on c =
    let l = language_view c.args.language.now in
    let s = statements.view c.args.linked.now in
    let f = modules_view c.args.modules.now in
    let passed = linking_passed l f s c.requires.links in
    subst (IsOf c.in_ok-features.features l) c.sources.ensures
    (c.in_ok-features.ensures (conditions_hold l f _ (c.sources.ensures ∙ passed.1) passed.0))

pub judged_whole-requires-clause-kept : goal.judged_whole-requires-clause-kept
judged_whole-requires-clause-kept c =
    let l = language_view c.args.language.now in
    let s = statements.view c.args.linked.now in
    let f = modules_view c.args.modules.now in
    let passed = linking_passed l f s c.requires.links in
    subst (λ m. are_kept_right l m ≡ true) (sym passed.1) (sources_keep l f)

pub compile_planned-requires-clause-on : goal.compile_planned-requires-clause-on
compile_planned-requires-clause-on c =
    let l = language_view c.args.language.now in
    let s = statements.view c.args.linked.now in
    let f = modules_view c.args.modules.now in
    let passed = linking_passed l f s c.requires.links in
    subst (IsOf c.in_ok-features.features l) c.sources.ensures
    (c.in_ok-features.ensures (conditions_hold l f _ (c.sources.ensures ∙ passed.1) passed.0))

pub compile_planned-requires-clause-kept : goal.compile_planned-requires-clause-kept
compile_planned-requires-clause-kept c =
    let l = language_view c.args.language.now in
    let s = statements.view c.args.linked.now in
    let f = modules_view c.args.modules.now in
    let passed = linking_passed l f s c.requires.links in
    subst (λ m. are_kept_right l m ≡ true) (sym passed.1) (sources_keep l f)

pub compile_planned-requires-clause-told : goal.compile_planned-requires-clause-told
compile_planned-requires-clause-told c =
    let l = language_view c.args.language.now in
    let s = statements.view c.args.linked.now in
    let f = modules_view c.args.modules.now in
    let passed = linking_passed l f s c.requires.links in
    (subst (λ j. Judges j l (whole_plan l s)) c.in-Ok.is c.in_ok-judged.ensures).1
    ∙ ap (λ m. least_from None (all_addition_breaks l (whole_plan l m))) passed.1

pub compile_planned-requires-clause-made : goal.compile_planned-requires-clause-made
compile_planned-requires-clause-made c =
    let l = language_view c.args.language.now in
    let s = statements.view c.args.linked.now in
    let f = modules_view c.args.modules.now in
    let passed = linking_passed l f s c.requires.links in
    let same = sym c.sources-in-Ok.ensures in
    let on = c.in_ok-features.ensures (conditions_hold l f _ (c.sources.ensures ∙ passed.1) passed.0) in
    c.in_ok-left-in-Ok.ensures.standing (subst (IsOf c.in_ok-features.features l) (c.sources.ensures ∙ same) on)
    (subst (λ m. are_kept_right l m ≡ true) (sym (c.sources-in-Ok.ensures ∙ passed.1)) (sources_keep l f))
    (subst (λ m. parts_in c.args.nodes ≡ places None 0 (augmented_in l m).0) same c.requires.made)
    ∙ ap (λ m. places None 0 (standing l m (augmented_in l m).0)) (sym same)

pub compile_planned-requires-clause-second : goal.compile_planned-requires-clause-second
compile_planned-requires-clause-second c =
    let l = language_view c.args.language.now in
    let s = statements.view c.args.linked.now in
    let f = modules_view c.args.modules.now in
    let passed = linking_passed l f s c.requires.links in
    subst (λ m. None ≡ first_broken (plan_part l f (whole_plan l m))) passed.1
    (names_told l f (whole_plan l s) None c.requires.none (subst (λ j. Judges j l (whole_plan l s)) c.in-Ok.is c.in_ok-judged.ensures).0)

pub returns-in-Err : goal.returns-in-Err
returns-in-Err c =
    let l = language_view c.args.language.now in
    let s = statements.view c.args.linked.now in
    let f = modules_view c.args.modules.now in
    let passed = linking_passed l f s c.requires.links in
    let told = subst (λ j. Judges j l (whole_plan l s)) c.in-Err.is c.in_ok-judged.ensures in
    subst (λ fault. Fails (told_by fault) (compiled_in l f)) (sym c.from.ensures)
    (in_plan l f (whole_plan l s) (plan_in l (sources_in l f)) (ap (whole_plan l) passed.1) refl passed.0 (break_view c.in-Err.found)
    (names_told l f (whole_plan l s) (Some (break_view c.in-Err.found)) c.requires.none told))
