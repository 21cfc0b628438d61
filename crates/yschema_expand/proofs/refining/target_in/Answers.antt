use Rattle.std.proofs.Common.{rules, ◌≡◌, ◌∙◌, Some, None, cond, false, map, ap}
use Rattle.std.proofs.lemmas.Result.{IfOk-weaker}
use Rattle.std.specs.Prelude.{option_map, option_and_then}
use Rattle.std.specs.Option.{option_map_or}
use Rattle.yspec.specs.linking.Expansion.{refine_steps}
use Rattle.yspec_wide.specs.Expansion.{may_bear_in}
use Rattle.yspec.specs.linking.Prefixes as prefixes
use Rattle.ybase_preorder.specs.View.{row_by, label_by}
use Rattle.ylink_arguments.specs.NameView.{names_view}
use Rattle.ylink_grammar.specs.LanguageView.{language_view}
use Rattle.ylink_grammar.specs.SourceView.{source_view}
use Rattle.yschema_expand.specs.Indexing.{part_in}
use Rattle.yschema_expand.specs.TableView.{slots_of}
use Rattle.yschema_expand.specs.Targets.{found_at}
use Rattle.yschema_expand.proofs.IndexedLemmas.{fit_there}
use Rattle.yschema_given.specs.Keeping.{are_kept_right}
use Rattle.yschema_expand.proofs.refining.target_in.Goals as goal

pub fit-requires : goal.fit-requires
fit-requires c = ap (λ r. are_kept_right (language_view c.args.language.now) (row_by source_view r)) c.children.ensures ∙ c.requires.kept

pub returns : goal.returns
returns c = λ modules earlier parent f of_it count at.
    let l = language_view c.args.language.now in
    let owner = c.args.owner in
    let first = c.args.nodes.first in
    let slots = slots_of c.args.nodes.table.now in
    let s = label_by source_view c.args.refine in
    let given = row_by source_view c.args.refine.children in
    let steps : map (prefixes.node_name modules c.label.result.now.home owner) (names_view c.deref.result.now) ≡ refine_steps modules owner s = first_of (search rules, cc) in
    IfOk-weaker c.fit.result _ _ (λ number is. is
    ∙ (ap (λ g. option_and_then (λ n. cond (option_map_or (λ p. may_bear_in l p (row_by source_view g)) (part_in slots n) false) (Some n) None) c.number_at-number.result) c.children.ensures
    ∙ fit_there slots first earlier parent f count at l (refine_steps modules owner s) given c.number_at-number.result
    (c.number_at-number.ensures.found modules earlier parent f of_it count at ∙ ap (λ ss. option_map (λ x. x.number) (found_at ss first f)) steps))) c.fit.ensures
