use Rattle.std.proofs.Common.{◌≡◌, ◌++◌, [], true, OnOk, refl, sym, ap, ◌∙◌, subst}
use Rattle.yspec.specs.Forest.{Forest}
use Rattle.yspec.specs.linking.Parts.{Part, own_of}
use Rattle.yspec_wide.specs.Expansion.{conditioned}
use Rattle.ybase_preorder.specs.Layout.{places}
use Rattle.ybase_preorder.specs.View.{row_by}
use Rattle.ylink_grammar.specs.LanguageView.{language_view}
use Rattle.ylink_grammar.specs.SourceView.{source_view}
use Rattle.yschema_expand.specs.Walk.{Changes}
use Rattle.yschema_expand.specs.declared.expanding.Made.{Made}
use Rattle.yschema_expand.proofs.ConditionLemmas.{then_conditioned}
use Rattle.yschema_given.specs.Keeping.{are_kept_right}
use Rattle.yschema_given.proofs.KeepingLemmas.{none_conditioned, none_own}
use Rattle.yschema_expand.proofs.walking.ask.Goals as goal

pub condition_from-requires : goal.condition_from-requires
condition_from-requires c =
    subst (λ x. are_kept_right x (row_by source_view c.args.given) ≡ true) (sym c.language-language.ensures) c.requires

pub returns-then-not-bears_guard : goal.returns-then-not-bears_guard
returns-then-not-bears_guard c =
    let l = language_view c.language-language.result.now in
    let first = c.args.first in
    let own = row_by source_view c.args.given in
    let none = none_own l own (sym c.bears_guard.ensures ∙ c.if-not-bears_guard.true) in
    subst (λ x. (nodes : Forest Part) → Changes first nodes (conditioned x (own_of own) nodes) [] c.args.made.now c.args.made.now)
    c.language-language.ensures
    (λ nodes. λ earlier parent count at. (at ∙ ap (λ f. earlier ++ places parent first f) (sym (none_conditioned l (own_of own) none nodes)), refl))

pub returns : goal.returns
returns c =
    let l = language_view c.language-language.result.now in
    let first = c.args.first in
    let own = row_by source_view c.args.given in
    let old : Made = c.args.made.now in
    let new : Made = record { table = c.condition_from.new.self; told = old.told } in
    subst (λ x. (nodes : Forest Part) → OnOk c.condition_from.result (Changes first nodes (conditioned x (own_of own) nodes) [] old new))
    c.language-language.ensures
    (λ nodes. then_conditioned l (own_of own) c.condition_from.result first nodes nodes [] old old new (λ earlier parent count at. (at, refl)) refl c.condition_from.ensures)
