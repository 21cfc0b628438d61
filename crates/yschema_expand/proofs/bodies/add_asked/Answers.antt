use Rattle.std.proofs.Common.{◌≡◌, ◌++◌, true, false, length, sym, ap, ap₂, ◌∙◌, subst}
use Rattle.std.proofs.lemmas.Result.{on_ok_weaker}
use Rattle.yspec.specs.Forest.{end, node}
use Rattle.yspec.specs.linking.Expansion.{laid}
use Rattle.yspec.specs.linking.Parts.{own_of}
use Rattle.yspec_wide.specs.Expansion.{conditioned}
use Rattle.yspec_wide.specs.Sources.{bears_guard}
use Rattle.ybase_preorder.specs.Layout.{places}
use Rattle.ybase_preorder.specs.Layout as layout
use Rattle.ybase_preorder.specs.View.{row_by, label_by}
use Rattle.ybase_preorder.proofs.LayoutLemmas.{length-seen, length-laid}
use Rattle.ylink_grammar.specs.SourceView.{source_view}
use Rattle.yschema_given.specs.Keeping.{are_kept_right}
use Rattle.yschema_given.proofs.KeepingLemmas.{asked_alike, none_conditioned, none_own, own_conditions}
use Rattle.yschema_expand.specs.NamedView.{language_of, modules_of}
use Rattle.yschema_expand.specs.NodeView.{numbered_part}
use Rattle.yschema_expand.specs.TableView.{parts_in, slots_of}
use Rattle.yschema_expand.specs.Walk.{nodes_for}
use Rattle.yschema_expand.proofs.bodies.add_asked.Goals as goal

pub condition_from-requires : goal.condition_from-requires
condition_from-requires c =
    subst (λ x. are_kept_right x (row_by source_view c.args.given) ≡ true) (sym c.language.ensures) c.requires.given

pub returns-then-not-is_guarded : goal.returns-then-not-is_guarded
returns-then-not-is_guarded c =
    let l = language_of c.args.context.now.named.now in
    let m = modules_of c.args.context.now.named.now in
    let given = row_by source_view c.args.given in
    let parts = laid (node (label_by source_view c.args.statement) (row_by source_view c.args.statement.children) end) in
    let nodes = nodes_for l m c.args.place.owner c.args.place.depth parts in
    let old = c.args.made.now.table in
    let none : bears_guard l given ≡ false =
    sym c.requires.guarded ∙ c.if-not-is_guarded.true in
    let adds = c.in_ok-add_one.ensures in (
      adds.0 ∙ ap (λ f. parts_in old ++ places c.args.place.parent (length (slots_of old)) f)
          (sym (none_conditioned l given (sym (own_conditions l given c.requires.given) ∙ none_own l given none) nodes)),
      adds.1,
    )

pub returns : goal.returns
returns c =
    let l = language_of c.args.context.now.named.now in
    let m = modules_of c.args.context.now.named.now in
    let given = row_by source_view c.args.given in
    let parts = laid (node (label_by source_view c.args.statement) (row_by source_view c.args.statement.children) end) in
    let parent = c.args.place.parent in
    let nodes = nodes_for l m c.args.place.owner c.args.place.depth parts in
    let old = c.args.made.now.table in
    let first = c.len-first.result in
    let adds = c.in_ok-add_one.ensures in
    let count : length (parts_in old) ≡ first =
    length-seen numbered_part 0 (layout.laid (slots_of old)) ∙ (length-laid (slots_of old) ∙ sym c.len-first.ensures) in
    on_ok_weaker c.condition_from.result (λ is. (
      is ∙ ap₂ (λ k f. parts_in old ++ places parent k f) c.len-first.ensures
          (ap (λ x. conditioned x (own_of given) nodes) c.language.ensures
          ∙ asked_alike l (own_of given) given (own_conditions l given c.requires.given) nodes),
      adds.1,
    )) (c.condition_from.ensures (parts_in old) parent nodes count
    (adds.0 ∙ ap (λ k. parts_in old ++ places parent k nodes) (sym c.len-first.ensures)))
