use Rattle.std.proofs.Common.{◌≡◌, Some, get_or, sym, ap, ap₂, ◌∙◌}
use Rattle.std.specs.Prelude.{slice_get, option_map}
use Rattle.std.proofs.lemmas.Option.{slice_get-get_or}
use Rattle.ybase_preorder.specs.View.{row_by}
use Rattle.ylink_grammar.specs.SourceView.{source_view}
use Rattle.yschema_expand.specs.NamedView.{language_of, modules_of}
use Rattle.yschema_expand.specs.NodeView.{part_view}
use Rattle.yschema_expand.specs.TableView.{slots_of}
use Rattle.yschema_augment.specs.Picking.{askings_of}
use Rattle.yschema_augment.specs.Resolving.{Asking, may_hold}
use Rattle.yschema_augment.proofs.HoldingLemmas.{held_there, none_holds}
use Rattle.yschema_augment.proofs.targets.Targets.may_hold.Goals as goal

pub returns-in_default : goal.returns-in_default
returns-in_default c =
    none_holds (askings_of c.args.self.now.named.now) (slots_of c.args.self.now.nodes.now) c.args.self.now.augments.now c.args.target c.args.augment
    (sym c.node.ensures ∙ ap (option_map (λ n. n.now)) c.in_default.is)

pub returns : goal.returns
returns c =
    let named = c.args.self.now.named.now in
    let augments = c.args.self.now.augments.now in
    let n = get_or augments c.args.augment c.index-self-augment.result in
    let there : slice_get augments c.args.augment ≡ Some n = slice_get-get_or augments c.args.augment c.index-self-augment.result c.requires in
    let old = c.is_yang_1-old.ensures (language_of named) (modules_of named) c.args.self.now.dated ∙ ap (λ l. (askings_of named l.home).is_old) c.label.ensures in
    let asking : Asking = askings_of named n.label.now.home in
    c.holds_by.ensures
    ∙ (ap₂ (λ l b. may_hold (record { language = l; is_old = b }) (part_view c.in-Some.node.now).source (row_by source_view c.children.result)) c.language.ensures old
    ∙ (ap (λ r. may_hold asking (part_view c.in-Some.node.now).source (row_by source_view r)) c.children.ensures
    ∙ held_there (askings_of named) (slots_of c.args.self.now.nodes.now) augments c.args.target c.args.augment n there c.in-Some.node.now
    (sym c.node.ensures ∙ ap (option_map (λ n. n.now)) c.in-Some.is)))
