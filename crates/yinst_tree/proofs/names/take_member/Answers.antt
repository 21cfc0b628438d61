use Rattle.std.proofs.Common.{◌≡◌, ◌∙◌, ℕ, true, Option, ap, cond, option_map, sym}
use Rattle.serde_json.specs.Find.{get_member}
use Rattle.serde_json.specs.View as json
use Rattle.serde_json.proofs.Views.{view-lookup}
use Rattle.yspec.specs.schema.Schema.{Schema, SchemaNode, is_module, qualified_name, written_name}
use Rattle.yschema_model.specs.View.{view, node_view}
use Rattle.yinst_tree.specs.Taking.{without}
use Rattle.yinst_tree.proofs.TakingLemmas.{without_entry}
use Rattle.yinst_tree.proofs.names.take_member.Goals as goal

-- where its module is the parent's
plain_name : (s : Schema) (parent : Option ℕ) (n : SchemaNode) → is_module n.module_number parent ≡ true → n.name ≡ written_name s parent n
plain_name s parent n is = sym (ap (λ b. cond b n.name (qualified_name s n)) is)

pub returns-clause-found : goal.returns-clause-found
returns-clause-found c =
    let es = c.args.members.now.entries in
    ap (option_map json.view) c.remove-2.ensures.value ∙ (view-lookup c.as_str-2.result.now es
    ∙ ap (λ k. get_member k (json.members_view es)) (c.as_str-2.ensures.value ∙ c.in_ok-name.ensures))

pub returns-clause-left : goal.returns-clause-left
returns-clause-left c =
    let es = c.args.members.now.entries in
    ap json.members_view c.remove-2.ensures.entries ∙ (without_entry c.as_str-2.result.now es
    ∙ ap (λ k. without k (json.members_view es)) (c.as_str-2.ensures.value ∙ c.in_ok-name.ensures))

pub returns-then-is_module-clause-found : goal.returns-then-is_module-clause-found
returns-then-is_module-clause-found c =
    let es = c.args.members.now.entries in
    let name = plain_name (view c.args.schema.now) c.args.parent_module (node_view 0 c.args.node.now) (sym c.is_module.ensures ∙ c.if-is_module.true) in
    ap (option_map json.view) c.remove.ensures.value ∙ (view-lookup c.as_str.result.now es
    ∙ ap (λ k. get_member k (json.members_view es)) (c.as_str.ensures.value ∙ name))

pub returns-then-is_module-clause-left : goal.returns-then-is_module-clause-left
returns-then-is_module-clause-left c =
    let es = c.args.members.now.entries in
    let name = plain_name (view c.args.schema.now) c.args.parent_module (node_view 0 c.args.node.now) (sym c.is_module.ensures ∙ c.if-is_module.true) in
    ap json.members_view c.remove.ensures.entries ∙ (without_entry c.as_str.result.now es
    ∙ ap (λ k. without k (json.members_view es)) (c.as_str.ensures.value ∙ name))
