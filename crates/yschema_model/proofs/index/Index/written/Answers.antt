use Rattle.std.proofs.Common.{◌≡◌, None, false, sym, ap, ◌∙◌}
use Rattle.std.specs.Option.{option_map_or}
use Rattle.yspec.specs.text.Text.{is_text}
use Rattle.yspec.specs.schema.Schema.{SchemaNode, is_called, is_written, written_name}
use Rattle.yspec.specs.document.Writing.{IsNamed}
use Rattle.yschema_model.specs.Layout.{forest_of, schema_view}
use Rattle.yschema_model.proofs.MeantLemmas.{first_alike, none_alike}
use Rattle.yschema_model.proofs.index.Index.written.Goals as goal

pub returns-in_err-meant : goal.returns-in_err-meant
returns-in_err-meant c =
    let s = schema_view c.args.modules.now c.args.slots.now in
    let t = c.args.name.now in
    let never : (n : SchemaNode) → IsNamed s n → is_written s c.args.above t n ≡ false = λ n named.
    ap (λ own. is_text t (written_name s own n)) (sym c.module_above.ensures)
    ∙ (c.meant_name.ensures c.requires.modules_differ n named ∙ ap (λ o. option_map_or (λ m. is_called m.«module» m.name.now n) o false) c.in_err-meant.was) in
    c.from_residual.ensures ∙ sym (none_alike c.args.above None (is_written s c.args.above t) s (forest_of 0 c.args.slots.now) c.requires.nodes_named never)

pub returns : goal.returns
returns c =
    let s = schema_view c.args.modules.now c.args.slots.now in
    let t = c.args.name.now in
    let meant = c.in_ok-meant.meant in
    let same : (n : SchemaNode) → IsNamed s n → is_written s c.args.above t n ≡ is_called meant.«module» meant.name.now n = λ n named.
    ap (λ own. is_text t (written_name s own n)) (sym c.module_above.ensures)
    ∙ (c.meant_name.ensures c.requires.modules_differ n named ∙ ap (λ o. option_map_or (λ m. is_called m.«module» m.name.now n) o false) c.in_ok-meant.was) in
    c.first.ensures
    ∙ (c.requires.written c.args.above meant.«module» meant.name.now
    ∙ sym (first_alike c.args.above None (is_written s c.args.above t) (is_called meant.«module» meant.name.now) s (forest_of 0 c.args.slots.now) c.requires.nodes_named same))
