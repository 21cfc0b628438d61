use Rattle.std.proofs.Common.{◌≡◌, ◌∙◌, ap₂, arith, drop, length, min}
use Rattle.std.proofs.lemmas.Result.{IfOk-weaker}
use Rattle.yschema_model.specs.Layout.{number_of}
use Rattle.yschema_model.specs.View as schema_view
use Rattle.ylive_list.proofs.ListingLemmas.{inner_steps}
use Rattle.ylive_list.proofs.absent.steps_down.Goals as goal

pub returns : goal.returns
returns c =
    let outer = c.in_ok-outer.outer in
    let way = c.in_ok-way.way in
    let outer_len : c.len.result ≡ length outer.items = omega (arith, c.len.ensures, outer.ok.0) in
    let way_len : c.len-2.result ≡ length way.items = omega (arith, c.len-2.ensures, way.ok.0) in
    IfOk-weaker c.from_slice.result (λ v. v.items ≡ c.split_at.result.1.now) _
    (λ v is. inner_steps (schema_view.view c.args.schema.now) (number_of c.args.above) c.args.id.0 outer.items way.items v.items
    c.in_ok-outer.ensures c.in_ok-way.ensures
    (is ∙ (c.split_at.ensures.back ∙ ap₂ drop (c.min.ensures ∙ ap₂ min outer_len way_len) c.deref.ensures.value)))
    c.from_slice.ensures.items
