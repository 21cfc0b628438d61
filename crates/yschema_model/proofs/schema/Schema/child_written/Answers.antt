use Rattle.std.proofs.Common.{None, sym, ap, ap₂, subst, ◌∙◌}
use Rattle.yspec.specs.schema.Schema.{is_written}
use Rattle.yspec.specs.document.Writing.{ModulesDiffer, NodesAreNamed}
use Rattle.yspec_fit.proofs.FitLemmas.{modules_differ_of, nodes_named_of}
use Rattle.yschema_model.specs.Layout.{data_places, forest_of, number_of, schema_view}
use Rattle.yschema_model.specs.Lookup.{first_below, is_stored_as, FindsWritten}
use Rattle.yschema_model.specs.View.{view}
use Rattle.yschema_model.proofs.DataChildLemmas.{first_data_child}
use Rattle.yschema_model.proofs.schema.Schema.child_written.Goals as goal

pub returns-in-None : goal.returns-in-None
returns-in-None c =
    let schema = c.args.self.now in
    let p = number_of c.args.parent in
    let t = c.args.name.now in
    let q = c.parent_number.result in
    c.id_of.ensures ∙ (c.written.ensures
    ∙ (ap₂ (λ ms rs. first_below q (is_stored_as (schema_view ms rs) q t) (data_places None (forest_of 0 rs))) c.deref-in-None.ensures.value c.deref-in-None-2.ensures.value
    ∙ (ap (λ n. first_below n (is_stored_as (view schema) n t) (data_places None (forest_of 0 schema.slots.items))) c.parent_number.ensures
    ∙ first_data_child schema.modules.items schema.slots.items p (is_written (view schema) p t) schema.laid_out (sym c.module_passed.ensures ∙ c.in-None.is))))

pub written-requires-clause-modules_differ : goal.written-requires-clause-modules_differ
written-requires-clause-modules_differ c =
    let schema = c.args.self.now in
    subst (λ modules. ModulesDiffer (schema_view modules c.deref-in-None-2.result.now)) (sym c.deref-in-None.ensures.value) (modules_differ_of (view schema) schema.fit)

pub written-requires-clause-nodes_named : goal.written-requires-clause-nodes_named
written-requires-clause-nodes_named c =
    let schema = c.args.self.now in
    subst (λ modules. NodesAreNamed (schema_view modules c.deref-in-None-2.result.now) (forest_of 0 c.deref-in-None-2.result.now)) (sym c.deref-in-None.ensures.value)
    (subst (λ slots. NodesAreNamed (schema_view schema.modules.items slots) (forest_of 0 slots)) (sym c.deref-in-None-2.ensures.value) (nodes_named_of (view schema) schema.fit))

pub written-requires-clause-written : goal.written-requires-clause-written
written-requires-clause-written c =
    let schema = c.args.self.now in
    subst (λ slots. FindsWritten schema.index slots (data_places None (forest_of 0 slots))) (sym c.deref-in-None-2.ensures.value) schema.written
