use Rattle.std.proofs.Common.{◌≡◌, ◌<◌, ◌≤◌, ◌^◌, List, None, false, length, refl, ap, subst, sym, arith}
use Rattle.yspec.specs.Forest.{size}
use Rattle.yspec.specs.schema.Breaks.{node_limit}
use Rattle.yspec_fit.specs.Fit.{IsFit}
use Rattle.ybase_index.specs.Names.{AreNamesOf}
use Rattle.yschema_model.specs.declared.children.Slot.{Slot}
use Rattle.yschema_model.specs.declared.schema.SchemaModule.{SchemaModule}
use Rattle.yschema_model.specs.Layout.{data_places, forest_of, laid, schema_view}
use Rattle.yschema_model.specs.Lookup.{names_in, FindsNamed, FindsWritten}
use Rattle.yschema_model.specs.References.{FindsReferences}
use Rattle.yschema_model.proofs.QueryLemmas.{size_of_forest}
use Rattle.yschema_model.proofs.schema.Schema.of.Goals as goal

few : (modules : List SchemaModule) (slots : List Slot) → IsFit (schema_view modules slots) → length slots < 2 ^ 32
few modules slots fit =
    let limit : size (forest_of 0 slots) ≤ node_limit = fit.few in
    let count : size (forest_of 0 slots) ≡ length slots = size_of_forest (length slots) 0 slots (omega arith) in
    omega (arith, limit, count)

pub index_of-requires-clause-numbered : goal.index_of-requires-clause-numbered
index_of-requires-clause-numbered c =
    let bound = few c.args.modules.items c.args.slots.items c.requires.fit in
    omega (arith, bound, ap length c.deref.ensures.value)

pub index_of-requires-clause-names : goal.index_of-requires-clause-names
index_of-requires-clause-names c = subst (λ slots. AreNamesOf c.args.names (names_in slots)) (sym c.deref.ensures.value) c.requires.named

pub of-requires : goal.of-requires
of-requires c =
    let bound = few c.args.modules.items c.args.slots.items c.requires.fit in
    omega (arith, bound, ap length c.deref-2.ensures.value)

pub invariant_of-result-clause-numbered : goal.invariant_of-result-clause-numbered
invariant_of-result-clause-numbered c =
    let bound = few c.args.modules.items c.args.slots.items c.requires.fit in
    omega (arith, bound, c.args.slots.ok.0)

pub invariant_of-result-clause-named : goal.invariant_of-result-clause-named
invariant_of-result-clause-named c =
    subst (FindsNamed c.in_ok-index.index) c.deref.ensures.value c.in_ok-index.ensures.named

pub invariant_of-result-clause-written : goal.invariant_of-result-clause-written
invariant_of-result-clause-written c =
    subst (λ slots. FindsWritten c.in_ok-index.index slots (data_places None (forest_of 0 slots))) c.deref.ensures.value c.in_ok-index.ensures.written

pub invariant_of-result-clause-fit : goal.invariant_of-result-clause-fit
invariant_of-result-clause-fit c = ∣ c.requires.fit ∣₁

pub invariant_of-result-clause-referred : goal.invariant_of-result-clause-referred
invariant_of-result-clause-referred c =
    subst (λ slots. FindsReferences c.in_ok-references.references (laid 0 slots)) c.deref-2.ensures.value c.in_ok-references.ensures
