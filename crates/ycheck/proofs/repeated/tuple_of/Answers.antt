use Rattle.std.proofs.Common.{◌∙◌, ap, map, sym}
use Rattle.std.proofs.lemmas.Bool.{ltb-true, ltb-false}
use Rattle.std.proofs.lemmas.Result.{IfOk-weaker}
use Rattle.yspec.specs.document.Instances.{tuple_of_paths}
use Rattle.yschema_model.specs.Layout.{numbers_of}
use Rattle.yschema_model.specs.View as schema_view
use Rattle.yinst_tree.specs.View as document_view
use Rattle.ycheck.proofs.ValueLemmas.{unique_some, unique_none}
use Rattle.ycheck.proofs.repeated.tuple_of.Goals as goal

pub returns-in-Some : goal.returns-in-Some
returns-in-Some c =
    let tuples = c.args.tuples.now in
    let found = c.in-Some.ensures.lookup in
    IfOk-weaker c.unique_of.result _ _ (λ tuple so. so ∙ ap (tuple_of_paths (schema_view.view c.args.schema.now) (document_view.row_view c.args.row.now))
    (ap (map (λ path. numbers_of path.items)) c.deref-in-Some.ensures.value
    ∙ unique_some tuples c.args.number c.in-Some.paths.now c.if-number-eq0.false (rw (sym c.deref-2.ensures.value) (ltb-true _ _ (sym found.0))) (rw (sym c.deref-2.ensures.value) found.1))) c.unique_of.ensures

pub returns-in-None : goal.returns-in-None
returns-in-None c =
    unique_none (schema_view.view c.args.schema.now) (document_view.row_view c.args.row.now) c.args.tuples.now c.args.number c.if-number-eq0.false
    (rw (sym c.deref-2.ensures.value) (ltb-false _ _ (sym c.in-None.ensures.lookup.0)))
