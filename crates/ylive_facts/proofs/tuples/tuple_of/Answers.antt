use Rattle.std.proofs.Common.{◌∙◌, ap, arith, map, sym}
use Rattle.std.proofs.lemmas.Bool.{ltb-true, ltb-false}
use Rattle.std.proofs.lemmas.Result.{IfOk-weaker}
use Rattle.yspec.specs.document.Instances.{tuple_of_paths}
use Rattle.yschema_model.specs.Layout.{numbers_of}
use Rattle.yschema_model.specs.View as schema_view
use Rattle.ystore_tree.specs.Hanging.{tree_of}
use Rattle.ycheck.proofs.ValueLemmas.{unique_some, unique_none}
use Rattle.ylive_facts.specs.Reads.{path_reads}
use Rattle.ylive_facts.proofs.TupleLemmas.{key_read}
use Rattle.ylive_facts.proofs.tuples.tuple_of.Goals as goal

pub returns-in-Some-clause-tuple : goal.returns-in-Some-clause-tuple
returns-in-Some-clause-tuple c =
    let tuples = c.args.tuples.now in
    let found = c.in-Some.ensures.lookup in
    IfOk-weaker c.unique_of.result _ _ (λ tuple so f hangs. so f hangs ∙ ap (tuple_of_paths (schema_view.view c.args.schema.now) (tree_of f))
    (ap (map (λ path. numbers_of path.items)) c.deref-in-Some.ensures.value
    ∙ unique_some tuples c.args.number c.in-Some.paths.now c.if-number-eq0.false (rw (sym c.deref-2.ensures.value) (ltb-true _ _ (sym found.0))) (rw (sym c.deref-2.ensures.value) found.1))) c.unique_of.ensures.tuple

pub returns-in-None-clause-tuple : goal.returns-in-None-clause-tuple
returns-in-None-clause-tuple c f hangs =
    unique_none (schema_view.view c.args.schema.now) (tree_of f) c.args.tuples.now c.args.number c.if-number-eq0.false
    (rw (sym c.deref-2.ensures.value) (ltb-false _ _ (sym c.in-None.ensures.lookup.0)))

pub returns-then-number-eq0-clause-reads : goal.returns-then-number-eq0-clause-reads
returns-then-number-eq0-clause-reads c =
    let more = c.key_of.ensures.reads in
    let same = key_read c.args.tuples.now c.args.number c.deref.result.now (omega (arith, c.if-number-eq0.true)) c.deref.ensures.value in
    omega (arith, more, same)

pub returns-in-Some-clause-reads : goal.returns-in-Some-clause-reads
returns-in-Some-clause-reads c =
    let tuples = c.args.tuples.now in
    let found = c.in-Some.ensures.lookup in
    let more = c.unique_of.ensures.reads in
    let same = ap path_reads
    (ap (map (λ path. numbers_of path.items)) c.deref-in-Some.ensures.value
    ∙ unique_some tuples c.args.number c.in-Some.paths.now c.if-number-eq0.false (rw (sym c.deref-2.ensures.value) (ltb-true _ _ (sym found.0))) (rw (sym c.deref-2.ensures.value) found.1)) in
    omega (arith, more, same)
