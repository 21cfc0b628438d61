use Rattle.std.proofs.Common.{◌∙◌}
use Rattle.yspec.specs.document.Document.{Tree}
use Rattle.yspec.specs.schema.Schema.{Schema}
use Rattle.yspec_run.specs.Output.{Outcome, unless_repeated}
use Rattle.yapp.specs.Edited.{schema_of, tree_of}
use Rattle.yapp.proofs.DocumentLemmas.{strictly_leads, unless_unasked}
use Rattle.yapp.proofs.document.read_by.Goals as goal

pub returns-then-is_strict-clause-leads : goal.returns-then-is_strict-clause-leads
returns-then-is_strict-clause-leads c = λ next.
    let d = c.in-Ok.document in
    let name = c.args.name.now in
    let bytes = c.args.bytes.now in
    let judged : Schema → Tree → Outcome = λ schema tree. unless_repeated c.args.is_strict schema name bytes (next schema) tree in
    strictly_leads c.args.is_strict (schema_of d) name bytes _ (next (schema_of d)) (tree_of d) _ c.strictly.result c.if-is_strict.true (c.in-Ok.ensures.leads judged) (c.strictly.ensures.leads next)

pub returns-else-is_strict-clause-leads : goal.returns-else-is_strict-clause-leads
returns-else-is_strict-clause-leads c = λ next.
    let d = c.in-Ok.document in
    let name = c.args.name.now in
    let bytes = c.args.bytes.now in
    let judged : Schema → Tree → Outcome = λ schema tree. unless_repeated c.args.is_strict schema name bytes (next schema) tree in
    c.in-Ok.ensures.leads judged ∙ unless_unasked c.args.is_strict (schema_of d) name bytes (next (schema_of d)) (tree_of d) c.if-is_strict.false

pub returns-in-Err-clause-leads : goal.returns-in-Err-clause-leads
returns-in-Err-clause-leads c = λ next.
    let judged : Schema → Tree → Outcome = λ schema tree. unless_repeated c.args.is_strict schema c.args.name.now c.args.bytes.now (next schema) tree in
    c.in-Err.ensures.leads judged
