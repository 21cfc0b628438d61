use Rattle.std.proofs.Common.{◌||◌, ap, ◌∙◌}
use Rattle.std.proofs.lemmas.Result.{on_ok_weaker}
use Rattle.yspec.specs.schema.Schema.{SchemaNode}
use Rattle.ycheck.specs.Targets.{is_kept, refers_to}
use Rattle.ycheck.proofs.targets.keep_target.Goals as goal

pub returns-clause-kept : goal.returns-clause-kept
returns-clause-kept c =
    on_ok_weaker c.keep_of_kind.result (λ so number. so number ∙ ap (λ (n : SchemaNode). is_kept c.args.targets.now number || refers_to number n) c.node.ensures) c.keep_of_kind.ensures.kept
