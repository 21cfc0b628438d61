use Rattle.std.proofs.Common.{sym, ◌∙◌}
use Rattle.serde_json.specs.View.{view}
use Rattle.yinst_tree.proofs.ValueLemmas.{float_refused, none_refused}
use Rattle.yinst_tree.proofs.values.refusal_of_whole.Goals as goal

pub returns-then-has_float : goal.returns-then-has_float
returns-then-has_float c = float_refused (view c.args.value.now) (sym c.has_float.ensures ∙ c.if-has_float.true)

pub returns-then-nests_within : goal.returns-then-nests_within
returns-then-nests_within c =
    none_refused (view c.args.value.now) _ (sym c.has_float.ensures ∙ c.if-has_float.false) (sym c.nests_within.ensures ∙ c.if-nests_within.true)

pub returns-else-nests_within : goal.returns-else-nests_within
returns-else-nests_within c =
    none_refused (view c.args.value.now) _ (sym c.has_float.ensures ∙ c.if-has_float.false) (sym c.nests_within.ensures ∙ c.if-nests_within.false)
