use Rattle.std.proofs.Common.{◌∙◌, ap, sym}
use Rattle.ylive_facts.specs.Keys.{key_view, texts_key, tuple_key}
use Rattle.ylive_retell.proofs.GrowingLemmas.{texts_copied, values_copied}
use Rattle.ylive_retell.proofs.growing.copy_of_key.Goals as goal

pub returns-in_ok-clone-in-Texts : goal.returns-in_ok-clone-in-Texts
returns-in_ok-clone-in-Texts c =
    ap (texts_key c.in-Texts.row c.in-Texts.id.0) (texts_copied c.in-Texts.texts.items c.in_ok-clone-in-Texts.field-0.items c.in_ok-clone-in-Texts.ensures.cases.0)
    ∙ sym (ap key_view c.in-Texts.is)

pub returns-in_ok-clone-in-Tuple : goal.returns-in_ok-clone-in-Tuple
returns-in_ok-clone-in-Tuple c =
    ap (tuple_key c.in-Tuple.row c.in-Tuple.id.0 c.in-Tuple.number) (values_copied c.in-Tuple.values.items c.in_ok-clone-in-Tuple.field-0.items c.in_ok-clone-in-Tuple.ensures.cases.0)
    ∙ sym (ap key_view c.in-Tuple.is)
