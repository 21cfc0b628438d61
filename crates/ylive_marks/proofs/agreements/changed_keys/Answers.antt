use Rattle.std.proofs.Common.{refl}
use Rattle.ystore.specs.Entries.{with_node, without_node}
use Rattle.ylive_marks.proofs.AgreeLemmas.{key_shapes, still_instances, more_instances, fewer_instances}
use Rattle.ylive_marks.proofs.agreements.changed_keys.Goals as goal

pub returns : goal.returns
returns c =
    record {
      more = more_instances c.keys_alike.ensures;
      fewer = fewer_instances c.keys_alike.ensures;
      joined = λ key id before after changes. still_instances c.keys_alike.ensures key before after (with_node id) changes (λ e. refl);
      left = λ key id before after changes. still_instances c.keys_alike.ensures key before after (without_node id) changes (λ e. refl);
      shapes = λ key change before after changes. key_shapes c.keys_alike.ensures key before after change changes;
    }
