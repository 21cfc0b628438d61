use Rattle.ylive_marks.proofs.KeyLemmas.{slots_alike}
use Rattle.ylive_marks.proofs.alike.keys_alike.Goals as goal

pub returns : goal.returns
returns c =
    record {
      itself = c.same_keys.ensures.itself;
      turned = c.turned.ensures.turned;
      alike = c.turned.ensures.alike;
      found = c.same_keys.ensures.found;
      slots = slots_alike;
    }
