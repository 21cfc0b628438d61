use Rattle.std.proofs.Common.{refl}
use Rattle.ystore.specs.Entries.{with_awaited}
use Rattle.ylive_marks.proofs.AgreeLemmas.{entries_keys, keys_on, ready_keys, tidied_keys}
use Rattle.ylive_marks.proofs.agreements.same_entries.Goals as goal

pub returns : goal.returns
returns c =
    record {
      entries = entries_keys;
      holder = λ key before after changes. ready_keys c.keys_alike.ensures key before after with_awaited (λ e. refl) (λ e. refl) changes;
      instance = λ key before after changes. ready_keys c.keys_alike.ensures key before after (λ e. e) (λ e. refl) (λ e. refl) changes;
      tidied = λ key before after changes. tidied_keys c.keys_alike.ensures key before after changes;
      joined = keys_on;
    }
