use Rattle.ylive_facts.proofs.HeldLemmas.{held_slot, held_past, refers_first, value_first, tuples_held, items_held}
use Rattle.ylive_facts.proofs.laws.held_keys.Goals as goal

pub returns : goal.returns
returns c = record {
  slots = held_slot;
  few = held_past;
  references = refers_first;
  values = value_first;
  tuples = λ schema above t number u vs. tuples_held schema above number t u vs;
  items = λ schema above t number v item. items_held schema above number t v item;
}
