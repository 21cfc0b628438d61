use Rattle.ylive_facts.proofs.EntryLemmas.{found_by, found_in}
use Rattle.ylive_facts.proofs.laws.found_entries.Goals as goal

pub returns : goal.returns
returns c = record {
  fits = λ schema above s below n keys is some. found_by schema above keys s below n is some;
  positions = λ schema above t number n keys is some. found_in schema above keys number n is some t 1;
}
