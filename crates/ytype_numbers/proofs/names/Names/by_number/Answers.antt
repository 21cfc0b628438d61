use Rattle.ytype_numbers.specs.Tables.{assigned}
use Rattle.ytype_numbers.proofs.TableLemmas.{words_found}
use Rattle.ytype_numbers.proofs.names.Names.by_number.Goals as goal

pub returns-clause-words : goal.returns-clause-words
returns-clause-words c = words_found c.self.inside.by_name (assigned c.self.inside.by_number.entries) c.self.invariant
