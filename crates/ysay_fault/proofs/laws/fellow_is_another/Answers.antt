use Rattle.yspec.specs.document.Document.{instances}
use Rattle.yspec.specs.document.Instances.{tuple, is_tuple, value_of, is_value}
use Rattle.ysay_place.specs.Places.{instance_to}
use Rattle.ysay_fault.proofs.FellowLemmas.{apart, of_given, of_some}
use Rattle.ysay_fault.proofs.laws.fellow_is_another.Goals as goal

pub returns-clause-entries : goal.returns-clause-entries
returns-clause-entries c = λ schema u own position row step at found.
    of_some (instance_to row step) position _ (of_given step.position own position _ at found)
    (λ entry its. of_some (tuple schema entry.0 entry.1 u) position _ its
    (λ vs other. apart (λ s below. is_tuple vs (tuple schema s below u)) own 1 position (instances step.schema_number row) other))

pub returns-clause-items : goal.returns-clause-items
returns-clause-items c = λ schema own position row step at found.
    of_some (instance_to row step) position _ (of_given step.position own position _ at found)
    (λ item its. of_some (value_of schema item.0) position _ its
    (λ v other. apart (λ s below. is_value v (value_of schema s)) own 1 position (instances step.schema_number row) other))
