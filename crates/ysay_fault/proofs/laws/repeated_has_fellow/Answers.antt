use Rattle.yspec.specs.document.Instances.{tuple, is_tuple, value_of, is_value}
use Rattle.ysay_fault.proofs.FellowLemmas.{has_other}
use Rattle.ysay_fault.proofs.laws.repeated_has_fellow.Goals as goal

pub returns-clause-entries : goal.returns-clause-entries
returns-clause-entries c = λ schema row number u own vs several none.
    has_other (λ s below. is_tuple vs (tuple schema s below u)) number own row several none

pub returns-clause-items : goal.returns-clause-items
returns-clause-items c = λ schema row number own v several none.
    has_other (λ s below. is_value v (value_of schema s)) number own row several none
