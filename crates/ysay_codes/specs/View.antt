-- What is said of a code as the specification's.
use Rattle.ysay_codes.specs.Codes as spec
use Rattle.ysay_codes.specs.declared.explanation.Explanation.{Explanation}

abbrev pub explanation_view : Explanation → spec.Explanation
explanation_view e = record { code = e.code.now; cause = e.cause.now; place = e.place.now; remedy = e.remedy.now; source = e.source.now }
