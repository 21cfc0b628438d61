use Rattle.std.proofs.Common.{◌∙◌, sym, ap, is_eq}
use Rattle.std.specs.Cmp.{eq_by_cmp_equiv}
use Rattle.ylive_marks.proofs.KeyLemmas.{equal_is}
use Rattle.ylive_marks.proofs.alike.turned.Goals as goal

pub returns-clause-turned : goal.returns-clause-turned
returns-clause-turned g c key other e = sym ((eq_by_cmp_equiv g.met.K.Ord.total).symm key other) ∙ e

pub returns-clause-alike : goal.returns-clause-alike
returns-clause-alike g c key other third e = ap is_eq (g.met.K.Ord.total.congr key other third (equal_is (g.K.Ord.cmp key other) e))
