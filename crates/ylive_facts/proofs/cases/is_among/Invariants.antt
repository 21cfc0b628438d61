use Rattle.std.proofs.Common.{◌≡◌, drop}
use Rattle.yspec.specs.document.Play.{is_among}
use Rattle.yschema_model.specs.Layout.{numbers_of}
use Rattle.ylive_facts.proofs.cases.is_among.Given as goal

-- none of those so far
abbrev pub invariant-loop-id : goal.invariant-loop-id
invariant-loop-id l = is_among (numbers_of (drop l.id-index l.chosen)) l.case.0 ≡ is_among (numbers_of l.chosen) l.case.0
