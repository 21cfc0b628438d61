use Rattle.std.proofs.Common.{ap}
use Rattle.std.specs.Prelude.{option_map}
use Rattle.yspec.specs.schema.References.{number_of}
use Rattle.ysay_fault.proofs.sentences.target_of.Goals as goal

pub returns-in-Some : goal.returns-in-Some
returns-in-Some c = ap (option_map number_of) c.in-Some.ensures

pub returns-in-None : goal.returns-in-None
returns-in-None c = ap (option_map number_of) c.in-None.ensures
