use Rattle.std.proofs.Common.{ap, ◌∙◌}
use Rattle.std.specs.Prelude.{is_some}
use Rattle.ytype_numbers.proofs.TableLemmas.{named_among}
use Rattle.ytype_numbers.proofs.names.Names.has_name.Goals as goal

pub returns : goal.returns
returns c = c.is_some.ensures ∙ ap is_some c.number_of.ensures ∙ named_among c.args.text.now c.args.self.now
