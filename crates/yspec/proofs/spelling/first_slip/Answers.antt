use Rattle.yspec.proofs.TextProofs.SlipToldLemmas.{refusal_told, told_refused, spelled_silent, silent_spells}
use Rattle.yspec.proofs.spelling.first_slip.Goals as goal

pub returns : goal.returns
returns c = record { refused = refusal_told; told_alone = told_refused; spelled = spelled_silent; else_spelled = silent_spells }
