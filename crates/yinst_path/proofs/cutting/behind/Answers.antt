use Rattle.std.proofs.lemmas.Str.Pattern.{strip_prefix_char}
use Rattle.yinst_path.proofs.CutLemmas.{behind_from}
use Rattle.yinst_path.proofs.cutting.behind.Goals as goal

pub returns-clause-value : goal.returns-clause-value
returns-clause-value c = behind_from c.args.mark c.args.text.now c.strip_prefix.result
    (strip_prefix_char c.args.mark c.args.text.now c.strip_prefix.result c.strip_prefix.ensures.cases c.requires)
