use Rattle.std.proofs.Common.{length, le_refl}
use Rattle.yspec.specs.text.Spelling.{start}
use Rattle.yspec.proofs.TextProofs.ScanningLemmas.{same_tokens, scanned_so}
use Rattle.yspec.proofs.text.scanned_tokens.Goals as goal

pub returns : goal.returns
returns c = record {
  tokens = λ text. same_tokens 0 0 1 1 text;
  places = λ text. scanned_so (length text) 0 start text (le_refl (length text));
}
