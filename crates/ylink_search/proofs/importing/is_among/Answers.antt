use Rattle.std.proofs.Common.{◌≡◌, ◌∙◌, sym}
use Rattle.yspec.specs.text.Text.{is_text}
use Rattle.ylink_search.proofs.SplitLemmas.{any_seen}
use Rattle.ylink_search.proofs.importing.is_among.Goals as goal

pub returns-in-Some : goal.returns-in-Some
returns-in-Some c = rw c.in-Some.is (c.contains.ensures.value ∙ sym (any_seen (λ other. is_text other c.in-Some.prefix.now) (λ t. t.now) c.args.prefixes.now))
