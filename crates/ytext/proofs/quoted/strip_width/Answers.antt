use Rattle.std.proofs.Common.{ℕ, List, sym, ap, ◌∙◌, ◌==◌}
use Rattle.std.specs.List.{list_any}
use Rattle.yspec.specs.text.Text.{line_feed}
use Rattle.yspec.specs.text.Token.{column_behind}
use Rattle.ytext.proofs.QuotedLemmas.{width_unasked}
use Rattle.ytext.proofs.quoted.strip_width.Goals as goal

pub returns-else-contains : goal.returns-else-contains
returns-else-contains c = λ is_yang_1 line text.
    width_unasked is_yang_1 0 (column_behind 1 c.args.before.now) line text c.args.raw.now
    (ap (λ (bytes : List ℕ). list_any (λ y. y == line_feed) bytes) (sym c.as_bytes.ensures.value) ∙ sym c.contains.ensures.value ∙ c.if-contains.false)
