-- Texts one after another, with something between them.
use Rattle.std.specs.Prelude.{List}
use Rattle.std.specs.List.{join_by}
use Rattle.yspec.specs.text.Text.{Text}

abbrev pub joined : Text → List Text → Text
joined separator texts = join_by (λ t. t) separator texts
