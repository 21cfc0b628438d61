-- Linked statements as the specification's.
use Rattle.std.specs.Prelude.{◌≡◌, List}
use Rattle.yspec.specs.Forest.{Forest}
use Rattle.yspec.specs.linking.Source.{Source}
use Rattle.ytext.specs.View.{Labelled}
use Rattle.ylink_grammar.specs.LinkView as statements
use Rattle.ylink.specs.declared.linked.Linked.{Linked}

abbrev pub view : Linked → Forest Source
view l = statements.view l.sources

-- each with all that stands below it in its module's text, by their numbers
abbrev pub wholes : Linked → List Labelled
wholes l = statements.wholes l.sources

-- they are those of a set
abbrev pub IsOf : Linked → Forest Source → Type 0
IsOf l modules = view l ≡ modules
