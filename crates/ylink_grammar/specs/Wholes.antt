-- The statements that linking stands on, each with all that stands below it in its module's text, what isn't kept included.
use Rattle.std.specs.Prelude.{false, List, [], ◌∷◌, ◌++◌, Option, Some, None}
use Rattle.yspec.specs.Forest.{Forest, end, node}
use Rattle.yspec.specs.text.Statement.{Statement}
use Rattle.yspec.specs.linking.Keyword.{Keyword}
use Rattle.yspec.specs.linking.Source.{kept_keyword}
use Rattle.yspec_wide.specs.Language.{Language}
use Rattle.yspec_wide.specs.Sources.{kept_keyword_in}
use Rattle.ytext.specs.View.{Labelled}

-- a statement that is kept, those below it, and those after it; one that isn't is left out with all below it
abbrev pub whole_at : Option Keyword → Statement → Forest Statement → List Labelled → List Labelled → List Labelled
whole_at None s below inner after = after
whole_at (Some k) s below inner after = (s, below) ∷ (inner ++ after)

-- those that are kept of the statements of modules, in preorder: the place of each is its number
unfoldable pub wholes_of : Forest Statement → List Labelled
wholes_of end = []
wholes_of (node s below after) = whole_at (kept_keyword s) s below (wholes_of below) (wholes_of after)

-- the same in a language
unfoldable pub wholes_in : Language → Forest Statement → List Labelled
wholes_in language end = []
wholes_in language (node s below after) =
    whole_at (kept_keyword_in language false s) s below (wholes_in language below) (wholes_in language after)
