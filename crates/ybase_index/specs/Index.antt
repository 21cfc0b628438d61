-- What an index of nodes by their names holds.
use Rattle.std.specs.Prelude.{ℕ, List, Option, map}
use Rattle.yspec.specs.text.Text.{Text}
use Rattle.ybase_index.specs.Names.{found_by, number_among, text_in}
use Rattle.ybase_index.specs.declared.keys.Among.{Among}
use Rattle.ybase_index.specs.declared.index.NodeIndex.{NodeIndex}

-- the names of its nodes, by number
abbrev pub texts_of : NodeIndex → List Text
texts_of index = map (λ t. t.now) index.texts.items

-- the number of a name
abbrev pub named : NodeIndex → Text → Option ℕ
named index = number_among (text_in (texts_of index)) index.names.ordered.items

-- the first node of a module and a name below one, or at the top
abbrev pub found : NodeIndex → Among → Option ℕ → ℕ → Text → Option ℕ
found index = found_by (named index) index.nodes
