-- What contracts see of a `View`.
use Rattle.ystore.specs.declared.nodes.Nodes.{Nodes}
use Rattle.ystore.specs.declared.nodes.view.View.{View}

-- the store that it shows
abbrev pub viewed : View → Nodes
viewed v = v.nodes.now
