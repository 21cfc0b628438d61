use Rattle.std.proofs.Common.{◌≡◌, ℕ, Option, drop}
use Rattle.yspec.specs.Forest.{first_of}
use Rattle.yspec.specs.linking.Prefixes.{NodeName}
use Rattle.ybase_preorder.specs.Layout.{laid, seen}
use Rattle.ybase_index.specs.Index.{texts_of}
use Rattle.yschema_augment.specs.Asking.{texts_seen}
use Rattle.yschema_expand.specs.NodeView.{numbered_part}
use Rattle.yschema_augment.specs.SearchView.{look_by}
use Rattle.yschema_augment.specs.Starting.{first_child}
use Rattle.yschema_expand.specs.TableView.{parts_in, slots_of}
use Rattle.yschema_augment.proofs.starting.index_of.Given as goal

-- what is found so far, and among the nodes that are left where nothing is
abbrev pub invariant-loop-number : goal.invariant-loop-number
invariant-loop-number l = record {
  texts : texts_of l.index ≡ texts_seen l.fn.texts.items;
  look : (above : Option ℕ) (name : NodeName) → first_of (look_by l.index above name)
      (first_child l.first above name l.number (seen numbered_part l.number (laid (drop l.number (slots_of l.nodes)))))
      ≡ first_child l.first above name 0 (parts_in l.nodes);
}
