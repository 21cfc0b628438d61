use Rattle.std.proofs.Common.{false, Some, None, if◌then◌else◌, ap, ◌∙◌, ◌&&◌}
use Rattle.yspec.specs.Forest.{first_of}
use Rattle.ybase_index.specs.Keys.{asks_for, first_at, key_of, same_key}
use Rattle.ybase_index.specs.declared.keys.Among.TheVariants.{Scope}
use Rattle.ybase_index.proofs.KeyLemmas.{below_scope, both_noted, on_ok}
use Rattle.ybase_index.proofs.keys.FirstNodes.add.Goals as goal

pub returns-clause-added : goal.returns-clause-added
returns-clause-added c =
    let node = c.args.node in
    let name = c.args.name in
    on_ok c.note-3.result c.note-3.ensures.noted
    (λ noted among key. noted among key
    ∙ (ap (λ o. first_of o (if same_key (key_of Scope node name) key && asks_for among (below_scope false node) then Some node.number else None)) (c.in_ok-note.ensures.noted among key)
    ∙ both_noted among node name key (first_at c.args.self.now among key)))
