use Rattle.std.proofs.Common.{◌≡◌, ℕ, ◌-◌, ◌<◌, Some, get_or, length, map}
use Rattle.ybase_index.specs.Names.{number_among, text_in}
use Rattle.ybase_index.specs.Sorted.{Named, Stands}
use Rattle.ybase_index.proofs.names.names_of.Given as goal

abbrev pub invariant-loop-at : goal.invariant-loop-at
invariant-loop-at l =
    let text_at = text_in (map (λ t. t.now) l.texts) in
    record {
      counted : length l.of_nodes.items ≡ length l.texts;
      last : (d : Named) → (get_or l.sorted.items (l.at - 1) d).0.now ≡ l.last.0.now;
      stands : Stands text_at l.ordered.items l.last;
      each : (k : ℕ) (d : Named) → k < l.at → let node = (get_or l.sorted.items k d).1 in number_among text_at l.ordered.items (text_at node) ≡ Some (get_or l.of_nodes.items node 0);
    }
