use Rattle.std.proofs.Common.{◌≡◌, ◌≤◌, ◌+◌, ◌-◌, length, drop}
use Rattle.ystore.specs.Entries.{place_of}
use Rattle.ystore.proofs.entry.Entry.place_of.Given as goal

abbrev pub invariant-loop-place : goal.invariant-loop-place
invariant-loop-place l =
    (l.place ≤ length l.self.nodes.items)
    × (l.place + place_of l.node (drop l.place l.self.nodes.items) ≡ place_of l.node l.self.nodes.items)

abbrev pub decreases-loop-place : goal.decreases-loop-place
decreases-loop-place l = length l.self.nodes.items - l.place
