use Rattle.std.proofs.Common.{rules, ◌≡◌, ◌∙◌, ◌-◌, ◌≤◌, ap, insert, length, min, true}
use Rattle.ystore_rows.specs.Children.{nodes_of}
use Rattle.ystore_rows.specs.Rows.{ascends, brought, of_schema, place_at}
use Rattle.ybase_tiers.specs.Tiers.{tiered}
use Rattle.ystore_rows.proofs.RowLemmas.{ascends_brought, ascends_remove, none_shifted, shifted_is}
use Rattle.ystore_rows.proofs.children.Children.shift_at.Goals as goal

pub invariant_of-self : goal.invariant_of-self
invariant_of-self c =
    record { ascending = rw c.remove-child.ensures.row (ascends_remove (nodes_of c.args.self.now) c.place_at-from.result c.args.self.now.ascending) }

pub invariant_of-self-then-from-len : goal.invariant_of-self-then-from-len
invariant_of-self-then-from-len c =
    let rest = tiered c.remove-child.new.self in
    let all : ascends rest ≡ true = rw c.remove-child.ensures.row (ascends_remove (nodes_of c.args.self.now) c.place_at-from.result c.args.self.now.ascending) in
    let now : tiered c.insert.new.self ≡ brought c.remove-child.result c.args.to rest =
    c.insert.ensures.row ∙ ap (λ place. insert rest place c.remove-child.result) c.place_among-to.ensures.place in
    record { ascending = rw now (ascends_brought rest c.remove-child.result c.args.to all) }

pub returns-then-from-len-clause-nodes : goal.returns-then-from-len-clause-nodes
returns-then-from-len-clause-nodes c =
    let row = nodes_of c.args.self.now in
    let child = c.remove-child.result in
    let rest = tiered c.remove-child.new.self in
    let now : tiered c.insert.new.self ≡ brought child c.args.to rest =
    c.insert.ensures.row ∙ ap (λ place. insert rest place child) c.place_among-to.ensures.place in
    let is : c.place_at-from.result ≡ place_at c.args.schema (min c.args.from (length (of_schema c.args.schema row) - 1)) row = search rules in
    now
    ∙ (ap (brought child c.args.to) c.remove-child.ensures.row
    ∙ shifted_is c.args.schema c.args.from c.args.to c.place_at-from.result row child is c.remove-child.ensures.value)

pub returns-else-from-len-clause-nodes : goal.returns-else-from-len-clause-nodes
returns-else-from-len-clause-nodes c =
    let row = nodes_of c.args.self.now in
    let is : c.place_at-from.result ≡ place_at c.args.schema (min c.args.from (length (of_schema c.args.schema row) - 1)) row = search rules in
    let past : length row ≤ c.place_at-from.result = search rules in
    none_shifted c.args.schema c.args.from c.args.to c.place_at-from.result row is past

pub insert-requires-clause-room : goal.insert-requires-clause-room
insert-requires-clause-room c = c.remove-child.ensures.spare
