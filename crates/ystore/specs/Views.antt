-- What contracts see of a `Counted`.
use Rattle.std.specs.Prelude.{◌≡◌, ℕ, ◌+◌}
use Rattle.std.specs.Borrow.{GName}
use Rattle.std.specs.declared.alloc.Global.{Global}
use Rattle.ystore.specs.Store.{CountsOne, alloc, loans, reads}
use Rattle.ystore.specs.declared.nodes.Nodes.{Nodes}
use Rattle.ystore.specs.declared.nodes.counted.Counted.{Counted}

-- the store that it borrows
abbrev pub store_of : Counted → Nodes
store_of c = c.nodes.now

-- What stays while a store is lent: the ghost name of the reference to it, where it lies, how often it was lent so far, and how many
-- reading calls there were when that began. There are no fewer at any time.
pub record Loan : Type 0 where
  pub name : GName
  pub alloc : Global
  pub loans : ℕ
  pub begun : ℕ

abbrev pub lent : Counted → Loan
lent c = record { name = c.nodes.ghost_name; alloc = alloc c.nodes.now; loans = loans c.nodes.now; begun = c.nodes.now.count.begun.calls }

-- the loan that begins with a store
abbrev pub new_loan : GName → Nodes → Loan
new_loan name nodes = record { name = name; alloc = alloc nodes; loans = loans nodes + 1; begun = reads nodes }

-- a reading call took one to the other
pub record IsRead (before after : Counted) : Type 0 where
  pub same_reference : lent after ≡ lent before
  pub store : CountsOne (store_of before) (store_of after)
