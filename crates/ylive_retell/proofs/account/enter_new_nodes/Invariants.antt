use Rattle.std.proofs.Common.{◌≡◌, ◌+◌, ◌*◌, ◌≤◌, map}
use Rattle.std.specs.List.{flat_map}
use Rattle.yschema_model.specs.View as schema_view
use Rattle.yspec_reach.specs.Sizes.{levels}
use Rattle.ystore.specs.Store.{reads}
use Rattle.ystore.specs.Views.{store_of, lent}
use Rattle.ystore_rows.specs.declared.row.Row as rows
use Rattle.ystore_tree.specs.Hanging.{Branches, Stands}
use Rattle.ystore_tree.specs.Copies.{ids_of}
use Rattle.ystore_tree.specs.Parts.{OnlyReads}
use Rattle.ylive_retell.specs.Accounts.{Enters, news_of, news_view}
use Rattle.ylive_retell.specs.Standing.{standing, keys_held, values_given}
use Rattle.ylive_retell.proofs.AccountLemmas.{Parted}
use Rattle.ylive_retell.proofs.ReadLemmas.{weights}
use Rattle.ylive_retell.proofs.account.enter_new_nodes.Given as goal

-- what those so far hold and give is entered
abbrev pub invariant-loop-id : goal.invariant-loop-id
invariant-loop-id l =
    record {
      same_reference : lent l.counted ≡ lent l.fn.counted;
      kept : OnlyReads (store_of l.fn.counted) (store_of l.counted);
      entered : (above : rows.Row) (f : Branches) → Stands (store_of l.fn.counted) above f → ids_of f ≡ l.numbers
          → (p : Parted l.numbers l.id-index (standing above f))
          × Enters l.fn.account l.account (flat_map (keys_held (schema_view.view l.schema)) p.done) (flat_map (values_given (schema_view.view l.schema)) p.done)
          × (map news_view l.all.items ≡ map (news_of (schema_view.view l.schema)) p.done)
          × (reads (store_of l.counted) ≤ reads (store_of l.fn.counted) + (levels (schema_view.view l.schema) + 9) * weights (schema_view.view l.schema) p.done);
    }
