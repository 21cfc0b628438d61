-- What an index holds, by an order of keys.
use Rattle.std.specs.Prelude.{Option, Some, None, option_map, option_and_then, unwrap_or, if◌then◌else◌}
use Rattle.std.specs.declared.cmp.Ordering.{Ordering}
use Rattle.std.specs.BTreeMap.{BTreeMap, get}
use Rattle.ystore.specs.Entries as entries
use Rattle.ystore.specs.declared.entry.Entry.{Entry}

-- what is held at a key; nothing where no entry was made ready
abbrev pub entry_by : {K : Type 0} → (K → K → Ordering) → BTreeMap K Entry → K → Option entries.Entry
entry_by cmp index key = option_map entries.entry_of (get cmp index key)

-- an entry is made where there is none, and then changed
abbrev pub made_ready : (entries.Entry → entries.Entry) → Option entries.Entry → Option entries.Entry
made_ready change e = Some (change (unwrap_or e entries.none))

-- an entry that holds and awaits nothing is given back
abbrev pub tidied : Option entries.Entry → Option entries.Entry
tidied e = option_and_then (λ e. if entries.is_idle e then None else Some e) e
