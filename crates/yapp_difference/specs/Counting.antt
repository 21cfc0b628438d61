-- Faults by how many there are of their keys.
use Rattle.std.specs.Prelude.{ℕ, ◌+◌, ◌-◌, Bool, List, [], ◌∷◌, ◌++◌, unwrap_or, nat_lt, if◌then◌else◌}
use Rattle.indexmap.specs.IndexMap.{get_by}
use Rattle.yspec.specs.document.Fault.{Fault}
use Rattle.yspec_session.specs.Carrying.{Difference, with_gone}
use Rattle.yapp_difference.specs.Keys.{Key, key_of, same_key}
use Rattle.yapp_difference.specs.KeyView.{key_view}
use Rattle.yapp_difference.specs.declared.counts.Count.{Count}
use Rattle.yapp_difference.specs.declared.counts.Counts.{Counts}

-- ---- counts

abbrev pub no_count : Count
no_count = record { all = 0; taken = 0 }

abbrev pub count_of : Counts → Key → Count
count_of counts key = unwrap_or (get_by (λ k. same_key key (key_view k)) counts.by_key) no_count

abbrev pub all_of : Counts → Key → ℕ
all_of counts key = (count_of counts key).all

abbrev pub taken_of : Counts → Key → ℕ
taken_of counts key = (count_of counts key).taken

-- how many faults of a key are among some
abbrev pub among : List Fault → Key → ℕ
among [] key = 0
among (f ∷ fs) key = if same_key (key_of f) key then among fs key + 1 else among fs key

-- ---- faults without so many of each key

abbrev pub with_one_more : Key → (Key → ℕ) → Key → ℕ
with_one_more key counts k = if same_key key k then counts k + 1 else counts k

abbrev pub with_one_less : Key → (Key → ℕ) → Key → ℕ
with_one_less key counts k = if same_key key k then counts k - 1 else counts k

-- the first so many of each key go
abbrev pub without : (Key → ℕ) → List Fault → List Fault
without counts [] = []
without counts (f ∷ fs) =
    if nat_lt 0 (counts (key_of f)) then without (with_one_less (key_of f) counts) fs else f ∷ without counts fs

-- with a fault in front of those that are gone, unless it is there
abbrev pub with_gone_unless : Bool → Fault → Difference → Difference
with_gone_unless is_there f d = if is_there then d else with_gone f d

-- with others in front of those that are gone
abbrev pub with_all_gone : List Fault → Difference → Difference
with_all_gone fs d = record d { gone = fs ++ d.gone }
