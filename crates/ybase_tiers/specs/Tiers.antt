-- A tiered row as contracts see it.
use Rattle.std.specs.Prelude.{ℕ, List, ◌*◌, length, vec_capacity}
use Rattle.ybase_tiers.specs.Order.{in_order, index}
use Rattle.ybase_tiers.specs.declared.tiers.Tiers.{Tiers}

-- what it holds, in order
abbrev pub tiered : {T : Type 0} → Tiers T → List T
tiered tiers = in_order 1024 tiers.starts.items tiers.places.items

-- how many it holds
abbrev pub count_of : {T : Type 0} → Tiers T → ℕ
count_of tiers = length tiers.places.items

-- how many it has room for
abbrev pub room_of : {T : Type 0} → Tiers T → ℕ
room_of tiers = vec_capacity tiers.places

-- how many tiers are full and read from their starts
abbrev pub tiers_of : {T : Type 0} → Tiers T → ℕ
tiers_of tiers = length tiers.starts.items

-- behind how many elements the open run begins
abbrev pub end_of : {T : Type 0} → Tiers T → ℕ
end_of tiers = tiers_of tiers * 1024

-- where the one at a place stands
abbrev pub index_in : {T : Type 0} → Tiers T → ℕ → ℕ
index_in tiers place = index 1024 tiers.starts.items place
