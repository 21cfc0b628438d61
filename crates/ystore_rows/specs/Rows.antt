-- Rows of nodes with their schema nodes, and what is made of one.
use Rattle.std.specs.Prelude.{ℕ, ltb, leb, eqb, ◌+◌, ◌-◌, ◌&&◌, min, Bool, true, List, [], ◌∷◌, length, map, slice_get, slice_set, if◌then◌else◌}
use Rattle.std.specs.List.{list_all, prefix_len, position_or_len, filter, insert, remove}
use Rattle.std.specs.Option.{option_map_or}
use Rattle.yschema_model.specs.declared.node.SchemaId.{SchemaId}
use Rattle.ystore_rows.specs.declared.row.NodeId.{NodeId}

-- a node with its schema node
abbrev pub Child : Type 0
Child = SchemaId × NodeId

-- whether no schema number is less than one before it
abbrev pub ascends : List Child → Bool
ascends [] = true
ascends (c ∷ cs) = list_all (λ d. leb c.0.0 d.0.0) cs && ascends cs

-- the place of the first of a schema node in a row that ascends
abbrev pub first_place : SchemaId → List Child → ℕ
first_place schema row = prefix_len (λ c. ltb c.0.0 schema.0) row

-- the place behind the last
abbrev pub end_place : SchemaId → List Child → ℕ
end_place schema row = prefix_len (λ c. leb c.0.0 schema.0) row

-- the nodes of a schema node, in order
abbrev pub of_schema : SchemaId → List Child → List NodeId
of_schema schema row = map (λ c. c.1) (filter (λ c. eqb c.0.0 schema.0) row)

abbrev pub is_child : Child → Child → Bool
is_child child c = eqb c.0.0 child.0.0 && eqb c.1.0 child.1.0

-- the place of a child, or the end
abbrev pub place_of : Child → List Child → ℕ
place_of child row = position_or_len (is_child child) row

-- with a child behind those of its schema node
abbrev pub added : Child → List Child → List Child
added child row = insert row (end_place child.0 row) child

-- with another node of the same schema node in the place of a child
abbrev pub put : Child → NodeId → List Child → List Child
put child node row = slice_set row (place_of child row) (child.0, node)

-- the place in the row of the one at a place among those of a schema node, or the end
abbrev pub place_at : SchemaId → ℕ → List Child → ℕ
place_at schema place [] = 0
place_at schema place (c ∷ row) =
    if eqb c.0.0 schema.0 then (if eqb place 0 then 0 else 1 + place_at schema (place - 1) row) else 1 + place_at schema place row

-- without the one at a place among those of a schema node
abbrev pub without_at : SchemaId → ℕ → List Child → List Child
without_at schema place row = remove row (place_at schema place row)

-- without the last of a schema node, if there is one
abbrev pub without_last : SchemaId → List Child → List Child
without_last schema row = if ltb (first_place schema row) (end_place schema row) then remove row (end_place schema row - 1) else row

-- with a child at a place among those of its schema node, or behind them
abbrev pub brought : Child → ℕ → List Child → List Child
brought child place row = insert row (first_place child.0 row + min place (length (of_schema child.0 row))) child

-- with the one at a place among those of a schema node, or the last of them, at another place among them
abbrev pub shifted : SchemaId → ℕ → ℕ → List Child → List Child
shifted schema from to row =
    let at = min from (length (of_schema schema row) - 1) in
    option_map_or (λ child. brought child to (without_at schema at row)) (slice_get row (place_at schema at row)) row
