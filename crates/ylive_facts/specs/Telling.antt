-- What is told at a stored node, by what its type says of its value and by how often its keys are there (RFC 7950, 8.3.1).
use Rattle.std.specs.Prelude.{ℕ, zero, suc, ◌+◌, ◌==◌, ◌++◌, Bool, false, List, [], ◌∷◌, Option, nat_lt, if◌then◌else◌}
use Rattle.std.specs.Option.{option_map_or}
use Rattle.yspec.specs.schema.Schema.{Schema, SchemaNode, has_value}
use Rattle.yspec.specs.document.Document.{Stored, Tree}
use Rattle.yspec.specs.document.FaultCode.{V1, V11}
use Rattle.yspec.specs.document.Fault.{Fault, fault, plain_fault}
use Rattle.yspec.specs.document.Faults.{Times, RowTimes}
use Rattle.ycheck.specs.Walk.{marks_told}
use Rattle.ystore_rows.specs.declared.row.Row.{Row}
use Rattle.ylive_facts.specs.Judging.{Judged, right, wrong, missing, value_judged}
use Rattle.ylive_facts.specs.Keys.{Key, value_key, item_key, tuple_key, texts_key, reference_key, flagged_key, flags_of}

-- how often what a key holds is there, by answers of the document and of the row of a node that has it
abbrev pub times_of : Times → RowTimes → Key → ℕ
times_of times row (value_key target v) = times target v
times_of times row (item_key above number v) = row.items number v
times_of times row (tuple_key above number u vs) = row.tuples number u vs
times_of times row (texts_key above number texts) = 0

-- ---- by how often each key is there

-- what a node refers to must be there
abbrev pub with_reference : (Key → ℕ) → Option Key → Judged → Judged
with_reference times key right = if option_map_or (λ k. times k == 0) key false then missing else right
with_reference times key (wrong tag) = wrong tag
with_reference times key missing = missing

-- whether another node has a key too
abbrev pub is_shared : (Key → ℕ) → Option Key → Bool
is_shared times key = option_map_or (λ k. nat_lt 1 (times k)) key false

-- so many flags, from one on
abbrev pub flags_from : (ℕ → Bool) → ℕ → ℕ → List Bool
flags_from is_set u zero = []
flags_from is_set u (suc more) = is_set u ∷ flags_from is_set (u + 1) more

abbrev pub judged_at : (Key → ℕ) → Schema → Stored → Judged
judged_at times schema s = with_reference times (reference_key schema s) (value_judged schema s)

abbrev pub flags_at : (Key → ℕ) → Schema → Row → Stored → Tree → List Bool
flags_at times schema above s below =
    flags_from (λ u. is_shared times (flagged_key schema above s below u)) 0 (flags_of schema s.schema_number)

-- ---- the faults that they are

abbrev pub judged_faults : Judged → List Fault
judged_faults right = []
judged_faults (wrong tag) = fault V1 tag [] ∷ []
judged_faults missing = plain_fault V11 [] ∷ []

-- of a node of a schema node, their steps leading from itself
abbrev pub told_faults : SchemaNode → Judged → List Bool → List Fault
told_faults n judged flags = judged_faults judged ++ marks_told (has_value n.kind) 0 flags
