-- What holds of an answer, where there is one.
use Rattle.std.proofs.Common.{◌≡◌, ℕ, Bool, true, false, cond, ltb, List, [], ◌∷◌, Result, Ok, Err, refl}
use Rattle.yspec.specs.Results.{◌>>=◌}
use Rattle.yspec.specs.schema.Schema.{Schema, SchemaNode, keys_in}
use Rattle.yspec.specs.document.Document.{Tree, Step, instances_in}
use Rattle.yspec.specs.edit.EditText.{Predicate, unsaid, at_position, with_keys, Edit}
use Rattle.yspec.specs.edit.Editing.{EditRefusal, the_one, positions_where, fits_keys, instance_meant, applied, tree_or, after}

abbrev pub If : {A E : Type 0} → (A → Type 0) → Result A E → Type 0
If P (Ok x) = P x
If P (Err e) = Unit {0}

pub if_then : {A B : Type 0} (P : A → Type 0) (Q : B → Type 0) (r : Result A EditRefusal) (f : A → Result B EditRefusal)
    → If P r → ((x : A) → P x → If Q (f x)) → If Q (r >>= f)
if_then P Q (Ok x) f first later = later x first
if_then P Q (Err e) f first later = tt

pub anyway : {A B : Type 0} (Q : B → Type 0) (r : Result A EditRefusal) (f : A → Result B EditRefusal) → ((x : A) → If Q (f x)) → If Q (r >>= f)
anyway Q (Ok x) f later = later x
anyway Q (Err e) f later = tt

pub if_cond : {A E : Type 0} (P : A → Type 0) (b : Bool) (r s : Result A E) → If P r → If P s → If P (cond b r s)
if_cond P true r s first second = first
if_cond P false r s first second = second

-- ---- the instance that a step means

-- it is of the step's node
abbrev pub IsOf : ℕ → Step → Type 0
IsOf number step = step.schema_number ≡ number

one_of : (missing number : ℕ) (positions : List ℕ) → If (IsOf number) (the_one missing number positions)
one_of missing number [] = tt
one_of missing number (position ∷ []) = refl
one_of missing number (first ∷ second ∷ more) = tt

pub meant_of : (schema : Schema) (missing : ℕ) (row : Tree) (n : SchemaNode) (predicate : Predicate)
    → If (IsOf n.number) (instance_meant schema missing row n predicate)
meant_of schema missing row n unsaid = if_cond (IsOf n.number) (ltb 0 (instances_in row n.number)) _ _ refl tt
meant_of schema missing row n (at_position position) = if_cond (IsOf n.number) (ltb (instances_in row n.number) position) _ _ tt refl
meant_of schema missing row n (with_keys keys) =
    one_of missing n.number (positions_where n.number (fits_keys schema (keys_in n.kind) keys) 1 row)

-- ---- lists of edits

decided : (P : Tree → Type 0) (r : Result Tree EditRefusal) (t : Tree) → P t → If P r → P (tree_or r t)
decided P (Ok u) t before so = so
decided P (Err e) t before so = before

-- what each accepted edit keeps, a list of them keeps
pub edits_keep : (P : Tree → Type 0) (schema : Schema) (t : Tree) (edits : List Edit) → ((t : Tree) (e : Edit) → P t → If P (applied schema t e))
    → P t → P (after schema t edits)
edits_keep P schema t [] kept p = p
edits_keep P schema t (e ∷ edits) kept p =
    edits_keep P schema (tree_or (applied schema t e) t) edits kept (decided P (applied schema t e) t p (kept t e p))
