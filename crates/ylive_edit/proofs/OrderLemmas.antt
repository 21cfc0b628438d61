-- What the value of an edit denotes stands in order, and what a path means counts from one.
use Rattle.std.proofs.Common.{◌≡◌, ℕ, ◌+◌, Bool, true, false, cond, eqb, List, [], ◌∷◌, Option, Some, None, refl, subst}
use Rattle.std.specs.Prelude.{Result, Ok, Err, not, unwrap_or, if◌then◌else◌}
use Rattle.std.specs.Option.{option_map_or}
use Rattle.serde_json.specs.Data.{Data, Members}
use Rattle.yspec.specs.Forest.{Forest, end, node, size, find_below, joined_below}
use Rattle.yspec.specs.Results.{◌>>=◌}
use Rattle.yspec.specs.text.Text.{Text}
use Rattle.yspec.specs.schema.Schema.{Schema, SchemaNode, node_at, children_of, data_row}
use Rattle.yspec.specs.document.Reading.{Refusal, Named, child, other_form, unknown, named, members_of, json_of, first_wrong, instance_visits, stored_rows}
use Rattle.yspec.specs.document.Sorting.{IsSorted}
use Rattle.yspec.specs.document.Fitting.{IsNumbered}
use Rattle.yspec.specs.edit.EditText.{NamedStep, Path}
use Rattle.yspec.specs.edit.Editing.{BoundStep, Branch, EditRefusal, are_in_place, bound, bound_to_move, bound_named, bound_steps, branch, branch_at, branch_of, fitting_branch, has_zero, in_place, is_spelled, is_zero, refused, value_refused}
use Rattle.yspec.proofs.SchemaProofs.NumberLemmas.{number_at}
use Rattle.yspec.proofs.DocumentProofs.SortingLemmas.{fits_sorted}
use Rattle.yspec.proofs.DocumentProofs.FittingReadLemmas.{row_fits, ever_held}
use Rattle.yspec.proofs.EditProofs.AnswerLemmas.{If}
use Rattle.yspec.proofs.EditProofs.MoveLemmas.{EndsInMany, to_move}
use Rattle.ylive_edit.specs.Locating.{CountFromOne}

-- ---- values

Numbered : Option (Forest SchemaNode) → Type 0
Numbered o = (j : ℕ) × IsNumbered j (unwrap_or o end)

here_or_below : (b : Bool) (below : Forest SchemaNode) (k : ℕ) (x y : Option (Forest SchemaNode)) → IsNumbered k below → Numbered x → Numbered y
    → Numbered (cond b (Some below) (joined_below x y))
unfolding Numbered
here_or_below true below k x y numbered first second = (k, numbered)
here_or_below false below k (Some f) y numbered first second = first
here_or_below false below k None y numbered first second = second

numbered_below : (f : Forest SchemaNode) (k m : ℕ) → IsNumbered k f → Numbered (find_below (λ (n : SchemaNode). eqb n.number m) f)
unfolding Numbered
numbered_below end k m numbered = (0, tt)
numbered_below (node n below after) k m numbered =
    here_or_below (eqb n.number m) below (k + 1) (find_below (λ (x : SchemaNode). eqb x.number m) below) (find_below (λ (x : SchemaNode). eqb x.number m) after) numbered.1
    (numbered_below below (k + 1) m numbered.1) (numbered_below after (k + 1 + size below) m numbered.2)

rows_sorted : (schema : Schema) (parent : Option ℕ) (children : Forest SchemaNode) (k : ℕ) (ms : Members) → IsNumbered k children
    → IsSorted (stored_rows schema parent children ms)
rows_sorted schema parent children k ms numbered = fits_sorted (λ n value. Unit {0}) children 0 (stored_rows schema parent children ms)
    (row_fits schema (λ n value. Unit {0}) (λ parent children ms. Unit {0}) (λ parent children ms right. ever_held schema parent (data_row children) ms)
    parent children k ms numbered tt)

InOrder : ℕ → Result Branch EditRefusal → Type 0
InOrder number (Ok b) = (b.label.schema_number ≡ number) × IsSorted b.below
InOrder number (Err e) = Unit {0}

by_wrong : (schema : Schema) (number : ℕ) (n : SchemaNode) (d : Data) (o : Option Refusal) → ((branch schema n d).label.schema_number ≡ number) → IsSorted (branch schema n d).below
    → InOrder number (option_map_or (λ (r : Refusal). value_refused r.code) o (Ok (branch schema n d)))
unfolding InOrder
by_wrong schema number n d None is so = (is, so)
by_wrong schema number n d (Some r) is so = tt

by_node : (schema : Schema) (number : ℕ) (d : Data) (o : Option SchemaNode) → node_at schema number ≡ o → IsNumbered 0 schema.nodes
    → InOrder number (option_map_or (λ n. fitting_branch schema n d) o (refused 2))
unfolding InOrder Numbered
by_node schema number d None is numbered = tt
by_node schema number d (Some n) is numbered =
    let children = numbered_below schema.nodes 0 n.number numbered in
    by_wrong schema number n d (first_wrong (instance_visits schema n (children_of schema n.number) [] d))
    (number_at schema.nodes number n is) (rows_sorted schema (Some n.module_number) (children_of schema n.number) children.0 (members_of d) children.1)

by_json : (schema : Schema) (number : ℕ) (o : Option Data) → IsNumbered 0 schema.nodes → InOrder number (option_map_or (branch_at schema number) o (refused 9))
unfolding InOrder
by_json schema number None numbered = tt
by_json schema number (Some d) numbered = by_node schema number d (node_at schema number) refl numbered

pub value_in_order : (schema : Schema) (number : ℕ) (text : Text) (b : Branch) → IsNumbered 0 schema.nodes → branch_of schema number text ≡ Ok b
    → (b.label.schema_number ≡ number) × IsSorted b.below
unfolding InOrder
value_in_order schema number text b numbered is = subst (InOrder number) is (by_json schema number (json_of text) numbered)

-- ---- paths

FromOne : Result (List BoundStep) EditRefusal → Type 0
FromOne (Ok steps) = CountFromOne steps
FromOne (Err e) = Unit {0}

one_more : (r : Result (List BoundStep) EditRefusal) (b : BoundStep) → is_zero b.predicate ≡ false → FromOne r → FromOne (r >>= (λ steps. Ok (b ∷ steps)))
unfolding FromOne
one_more (Ok steps) b is counts = (is, counts)
one_more (Err e) b is counts = tt

first_is : (z rest : Bool) → (if z then true else rest) ≡ false → (z ≡ false) × (rest ≡ false)
first_is true rest e = absurd cc
first_is false rest e = (refl, e)

by_name : (schema : Schema) (m : Named) (s : NamedStep) (steps : Path) → is_zero s.predicate ≡ false
    → ((parent : Option ℕ) (children : Forest SchemaNode) → FromOne (bound_steps schema parent children steps))
    → FromOne (bound_named m s.predicate (λ n below. bound_steps schema (Some n.module_number) below steps))
unfolding FromOne
by_name schema (child n below) s steps is later = one_more (bound_steps schema (Some n.module_number) below steps) (record { schema_node = n; predicate = s.predicate }) is (later (Some n.module_number) below)
by_name schema other_form s steps is later = tt
by_name schema unknown s steps is later = tt

steps_count : (schema : Schema) (parent : Option ℕ) (children : Forest SchemaNode) (path : Path) → has_zero path ≡ false → FromOne (bound_steps schema parent children path)
unfolding FromOne
steps_count schema parent children [] none = tt
steps_count schema parent children (s ∷ steps) none =
    let both = first_is (is_zero s.predicate) (has_zero steps) none in
    by_name schema (named schema parent s.name children) s steps both.0 (λ p c. steps_count schema p c steps both.1)

in_place_counts : (schema : Schema) (is_create : Bool) (r : Result (List BoundStep) EditRefusal) → FromOne r → FromOne (r >>= in_place schema is_create)
unfolding FromOne
in_place_counts schema is_create (Err e) counts = tt
in_place_counts schema is_create (Ok steps) counts = by (are_in_place schema is_create steps)
  where
    by : (b : Bool) → FromOne (if b then Ok steps else refused 3)
    by true = counts
    by false = tt

spelled_has_none : (path : Path) → is_spelled path ≡ true → has_zero path ≡ false
spelled_has_none [] is = absurd cc
spelled_has_none (s ∷ steps) is = by (has_zero (s ∷ steps)) is
  where
    by : (b : Bool) → not b ≡ true → b ≡ false
    by true e = absurd cc
    by false e = refl

bound_counts : (schema : Schema) (is_create : Bool) (path : Path) (b : Bool) → is_spelled path ≡ b
    → FromOne (if b then bound_steps schema None schema.nodes path >>= in_place schema is_create else refused 1)
unfolding FromOne
bound_counts schema is_create path false e = tt
bound_counts schema is_create path true e =
    in_place_counts schema is_create (bound_steps schema None schema.nodes path) (steps_count schema None schema.nodes path (spelled_has_none path e))

pub bound_from_one : (schema : Schema) (is_create : Bool) (path : Path) (steps : List BoundStep) → bound schema is_create path ≡ Ok steps → CountFromOne steps
unfolding FromOne
bound_from_one schema is_create path steps is = subst FromOne is (bound_counts schema is_create path (is_spelled path) refl)

counts_if : (r : Result (List BoundStep) EditRefusal) → FromOne r → If CountFromOne r
unfolding FromOne
counts_if (Ok steps) counts = counts
counts_if (Err e) counts = tt

pub moved_from_one : (schema : Schema) (path : Path) (position : ℕ) (steps : List BoundStep) → bound_to_move schema path position ≡ Ok steps → CountFromOne steps
moved_from_one schema path position steps is =
    (subst (If (λ bs. CountFromOne bs × EndsInMany bs)) is
    (to_move CountFromOne schema path position (counts_if (bound schema false path) (bound_counts schema false path (is_spelled path) refl)))).0
