-- What is read fits its schema.
use Rattle.std.proofs.Common.{◌≡◌, ℕ, suc, ◌+◌, ◌≤◌, Bool, true, false, cond, List, [], Option, Some, None, Result, Ok, Err, refl, sym, ap, subst, arith}
use Rattle.std.specs.Option.{option_map_or}
use Rattle.serde_json.specs.Data.{Data, Items, no_items, item, Members}
use Rattle.serde_json.specs.Find.{get_member}
use Rattle.yspec.specs.Forest.{Forest, end, node, size, join}
use Rattle.yspec.specs.types.Types.{Raw}
use Rattle.yspec.specs.schema.Schema.{Schema, SchemaNode, is_data, is_many, data_row, child_in, written_name}
use Rattle.yspec.specs.document.Document.{Tree}
use Rattle.yspec.specs.document.Reading.{Refusal, tree_or_refusal, members_of, items_of, raw_in, stored_node, item_row, instance_row, stored_rows, denoted, json_of, verdict, document_of}
use Rattle.yspec.specs.document.Fitting.{IsNumbered, next_after, FitsBy, Fits}
use Rattle.yspec.proofs.ForestLemmas.{join_end, join_assoc}
use Rattle.yspec.proofs.DocumentProofs.SortingLemmas.{fits_sooner}
use Rattle.yspec.proofs.DocumentProofs.DataRowLemmas.{AreFound, data_found, found_parts}

-- ---- what is asked of members, so that their row fits

abbrev pub EachItem : (Data → Type 0) → Items → Type 0
EachItem P no_items = Unit {0}
EachItem P (item d ds) = P d × EachItem P ds

-- `Held` says which values a node may have, `IsRight` when members may stand below a parent of a module
module _ (s : Schema) (Held : SchemaNode → Option Raw → Type 0) (IsRight : Option ℕ → Forest SchemaNode → Members → Type 0) where
  abbrev pub IsHeld : SchemaNode → Forest SchemaNode → Data → Type 0
  IsHeld n below d = Held n (raw_in n.kind d) × IsRight (Some n.module_number) below (members_of d)

  -- of the value of a member, of which each item is meant or all of it
  abbrev pub IsHeldBy : Bool → SchemaNode → Forest SchemaNode → Data → Type 0
  IsHeldBy true n below d = EachItem (IsHeld n below) (items_of d)
  IsHeldBy false n below d = IsHeld n below d

  abbrev pub AreHeld : Option ℕ → Forest SchemaNode → Members → Type 0
  AreHeld parent end ms = Unit {0}
  AreHeld parent (node n below after) ms =
      ((d : Data) → get_member (written_name s parent n) ms ≡ Some d → IsHeldBy (is_many n.kind) n below d) × AreHeld parent after ms

  held_parts : (parent : Option ℕ) (f g : Forest SchemaNode) (ms : Members) → AreHeld parent (join f g) ms → AreHeld parent f ms × AreHeld parent g ms
  held_parts parent end g ms held = (tt, held)
  held_parts parent (node n below after) g ms held = let rest = held_parts parent after g ms held.1 in ((held.0, rest.0), rest.1)

  -- ---- rows

  next_of_many : (n : SchemaNode) → is_many n.kind ≡ true → next_after n ≡ n.number
  next_of_many n many = ap (λ b. cond b n.number (suc n.number)) many

  next_of_one : (n : SchemaNode) → is_many n.kind ≡ false → next_after n ≡ suc n.number
  next_of_one n one = ap (λ b. cond b n.number (suc n.number)) one

  items_fit : (children below : Forest SchemaNode) (n : SchemaNode) (least : ℕ) (inner : Data → Tree) (ds : Items) (rest : Tree)
      → child_in (data_row children) n.number ≡ Some (n, below) → least ≤ n.number → is_many n.kind ≡ true
      → ((d : Data) → IsRight (Some n.module_number) below (members_of d) → FitsBy Held below 0 (inner d))
      → EachItem (IsHeld n below) ds → FitsBy Held children n.number rest → FitsBy Held children least (join (item_row n inner ds) rest)
  items_fit children below n least inner no_items rest found lower many deeper held fits = fits_sooner Held children rest least n.number lower fits
  items_fit children below n least inner (item d ds) rest found lower many deeper held fits = (
    (n, below),
    found,
    lower,
    held.0.0,
    deeper d held.0.1,
    subst (λ k. FitsBy Held children k (join (item_row n inner ds) rest)) (sym (next_of_many n many))
        (items_fit children below n n.number inner ds rest found (omega arith) many deeper held.1 fits),
  )

  member_fits : (children below : Forest SchemaNode) (n : SchemaNode) (least : ℕ) (inner : Data → Tree) (o : Option Data) (rest : Tree)
      → child_in (data_row children) n.number ≡ Some (n, below) → least ≤ n.number
      → ((d : Data) → IsRight (Some n.module_number) below (members_of d) → FitsBy Held below 0 (inner d))
      → ((d : Data) → o ≡ Some d → IsHeldBy (is_many n.kind) n below d)
      → FitsBy Held children (suc n.number) rest → FitsBy Held children least (join (instance_row n inner o) rest)
  member_fits children below n least inner None rest found lower deeper held fits = fits_sooner Held children rest least (suc n.number) (omega (arith, lower)) fits
  member_fits children below n least inner (Some d) rest found lower deeper held fits = by (is_many n.kind) refl (held d refl)
    where
      by : (b : Bool) → is_many n.kind ≡ b → IsHeldBy b n below d
          → FitsBy Held children least (join (cond b (item_row n inner (items_of d)) (node (stored_node n d) (inner d) end)) rest)
      by true many these = items_fit children below n least inner (items_of d) rest found lower many deeper these
          (fits_sooner Held children rest n.number (suc n.number) (omega arith) fits)
      by false one this = (
        (n, below),
        found,
        lower,
        this.0,
        deeper d this.1,
        subst (λ k. FitsBy Held children k rest) (sym (next_of_one n one)) fits,
      )

  -- what is right of members is so of the children that they are of
  module _ (step : (parent : Option ℕ) (children : Forest SchemaNode) (ms : Members) → IsRight parent children ms → AreHeld parent (data_row children) ms) where
    fits_joined : (parent : Option ℕ) (children f : Forest SchemaNode) (k : ℕ) (ms : Members) (rest : Tree) → IsNumbered k f
        → AreFound (data_row children) (data_row f) → AreHeld parent (data_row f) ms → FitsBy Held children (k + size f) rest
        → FitsBy Held children k (join (stored_rows s parent f ms) rest)
    unfolding stored_rows
    fits_joined parent children end k ms rest numbered found held fits = subst (λ j. FitsBy Held children j rest) (omega arith) fits
    fits_joined parent children (node n below after) k ms rest numbered found held fits =
        by (is_data n.kind) found held
        (λ there these. fits_joined parent children after (k + 1 + size below) ms rest numbered.2 there these
        (subst (λ j. FitsBy Held children j rest) (omega arith) fits))
        (λ there these more fits. fits_joined parent children below (k + 1) ms more numbered.1 there these fits)
        (λ d this. fits_sooner Held below (stored_rows s (Some n.module_number) below (members_of d)) 0 (k + 1) (omega arith)
        (subst (FitsBy Held below (k + 1)) (join_end (stored_rows s (Some n.module_number) below (members_of d)))
        (fits_joined (Some n.module_number) below below (k + 1) (members_of d) end numbered.1 (data_found below (k + 1) numbered.1)
        (step (Some n.module_number) below (members_of d) this) tt)))
      where
        by : (b : Bool) → AreFound (data_row children) (cond b (node n below (data_row after)) (join (data_row below) (data_row after)))
            → AreHeld parent (cond b (node n below (data_row after)) (join (data_row below) (data_row after))) ms
            → (AreFound (data_row children) (data_row after) → AreHeld parent (data_row after) ms
            → FitsBy Held children (k + 1 + size below) (join (stored_rows s parent after ms) rest))
            → (AreFound (data_row children) (data_row below) → AreHeld parent (data_row below) ms → (more : Tree)
            → FitsBy Held children (k + 1 + size below) more → FitsBy Held children (k + 1) (join (stored_rows s parent below ms) more))
            → ((d : Data) → IsRight (Some n.module_number) below (members_of d) → FitsBy Held below 0 (stored_rows s (Some n.module_number) below (members_of d)))
            → FitsBy Held children k (join (join (cond b
            (instance_row n (λ d. stored_rows s (Some n.module_number) below (members_of d)) (get_member (written_name s parent n) ms))
            (stored_rows s parent below ms)) (stored_rows s parent after ms)) rest)
        by true found held later through deeper =
            subst (FitsBy Held children k) (sym (join_assoc (instance_row n _ (get_member (written_name s parent n) ms)) (stored_rows s parent after ms) rest))
            (member_fits children below n k (λ d. stored_rows s (Some n.module_number) below (members_of d)) (get_member (written_name s parent n) ms)
            (join (stored_rows s parent after ms) rest) found.0 (omega (arith, numbered.0)) deeper held.0
            (fits_sooner Held children (join (stored_rows s parent after ms) rest) (suc n.number) (k + 1 + size below) (omega (arith, numbered.0)) (later found.1 held.1)))
        by false found held later through deeper =
            let there = found_parts (data_row children) (data_row below) (data_row after) found in
            let these = held_parts parent (data_row below) (data_row after) ms held in
            subst (FitsBy Held children k) (sym (join_assoc (stored_rows s parent below ms) (stored_rows s parent after ms) rest))
            (fits_sooner Held children _ k (k + 1) (omega arith) (through there.0 these.0 (join (stored_rows s parent after ms) rest) (later there.1 these.1)))

    -- the row of right members fits the children that they are of
    pub row_fits : (parent : Option ℕ) (children : Forest SchemaNode) (k : ℕ) (ms : Members) → IsNumbered k children → IsRight parent children ms
        → FitsBy Held children 0 (stored_rows s parent children ms)
    row_fits parent children k ms numbered right =
        fits_sooner Held children (stored_rows s parent children ms) 0 k (omega arith)
        (subst (FitsBy Held children k) (join_end (stored_rows s parent children ms))
        (fits_joined parent children children k ms end numbered (data_found children k numbered) (step parent children ms right) tt))

-- ---- documents

-- what a document that was read comes from
pub record WasRead (s : Schema) (bytes : List ℕ) (t : Tree) : Type 0 where
  pub value : Data
  pub json : json_of bytes ≡ Some value
  pub right : verdict s value ≡ None
  pub is : denoted s value ≡ t

same_tree : (t u : Tree) (a b : Result Tree Refusal) → a ≡ Ok t → b ≡ Ok u → a ≡ b → t ≡ u
same_tree t u a b first second h = cc

by_verdict : (s : Schema) (bytes : List ℕ) (d : Data) (t : Tree) (o : Option Refusal) → json_of bytes ≡ Some d → verdict s d ≡ o
    → option_map_or Err o (Ok (denoted s d)) ≡ Ok t → WasRead s bytes t
by_verdict s bytes d t None json told so = record { value = d; json = json; right = told; is = same_tree (denoted s d) t _ _ refl refl so }
by_verdict s bytes d t (Some r) json told so = let no : ⊥ = cc in absurd no

by_json : (s : Schema) (bytes : List ℕ) (t : Tree) (o : Option Data) → json_of bytes ≡ o
    → option_map_or (tree_or_refusal s) o (Err (record { code = 1; place = [] })) ≡ Ok t → WasRead s bytes t
by_json s bytes t None json so = let no : ⊥ = cc in absurd no
by_json s bytes t (Some d) json so = by_verdict s bytes d t (verdict s d) json refl so

pub was_read : (s : Schema) (bytes : List ℕ) (t : Tree) → document_of s bytes ≡ Ok t → WasRead s bytes t
unfolding document_of
was_read s bytes t so = by_json s bytes t (json_of bytes) refl so

each_held : (s : Schema) (n : SchemaNode) (below : Forest SchemaNode) (ds : Items)
    → EachItem (IsHeld s (λ n value. Unit {0}) (λ parent children ms. Unit {0}) n below) ds
each_held s n below no_items = tt
each_held s n below (item d ds) = ((tt, tt), each_held s n below ds)

value_held : (s : Schema) (b : Bool) (n : SchemaNode) (below : Forest SchemaNode) (d : Data)
    → IsHeldBy s (λ n value. Unit {0}) (λ parent children ms. Unit {0}) b n below d
value_held s true n below d = each_held s n below (items_of d)
value_held s false n below d = (tt, tt)

pub ever_held : (s : Schema) (parent : Option ℕ) (f : Forest SchemaNode) (ms : Members)
    → AreHeld s (λ n value. Unit {0}) (λ parent children ms. Unit {0}) parent f ms
ever_held s parent end ms = tt
ever_held s parent (node n below after) ms = (λ d is. value_held s (is_many n.kind) n below d, ever_held s parent after ms)

pub read_fits : (s : Schema) (bytes : List ℕ) (t : Tree) → IsNumbered 0 s.nodes → document_of s bytes ≡ Ok t → Fits s t
read_fits s bytes t numbered so =
    let was = was_read s bytes t so in
    subst (λ (u : Tree). Fits s u) was.is
    (row_fits s (λ n value. Unit {0}) (λ parent children ms. Unit {0}) (λ parent children ms right. ever_held s parent (data_row children) ms)
    None s.nodes 0 (members_of was.value) numbered tt)
