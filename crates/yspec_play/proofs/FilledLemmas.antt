-- How the children that are told of stand in a row of schema nodes: those of each data node together, in order.
use Rattle.std.proofs.Common.{◌≡◌, ◌≢◌, ℕ, suc, ◌+◌, ◌≤◌, ◌<◌, Bool, true, false, cond, ltb, List, [], ◌∷◌, ◌++◌, map, length, ◌⊎◌, inl, inr, refl, sym, ap, ap₂, ◌∙◌, subst, arith}
use Rattle.std.proofs.lemmas.Bool.{ltb-true, ltb-false}
use Rattle.std.proofs.lemmas.List.{length-map, append-nil, length-append}
use Rattle.yspec.specs.Forest.{Forest, end, node, size}
use Rattle.yspec.specs.schema.Schema.{SchemaNode, is_data}
use Rattle.yspec.specs.document.Fitting.{IsNumbered}
use Rattle.yspec.specs.document.Play.{stored_among}
use Rattle.yspec.specs.document.Faults.{Told, told_of}
use Rattle.yspec_play.proofs.MergedLemmas.{AllTold, all_told, all_told_joined, told_joined, told_of_others, told_of_all}

-- children that stand so: first those of the first node, or of the nodes in it, and then the others
abbrev pub Fills : Forest SchemaNode → List Told → Type 0
Fills end ts = ts ≡ []
Fills (node n below after) ts = (first : List Told) × (rest : List Told) × (ts ≡ first ++ rest)
    × (is_data n.kind ≡ true → AllTold (λ m. m ≡ n.number) first) × (is_data n.kind ≡ false → Fills below first) × Fills after rest

abbrev pub Within : ℕ → ℕ → ℕ → Type 0
Within least limit m = (least ≤ m) × (m < limit)

module _ (n : SchemaNode) (below : Forest SchemaNode) where
  -- the children of the first node, or of the nodes in it
  pub first_within : (k : ℕ) (first : List Told) → n.number ≡ k → (is_data n.kind ≡ true → AllTold (λ m. m ≡ n.number) first)
      → (is_data n.kind ≡ false → AllTold (Within (k + 1) (k + 1 + size below)) first) → AllTold (Within k (k + 1 + size below)) first
  first_within k first number own inner = by (is_data n.kind) own inner
    where
      by : (b : Bool) → (b ≡ true → AllTold (λ m. m ≡ n.number) first) → (b ≡ false → AllTold (Within (k + 1) (k + 1 + size below)) first)
          → AllTold (Within k (k + 1 + size below)) first
      by true own inner = all_told (λ m. m ≡ n.number) (Within k (k + 1 + size below)) first (λ m e. (omega (arith, e, number), omega (arith, e, number))) (own refl)
      by false own inner = all_told (Within (k + 1) (k + 1 + size below)) (Within k (k + 1 + size below)) first (λ m w. (omega (arith, w.0), w.1)) (inner refl)

pub filled_within : (f : Forest SchemaNode) (k : ℕ) (ts : List Told) → IsNumbered k f → Fills f ts → AllTold (Within k (k + size f)) ts
filled_within end k ts numbered fills = subst (AllTold (Within k (k + 0))) (sym fills) tt
filled_within (node n below after) k ts numbered fills =
    let first = fills.0 in
    let rest = fills.1 in
    let limit = k + suc (size below + size after) in
    let own = first_within n below k first numbered.0 fills.3 (λ other. filled_within below (k + 1) first numbered.1 (fills.4 other)) in
    let later = filled_within after (k + 1 + size below) rest numbered.2 fills.5 in
    subst (AllTold (Within k limit)) (sym fills.2) (all_told_joined (Within k limit) first rest
    (all_told (Within k (k + 1 + size below)) (Within k limit) first (λ m w. (w.0, omega (arith, w.1))) own)
    (all_told (Within (k + 1 + size below) (k + 1 + size below + size after)) (Within k limit) rest (λ m w. (omega (arith, w.0), omega (arith, w.1))) later))

-- ---- what is told of a number is told of these children

module _ (told : List Told) where
  abbrev pub Sees : ℕ → ℕ → List Told → Type 0
  Sees least limit ts = (m : ℕ) → Within least limit m → told_of told m ≡ told_of ts m

  pub sees_first : (least middle limit : ℕ) (ts first rest : List Told) → middle ≤ limit → ts ≡ first ++ rest → AllTold (Within middle limit) rest
      → Sees least limit ts → Sees least middle first
  sees_first least middle limit ts first rest upper parts later sees m w =
      sees m (w.0, omega (arith, w.1, upper))
      ∙ (ap (λ xs. told_of xs m) parts ∙ (told_joined first rest m
      ∙ (ap (λ fs. told_of first m ++ fs) (told_of_others rest m (all_told (Within middle limit) (λ n. n ≢ m) rest (λ n v e. absurd (omega (arith, v.0, w.1, e))) later))
      ∙ append-nil (told_of first m))))

  pub sees_rest : (least middle limit : ℕ) (ts first rest : List Told) → least ≤ middle → ts ≡ first ++ rest → AllTold (Within least middle) first
      → Sees least limit ts → Sees middle limit rest
  sees_rest least middle limit ts first rest lower parts before sees m w =
      sees m (omega (arith, w.0, lower), w.1)
      ∙ (ap (λ xs. told_of xs m) parts ∙ (told_joined first rest m
      ∙ ap (λ fs. fs ++ told_of rest m) (told_of_others first m (all_told (Within least middle) (λ n. n ≢ m) first (λ n v e. absurd (omega (arith, v.1, w.0, e))) before))))

  pub sees_later : (least middle limit : ℕ) (ts : List Told) → least ≤ middle → Sees least limit ts → Sees middle limit ts
  sees_later least middle limit ts lower sees m w = sees m (omega (arith, w.0, lower), w.1)

  -- ---- parts of a filled row

  -- what is known of the parts of a row that is filled
  pub record Parts (n : SchemaNode) (below after : Forest SchemaNode) (k : ℕ) (ts first rest : List Told) : Type 0 where
    pub inner : is_data n.kind ≡ false → Sees (k + 1) (k + 1 + size below) first
    pub own : is_data n.kind ≡ true → told_of told n.number ≡ map (λ (t : Told). t.faults) first
    pub later : Sees (k + 1 + size below) (k + 1 + size below + size after) rest
    pub within : AllTold (Within k (k + 1 + size below)) first
    pub behind : AllTold (Within (k + 1 + size below) (k + 1 + size below + size after)) rest

  pub parts_of : (n : SchemaNode) (below after : Forest SchemaNode) (k : ℕ) (ts : List Told) → IsNumbered k (node n below after)
      → (fills : Fills (node n below after) ts) → Sees k (k + suc (size below + size after)) ts → Parts n below after k ts fills.0 fills.1
  parts_of n below after k ts numbered fills sees =
      let first = fills.0 in
      let rest = fills.1 in
      let middle = k + 1 + size below in
      let limit = middle + size after in
      let within = first_within n below k first numbered.0 fills.3 (λ other. filled_within below (k + 1) first numbered.1 (fills.4 other)) in
      let behind = filled_within after middle rest numbered.2 fills.5 in
      let seen : Sees k limit ts = λ m w. sees m (w.0, omega (arith, w.1)) in
      let seen_first = sees_first k middle limit ts first rest (omega arith) fills.2 behind seen in
      record {
        inner = λ other. sees_later k (k + 1) middle first (omega arith) seen_first;
        own = λ is. seen_first n.number (omega (arith, numbered.0), omega (arith, numbered.0)) ∙ told_of_all first n.number (fills.3 is);
        later = sees_rest k middle limit ts first rest (omega arith) fills.2 within seen;
        within = within;
        behind = behind;
      }

  -- ---- how many there are

  module _ (stored : ℕ → ℕ) (counts : (m : ℕ) → stored m ≡ length (told_of told m)) where
    pub among_filled : (f : Forest SchemaNode) (k : ℕ) (ts : List Told) → IsNumbered k f → Fills f ts → Sees k (k + size f) ts
        → stored_among stored f ≡ length ts
    among_filled end k ts numbered fills sees = sym (ap length fills)
    among_filled (node n below after) k ts numbered fills sees =
        let first = fills.0 in
        let rest = fills.1 in
        let parts = parts_of n below after k ts numbered fills sees in
        let later = among_filled after (k + 1 + size below) rest numbered.2 fills.5 parts.later in
        let here = by (is_data n.kind)
        (λ is. counts n.number ∙ (ap length (parts.own is) ∙ length-map first (λ (t : Told). t.faults)))
        (λ other. among_filled below (k + 1) first numbered.1 (fills.4 other) (parts.inner other)) in
        ap₂ ◌+◌ here later ∙ (sym (length-append first rest) ∙ sym (ap length fills.2))
      where
        by : (b : Bool) → (b ≡ true → stored n.number ≡ length fills.0) → (b ≡ false → stored_among stored below ≡ length fills.0)
            → cond b (stored n.number) (stored_among stored below) ≡ length fills.0
        by true own inner = own refl
        by false own inner = inner refl

-- ---- children in order fill a row

-- a data node of the row has the number
abbrev pub DataIn : ℕ → Forest SchemaNode → Type 0
DataIn m end = ⊥
DataIn m (node n below after) = ((is_data n.kind ≡ true) × (m ≡ n.number)) ⊎ (((is_data n.kind ≡ false) × DataIn m below) ⊎ DataIn m after)

abbrev pub Rising : ℕ → List Told → Type 0
Rising least [] = Unit {0}
Rising least (t ∷ ts) = (least ≤ t.schema_number) × Rising t.schema_number ts

data_within : (f : Forest SchemaNode) (k m : ℕ) → IsNumbered k f → DataIn m f → Within k (k + size f) m
data_within end k m numbered there = absurd there
data_within (node n below after) k m numbered (inl own) = (omega (arith, own.1, numbered.0), omega (arith, own.1, numbered.0))
data_within (node n below after) k m numbered (inr (inl inner)) =
    let w = data_within below (k + 1) m numbered.1 inner.1 in (omega (arith, w.0), omega (arith, w.1))
data_within (node n below after) k m numbered (inr (inr later)) =
    let w = data_within after (k + 1 + size below) m numbered.2 later in (omega (arith, w.0), omega (arith, w.1))

-- the children before a number, as long as they are, and the others
abbrev children_before : ℕ → List Told → List Told
children_before limit [] = []
children_before limit (t ∷ ts) = cond (ltb t.schema_number limit) (t ∷ children_before limit ts) []

abbrev children_from : ℕ → List Told → List Told
children_from limit [] = []
children_from limit (t ∷ ts) = cond (ltb t.schema_number limit) (children_from limit ts) (t ∷ ts)

parted : (limit : ℕ) (ts : List Told) → ts ≡ children_before limit ts ++ children_from limit ts
parted limit [] = refl
parted limit (t ∷ ts) = by (ltb t.schema_number limit) (parted limit ts)
  where
    by : (b : Bool) → ts ≡ children_before limit ts ++ children_from limit ts
        → t ∷ ts ≡ cond b (t ∷ children_before limit ts) [] ++ cond b (children_from limit ts) (t ∷ ts)
    by true rest = ap (λ xs. t ∷ xs) rest
    by false rest = refl

all_before : (limit : ℕ) (P Q : ℕ → Type 0) (ts : List Told) → ((m : ℕ) → m < limit → P m → Q m) → AllTold P ts → AllTold Q (children_before limit ts)
all_before limit P Q [] so all = tt
all_before limit P Q (t ∷ ts) so all = by (ltb t.schema_number limit) refl (all_before limit P Q ts so all.1)
  where
    by : (b : Bool) → ltb t.schema_number limit ≡ b → AllTold Q (children_before limit ts) → AllTold Q (cond b (t ∷ children_before limit ts) [])
    by true is rest = (so t.schema_number (ltb-true t.schema_number limit is) all.0, rest)
    by false is rest = tt

rising_before : (limit least : ℕ) (ts : List Told) → Rising least ts → Rising least (children_before limit ts)
rising_before limit least [] rising = tt
rising_before limit least (t ∷ ts) rising = by (ltb t.schema_number limit) (rising_before limit t.schema_number ts rising.1)
  where
    by : (b : Bool) → Rising t.schema_number (children_before limit ts) → Rising least (cond b (t ∷ children_before limit ts) [])
    by true rest = (rising.0, rest)
    by false rest = tt

all_behind : (limit least : ℕ) (P Q : ℕ → Type 0) (ts : List Told) → ((m : ℕ) → limit ≤ m → P m → Q m) → limit ≤ least → Rising least ts → AllTold P ts → AllTold Q ts
all_behind limit least P Q [] so lower rising all = tt
all_behind limit least P Q (t ∷ ts) so lower rising all =
    (so t.schema_number (omega (arith, lower, rising.0)) all.0, all_behind limit t.schema_number P Q ts so (omega (arith, lower, rising.0)) rising.1 all.1)

all_from : (limit least : ℕ) (P Q : ℕ → Type 0) (ts : List Told) → ((m : ℕ) → limit ≤ m → P m → Q m) → Rising least ts → AllTold P ts → AllTold Q (children_from limit ts)
all_from limit least P Q [] so rising all = tt
all_from limit least P Q (t ∷ ts) so rising all = by (ltb t.schema_number limit) refl (all_from limit t.schema_number P Q ts so rising.1 all.1)
  where
    by : (b : Bool) → ltb t.schema_number limit ≡ b → AllTold Q (children_from limit ts) → AllTold Q (cond b (children_from limit ts) (t ∷ ts))
    by true is rest = rest
    by false is rest = let from = ltb-false t.schema_number limit is in
        (so t.schema_number from all.0, all_behind limit t.schema_number P Q ts so from rising.1 all.1)

rising_sooner : (j k : ℕ) (ts : List Told) → j ≤ k → Rising k ts → Rising j ts
rising_sooner j k [] lower rising = tt
rising_sooner j k (t ∷ ts) lower rising = (omega (arith, lower, rising.0), rising.1)

rising_from : (limit least : ℕ) (ts : List Told) → Rising least ts → Rising least (children_from limit ts)
rising_from limit least [] rising = tt
rising_from limit least (t ∷ ts) rising = by (ltb t.schema_number limit) (rising_from limit t.schema_number ts rising.1)
  where
    by : (b : Bool) → Rising t.schema_number (children_from limit ts) → Rising least (cond b (children_from limit ts) (t ∷ ts))
    by true rest = rising_sooner least t.schema_number (children_from limit ts) rising.0 rest
    by false rest = rising

none_told : (ts : List Told) → AllTold (λ m. ⊥) ts → ts ≡ []
none_told [] none = refl
none_told (t ∷ ts) none = absurd none.0

pub filled : (f : Forest SchemaNode) (k least : ℕ) (ts : List Told) → IsNumbered k f → Rising least ts → AllTold (λ m. DataIn m f) ts → Fills f ts
filled end k least ts numbered rising all = none_told ts all
filled (node n below after) k least ts numbered rising all =
    let limit = k + 1 + size below in (
      children_before limit ts,
      children_from limit ts,
      parted limit ts,
      λ is. all_before limit (λ m. DataIn m (node n below after)) (λ m. m ≡ n.number) ts (λ m less there. own m is less there) all,
      λ other. filled below (k + 1) least (children_before limit ts) numbered.1 (rising_before limit least ts rising)
          (all_before limit (λ m. DataIn m (node n below after)) (λ m. DataIn m below) ts (λ m less there. inner m other less there) all),
      filled after limit least (children_from limit ts) numbered.2 (rising_from limit least ts rising)
          (all_from limit least (λ m. DataIn m (node n below after)) (λ m. DataIn m after) ts later rising all),
    )
  where
    own : (m : ℕ) → is_data n.kind ≡ true → m < k + 1 + size below → DataIn m (node n below after) → m ≡ n.number
    own m is less (inl same) = same.1
    own m is less (inr (inl inside)) = absurd (let no : true ≡ false = sym is ∙ inside.0 in cc)
    own m is less (inr (inr behind)) = let w = data_within after (k + 1 + size below) m numbered.2 behind in absurd (omega (arith, w.0, less))

    inner : (m : ℕ) → is_data n.kind ≡ false → m < k + 1 + size below → DataIn m (node n below after) → DataIn m below
    inner m other less (inl same) = absurd (let no : true ≡ false = sym same.0 ∙ other in cc)
    inner m other less (inr (inl inside)) = inside.1
    inner m other less (inr (inr behind)) = let w = data_within after (k + 1 + size below) m numbered.2 behind in absurd (omega (arith, w.0, less))

    later : (m : ℕ) → k + 1 + size below ≤ m → DataIn m (node n below after) → DataIn m after
    later m from (inl same) = absurd (omega (arith, same.1, numbered.0, from))
    later m from (inr (inl inside)) = let w = data_within below (k + 1) m numbered.1 inside.1 in absurd (omega (arith, w.1, from))
    later m from (inr (inr behind)) = behind
