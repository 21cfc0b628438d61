-- What is held of any value whose numbers are whole is its text, and what is written for that text is the value.
use Rattle.std.proofs.Common.{◌≡◌, ◌≤◌, arith, Bool, true, false, cond, not, ◌&&◌, ◌||◌, nat_le, Option, Some, None, option_and_then, refl, ap, ◌∙◌, subst}
use Rattle.std.proofs.lemmas.Bool.{leb-true}
use Rattle.std.specs.Prelude.{unwrap_or}
use Rattle.serde_json.specs.Data.{Num, unsigned, negative, float, Data, null, boolean, number, string, array, object, Items, no_items, item, Members, no_members, member, depth}
use Rattle.serde_json.specs.Find.{is_float}
use Rattle.serde_json.specs.Read.{max_depth}
use Rattle.serde_json.specs.Written.{has_float, items_have_float, members_have_float, compact_text}
use Rattle.yspec.specs.types.Types.{Raw, text, int, bool, empty}
use Rattle.yspec.specs.schema.Schema.{any_value, any_object}
use Rattle.yspec.specs.document.Reading.{json_of, nesting_limit, is_kept, whole_raw, is_object, raw_by}
use Rattle.yspec.specs.document.Writing.{if_kept, whole_data, HasText}
use Rattle.yspec.proofs.DocumentProofs.ExactLemmas.{IsWhole, IsExact, ItemsAreExact, AreExact, exact_alone}
use Rattle.yspec.proofs.DocumentProofs.JsonValueLemmas.{IsOf64, IsRead, ItemsAreRead, MembersAreRead, json_is_read}

-- ---- values without fractions

first_none : (a b : Bool) → (a || b) ≡ false → a ≡ false
first_none true b h = absurd cc
first_none false b h = refl

later_none : (a b : Bool) → (a || b) ≡ false → b ≡ false
later_none true b h = absurd cc
later_none false b h = h

number_exact : (n : Num) → IsOf64 n → is_float n ≡ false → IsWhole n
number_exact (unsigned n) read none = read
number_exact (negative z) read none = read
number_exact (float x) read none = absurd cc

mutual
  pub exact_of : (d : Data) → IsRead d → has_float d ≡ false → IsExact d
  exact_of null read none = tt
  exact_of (boolean b) read none = tt
  exact_of (number n) read none = number_exact n read none
  exact_of (string s) read none = read
  exact_of (array ds) read none = items_exact ds read none
  exact_of (object ms) read none = members_exact ms read none

  items_exact : (ds : Items) → ItemsAreRead ds → items_have_float ds ≡ false → ItemsAreExact ds
  items_exact no_items read none = tt
  items_exact (item d ds) read none =
      (exact_of d read.0 (first_none (has_float d) (items_have_float ds) none), items_exact ds read.1 (later_none (has_float d) (items_have_float ds) none))

  members_exact : (ms : Members) → MembersAreRead ms → members_have_float ms ≡ false → AreExact ms
  members_exact no_members read none = tt
  members_exact (member name d ms) read none = (
    read.0,
    exact_of d read.1 (first_none (has_float d) (members_have_float ms) none),
    read.2,
    members_exact ms read.3 (later_none (has_float d) (members_have_float ms) none),
  )

-- ---- what is held of them

-- as it is read, and not too deep
abbrev pub IsGood : Data → Type 0
IsGood d = IsRead d × (depth d ≤ max_depth)

-- without fractions, and nested no deeper than may be
pub kept_parts : (d : Data) → is_kept d ≡ true → (has_float d ≡ false) × (depth d ≤ nesting_limit)
kept_parts d is = by (has_float d) refl is
  where
    by : (b : Bool) → has_float d ≡ b → (not b && nat_le (depth d) nesting_limit) ≡ true → (has_float d ≡ false) × (depth d ≤ nesting_limit)
    by true has is = let no : ⊥ = cc in absurd no
    by false has is = (has, leb-true (depth d) nesting_limit is)

whole_back : (d : Data) → IsGood d → is_kept d ≡ true → whole_data (text (compact_text d)) ≡ d
whole_back d good is =
    ap (λ o. unwrap_or (option_and_then if_kept o) null) (exact_alone d (exact_of d good.0 (kept_parts d is).0) good.1)
    ∙ ap (λ b. unwrap_or (cond b (Some d) None) null) is

whole_has_text : (d : Data) (raw : Raw) (b : Bool) → IsGood d → is_kept d ≡ b → cond b (Some (text (compact_text d))) None ≡ Some raw → whole_data raw ≡ d
whole_has_text d raw true good is held = let same : text (compact_text d) ≡ raw = cc in subst (λ r. whole_data r ≡ d) same (whole_back d good is)
whole_has_text d raw false good is held = let no : ⊥ = cc in absurd no

pub any_has_text : (d : Data) (raw : Raw) → IsGood d → raw_by any_value d ≡ Some raw → HasText any_value (Some raw)
any_has_text d raw good held = ap (raw_by any_value) (whole_has_text d raw (is_kept d) good refl held) ∙ held

pub object_has_text : (d : Data) (raw : Raw) → IsGood d → raw_by any_object d ≡ Some raw → HasText any_object (Some raw)
object_has_text d raw good held = ap (raw_by any_object) (by (is_object d) held) ∙ held
  where
    by : (b : Bool) → cond b (whole_raw d) None ≡ Some raw → whole_data raw ≡ d
    by true held = whole_has_text d raw (is_kept d) good refl held
    by false held = let no : ⊥ = cc in absurd no

-- ---- what is written for texts

module _ (P : Data → Type 0) (none : P null) (kept : (d : Data) → is_kept d ≡ true → P d) where
  if_kept_is : (d : Data) (b : Bool) → is_kept d ≡ b → P (unwrap_or (cond b (Some d) None) null)
  if_kept_is d true is = kept d is
  if_kept_is d false is = none

  found_is : (o : Option Data) → P (unwrap_or (option_and_then if_kept o) null)
  found_is None = none
  found_is (Some d) = if_kept_is d (is_kept d) refl

  -- whatever holds of what is kept holds of all that is written for texts
  written_is : (raw : Raw) → P (whole_data raw)
  written_is (text t) = found_is (json_of t)
  written_is (int z) = none
  written_is (bool b) = none
  written_is empty = none

pub data_whole : (raw : Raw) → has_float (whole_data raw) ≡ false
data_whole raw = written_is (λ d. has_float d ≡ false) refl (λ d is. (kept_parts d is).0) raw

pub data_shallow : (raw : Raw) → depth (whole_data raw) ≤ nesting_limit
data_shallow raw = written_is (λ d. depth d ≤ nesting_limit) (omega arith) (λ d is. (kept_parts d is).1) raw

data_found : (o : Option Data) → ((d : Data) → o ≡ Some d → IsRead d) → IsExact (unwrap_or (option_and_then if_kept o) null)
data_found None read = tt
data_found (Some d) read = by (is_kept d) refl
  where
    by : (b : Bool) → is_kept d ≡ b → IsExact (unwrap_or (cond b (Some d) None) null)
    by true is = exact_of d (read d refl) (kept_parts d is).0
    by false is = tt

pub data_exact : (raw : Raw) → IsExact (whole_data raw)
data_exact (text t) = data_found (json_of t) (json_is_read t)
data_exact (int z) = tt
data_exact (bool b) = tt
data_exact empty = tt
