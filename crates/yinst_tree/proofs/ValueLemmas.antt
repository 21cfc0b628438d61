-- Arrays that hold no leaf's value, and what is kept of a value.
use Rattle.std.proofs.Common.{◌≡◌, ◌≤◌, ℕ, Bool, true, false, not, cond, List, [], ◌∷◌, Option, Some, None, is_some, option_and_then, unwrap_or, length, refl, sym, ap, ◌∙◌, arith, rules}
use Rattle.std.specs.Prelude.{◌&&◌, nat_le}
use Rattle.std.specs.Option.{option_map_or}
use Rattle.std.specs.Str.{IsUtf8}
use Rattle.serde_json.specs.Data.{Data, null, boolean, number, string, array, object, Items, no_items, item, depth}
use Rattle.serde_json.specs.Read.{read}
use Rattle.serde_json.specs.Written.{has_float, compact_text}
use Rattle.serde_json.specs.View.{view, items_view}
use Rattle.serde_json.specs.declared.value.Value.{Value, Null, Array, the_lemmas}
use Rattle.yspec.specs.schema.Schema.{any_object}
use Rattle.yspec.specs.types.Types.{Raw, text}
use Rattle.yspec.specs.document.Reading.{raw_array, items_of, nesting_limit, whole_raw, is_object, raw_of, raw_by}
use Rattle.yspec.specs.document.Writing.{if_kept, whole_data}
use Rattle.yspec.proofs.DocumentProofs.JsonLemmas.{json_found, no_json}
use Rattle.yinst_tree.specs.Told.{refusal_by, whole_refusal}

two_items : (d e : Data) (ds : Items) → false ≡ is_some (raw_array (item d (item e ds)))
two_items null e ds = refl
two_items (boolean b) e ds = refl
two_items (number x) e ds = refl
two_items (string s) e ds = refl
two_items (array es) e ds = refl
two_items (object ms) e ds = refl

pub several_items : (vs : List Value) → 2 ≤ length vs → false ≡ is_some (raw_array (items_view vs))
several_items [] h = absurd (omega arith)
several_items (v ∷ []) h = absurd (omega arith)
several_items (v ∷ w ∷ vs) h = two_items (view v) (view w) (items_view vs)

-- what is no array has no items
pub not_array : (v : Value) → ((x : _) → v ≡ Array x → ⊥) → items_of (view v) ≡ no_items
not_array v h = search (rules, the_lemmas)

-- ---- what is kept of a value

pub view-Null : view Null ≡ null
view-Null = search (rules, the_lemmas)

whole_refusal_is : (d : Data) → whole_refusal d ≡ cond (has_float d) (Some 6) (cond (nat_le (depth d) nesting_limit) None (Some 5))
whole_refusal_is d = by (has_float d) (nat_le (depth d) nesting_limit)
  where
    none : Raw → Option ℕ
    none raw = None

    by : (float within : Bool) → option_map_or none (cond (not float && within) (Some (text (compact_text d))) None) (Some (cond float 6 5))
        ≡ cond float (Some 6) (cond within None (Some 5))
    by true within = refl
    by false true = refl
    by false false = refl

-- one with a fraction, one that is kept, and one that is too deep
pub float_refused : (d : Data) → has_float d ≡ true → Some 6 ≡ whole_refusal d
float_refused d float = sym (whole_refusal_is d ∙ ap (λ b. cond b (Some 6) (cond (nat_le (depth d) nesting_limit) None (Some 5))) float)

pub none_refused : (d : Data) (within : Bool) → has_float d ≡ false → nat_le (depth d) nesting_limit ≡ within → cond within None (Some 5) ≡ whole_refusal d
none_refused d within float is =
    sym (whole_refusal_is d ∙ (ap (λ b. cond b (Some 6) (cond (nat_le (depth d) nesting_limit) None (Some 5))) float ∙ ap (λ b. cond b None (Some 5)) is))

-- where an object is due, one, and what is none
pub object_refused : (d : Data) → is_object d ≡ true → whole_refusal d ≡ refusal_by any_object d
object_refused d is = ap (λ b. option_map_or none (cond b (whole_raw d) None) (Some (cond (b && has_float d) 6 5))) (sym is)
  where
    none : Raw → Option ℕ
    none raw = None

pub other_refused : (d : Data) → is_object d ≡ false → Some 5 ≡ refusal_by any_object d
other_refused d is = ap (λ b. option_map_or none (cond b (whole_raw d) None) (Some (cond (b && has_float d) 6 5))) (sym is)
  where
    none : Raw → Option ℕ
    none raw = None

-- what is held of it
pub object_held : (d : Data) → is_object d ≡ true → whole_raw d ≡ raw_by any_object d
object_held d is = ap (λ b. cond b (whole_raw d) None) (sym is)

-- no type has objects
pub object_of_type : (d : Data) → is_object d ≡ true → None ≡ raw_of d
object_of_type null is = absurd cc
object_of_type (boolean b) is = absurd cc
object_of_type (number n) is = absurd cc
object_of_type (string s) is = absurd cc
object_of_type (array ds) is = absurd cc
object_of_type (object ms) is = refl

-- what is written for it
pub text_value : (bytes : List ℕ) (d e : Data) → IsUtf8 bytes → read bytes ≡ Some d → e ≡ unwrap_or (if_kept d) null → e ≡ whole_data (text bytes)
text_value bytes d e utf8 is so = so ∙ sym (ap (λ o. unwrap_or (option_and_then if_kept o) null) (json_found bytes d utf8 is))

pub no_value : (bytes : List ℕ) → read bytes ≡ None → null ≡ whole_data (text bytes)
no_value bytes is = sym (ap (λ o. unwrap_or (option_and_then if_kept o) null) (no_json bytes (λ utf8. is)))
