-- The first member of an object that is no child's, names that are found, and what is said of bytes by the value that they
-- have.
use Rattle.std.proofs.Common.{◌≡◌, ℕ, true, false, cond, Result, IfOk, List, [], Option, Some, None, is_some, sym, ap, ap₂, ◌∙◌, subst}
use Rattle.std.specs.Prelude.{String, option_map, string_bytes}
use Rattle.std.specs.Option.{option_map_or}
use Rattle.std.specs.declared.alloc.Global.{Global}
use Rattle.serde_json.specs.Data.{Data, Members, member}
use Rattle.yspec.specs.Forest.{first_of}
use Rattle.yspec.specs.text.Text.{Text}
use Rattle.yspec.specs.schema.Schema.{Schema, SchemaNode, child_written}
use Rattle.yspec.specs.document.Reading.{Refusal, json_of}
use Rattle.ysay_refusal.specs.Member.{strange_in}
use Rattle.ysay_refusal.specs.NoJson.{said_of_no_json}
use Rattle.ysay_refusal.specs.Sentence.{said_of_value, said_of_refusal}

module _ (s : Schema) (p : Option ℕ) (name asked : Text) (d : Data) (before after : Members) (whole : Option Text) (is : before ≡ member name d after)
    (same : asked ≡ name) (so : strange_in s p before ≡ whole) where
  judged : (o : Option ℕ) → o ≡ child_written s p asked → cond (is_some o) (strange_in s p after) (Some name) ≡ whole
  judged o found = ap (λ (c : Option ℕ). cond (is_some c) (strange_in s p after) (Some name)) (found ∙ ap (child_written s p) same)
      ∙ (sym (ap (strange_in s p) is) ∙ so)

  pub known_passed : (o : Option ℕ) → o ≡ child_written s p asked → is_some o ≡ true → strange_in s p after ≡ whole
  known_passed o found stands = sym (ap (λ b. cond b (strange_in s p after) (Some name)) stands) ∙ judged o found

  pub strange_found : (o : Option ℕ) → o ≡ child_written s p asked → is_some o ≡ false → Some asked ≡ whole
  strange_found o found gone = ap Some same ∙ (sym (ap (λ b. cond b (strange_in s p after) (Some name)) gone) ∙ judged o found)

-- ---- names

-- what is found among the nodes that may stand below a node
pub as_below : {E : Type 0} (r : Result (Option (String Global)) E) (told : Option ℕ → List SchemaNode → Option Text) (m own : Option ℕ) (nodes all : List SchemaNode)
    → m ≡ own → nodes ≡ all → IfOk r (λ found. option_map string_bytes found ≡ told m nodes) → IfOk r (λ found. option_map string_bytes found ≡ told own all)
as_below r told m own nodes all same there found =
    subst (λ (o : Option Text). IfOk r (λ x. option_map string_bytes x ≡ o)) (ap₂ told same there) found

-- what is found where nothing was before
pub told_behind : {E : Type 0} (r : Result (Option (String Global)) E) (first other : Option Text) → first ≡ None
    → IfOk r (λ found. option_map string_bytes found ≡ other) → IfOk r (λ found. option_map string_bytes found ≡ first_of first other)
told_behind r first other none found =
    subst (λ (o : Option Text). IfOk r (λ x. option_map string_bytes x ≡ first_of o other)) (sym none) found

-- ---- bytes

pub of_json : {E : Type 0} (r : Result (String Global) E) (s : Schema) (bytes : List ℕ) (refusal : Refusal) (d : Data) → json_of bytes ≡ Some d
    → IfOk r (λ text. string_bytes text ≡ said_of_value s refusal.code refusal.place d) → IfOk r (λ text. string_bytes text ≡ said_of_refusal s bytes refusal)
unfolding said_of_refusal
of_json r s bytes refusal d is said = subst (λ (t : Text). IfOk r (λ text. string_bytes text ≡ t))
    (sym (ap (λ (o : Option Data). option_map_or (said_of_value s refusal.code refusal.place) o (said_of_no_json bytes)) is)) said

pub of_no_json : (s : Schema) (bytes : List ℕ) (refusal : Refusal) → json_of bytes ≡ None → said_of_no_json bytes ≡ said_of_refusal s bytes refusal
unfolding said_of_refusal
of_no_json s bytes refusal is = sym (ap (λ (o : Option Data). option_map_or (said_of_value s refusal.code refusal.place) o (said_of_no_json bytes)) is)
