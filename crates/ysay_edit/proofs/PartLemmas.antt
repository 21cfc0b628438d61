-- What is said of a text by the JSON value that it has.
use Rattle.std.proofs.Common.{◌≡◌, ℕ, Result, IfOk, [], Option, Some, None, sym, ap, ◌∙◌, subst}
use Rattle.std.specs.Prelude.{String, string_bytes}
use Rattle.std.specs.Option.{option_map_or}
use Rattle.std.specs.declared.alloc.Global.{Global}
use Rattle.serde_json.specs.Data.{Data}
use Rattle.yspec.specs.text.Text.{Text}
use Rattle.yspec.specs.schema.Schema.{Schema}
use Rattle.yspec.specs.document.Reading.{json_of}
use Rattle.ysay_edit.specs.Part.{of_text, of_value}

read_so : (s : Schema) (number : ℕ) (text bytes : Text) (o : Option Data) → bytes ≡ text → json_of bytes ≡ o
    → option_map_or (of_value s number) o [] ≡ of_text s number text
read_so s number text bytes o same is = sym (ap (λ (x : Option Data). option_map_or (of_value s number) x []) is) ∙ ap (of_text s number) same

pub of_json_text : {E : Type 0} (r : Result (String Global) E) (s : Schema) (number : ℕ) (text bytes : Text) (d : Data) → bytes ≡ text
    → json_of bytes ≡ Some d → IfOk r (λ said. string_bytes said ≡ of_value s number d) → IfOk r (λ said. string_bytes said ≡ of_text s number text)
of_json_text r s number text bytes d same is said =
    subst (λ (t : Text). IfOk r (λ x. string_bytes x ≡ t)) (read_so s number text bytes (Some d) same is) said

pub of_no_json_text : (s : Schema) (number : ℕ) (text bytes : Text) → bytes ≡ text → json_of bytes ≡ None → [] ≡ of_text s number text
of_no_json_text s number text bytes same is = read_so s number text bytes None same is
