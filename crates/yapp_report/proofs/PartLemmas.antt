-- The parts of what is printed, each with its end.
use Rattle.std.proofs.Common.{◌≡◌, codes, ℕ, Bool, true, false, List, [], ◌∷◌, ◌++◌, ap, sym, ◌∙◌, refl, append_assoc}
use Rattle.std.proofs.lemmas.List.{append-nil}
use Rattle.yspec_run.specs.Part.{Part, plain, spelled, spelled_part}
use Rattle.std.specs.Prelude.{Option, Some, None, decimal, option_map}
use Rattle.std.specs.Option.{option_map_or}
use Rattle.yspec_run.specs.Script.{code_text, telling_code}
use Rattle.yspec.specs.text.Text.{Text}
use Rattle.yspec_run.specs.Lines.{jumping, script_spot}
use Rattle.yapp_report.specs.EditedView.{line_front}
use Rattle.yapp_script.specs.Asked.{refusal_of, refused_part, value_number}
use Rattle.yapp_script.specs.declared.script.RefusedLine.{RefusedLine}
use Rattle.yapp_script.specs.declared.script.Refusal.{Refusal}
use Rattle.yapp_script.specs.declared.script.ValueCode.{ValueCode}

-- the line of a document's refusal: up to its path, and from there on
pub refusal_parts : (name number path : List ℕ)
    → (name ++ (codes ": " ++ ((codes "J" ++ number) ++ (codes " " ++ path)))) ++ codes "\n"
    ≡ (name ++ (codes ": J" ++ (number ++ codes " "))) ++ (path ++ codes "\n")
refusal_parts name number path =
    append_assoc name (codes ": " ++ ((codes "J" ++ number) ++ (codes " " ++ path))) (codes "\n")
    ∙ (ap (λ (xs : List ℕ). name ++ (codes ": J" ++ xs))
    (append_assoc number (codes " " ++ path) (codes "\n") ∙ sym (append_assoc number (codes " ") (path ++ codes "\n")))
    ∙ sym (append_assoc name (codes ": J" ++ (number ++ codes " ")) (path ++ codes "\n")))

-- a part alone
pub one_part : (with_reasons : Bool) (p : Part) → spelled_part with_reasons p ≡ spelled with_reasons (p ∷ [])
one_part with_reasons p = sym (append-nil (spelled_part with_reasons p))

-- of which nothing is said
pub one_plain : (with_reasons : Bool) (t : List ℕ) → t ≡ spelled with_reasons (plain t ∷ [])
one_plain true t = sym (append-nil (t ++ []) ∙ append-nil t)
one_plain false t = sym (append-nil (t ++ []) ∙ append-nil t)

pub parts_behind : (with_reasons : Bool) (xs ys : List Part) → spelled with_reasons (xs ++ ys) ≡ spelled with_reasons xs ++ spelled with_reasons ys
parts_behind with_reasons [] ys = refl
parts_behind with_reasons (x ∷ xs) ys = ap (λ t. spelled_part with_reasons x ++ t) (parts_behind with_reasons xs ys)
    ∙ sym (append_assoc (spelled_part with_reasons x) (spelled with_reasons xs) (spelled with_reasons ys))

-- a front by the texts that spell it
pub front_of : (name number column : List ℕ) (n : ℕ) (script : Text) → name ≡ script → number ≡ decimal n → column ≡ decimal 1
    → name ++ (codes ":" ++ (number ++ (codes ":" ++ (column ++ (codes ": error: " ++ []))))) ≡ line_front (Some script) n
front_of name number column n script same counted one = ap (λ (t : List ℕ). name ++ (codes ":" ++ (number ++ (codes ":" ++ (column ++ t))))) (append-nil (codes ": error: "))
    ∙ (ap (λ (t : List ℕ). t ++ (codes ":" ++ (number ++ (codes ":" ++ (column ++ codes ": error: "))))) same
    ∙ (ap (λ (t : List ℕ). script ++ (codes ":" ++ (t ++ (codes ":" ++ (column ++ codes ": error: "))))) counted
    ∙ ap (λ (t : List ℕ). script ++ (codes ":" ++ (decimal n ++ (codes ":" ++ (t ++ codes ": error: "))))) one))

-- the line of a refused line of a script: its front, and its code
pub coded_line : (script : Option Text) (line : RefusedLine)
    → line_front script line.number ++ (code_text (refusal_of line.refusal) ++ codes "\n") ≡ (jumping (script_spot script) (refused_part line)).text
coded_line None line =
    let code = code_text (refusal_of line.refusal) in
    append_assoc (codes "line ") (decimal line.number ++ codes ": ") (code ++ codes "\n")
    ∙ (ap (λ (t : List ℕ). codes "line " ++ t) (append_assoc (decimal line.number) (codes ": ") (code ++ codes "\n")
    ∙ sym (append_assoc (decimal line.number) (codes ": " ++ code) (codes "\n"))))
coded_line (Some script) line = refl

pub told_of_value : (r : Refusal) (value : ValueCode) (n : ℕ) → r.value ≡ Some value → n ≡ value_number value
    → codes "J" ++ decimal n ≡ telling_code (refusal_of r)
told_of_value r value n is e =
    ap (λ (m : ℕ). codes "J" ++ decimal m) e
    ∙ sym (ap (λ (v : Option ValueCode). option_map_or (λ m. codes "J" ++ decimal m) (option_map value_number v) (codes "E" ++ decimal (refusal_of r).code)) is)

pub told_of_edit : (r : Refusal) (n : ℕ) → r.value ≡ None → n ≡ (refusal_of r).code
    → codes "E" ++ decimal n ≡ telling_code (refusal_of r)
told_of_edit r n is e =
    ap (λ (m : ℕ). codes "E" ++ decimal m) e
    ∙ sym (ap (λ (v : Option ValueCode). option_map_or (λ m. codes "J" ++ decimal m) (option_map value_number v) (codes "E" ++ decimal (refusal_of r).code)) is)
