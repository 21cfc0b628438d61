-- The text of a step, of a path and of a line, part by part.
use Rattle.std.proofs.Common.{◌≡◌, ◌<◌, ℕ, arith, List, [], ◌∷◌, ◌++◌, length, codes, decimal, Option, Some, refl, sym, ap, ◌∙◌, append_assoc, false}
use Rattle.std.proofs.lemmas.List.{append-nil}
use Rattle.std.specs.Prelude.{◌==◌, option_map, unwrap_or, None}
use Rattle.std.specs.Option.{option_map_or}
use Rattle.yspec.specs.schema.Schema.{Schema, SchemaNode, node_at, written_name}
use Rattle.yspec.specs.document.Document.{Step}
use Rattle.yspec.specs.document.FaultCode.{fault_number}
use Rattle.yspec.specs.document.Faults.{info_text, line_of, or_dash, printed_tag}
use Rattle.yspec.specs.document.Path.{path_from, path_text, position_text, step_text}
use Rattle.yspec.specs.text.Text.{Text}
use Rattle.yinst_tree.specs.View.{place_view}
use Rattle.yinst_tree.specs.declared.tree.Step as code
use Rattle.ycheck.specs.View.{code_view, lent_info_view, parts_view, tag_name}
use Rattle.ycheck.specs.declared.fault.FaultParts.{FaultParts}

pub named_step : (schema : Schema) (parent : Option ℕ) (step : Step) (n : SchemaNode) → Some n ≡ node_at schema step.schema_number
    → (codes "/" ++ written_name schema parent n) ++ position_text step.position ≡ step_text schema parent step
named_step schema parent step n is =
    ap (λ (found : Option SchemaNode). option_map_or (λ n. codes "/" ++ written_name schema parent n) found [] ++ position_text step.position) is

pub path_of_some : (schema : Schema) (steps : List code.Step) → false ≡ (length steps == 0) → path_from schema None (place_view steps) ≡ path_text schema (place_view steps)
path_of_some schema [] some = cc
path_of_some schema (step ∷ steps) some = refl

-- ---- lines

-- a numeral is some text
pub some_text : (t : Text) → 0 < length t → or_dash t ≡ t
some_text [] some = absurd (omega (arith, some))
some_text (x ∷ xs) some = refl

-- the first two words, each with its space
two_words : (number tag rest : Text) → number ++ (32 ∷ (tag ++ (32 ∷ rest))) ≡ ((number ++ 32 ∷ []) ++ ((tag ++ 32 ∷ []) ++ [])) ++ rest
two_words number tag rest = sym (append_assoc (number ++ 32 ∷ []) ((tag ++ 32 ∷ []) ++ []) rest
    ∙ append_assoc number (32 ∷ []) (((tag ++ 32 ∷ []) ++ []) ++ rest)
    ∙ ap (λ (xs : Text). number ++ (32 ∷ xs)) (ap (λ (xs : Text). xs ++ rest) (append-nil (tag ++ 32 ∷ [])) ∙ append_assoc tag (32 ∷ []) rest))

pub line_parts : (schema : Schema) (f : FaultParts) (code tag : Text) → code ≡ codes "V" ++ (decimal (fault_number (code_view f.code)) ++ codes " ")
    → tag ≡ tag_name f.tag ++ codes " " → line_of schema (parts_view f)
    ≡ (code ++ (tag ++ [])) ++ (or_dash (printed_tag (unwrap_or (option_map (λ t. t.now) f.app_tag) []))
    ++ ((codes " " ++ []) ++ (path_text schema (place_view f.steps.now) ++ ((codes " " ++ []) ++ (or_dash (info_text (lent_info_view f.info)) ++ (codes "\n" ++ []))))))
line_parts schema f code tag code_is tag_is =
    let rest : Text = or_dash (printed_tag (unwrap_or (option_map (λ t. t.now) f.app_tag) []))
    ++ ((codes " " ++ []) ++ (path_text schema (place_view f.steps.now) ++ ((codes " " ++ []) ++ (or_dash (info_text (lent_info_view f.info)) ++ (codes "\n" ++ []))))) in
    let head : Text → Text → Text = λ code tag. (code ++ (tag ++ [])) ++ rest in
    ap (λ (xs : Text). 86 ∷ xs) (two_words (decimal (fault_number (code_view f.code))) (tag_name f.tag) rest)
    ∙ ap (λ (xs : Text). head xs (tag_name f.tag ++ codes " ")) (sym code_is) ∙ ap (head code) (sym tag_is)
