-- What is said of the last step to a place.
use Rattle.std.proofs.Common.{◌≡◌, List, [], ◌∷◌, ◌++◌, Option, String, Result, IfOk, refl, sym, ap, ap₂, ◌∙◌, subst, codes, option_and_then, option_map, string_bytes}
use Rattle.std.proofs.lemmas.List.{append-nil}
use Rattle.std.specs.Global.{Global}
use Rattle.std.specs.Option.{option_map_or}
use Rattle.yspec.specs.text.Text.{Text}
use Rattle.yspec.specs.schema.Schema.{Schema}
use Rattle.yspec.specs.document.Document.{Tree, Step}
use Rattle.yspec.specs.document.Fault.{Info}
use Rattle.yspec.specs.document.FaultCode.{V1}
use Rattle.yinst_tree.specs.View.{place_view, step_view}
use Rattle.yinst_tree.specs.declared.tree.Step as code
use Rattle.ycheck.specs.View.{code_view}
use Rattle.ycheck.specs.declared.fault.FaultCode.{FaultCode}
use Rattle.ycheck.specs.declared.fault.FaultCode.TheVariants as words
use Rattle.ysay_place.specs.Places.{row_at, steps_above}
use Rattle.ysay_fault.specs.Sentences.{plain_sentence, sentence_at, sentence_to, message_to, own_message}
use Rattle.ysay_place.proofs.PlaceLemmas.{last_seen, above_seen}

module _ (schema : Schema) (tree row : Tree) (info : Info) (steps above : List code.Step) (step : code.Step) (k v : FaultCode)
    (parted : steps ≡ above ++ step ∷ []) (row_is : row ≡ row_at tree (place_view above)) (code_is : k ≡ v) where
  said_at : sentence_at schema tree row (place_view above) info (code_view v) (step_view step)
      ≡ sentence_to schema tree (place_view steps) info (code_view k)
  said_at = ap (λ r. sentence_at schema tree r (place_view above) info (code_view v) (step_view step)) row_is
      ∙ (ap (λ c. sentence_at schema tree (row_at tree (place_view above)) (place_view above) info (code_view c) (step_view step)) (sym code_is)
      ∙ (ap (λ (xs : List Step). sentence_at schema tree (row_at tree xs) xs info (code_view k) (step_view step)) (sym (above_seen steps above step parted))
      ∙ ap (λ o. option_map_or (sentence_at schema tree (row_at tree (steps_above (place_view steps))) (steps_above (place_view steps)) info (code_view k)) o [])
      (sym (last_seen steps above step parted))))

  pub said_of_last : {E : Type 0} → (r : Result (String Global) E)
      → IfOk r (λ text. string_bytes text ≡ sentence_at schema tree row (place_view above) info (code_view v) (step_view step))
      → IfOk r (λ text. string_bytes text ≡ sentence_to schema tree (place_view steps) info (code_view k))
  said_of_last r said = subst (λ (t : Text). IfOk r (λ text. string_bytes text ≡ t)) said_at said

module _ (schema : Schema) (tree row : Tree) (steps above : List code.Step) (step : code.Step)
    (parted : steps ≡ above ++ step ∷ []) (row_is : row ≡ row_at tree (place_view above)) where
  own_at : message_to schema row (step_view step) ≡ own_message schema tree (place_view steps) V1
  own_at = ap (λ r. message_to schema r (step_view step)) row_is
      ∙ (ap (λ (xs : List Step). message_to schema (row_at tree xs) (step_view step)) (sym (above_seen steps above step parted))
      ∙ ap (λ (o : Option Step). option_and_then (message_to schema (row_at tree (steps_above (place_view steps)))) o)
      (sym (last_seen steps above step parted)))

  pub own_of_last : {E : Type 0} → (r : Result (Option (String Global)) E)
      → IfOk r (λ message. option_map string_bytes message ≡ message_to schema row (step_view step))
      → IfOk r (λ message. option_map string_bytes message ≡ own_message schema tree (place_view steps) V1)
  own_of_last r said = subst (λ (t : Option Text). IfOk r (λ message. option_map string_bytes message ≡ t)) own_at said

-- ---- of all codes but those of choices

module _ (schema : Schema) (tree : Tree) (info : Info) (steps : List Step) where
  pub said_of_others : (k : FaultCode) → (k ≡ words.V4 → ⊥) → (k ≡ words.V5 → ⊥)
      → sentence_to schema tree steps info (code_view k) ≡ plain_sentence schema tree steps info (code_view k)
  said_of_others words.V1 not_four not_five = refl
  said_of_others words.V2 not_four not_five = refl
  said_of_others words.V3 not_four not_five = refl
  said_of_others words.V4 not_four not_five = absurd (not_four refl)
  said_of_others words.V5 not_four not_five = absurd (not_five refl)
  said_of_others words.V6 not_four not_five = refl
  said_of_others words.V7 not_four not_five = refl
  said_of_others words.V8 not_four not_five = refl
  said_of_others words.V9 not_four not_five = refl
  said_of_others words.V10 not_four not_five = refl
  said_of_others words.V11 not_four not_five = refl
  said_of_others words.V12 not_four not_five = refl

-- that a text is said, of another one that is the same
pub said_as : {E : Type 0} → (r : Result (String Global) E) (t other : Text) → t ≡ other
    → IfOk r (λ text. string_bytes text ≡ t) → IfOk r (λ text. string_bytes text ≡ other)
said_as r t other same said = subst (λ (x : Text). IfOk r (λ text. string_bytes text ≡ x)) same said

-- ---- of a value that isn't taken

pub isnt_taken : (v value n name t taken h hint : Text) → v ≡ value → n ≡ name → t ≡ taken → h ≡ hint
    → v ++ (codes " isn't a value of " ++ (n ++ (codes ": it takes " ++ (t ++ (h ++ [])))))
    ≡ value ++ (codes " isn't a value of " ++ (name ++ (codes ": it takes " ++ (taken ++ hint))))
isnt_taken v value n name t taken h hint of_value of_name of_taken of_hint =
    ap₂ (λ (x rest : Text). x ++ (codes " isn't a value of " ++ rest)) of_value
    (ap₂ (λ (x rest : Text). x ++ (codes ": it takes " ++ rest)) of_name (ap₂ (λ (x rest : Text). x ++ rest) of_taken (append-nil h ∙ of_hint)))
