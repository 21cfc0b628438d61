-- What is told by lines, part by part.
use Rattle.std.proofs.Common.{◌≡◌, ℕ, Bool, true, false, List, [], ◌∷◌, ◌++◌, Option, Some, None, String, Global, map, option_map, string_bytes, codes, decimal, length, refl, sym, ap, ap₂, ◌∙◌, append_assoc, arith}
use Rattle.std.specs.Prelude.{is_some, unwrap_or}
use Rattle.std.specs.Option.{option_map_or}
use Rattle.std.specs.List.{flat_map}
use Rattle.std.proofs.lemmas.List.{append-nil}
use Rattle.yspec.specs.text.Text.{Text}
use Rattle.yspec.specs.schema.Schema.{Schema}
use Rattle.yspec.specs.document.Document.{Tree}
use Rattle.yspec.specs.document.Fault.{Fault}
use Rattle.ysay_jumps.specs.Jumps.{fault_jumps, jumps_text}
use Rattle.yspec_run.specs.Lines.{Jump, contents_named, found_spot, jump_line, jump_lines, jumping, jumping_outcome, jumping_output, reworded_outcome, told_at}
use Rattle.yspec_run.specs.Output.{Outcome, Request, explain, compile, draw, draw_all, validate, edit, Options, fault_part, files_of, report}
use Rattle.yspec_run.specs.Part.{Part, Spot, count_part, plain, reworded}
use Rattle.yspec_wide.specs.Language.{Language}
use Rattle.yschema_model.specs.View as schema_view
use Rattle.yinst_tree.specs.View.{tree_view}
use Rattle.ycheck.specs.View.{views}
use Rattle.yapp_report.specs.EditedView.{scripted_parts}
use Rattle.yapp_report.specs.Failing.{reported, unsaid}
use Rattle.yapp_report.specs.declared.report.DocumentReport.{DocumentReport}
use Rattle.yapp_report.specs.declared.report.Report.TheVariants.{Document}
use Rattle.yapp_script.specs.declared.script.RefusedLine.{RefusedLine}

-- ---- outcomes that tell one line

no_output : (request : Request) (found : Spot → Option Jump) → jumping_output request found [] ≡ []
no_output (explain names) found = refl
no_output (compile language names) found = refl
no_output (draw language name names) found = refl
no_output (draw_all language names) found = refl
no_output (validate language options document names) found = refl
no_output (edit language options document script names) found = refl

-- one whose spot is somewhere, in whatever words
pub told_line : (request : Request) (found : Spot → Option Jump) (o : Outcome) (p : Part) (old : Option (List ℕ)) (line : List ℕ)
    → o.output ≡ [] → o.errors ≡ p ∷ [] → told_at found p ≡ Some line
    → jumping_outcome request found (reworded_outcome old o) ≡ reworded_outcome (Some line) o
told_line request found o p old line none one told =
    ap₂ (λ (output errors : List Part). record o { output = output; errors = errors })
    (ap (jumping_output request found) none ∙ (no_output request found ∙ sym none))
    (ap (λ (parts : List Part). map (jumping found) (map (reworded old) parts)) one
    ∙ (ap (λ (l : Option (List ℕ)). record p { text = unwrap_or l (unwrap_or old p.text) } ∷ []) told
    ∙ ap (map (reworded (Some line))) (sym one)))

-- one whose spot is nowhere
pub same_line : (request : Request) (found : Spot → Option Jump) (o : Outcome) (p : Part) → o.output ≡ [] → o.errors ≡ p ∷ [] → told_at found p ≡ None
    → jumping_outcome request found o ≡ o
same_line request found o p none one told =
    ap₂ (λ (output errors : List Part). record o { output = output; errors = errors })
    (ap (jumping_output request found) none ∙ (no_output request found ∙ sym none))
    (ap (map (jumping found)) one ∙ (ap (λ (l : Option (List ℕ)). record p { text = unwrap_or l p.text } ∷ []) told ∙ sym one))

-- ---- the faults of a document

fault_lines : (found : Spot → Option Jump) (file : Text) (bytes : List ℕ) (s : Schema) (t : Tree) (faults : List Fault) (behind : List Part)
    → ((f : Fault) → jump_line found (fault_part s t f) ≡ fault_jumps file bytes s t (f ∷ []))
    → flat_map (jump_line found) (map (fault_part s t) faults ++ behind) ≡ fault_jumps file bytes s t faults ++ flat_map (jump_line found) behind
fault_lines found file bytes s t [] behind each = refl
fault_lines found file bytes s t (f ∷ faults) behind each =
    ap₂ (λ (xs ys : List ℕ). xs ++ ys) (each f ∙ append-nil _) (fault_lines found file bytes s t faults behind each)
    ∙ sym (append_assoc _ (fault_jumps file bytes s t faults) (flat_map (jump_line found) behind))

as_one : (found : Spot → Option Jump) (s : Schema) (t : Tree) (faults : List Fault)
    → jump_lines found (report s t faults) ≡ plain (flat_map (jump_line found) (report s t faults)) ∷ []
as_one found s t [] = refl
as_one found s t (f ∷ faults) = refl

-- a text of them is what they come to
pub report_lines : (found : Spot → Option Jump) (file : Text) (bytes : List ℕ) (s : Schema) (t : Tree) (faults : List Fault) (text : List ℕ)
    → ((f : Fault) → jump_line found (fault_part s t f) ≡ fault_jumps file bytes s t (f ∷ []))
    → jump_line found (count_part (length faults)) ≡ decimal (length faults) ++ codes " faults\n"
    → text ≡ jumps_text file bytes s t faults
    → plain (text ++ codes "\n") ∷ [] ≡ jump_lines found (report s t faults)
report_lines found file bytes s t faults text each count is = sym (as_one found s t faults
    ∙ ap (λ (xs : List ℕ). plain xs ∷ []) (fault_lines found file bytes s t faults (count_part (length faults) ∷ []) each
    ∙ (ap (λ (xs : List ℕ). fault_jumps file bytes s t faults ++ xs) (append-nil _ ∙ (count ∙ sym (append_assoc (decimal (length faults)) (codes " faults") (codes "\n"))))
    ∙ (sym (append_assoc (fault_jumps file bytes s t faults) (decimal (length faults) ++ codes " faults") (codes "\n"))
    ∙ ap (λ (xs : List ℕ). xs ++ codes "\n") (sym is)))))

-- a text in their place stays
pub text_stays : (found : Spot → Option Jump) (text : List ℕ) → told_at found (plain text) ≡ None
    → plain text ∷ [] ≡ jump_lines found (plain text ∷ [])
text_stays found text none = ap (λ (xs : List ℕ). plain xs ∷ [])
    (sym (append-nil _ ∙ (ap (λ (l : Option (List ℕ)). unwrap_or l (text ++ [])) none ∙ append-nil text)))

-- lines of a script, where no script is told
pub unscripted : (found : Spot → Option Jump) (script : Option Text) (lines : List RefusedLine)
    → ((line : RefusedLine) → scripted_parts script (line ∷ []) ≡ map (jumping found) (scripted_parts script (line ∷ [])))
    → scripted_parts script lines ≡ map (jumping found) (scripted_parts script lines)
unscripted found script [] each = refl
unscripted found script (line ∷ lines) each = ap₂ (λ (xs ys : List Part). xs ++ ys) (each line) (unscripted found script lines each)

-- ---- files

-- of none there are no contents
pub unnamed : (name : Text) (names : List Text) (contents : List (List ℕ)) → length contents ≡ 0 → contents_named name names contents ≡ []
unnamed name [] contents none = refl
unnamed name (n ∷ names) [] none = refl
unnamed name (n ∷ names) (bytes ∷ contents) none = absurd (omega (arith, none))

-- ---- reports

module _ (language : Language) (options : Options) (document : Text) (modules : List Text) (contents : List (List ℕ)) where
  abbrev Validated : Request
  Validated = validate language options document modules

  abbrev spot_in : Spot → Option Jump
  spot_in = found_spot unsaid Validated contents

  abbrev bytes_in : List ℕ
  bytes_in = contents_named document (files_of Validated) contents

  -- a report with another output
  told_so : (r : DocumentReport) (output : List Part) → output ≡ jump_lines spot_in (reported (Document r)).output
      → record (reported (Document r)) { output = output } ≡ jumping_outcome Validated spot_in (reported (Document r))
  told_so r output is = let o = reported (Document r) in
      ap₂ (λ (output errors : List Part). record o { output = output; errors = errors }) is
      (unscripted spot_in (option_map string_bytes r.script) r.refused.items (λ line. refl))

  -- with a text it stays
  pub text_told : (r : DocumentReport) → is_some r.text ≡ true → reported (Document r) ≡ jumping_outcome Validated spot_in (reported (Document r))
  text_told r shown = told_so r (reported (Document r)).output (by r.text shown)
    where
      by : (text : Option (String Global)) → is_some text ≡ true
          → option_map_or (λ t. plain (string_bytes t ++ codes "\n") ∷ []) text (report (schema_view.view r.schema) (tree_view r.tree) (views r.faults.items))
          ≡ jump_lines spot_in (option_map_or (λ t. plain (string_bytes t ++ codes "\n") ∷ []) text (report (schema_view.view r.schema) (tree_view r.tree) (views r.faults.items)))
      by None shown = absurd (let e : false ≡ true = shown in cc)
      by (Some t) shown = text_stays spot_in (string_bytes t ++ codes "\n") refl

  -- without one a text of its faults stands in their place
  pub faults_told : (r : DocumentReport) (text : List ℕ) → is_some r.text ≡ false
      → text ≡ jumps_text document bytes_in (schema_view.view r.schema) (tree_view r.tree) (views r.faults.items)
      → record (reported (Document r)) { output = plain (text ++ codes "\n") ∷ [] } ≡ jumping_outcome Validated spot_in (reported (Document r))
  faults_told r text none is = let s = schema_view.view r.schema in let t = tree_view r.tree in let faults = views r.faults.items in
      told_so r (plain (text ++ codes "\n") ∷ [])
      (report_lines spot_in document bytes_in s t faults text (λ f. sym (append-nil _)) refl is ∙ by r.text none)
    where
      by : (text : Option (String Global)) → is_some text ≡ false
          → jump_lines spot_in (report (schema_view.view r.schema) (tree_view r.tree) (views r.faults.items))
          ≡ jump_lines spot_in (option_map_or (λ t. plain (string_bytes t ++ codes "\n") ∷ []) text (report (schema_view.view r.schema) (tree_view r.tree) (views r.faults.items)))
      by None none = refl
      by (Some t) none = absurd (let e : true ≡ false = none in cc)
