-- Documents after the lines of a script, and what is told of them.
use Rattle.std.proofs.Common.{◌≡◌, ◌≤◌, ℕ, Bool, true, false, List, [], ◌∷◌, ◌++◌, map, Option, Some, None, Global, String, string_bytes, length, refl, sym, subst, ap, ap₂, ◌∙◌}
use Rattle.std.specs.Prelude.{◌==◌, ◌&&◌, ◌||◌, Result, Ok, Err, IfOk, IsErrAnd, is_some, option_map, if◌then◌else◌}
use Rattle.std.specs.Option.{option_map_or}
use Rattle.std.proofs.lemmas.List.{length-map}
use Rattle.yspec.specs.Forest.{size}
use Rattle.yspec.specs.text.Text.{Text}
use Rattle.yspec.specs.schema.Schema as spec
use Rattle.yspec.specs.document.Document.{Tree, document_limit}
use Rattle.yspec.specs.document.Fitting.{Fits}
use Rattle.yspec.specs.document.Writing.{IsDocument}
use Rattle.yspec.specs.edit.EditText.{Edit}
use Rattle.yspec.specs.edit.Editing as editing
use Rattle.yspec.specs.edit.Editing.{Decision, after}
use Rattle.yspec.specs.edit.Live as live
use Rattle.yspec.specs.document.StateData.{Inspected, inspected}
use Rattle.ysay_repeated.specs.Repeated.{repeated_in}
use Rattle.yspec_wide.specs.Language.{Language}
use Rattle.yspec_run.specs.Output.{Options, Outcome, Request, SavedFile, edit, left, nothing, plainly, repeated_document, report, saved_by, text_instead, text_parts, unless_repeated}
use Rattle.yspec.specs.document.Writing.{written_text}
use Rattle.ysay_json.specs.FaultData.{json_text}
use Rattle.yspec_run.specs.Lines.{Jump, found_spot, in_line_of, jumping, jumping_output, script_spot, told_by}
use Rattle.yspec_run.specs.Part.{Part, Spot, objects}
use Rattle.yspec.proofs.EditProofs.FittingEditLemmas.{edits_whole}
use Rattle.yspec.proofs.EditProofs.LimitLemmas.{edits_within}
use Rattle.ycheck.specs.View.{view, views}
use Rattle.ycheck.specs.declared.fault.Fault.{Fault}
use Rattle.yschema_model.specs.View as schema_view
use Rattle.yschema_model.specs.declared.schema.Schema.{Schema}
use Rattle.yschema_model.proofs.CallerLemmas.{names_differ, numbered, leafs_are_bare}
use Rattle.yapp_script.specs.Asked.{IsScript, Line, refused_part, refused_parts, told_from}
use Rattle.ylive.specs.Answers.{after_edits}
use Rattle.yapp.specs.Edited.{LeadsIn, by_script, IsEdited, IsOf, IsRun, IsSound, IsWhole, refused_of, schema_of, tree_of}
use Rattle.yapp_report.specs.EditedView.{live_of, refused_in, scripted_parts}
use Rattle.yapp_report.specs.Failing.{LeadsTo, reported, unsaid}
use Rattle.yapp_report.specs.Explained.{HasNoDocument}
use Rattle.yapp_report.specs.declared.report.Report.{Report}
use Rattle.yapp_report.specs.declared.report.Report.TheVariants as reports
use Rattle.yapp.specs.declared.document.Document.{Document}
use Rattle.yapp_report.specs.declared.edited.EditedDocument.{EditedDocument}
use Rattle.yapp_report.specs.declared.failure.Failure.{Failure}
use Rattle.yapp_report.specs.declared.failure.Failure.TheVariants as failures
use Rattle.yapp_script.specs.declared.script.RefusedLine.{RefusedLine}
use Rattle.yapp_script.proofs.ScriptLemmas.{after_is, refused_is}

-- edits leave a sound document whole
whole_after : (schema : Schema) (t u : Tree) (edits : List Edit) → IsSound (schema_view.view schema) t → u ≡ after (schema_view.view schema) t edits
    → IsWhole (schema_view.view schema) u
whole_after schema t u edits sound is = let s = schema_view.view schema in record {
  whole = subst (IsDocument s) (sym is) (edits_whole s t edits (numbered schema) (names_differ schema) (leafs_are_bare schema) sound.whole);
  within = subst (λ (v : Tree). size v ≤ document_limit) (sym is) (edits_within s t edits sound.within);
}

-- a run of the edits of a script is the script's
pub edited_by : (is_strict : Bool) (schema : Schema) (t : Tree) (kinds : List Line) (edits : List Edit) (lines : List Text) (e : EditedDocument)
    → IsSound (schema_view.view schema) t → IsScript is_strict kinds edits lines → IsRun (schema_view.view schema) t kinds edits e
    → IsEdited is_strict (schema_view.view schema) t lines e
edited_by is_strict schema t kinds edits lines e sound script run = let s = schema_view.view schema in record {
  schema_is = run.schema_is;
  tree_is = run.tree_is ∙ ap (after s t) script.edits_are ∙ sym (after_is is_strict s t lines);
  refused_is = run.refused_is
      ∙ ap₂ (λ (ks : List Line) (es : List Edit). told_from s (after s t es) 1 ks es (editing.decisions s t es)) script.kinds_are script.edits_are
      ∙ sym (refused_is is_strict s 1 t lines);
  whole = subst (λ (x : spec.Schema). IsWhole x (live_of e).tree) (sym run.schema_is) (whole_after schema t (live_of e).tree edits sound run.tree_is);
}

-- what is left by a run of edits isn't stale
pub fresh_after : (before now : live.Live) (edits : List Edit) → before.is_stale ≡ false → now ≡ after_edits edits before → now.is_stale ≡ false
fresh_after before now edits fresh left = ap (λ (l : live.Live). l.is_stale) left ∙ fresh

pub run_is : (before : live.Live) (kinds : List Line) (edits : List Edit) (told : List Decision) (e : EditedDocument)
    → told ≡ editing.decisions before.schema before.tree edits → live_of e ≡ after_edits edits before
    → refused_in e ≡ told_from (live_of e).schema (live_of e).tree 1 kinds edits told → IsRun before.schema before.tree kinds edits e
run_is before kinds edits told e came left refused = record {
  schema_is = ap (λ (l : live.Live). l.schema) left;
  tree_is = ap (λ (l : live.Live). l.tree) left;
  refused_is = refused ∙ ap (λ (l : live.Live). told_from l.schema l.tree 1 kinds edits told) left
      ∙ ap (told_from before.schema (after before.schema before.tree edits) 1 kinds edits) came;
}

-- ---- a live document taken apart

pub is_of : (e : EditedDocument) (d : Document) → IsWhole (live_of e).schema (live_of e).tree → schema_of d ≡ (live_of e).schema
    → tree_of d ≡ (live_of e).tree → Fits (live_of e).schema (tree_of d) → refused_of d ≡ refused_in e → IsOf e d
is_of e d whole schema_is tree_is fits refused_is = record {
  schema_is = schema_is;
  tree_is = tree_is;
  refused_is = refused_is;
  sound = subst (λ (s : spec.Schema). IsSound s (tree_of d)) (sym schema_is) (record {
    fits = fits;
    whole = subst (IsDocument (live_of e).schema) (sym tree_is) whole.whole;
    within = subst (λ (v : Tree). size v ≤ document_limit) (sym tree_is) whole.within;
  });
}

pub left_of : (options : Options) (e : EditedDocument) (d : Document) → IsOf e d
    → left options (schema_of d) (tree_of d) (refused_of d) ≡ left options (live_of e).schema (live_of e).tree (refused_in e)
left_of options e d of = ap (λ (s : spec.Schema). left options s (tree_of d) (refused_of d)) of.schema_is
    ∙ ap₂ (left options (live_of e).schema) of.tree_is of.refused_is

-- one that is looked at as a whole, neither dumped nor written to a file, and whose faults aren't told as JSON, is told plainly
pub left_plainly : (options : Options) → (options.of_configuration || (options.is_dump || (options.as_json || is_some options.saved_as))) ≡ false
    → (s : spec.Schema) (t : Tree) (refused : List Part) → left options s t refused ≡ left plainly s t refused
left_plainly options no_more s t refused = by options.of_configuration options.is_dump options.as_json options.saved_as no_more
  where
    by : (of_configuration is_dump as_json : Bool) (saved_as : Option Text) → (of_configuration || (is_dump || (as_json || is_some saved_as))) ≡ false
        → left (record options { of_configuration = of_configuration; is_dump = is_dump; as_json = as_json; saved_as = saved_as }) s t refused ≡ left plainly s t refused
    by true is_dump as_json saved_as is = cc
    by false true as_json saved_as is = cc
    by false false true saved_as is = cc
    by false false false None is = refl
    by false false false (Some name) is = cc

-- want of memory leads anywhere
pub memory_leads : {X : Type 0} (o : Outcome) (next : X → Outcome) (r : Result X Failure) → IsErrAnd r (λ e. e ≡ failures.Memory) → LeadsTo o next r
memory_leads o next (Ok x) e = absurd e
memory_leads o next (Err f) e = subst (λ g. LeadsTo o next (Err g)) (sym e) tt

-- there are refused lines exactly where something is told of them
pub none_refused : (script : Option Text) (lines : List RefusedLine) → (length (scripted_parts script lines) == 0) ≡ (length lines == 0)
none_refused script lines = ap (λ (n : ℕ). n == 0) (length-map lines (λ line. jumping (script_spot script) (refused_part line)))

-- their objects are the same, whatever script is named
pub scripted_objects : (script : Option Text) (lines : List RefusedLine) → objects (scripted_parts script lines) ≡ objects (refused_parts lines)
scripted_objects script [] = refl
scripted_objects script (line ∷ lines) = ap (λ (t : List ℕ). (refused_part line).object ++ t) (scripted_objects script lines)

same_instead : (options : Options) (s : spec.Schema) (t : Tree) (a b : List Part) (i : Inspected) → objects a ≡ objects b
    → text_instead options s t a i ≡ text_instead options s t b i
same_instead options s t a b i same = ap (λ (told : List ℕ). if options.is_dump then Some (written_text s t)
    else (if options.as_json then Some (told ++ json_text i.schema i.tree i.faults) else None)) same

-- ---- reports

abbrev outcome_with : Option SavedFile → List Part → List Part → Bool → Bool → Outcome
outcome_with saved output errors no_fault none_refused =
    record { output = output; errors = errors; status = if no_fault && none_refused then 0 else 1; saved = saved; aside = nothing; told = None }

-- ---- what is told by the name of a script

jumping_objects : (found : Spot → Option Jump) (parts : List Part) → objects (map (jumping found) parts) ≡ objects parts
jumping_objects found [] = refl
jumping_objects found (p ∷ parts) = ap (λ (t : List ℕ). p.object ++ t) (jumping_objects found parts)

-- an edited document is left so, with its refused lines
pub left_by_script : (options : Options) (s : spec.Schema) (t : Tree) (found : Spot → Option Jump) (parts : List Part)
    → record (left options s t parts) { errors = map (jumping found) (left options s t parts).errors } ≡ left options s t (map (jumping found) parts)
left_by_script options s t found parts =
    let i = inspected options.of_configuration s t in
    let made = λ (instead : Option Text) (count : ℕ). outcome_with (saved_by options s t) (option_map_or text_parts instead (report i.schema i.tree i.faults))
    (map (jumping found) parts) (length i.faults == 0) (count == 0) in
    ap₂ made (same_instead options s t parts (map (jumping found) parts) i (sym (jumping_objects found parts))) (sym (length-map parts (jumping found)))

-- ---- reports, by their texts

text_shown : (text : Option (String Global)) (instead : Option Text) (shown : List Part) → option_map string_bytes text ≡ instead
    → option_map_or (λ t. text_parts (string_bytes t)) text shown ≡ option_map_or text_parts instead shown
text_shown text instead shown is = by_text text ∙ ap (λ (o : Option Text). option_map_or text_parts o shown) is
  where
    by_text : (text : Option (String Global)) → option_map_or (λ t. text_parts (string_bytes t)) text shown ≡ option_map_or text_parts (option_map string_bytes text) shown
    by_text None = refl
    by_text (Some t) = refl

pub report_is : (options : Options) (s s' : spec.Schema) (t t' : Tree) (found : List Fault) (script : Option Text) (refused : List RefusedLine) (text : Option (String Global)) (saved : Option SavedFile)
    → record { schema = s'; tree = t'; faults = views found } ≡ inspected options.of_configuration s t
    → option_map string_bytes text ≡ text_instead options s t (refused_parts refused) (record { schema = s'; tree = t'; faults = views found }) → saved ≡ saved_by options s t
    → outcome_with saved (option_map_or (λ t. text_parts (string_bytes t)) text (report s' t' (views found))) (scripted_parts script refused) (length found == 0) (length refused == 0)
    ≡ left options s t (scripted_parts script refused)
report_is options s s' t t' found script refused text saved same instead saved_is =
    let made = outcome_with (saved_by options s t) in
    let parts = scripted_parts script refused in
    let is = instead ∙ same_instead options s t (refused_parts refused) parts (record { schema = s'; tree = t'; faults = views found }) (sym (scripted_objects script refused)) in
    let i : Inspected = record { schema = s'; tree = t'; faults = views found } in
    let shown : Inspected → List Part = λ i. option_map_or text_parts (text_instead options s t parts i) (report i.schema i.tree i.faults) in
    ap (λ (o : Option SavedFile). outcome_with o (option_map_or (λ t. text_parts (string_bytes t)) text (report s' t' (views found))) parts (length found == 0) (length refused == 0)) saved_is
    ∙ (ap (λ (b : Bool). made (option_map_or (λ t. text_parts (string_bytes t)) text (report s' t' (views found))) parts (length found == 0) b) (sym (none_refused script refused))
    ∙ (ap (λ (o : List Part). made o parts (length found == 0) (length parts == 0)) (text_shown text (text_instead options s t parts i) (report s' t' (views found)) is)
    ∙ (ap (λ (n : ℕ). made (shown i) parts (n == 0) (length parts == 0)) (sym (length-map found view))
    ∙ ap (λ (j : Inspected). made (shown j) parts (length j.faults == 0) (length parts == 0)) same)))

-- ---- members that are given twice

-- nothing is refused for them where that isn't wanted, nor where none is
pub unless_unasked : (is_strict : Bool) (s : spec.Schema) (name : Text) (bytes : List ℕ) (next : Tree → Outcome) (t : Tree) → is_strict ≡ false
    → unless_repeated is_strict s name bytes next t ≡ next t
unless_unasked is_strict s name bytes next t is =
    ap (λ (b : Bool). if b then option_map_or (repeated_document s name) (repeated_in s bytes) (next t) else next t) is

-- a document that was read is refused for them, or goes on
pub strictly_leads : {X : Type 0} (is_strict : Bool) (d : spec.Schema) (name : Text) (bytes : List ℕ) (told : Outcome) (next : Tree → Outcome) (t : Tree) (go : X → Outcome)
    (r : Result X Failure) → is_strict ≡ true → told ≡ unless_repeated is_strict d name bytes next t → LeadsTo (unless_repeated true d name bytes next t) go r → LeadsTo told go r
strictly_leads is_strict d name bytes told next t go r strict is leads =
    subst (λ (o : Outcome). LeadsTo o go r) (sym (is ∙ ap (λ (b : Bool). unless_repeated b d name bytes next t) strict)) leads

-- ---- what is told by lines

-- the refused lines of a document by the name of their script, whatever other finds it
pub by_their_script : (found : Spot → Option Jump) (script : Text) (old : Option Text) (lines : List RefusedLine)
    → ((line : RefusedLine) → map (jumping found) (scripted_parts old (line ∷ [])) ≡ map (jumping (in_line_of script)) (scripted_parts old (line ∷ [])))
    → map (jumping found) (scripted_parts old lines) ≡ map (jumping (in_line_of script)) (scripted_parts old lines)
by_their_script found script old [] each = refl
by_their_script found script old (line ∷ lines) each = ap₂ (λ (xs ys : List Part). xs ++ ys) (each line) (by_their_script found script old lines each)

-- a script that is named takes the place of another
pub named_script : (script : Text) (old : Option Text) (lines : List RefusedLine)
    → scripted_parts (Some script) lines ≡ map (jumping (in_line_of script)) (scripted_parts old lines)
named_script script old [] = refl
named_script script old (line ∷ lines) = ap (λ (parts : List Part). jumping (in_line_of script) (refused_part line) ∷ parts) (named_script script old lines)

-- what is left of an edited document is told by lines with the name of its script
pub left_in_lines : (by_lines : Bool) (language : Language) (options : Options) (document script : Text) (modules : List Text) (contents : List (List ℕ))
    (s : spec.Schema) (t : Tree) (old : Option Text) (lines : List RefusedLine)
    → told_by by_lines unsaid (edit language options document script modules) contents (left options s t (scripted_parts old lines))
    ≡ left options s t (by_script by_lines script (scripted_parts old lines))
left_in_lines false language options document script modules contents s t old lines = refl
left_in_lines true language options document script modules contents s t old lines =
    let found = found_spot unsaid (edit language options document script modules) contents in
    left_by_script options s t found (scripted_parts old lines)
    ∙ ap (left options s t) (by_their_script found script old lines (λ line. refl))

-- ---- what has no document is told by lines as it is

same_told : (request : Request) → ((found : Spot → Option Jump) (parts : List Part) → jumping_output request found parts ≡ parts)
    → (by_lines : Bool) (contents : List (List ℕ)) (r : Report) → HasNoDocument r → told_by by_lines unsaid request contents (reported r) ≡ reported r
same_told request same false contents r none = refl
same_told request same true contents (reports.Document r) none = absurd none
same_told request same true contents (reports.Edited e) none = absurd none
same_told request same true contents (reports.Explanations explanations) none = let o = reported (reports.Explanations explanations) in
    ap (λ (output : List Part). record o { output = output }) (same (found_spot unsaid request contents) o.output)
same_told request same true contents (reports.Nodes count) none = let o = reported (reports.Nodes count) in
    ap (λ (output : List Part). record o { output = output }) (same (found_spot unsaid request contents) o.output)
same_told request same true contents (reports.Diagram schema shown) none = let o = reported (reports.Diagram schema shown) in
    ap (λ (output : List Part). record o { output = output }) (same (found_spot unsaid request contents) o.output)
same_told request same true contents (reports.Diagrams schema) none = let o = reported (reports.Diagrams schema) in
    ap (λ (output : List Part). record o { output = output }) (same (found_spot unsaid request contents) o.output)

pub other_told : (request : Request) → ((found : Spot → Option Jump) (parts : List Part) → jumping_output request found parts ≡ parts)
    → (by_lines : Bool) (contents : List (List ℕ)) (o : Outcome) (r : Result Report Failure) → IfOk r HasNoDocument → LeadsTo o reported r
    → LeadsIn (told_by by_lines unsaid request contents) o r
other_told request same by_lines contents o (Ok r) none is = ap (told_by by_lines unsaid request contents) is ∙ same_told request same by_lines contents r none
other_told request same by_lines contents o (Err f) none is = is
