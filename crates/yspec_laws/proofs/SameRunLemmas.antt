-- Under modules without state a run prints the same with `--config` and without.
use Rattle.std.proofs.Common.{◌≡◌, ℕ, ◌+◌, Bool, true, false, List, [], ◌∷◌, ◌++◌, length, map, Option, Some, None, Result, Ok, Err, refl, sym, ap, ◌∙◌, subst, arith}
use Rattle.std.specs.Prelude.{◌==◌, ◌&&◌, if◌then◌else◌}
use Rattle.std.specs.Option.{option_map_or}
use Rattle.yspec.specs.text.Text.{Text}
use Rattle.yspec.specs.schema.Schema.{Schema}
use Rattle.yspec.specs.document.Document.{Tree}
use Rattle.yspec.specs.document.Reading.{Refusal, document_of}
use Rattle.yspec.specs.document.StateData.{Inspected}
use Rattle.ysay_repeated.specs.Repeated.{repeated_in}
use Rattle.yspec_wide.specs.Language.{Language}
use Rattle.yspec_run.specs.Part.{Part}
use Rattle.yspec_run.specs.Script.{after_lines, lines_of, refused_lines}
use Rattle.yspec_run.specs.Output.{Options, Outcome, Request, edit, edited, first_file, found_of, nothing, other_files, outcome, performed, repeated_document, report, saved_by, text_instead, text_parts, told_too, unless_repeated, validate, with_document, with_files, with_first, with_tree}
use Rattle.yspec_run.proofs.RunLemmas.{IsReport, is_compiled}
use Rattle.yspec_laws.specs.Stateless.{Give, HasNoState, IsGiven, looking}
use Rattle.yspec_laws.proofs.ConfigurationLemmas.{same_inspected}

-- ---- files

-- those that could be read are handed on
all_read : (names others : List Text) (contents more : List (List ℕ)) (next : List (List ℕ) → Outcome) → length contents ≡ length names
    → with_files (names ++ others) (map Some (contents ++ more)) next ≡ with_files others (map Some more) (λ rest. next (contents ++ rest))
all_read [] others [] more next count = refl
all_read [] others (bytes ∷ contents) more next count = absurd (omega (arith, count))
all_read (name ∷ names) others [] more next count = absurd (omega (arith, count))
all_read (name ∷ names) others (bytes ∷ contents) more next count =
    all_read names others contents more (λ rest. next (bytes ∷ rest)) (omega (arith, count))

same_files : (names : List Text) (answers : List (Option (List ℕ))) (next other : List (List ℕ) → Outcome)
    → ((files : List (List ℕ)) → next files ≡ other files) → with_files names answers next ≡ with_files names answers other
same_files [] answers next other same = same []
same_files (name ∷ names) [] next other same = refl
same_files (name ∷ names) (None ∷ answers) next other same = refl
same_files (name ∷ names) (Some bytes ∷ answers) next other same =
    same_files names answers (λ rest. next (bytes ∷ rest)) (λ rest. other (bytes ∷ rest)) (λ rest. same (bytes ∷ rest))

-- what is done with files that follow those of some modules, once all could be read
same_outcome : (here there : Request) (names others : List Text) (contents more : List (List ℕ)) → length contents ≡ length names
    → ((files : List (List ℕ)) → performed here (contents ++ files) ≡ performed there (contents ++ files))
    → with_files (names ++ others) (map Some (contents ++ more)) (performed here) ≡ with_files (names ++ others) (map Some (contents ++ more)) (performed there)
same_outcome here there names others contents more count same = all_read names others contents more (performed here) count
    ∙ (same_files others (map Some more) (λ files. performed here (contents ++ files)) (λ files. performed there (contents ++ files)) same
    ∙ sym (all_read names others contents more (performed there) count))

-- ---- a document

module _ (schema : Schema) where
  same_first : (is_strict : Bool) (document : Text) (next other : Schema → Tree → List (List ℕ) → Outcome)
      → ((tree : Tree) (files : List (List ℕ)) → next schema tree files ≡ other schema tree files) → (files : List (List ℕ))
      → with_first is_strict document next schema files ≡ with_first is_strict document other schema files
  same_first is_strict document next other same files = by (document_of schema (first_file files))
    where
      bytes : List ℕ
      bytes = first_file files

      by : (read : Result Tree Refusal)
          → with_tree schema document bytes read (unless_repeated is_strict schema document bytes (λ tree. next schema tree (other_files files)))
          ≡ with_tree schema document bytes read (unless_repeated is_strict schema document bytes (λ tree. other schema tree (other_files files)))
      by (Err refused) = refl
      by (Ok tree) = ap (λ o. if is_strict then option_map_or (repeated_document schema document) (repeated_in schema bytes) o else o) (same tree (other_files files))

  -- what is made of what is looked at
  abbrev made_of : Options → Tree → List Part → Inspected → Outcome
  made_of options tree refused i = record {
    output = option_map_or text_parts (text_instead options schema tree refused i) (report i.schema i.tree i.faults);
    errors = refused;
    status = if length i.faults == 0 && length refused == 0 then 0 else 1;
    saved = saved_by options schema tree;
    aside = nothing;
    told = None;
  }

  module _ (language : Language) (options : Options) (all : HasNoState schema) where
    same_left : (tree : Tree) (lines : List Text) → edited (looking true options) schema tree lines ≡ edited (looking false options) schema tree lines
    same_left tree lines =
        ap (made_of options (after_lines options.is_strict schema tree lines) (refused_lines options.is_strict schema 1 tree lines))
        (same_inspected schema (after_lines options.is_strict schema tree lines) all)

    module _ (document : Text) (names : List Text) (contents more : List (List ℕ)) (count : length contents ≡ length names)
        (give : Give language names contents schema) where
      -- with the files behind the document's taken as lines somehow
      same_performed : (lines : List (List ℕ) → List Text) (files : List (List ℕ))
          → with_document language options.is_strict document names (contents ++ files) (λ s tree files. edited (looking true options) s tree (lines files))
          ≡ with_document language options.is_strict document names (contents ++ files) (λ s tree files. edited (looking false options) s tree (lines files))
      same_performed lines files =
          give files (with_first options.is_strict document (λ s tree files. edited (looking true options) s tree (lines files)))
          ∙ (same_first options.is_strict document (λ s tree files. edited (looking true options) s tree (lines files))
          (λ s tree files. edited (looking false options) s tree (lines files)) (λ tree files. same_left tree (lines files)) files
          ∙ sym (give files (with_first options.is_strict document (λ s tree files. edited (looking false options) s tree (lines files)))))

      validated_same : outcome (validate language (looking true options) document names) (map Some (contents ++ more))
          ≡ outcome (validate language (looking false options) document names) (map Some (contents ++ more))
      unfolding outcome
      validated_same = ap (told_too options.as_json) (same_outcome (validate language (looking true options) document names)
          (validate language (looking false options) document names) names (document ∷ []) contents more count (same_performed (λ files. [])))

      edited_same : (script : Text) → outcome (edit language (looking true options) document script names) (map Some (contents ++ more))
          ≡ outcome (edit language (looking false options) document script names) (map Some (contents ++ more))
      unfolding outcome
      edited_same script = ap (told_too options.as_json) (same_outcome (edit language (looking true options) document script names)
          (edit language (looking false options) document script names) names (document ∷ script ∷ []) contents more count
          (same_performed (λ files. lines_of (first_file files))))

-- ---- modules under which a run reports

given_by : (language : Language) (options : Options) (document : Text) (names : List Text) (contents more : List (List ℕ)) → length contents ≡ length names
    → IsReport (with_files (document ∷ []) (map Some more) (λ rest. performed (validate language options document names) (contents ++ rest))) → IsGiven language names contents
given_by language options document names contents [] count shown = absurd (omega (arith, shown))
given_by language options document names contents (bytes ∷ more) count shown =
    let next : Schema → Tree → List (List ℕ) → Outcome = λ schema tree files. edited options schema tree [] in
    let code = is_compiled language names contents (bytes ∷ []) (with_first options.is_strict document next) count shown in
    (code.schema, (code.top, code.compiles), code.is)

-- what is told besides leaves the status
report_alone : (as_json : Bool) (o : Outcome) → IsReport (told_too as_json o) → IsReport o
report_alone true o shown = shown
report_alone false o shown = shown

pub given_where_reported : (language : Language) (options : Options) (document : Text) (names : List Text) (contents more : List (List ℕ)) → length contents ≡ length names
    → IsReport (outcome (validate language options document names) (map Some (contents ++ more))) → IsGiven language names contents
unfolding outcome
given_where_reported language options document names contents more count shown =
    let request = validate language options document names in
    given_by language options document names contents more count
    (subst IsReport (all_read names (document ∷ []) contents more (performed request) count)
    (report_alone options.as_json (found_of request (map Some (contents ++ more))) shown))

pub same_validated : (language : Language) (options : Options) (document : Text) (names : List Text) (contents more : List (List ℕ)) (schema : Schema)
    → length contents ≡ length names → Give language names contents schema → HasNoState schema
    → outcome (validate language (looking true options) document names) (map Some (contents ++ more))
    ≡ outcome (validate language (looking false options) document names) (map Some (contents ++ more))
same_validated language options document names contents more schema count give all = validated_same schema language options all document names contents more count give

pub same_edited : (language : Language) (options : Options) (document script : Text) (names : List Text) (contents more : List (List ℕ)) (schema : Schema)
    → length contents ≡ length names → Give language names contents schema → HasNoState schema
    → outcome (edit language (looking true options) document script names) (map Some (contents ++ more))
    ≡ outcome (edit language (looking false options) document script names) (map Some (contents ++ more))
same_edited language options document script names contents more schema count give all = edited_same schema language options all document names contents more count give script
