-- What is dumped of a document is validated as the document.
use Rattle.std.proofs.Common.{◌≡◌, ℕ, ◌≤◌, List, [], ◌∷◌, ◌++◌, length, take, drop, Option, Some, Result, Ok, Bool, false, true, sym, ap, ◌∙◌, subst}
use Rattle.std.proofs.lemmas.List.{append-nil}
use Rattle.yspec.specs.Forest.{size}
use Rattle.yspec.specs.text.Text.{Text}
use Rattle.yspec.specs.schema.Schema.{Schema}
use Rattle.yspec.specs.document.Document.{Tree, document_limit}
use Rattle.yspec.specs.document.Reading.{Refusal, document_of}
use Rattle.yspec.specs.document.Fitting.{FitsBy}
use Rattle.yspec.specs.document.Writing.{IsDocument}
use Rattle.yspec_wide.specs.Language.{Language}
use Rattle.yspec_run.specs.Part.{plain, spelled}
use Rattle.yspec_run.specs.Script.{after_lines, lines_of}
use Rattle.yspec_run.specs.Output.{Options, Outcome, as_dump, dump, edit, edited, first_file, outcome, plainly, printed, validate, with_document, with_files, with_first, with_tree}
use Rattle.yspec.proofs.DocumentProofs.ReadTextLemmas.{HoldsText, read_holds}
use Rattle.yspec.proofs.DocumentProofs.ReadWholeLemmas.{read_whole}
use Rattle.yspec.proofs.DocumentProofs.RightNodeLemmas.{read_within}
use Rattle.yspec.proofs.DocumentProofs.WrittenExactLemmas.{ended_read}
use Rattle.yspec.proofs.EditProofs.FittingEditLemmas.{edit_holds, edit_whole}
use Rattle.yspec.proofs.EditProofs.LimitLemmas.{edit_within}
use Rattle.yspec_run.proofs.SchemaLemmas.{readable_in}
use Rattle.yspec_run.proofs.ScriptLemmas.{lines_keep}
use Rattle.yspec_run.proofs.RunLemmas.{IsReport, AreRead, are_read, both_read, IsCompiled, is_compiled, is_found}

-- a text alone is its bytes
alone : (t : List ℕ) → spelled false (plain t ∷ []) ≡ t
alone t = append-nil (t ++ []) ∙ append-nil t

-- what comes of a document under a schema, and of the files behind it
abbrev Next : Type 0
Next = Schema → Tree → List (List ℕ) → Outcome

-- how the document is taken, be it dumped or not
abbrev taken : Bool → Options
taken is_dump = record plainly { is_dump = is_dump }

module _ (language : Language) (document script : Text) (names : List Text) (answers : List (Option (List ℕ))) where
  -- the outcome of an edit, whatever is made of its document
  abbrev made : Next → Outcome
  made next = with_files (names ++ document ∷ script ∷ []) answers (λ contents. with_document language false document names contents next)

  -- its files could be read
  record FilesRead : Type 0 where
    read : AreRead names (document ∷ script ∷ []) answers
    bytes : List ℕ
    lines : List ℕ
    is : (next : Next) → made next ≡ with_document language false document names (read.contents ++ bytes ∷ lines ∷ []) next

  files_read : (next : Next) → IsReport (made next) → FilesRead
  files_read next shown =
      let read = are_read names (document ∷ script ∷ []) answers (λ contents. with_document language false document names contents next) shown in
      let behind = λ (next : Next) (rest : List (List ℕ)). with_document language false document names (read.contents ++ rest) next in
      let both = both_read document script (drop (length names) answers) (behind next)
      (subst IsReport (read.here (λ contents. with_document language false document names contents next)) shown) in
      record {
        read = read;
        bytes = both.bytes;
        lines = both.others;
        is = λ next. read.here (λ contents. with_document language false document names contents next) ∙ both.is (behind next);
      }

  -- its modules compile, and its document is read
  record HasRun : Type 0 where
    files : FilesRead
    code : IsCompiled language names files.read.contents
    tree : Tree
    found : document_of code.schema files.bytes ≡ Ok tree

  with_found : (s : Schema) (name : Text) (bytes : List ℕ) (tree : Tree) (next : Tree → Outcome) → document_of s bytes ≡ Ok tree
      → with_tree s name bytes (document_of s bytes) next ≡ next tree
  with_found s name bytes tree next found = ap (λ (o : Result Tree Refusal). with_tree s name bytes o next) found

  has_run : (next : Next) → IsReport (made next) → HasRun
  has_run next shown =
      let files = files_read next shown in
      let rest = files.bytes ∷ files.lines ∷ [] in
      let under = subst IsReport (files.is next) shown in
      let code = is_compiled language names files.read.contents rest (with_first false document next) files.read.count under in
      let found = is_found code.schema document files.bytes (document_of code.schema files.bytes) (λ tree. next code.schema tree (files.lines ∷ []))
      (subst IsReport (code.is rest (with_first false document next)) under) in
      record { files = files; code = code; tree = found.tree; found = found.is }

  made_is : (run : HasRun) (next : Next) → made next ≡ next run.code.schema run.tree (run.files.lines ∷ [])
  made_is run next =
      run.files.is next ∙ (run.code.is (run.files.bytes ∷ run.files.lines ∷ []) (with_first false document next)
      ∙ with_found run.code.schema document run.files.bytes run.tree (λ tree. next run.code.schema tree (run.files.lines ∷ [])) run.found)

  -- another document under the same modules is validated so
  validated : (run : HasRun) (name : Text) (bytes : List ℕ) (tree : Tree) → document_of run.code.schema bytes ≡ Ok tree
      → outcome (validate language plainly name names) (take (length names) answers ++ Some bytes ∷ []) ≡ edited plainly run.code.schema tree []
  unfolding outcome
  validated run name bytes tree found =
      let next : Next = λ schema tree files. edited plainly schema tree [] in
      run.files.read.again (name ∷ []) (Some bytes ∷ []) (λ contents. with_document language false name names contents next)
      ∙ (run.code.is (bytes ∷ []) (with_first false name next)
      ∙ with_found run.code.schema name bytes tree (λ tree. edited plainly run.code.schema tree []) found)

  -- the document after the lines of the script
  abbrev left_by : HasRun → Tree
  left_by run = after_lines false run.code.schema run.tree (lines_of run.files.lines)

  run_is : (is_dump : Bool) (run : HasRun) → outcome (edit language (taken is_dump) document script names) answers ≡ edited (taken is_dump) run.code.schema run.tree (lines_of run.files.lines)
  unfolding outcome
  run_is is_dump run = made_is run (λ schema tree files. edited (taken is_dump) schema tree (lines_of (first_file files)))

  run_of : IsReport (outcome (edit language plainly document script names) answers) → HasRun
  unfolding outcome
  run_of shown = has_run (λ schema tree files. edited plainly schema tree (lines_of (first_file files))) shown

  -- what is dumped of it reads as it
  dump_read : (run : HasRun) → document_of run.code.schema (dump run.code.schema (left_by run)) ≡ Ok (left_by run)
  dump_read run =
      let s = run.code.schema in
      let t = left_by run in
      let facts = readable_in language run.code.top s run.code.compiles in
      let numbered = facts.numbered in
      let differ = facts.differ in
      let lines = lines_of run.files.lines in
      let whole = lines_keep (IsDocument s) false s (λ t e so. edit_whole s t e numbered differ facts.bare so) lines run.tree (read_whole s run.files.bytes run.tree numbered differ facts.bare run.found) in
      let holds = lines_keep (FitsBy HoldsText s.nodes 0) false s (λ t e so. edit_holds s t e numbered so) lines run.tree (read_holds s run.files.bytes run.tree numbered run.found) in
      let within = lines_keep (λ t. size t ≤ document_limit) false s (λ t e so. edit_within s t e so) lines run.tree (read_within s run.files.bytes run.tree differ facts.bare run.found) in
      ended_read s t numbered differ facts.bare facts.within facts.low facts.texts whole holds within

  pub dump_validated : (name : Text) → let shown = outcome (edit language plainly document script names) answers in
      let bytes = (printed false (outcome (edit language as_dump document script names) answers)).output in
      let again = outcome (validate language plainly name names) (take (length names) answers ++ Some bytes ∷ []) in
      IsReport shown → (again.output ≡ shown.output) × (again.errors ≡ [])
  dump_validated name shown =
      let run = run_of shown in
      let s = run.code.schema in
      let again = λ (bytes : List ℕ). outcome (validate language plainly name names) (take (length names) answers ++ Some bytes ∷ []) in
      let is = ap again (ap (λ (o : Outcome). (printed false o).output) (run_is true run) ∙ alone (dump s (left_by run))) ∙ validated run name (dump s (left_by run)) (left_by run) (dump_read run) in
      (ap (λ (o : Outcome). o.output) is ∙ sym (ap (λ (o : Outcome). o.output) (run_is false run)), ap (λ (o : Outcome). o.errors) is)
