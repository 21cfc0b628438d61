-- A session that is opened over a document: what its files come to.
use Rattle.std.specs.Prelude.{◌≡◌, ℕ, ◌++◌, Bool, List, [], ◌∷◌, Option, if◌then◌else◌}
use Rattle.yspec.specs.text.Text.{Text}
use Rattle.yspec.specs.schema.Schema.{Schema}
use Rattle.yspec.specs.document.Document.{Tree}
use Rattle.yspec_wide.specs.Language.{Language, core, rfc}
use Rattle.yspec_run.specs.Output.{Outcome, Request, with_document, with_files, with_modules}
use Rattle.yspec_run.specs.Unjudged.{is_any, note_of}

-- what a session is over: a document under modules that are read in a language
pub record Opening : Type 0 where
  pub language : Language
  -- a document with a member that comes twice is refused
  pub is_strict : Bool
  -- so many edits can be taken back
  pub remembers : ℕ
  -- of each change it is told which faults come and go
  pub tells_changes : Bool
  -- the faults of its configuration alone are told
  pub of_configuration : Bool
  pub document : Text
  pub modules : List Text

-- what the words of a command line ask for
pub data Asked : Type 0 where
  -- something that is told once, by lines to which an editor jumps or not
  report : Bool → Request → Asked
  session : Opening → Asked

-- the words for its files in the order in which they are read
abbrev pub files_opened : Opening → List Text
files_opened o = o.modules ++ o.document ∷ []

-- `next` goes on with what is said of the conditions of modules that a language doesn't judge
abbrev pub with_conditions : Language → List Text → List (List ℕ) → (Text → Outcome) → Outcome
with_conditions core names contents next = next []
with_conditions (rfc wide) names contents next = if is_any wide.unjudged
    then with_modules (rfc wide) names contents (λ modules files. next (note_of wide.unjudged modules)) else next []

-- `next` goes on with a schema, a document under it and what is said of conditions, where the files have these contents
abbrev pub opened_with : Opening → List (List ℕ) → (Schema → Tree → Text → Outcome) → Outcome
opened_with o contents next = with_document o.language o.is_strict o.document o.modules contents (λ schema tree files.
    with_conditions o.language o.modules contents (next schema tree))

-- the same where they answered so, in order and up to the first failure
unfoldable pub opened_from : Opening → List (Option (List ℕ)) → (Schema → Tree → Text → Outcome) → Outcome
opened_from o answers next = with_files (files_opened o) answers (λ contents. opened_with o contents next)

-- the files open a session over this document, of whose modules that is said
abbrev pub Opens : Opening → List (Option (List ℕ)) → Schema → Tree → Text → Type 0
Opens o answers schema tree note = (next : Schema → Tree → Text → Outcome) → opened_from o answers next ≡ next schema tree note

-- they open none, and this is told in its place
abbrev pub OpensNone : Opening → List (Option (List ℕ)) → Outcome → Type 0
OpensNone o answers told = (next : Schema → Tree → Text → Outcome) → opened_from o answers next ≡ told
