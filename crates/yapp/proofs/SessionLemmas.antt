-- From the files of a session to its talk.
use Rattle.std.proofs.Common.{◌≡◌, ◌⊎◌, inl, inr, ℕ, Bool, true, false, List, [], ◌++◌, map, Some, refl, sym, subst, ap, ◌∙◌, string_bytes, arith}
use Rattle.std.specs.Prelude.{Result, Ok, Err, IfOk, Option, option_map, if◌then◌else◌}
use Rattle.yspec.specs.text.Text.{Text}
use Rattle.yspec.specs.schema.Schema.{Schema}
use Rattle.yspec.specs.document.Document.{Tree}
use Rattle.yspec.specs.edit.Live.{Live, opened}
use Rattle.yspec_wide.specs.Language.{Language, Wide, rfc}
use Rattle.yspec_run.specs.Output.{Besides, Outcome, printed_with, with_files, with_modules}
use Rattle.yspec_run.specs.Unjudged.{is_any, note_of}
use Rattle.yspec_opening.specs.Opening.{Asked, Opening, files_opened, opened_from, opened_with, report, session, with_conditions}
use Rattle.ybase_output.specs.Writing.{Side}
use Rattle.yspec_session.specs.Session.{configured_by}
use Rattle.yschema_model.specs.View as schema_view
use Rattle.yschema_model.specs.declared.schema.Schema as rust
use Rattle.ylive.specs.View.{view}
use Rattle.yapp_words.specs.Running.{Brings, End, memory_told, with_status, without_memory}
use Rattle.yapp_report.specs.Failing.{FailsWith, LeadsTo, besides_in, outcome_of, unsaid}
use Rattle.yapp_report.specs.declared.failure.Failure.{Failure}
use Rattle.yapp_report.specs.declared.failure.Failure.TheVariants as failures
use Rattle.ybase_talk.specs.Talk.{Party}
use Rattle.yapp_talk.specs.Talked.{IsTalk}
use Rattle.yapp.specs.Files.{FileAnswers, Store, WasCut, WereRead}
use Rattle.yapp.specs.Sessions.{AreOpened, ComesToOpen, Does, IsSession}
use Rattle.yapp.specs.Telling.{Tells}
use Rattle.yapp.specs.declared.opening.Opened.{Opened}
use Rattle.yapp.proofs.ContentsLemmas.{answers_few, none_unread, with_all_read}
use Rattle.yapp.proofs.RunningLemmas.{memory_either}

-- ---- what is said of conditions

-- under a wide language, by what it doesn't judge
pub wide_said : {X : Type 0} → (language : Language) (wide : Wide) (names : List Text) (contents : List (List ℕ)) (next : Text → Outcome) (go : X → Outcome) (r : Result X Failure)
    → language ≡ rfc wide
    → LeadsTo (if is_any wide.unjudged then with_modules language names contents (λ modules files. next (note_of wide.unjudged modules)) else next []) go r
    → LeadsTo (with_conditions language names contents next) go r
wide_said language wide names contents next go r is leads = subst (λ (l : Language). LeadsTo (with_conditions l names contents next) go r) (sym is)
    (subst (λ (l : Language). LeadsTo (if is_any wide.unjudged then with_modules l names contents (λ modules files. next (note_of wide.unjudged modules)) else next []) go r) is leads)

-- ---- what a document is opened to

abbrev pub goes_on : (Schema → Tree → Text → Outcome) → Opened → Outcome
goes_on next o = next (view o.live).schema (view o.live).tree (string_bytes o.note)

pub opened_leads : (s : Schema) (t : Tree) (whole middle : Outcome) (next : Schema → Tree → Text → Outcome) (r : Result Opened Failure) → whole ≡ middle
    → LeadsTo middle (λ o. next s t (string_bytes o.note)) r → IfOk r (λ o. view o.live ≡ opened s t) → LeadsTo whole (goes_on next) r
opened_leads s t whole middle next (Ok o) e leads is = e ∙ (leads ∙ sym (ap (λ (l : Live). next l.schema l.tree (string_bytes o.note)) is))
opened_leads s t whole middle next (Err failure) e leads is = subst (FailsWith failure) (sym e) leads

pub opened_fresh : (s : Schema) (t : Tree) (r : Result Opened Failure) → IfOk r (λ o. view o.live ≡ opened s t) → IfOk r (λ o. (view o.live).is_stale ≡ false)
opened_fresh s t (Ok o) is = ap (λ (l : Live). l.is_stale) is
opened_fresh s t (Err failure) is = tt

pub opened_configured : (of_configuration : Bool) (configured : Option rust.Schema) (s : Schema) (t : Tree) (r : Result Opened Failure)
    → option_map schema_view.view configured ≡ configured_by of_configuration s → IfOk r (λ o. view o.live ≡ opened s t) → IfOk r (λ o. o.configured ≡ configured)
    → IfOk r (λ o. option_map schema_view.view o.configured ≡ configured_by of_configuration (view o.live).schema)
opened_configured of_configuration configured s t (Ok o) looks is same =
    ap (option_map schema_view.view) same ∙ (looks ∙ sym (ap (λ (l : Live). configured_by of_configuration l.schema) is))
opened_configured of_configuration configured s t (Err failure) looks is same = tt

-- ---- files

abbrev Leads : Opening → List (List ℕ) → Result Opened Failure → Type 0
Leads o texts r = (next : Schema → Tree → Text → Outcome) → LeadsTo (opened_with o texts next) (goes_on next) r

-- all were read
by_texts : (before after : Store) (o : Opening) (texts : List (List ℕ)) (r : Result Opened Failure) → WereRead before after (files_opened o) (map Some texts)
    → ((next : Schema → Tree → Text → Outcome) → opened_from o (map Some texts) next ≡ opened_with o texts next) → after.failures ≡ before.failures
    → Leads o texts r → ComesToOpen before after o r
by_texts before after o texts (Ok w) read all same is = (map Some texts, read, λ next. all next ∙ is next)
by_texts before after o texts (Err (failures.Unread name cause)) read all same is = inl (map Some texts, read, λ next. all next ∙ is next)
by_texts before after o texts (Err (failures.Text name code line hint jump)) read all same is = inl (map Some texts, read, λ next. all next ∙ is next)
by_texts before after o texts (Err (failures.Compile name code line hint jump)) read all same is = inl (map Some texts, read, λ next. all next ∙ is next)
by_texts before after o texts (Err (failures.Document name schema code place hint stop jump)) read all same is = inl (map Some texts, read, λ next. all next ∙ is next)
by_texts before after o texts (Err (failures.Repeated name schema place hint jump)) read all same is = inl (map Some texts, read, λ next. all next ∙ is next)
by_texts before after o texts (Err (failures.NoModule name)) read all same is = inl (map Some texts, read, λ next. all next ∙ is next)
by_texts before after o texts (Err (failures.NoCode word)) read all same is = inl (map Some texts, read, λ next. all next ∙ is next)
by_texts before after o texts (Err failures.Memory) read all same is =
    let few = answers_few before.contents (files_opened o) (map Some texts) read.answered in
    inr (record { failures = same; reads = omega (arith, read.reads, few) }, refl)

pub opened_by_texts : (before after : Store) (o : Opening) (files : List Text) (texts : List (List ℕ)) (r : Result Opened Failure) → files ≡ files_opened o
    → WereRead before after files (map Some texts) → Leads o texts r → ComesToOpen before after o r
unfolding opened_from
opened_by_texts before after o files texts r e read is =
    let told : WereRead before after (files_opened o) (map Some texts) = subst (λ ns. WereRead before after ns (map Some texts)) e read in
    let none : after.failures ≡ before.failures = omega (arith, read.failures, none_unread texts) in
    by_texts before after o texts r told (λ next. with_all_read before.contents (files_opened o) texts (λ contents. opened_with o contents next) told.answered) none is

abbrev pub ReadsNone : Store → Store → List Text → Failure → Type 0
ReadsNone before after names failure = ((answers : FileAnswers) × WereRead before after names answers
    × ((next : List (List ℕ) → Outcome) → with_files names answers next ≡ outcome_of failure))
    ⊎ (WasCut before after names × (failure ≡ failures.Memory))

pub opened_by_none : (before after : Store) (o : Opening) (files : List Text) (f : Failure) → files ≡ files_opened o
    → ReadsNone before after files f → ComesToOpen before after o (Err f)
unfolding opened_from
opened_by_none before after o files f e (inl read) = inl (
  read.0,
  subst (λ ns. WereRead before after ns read.0) e read.1,
  λ next. subst (λ ns. with_files ns read.0 (λ contents. opened_with o contents next) ≡ outcome_of f) e (read.2 (λ contents. opened_with o contents next)),
)
opened_by_none before after o files f e (inr none) = inr (subst (WasCut before after) e none.0, none.1)

-- ---- sessions

without_either : (besides : Besides) (with_reasons : Bool) → printed_with besides with_reasons without_memory ≡ memory_told
without_either besides true = refl
without_either besides false = refl

-- none is opened
pub session_refused : (before after : Store) (o : Opening) (with_reasons : Bool) (caller : Party) (output output_after errors errors_after : Side) (f : Failure) (end : End)
    → ComesToOpen before after o (Err f) → Tells output output_after errors errors_after with_reasons false (besides_in f) (outcome_of f) end
    → IsSession before after o with_reasons caller caller output output_after errors errors_after end
session_refused before after o with_reasons caller output output_after errors errors_after f end (inl refused) (inl brings) =
    inl (outcome_of f, besides_in f, refused, refl, brings)
session_refused before after o with_reasons caller output output_after errors errors_after f end (inr cut) (inl brings) =
    let same : printed_with (besides_in f) with_reasons (outcome_of f) ≡ memory_told =
    ap (λ (g : Failure). printed_with (besides_in f) with_reasons (outcome_of g)) cut.1 ∙ without_either (besides_in f) with_reasons in
    inr (inl (cut.0, refl, subst (λ p. Brings output output_after errors errors_after p end) same brings))
session_refused before after o with_reasons caller output output_after errors errors_after f end comes (inr none) = absurd cc

-- one is opened, and they talk
pub session_held : (before after : Store) (o : Opening) (with_reasons : Bool) (caller caller_after : Party) (output errors errors_after : Side) (s : Schema) (t : Tree)
    (note told : Text) (status : ℕ) → AreOpened before after o s t note → told ≡ note → IsTalk o s t told with_reasons caller caller_after errors errors_after status
    → IsSession before after o with_reasons caller caller_after output output errors errors_after (with_status status)
session_held before after o with_reasons caller caller_after output errors errors_after s t note told status are said talk = inr (inr (
  s,
  t,
  note,
  status,
  are,
  subst (λ (n : Text). IsTalk o s t n with_reasons caller caller_after errors errors_after status) said talk,
  refl,
  refl,
))

-- what comes of other words, which are the same
pub does_same : (before after : Store) (asked other : Asked) (given wanted : Bool) (caller caller_after : Party) (output output_after errors errors_after : Side) (end : End)
    → asked ≡ other → given ≡ wanted → Does before after asked given caller caller_after output output_after errors errors_after end
    → Does before after other wanted caller caller_after output output_after errors errors_after end
does_same before after asked other given wanted caller caller_after output output_after errors errors_after end e reasons does =
    subst (λ (b : Bool). Does before after other b caller caller_after output output_after errors errors_after end) reasons
    (subst (λ (a : Asked). Does before after a given caller caller_after output output_after errors errors_after end) e does)

-- where memory was wanting for what words ask
pub does_without : (store : Store) (asked : Asked) (with_reasons : Bool) (caller : Party) (output output_after errors errors_after : Side) (end : End)
    → Brings output output_after errors errors_after memory_told end → Does store store asked with_reasons caller caller output output_after errors errors_after end
does_without store (report by_lines request) with_reasons caller output output_after errors errors_after end brings = (
  refl,
  without_memory,
  unsaid,
  inr (inl (record { failures = refl; reads = omega arith }), refl),
  memory_either unsaid with_reasons output output_after errors errors_after end brings,
)
does_without store (session o) with_reasons caller output output_after errors errors_after end brings =
    inr (inl (record { failures = refl; reads = omega arith }, refl, brings))
