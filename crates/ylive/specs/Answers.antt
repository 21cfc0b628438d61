-- What calls on a live document answer, and what they leave of it, by cases.
use Rattle.std.specs.Prelude.{◌≡◌, ◌⊎◌, ℕ, ◌+◌, ◌<◌, ◌≤◌, true, false, List, length, take, Option, Some, None, Result, Ok, Err, Vec, if◌then◌else◌}
use Rattle.yspec.specs.document.Document.{Tree}
use Rattle.yspec.specs.edit.EditText as text
use Rattle.yspec.specs.edit.Editing as editing
use Rattle.yspec.specs.edit.Editing.{EditRefusal, applied, decision, decisions, tree_or}
use Rattle.yspec.specs.edit.Live as spec
use Rattle.yspec.specs.edit.Live.{fault_count, faults_in, made_stale, with_tree}
use Rattle.yspec_reach.specs.Reach.{reach}
use Rattle.yinst_path.specs.Applying.{refusal_view}
use Rattle.yinst_path.specs.declared.edit.EditFault.{EditFault}
use Rattle.yinst_path.specs.declared.edit.EditFault.TheVariants as faults
use Rattle.ycheck.specs.View.{views}
use Rattle.ycheck.specs.declared.fault.Fault.{Fault}
use Rattle.ylive_list.specs.Walked.{left}
use Rattle.ylive_list.specs.declared.walk.Walk.{Walk}
use Rattle.ylive.specs.View.{outcome_view, outcomes_view}
use Rattle.ylive.specs.declared.outcome.Applied.{Applied}
use Rattle.ylive.specs.declared.outcome.Refused.{Refused}
use Rattle.ylive.specs.declared.outcome.Refused.TheVariants as refusals
use Rattle.ylive.specs.declared.outcome.Outcome.{Outcome}
use Rattle.ylive.specs.declared.outcome.Stopped.{Stopped}
use Rattle.ylive.specs.declared.outcome.StopCode.{StopCode}
use Rattle.ylive.specs.declared.outcome.StopCode.TheVariants.{E12, E13}
use Rattle.ylive.specs.declared.outcome.ListFault.{ListFault}
use Rattle.ylive.specs.declared.outcome.ListFault.TheVariants as lists

-- ---- one edit

abbrev pub answer_to : text.Edit → spec.Live → Result Tree EditRefusal
answer_to e live = applied live.schema live.tree e

-- an accepted edit has its tree, and the numbers of faults before and after it are told
pub record Accepts (before : spec.Live) (e : text.Edit) (counts : Applied) (after : spec.Live) : Type 0 where
  pub fresh : before.is_stale ≡ false
  pub answer : answer_to e before ≡ Ok after.tree
  pub left : after ≡ with_tree after.tree before
  pub count_before : counts.before ≡ fault_count before
  pub count_after : counts.after ≡ fault_count after

-- the refusal is the definition's, and not want of memory
abbrev pub IsRefusal : EditFault → Result Tree EditRefusal → Type 0
IsRefusal (faults.Refused code doc) answer = answer ≡ Err (refusal_view code doc)
IsRefusal faults.Memory answer = ⊥

-- a refused edit changes nothing; want of memory makes the document stale; an edit of a stale one changes nothing
abbrev pub Refuses : spec.Live → text.Edit → Refused → spec.Live → Type 0
Refuses before e (refusals.Edit fault) after = (before.is_stale ≡ false) × IsRefusal fault (answer_to e before) × (after ≡ before)
Refuses before e refusals.Memory after = (before.is_stale ≡ false) × (after ≡ made_stale before)
Refuses before e refusals.Stale after = (before.is_stale ≡ true) × (after ≡ before)

abbrev pub Edits : spec.Live → text.Edit → Result Applied Refused → spec.Live → Type 0
Edits before e (Ok counts) after = Accepts before e counts after
Edits before e (Err refused) after = Refuses before e refused after

-- by so many at most
abbrev pub RisesBy : ℕ → ℕ → ℕ → Type 0
RisesBy most before after = (before ≤ after) × (after ≤ before + most)

-- How the count of the store's reading calls rises where an edit of a document is accepted or refused: by its reach at most; by nothing
-- where the document was stale; where memory ran out it isn't said by how many.
abbrev pub ReadsFew : spec.Live → text.Edit → Result Applied Refused → ℕ → ℕ → Type 0
ReadsFew live e (Ok counts) before after = RisesBy (reach live.schema live.tree e) before after
ReadsFew live e (Err (refusals.Edit fault)) before after = RisesBy (reach live.schema live.tree e) before after
ReadsFew live e (Err refusals.Memory) before after = before ≤ after
ReadsFew live e (Err refusals.Stale) before after = after ≡ before

-- how often the store is lent to an edit: once, but not where the document was stale
abbrev pub TriesOnce : Result Applied Refused → ℕ → ℕ → Type 0
TriesOnce (Ok counts) before after = after ≡ before + 1
TriesOnce (Err (refusals.Edit fault)) before after = after ≡ before + 1
TriesOnce (Err refusals.Memory) before after = after ≡ before + 1
TriesOnce (Err refusals.Stale) before after = after ≡ before

-- ---- lists of edits

-- with so many edits decided, and the accepted ones of them applied
abbrev pub after_edits : List text.Edit → spec.Live → spec.Live
after_edits edits live = with_tree (editing.after live.schema live.tree edits) live

-- what comes of an edit of a document that isn't stale, or want of memory, which makes it stale
abbrev pub Decides : {E : Type 0} → spec.Live → text.Edit → Result Outcome E → spec.Live → Type 0
Decides before e (Ok outcome) after = (outcome_view outcome ≡ decision (answer_to e before))
    × (after ≡ with_tree (tree_or (answer_to e before) before.tree) before)
Decides before e (Err fault) after = after ≡ made_stale before

-- the number behind the `E`
abbrev pub stop_number : StopCode → ℕ
stop_number E12 = 12
stop_number E13 = 13

-- E12: memory ran out after so many edits, which were decided, and not all of them were; E13: the document was stale
abbrev pub Stops : StopCode → ℕ → spec.Live → List text.Edit → spec.Live → Type 0
Stops E12 done before edits after = (before.is_stale ≡ false) × (done < length edits) × (after ≡ made_stale (after_edits (take done edits) before))
Stops E13 done before edits after = (before.is_stale ≡ true) × (done ≡ 0) × (after ≡ before)

-- what comes of each edit, in order
abbrev pub Runs : {A : Type 0} → spec.Live → List text.Edit → Result (Vec Outcome A) Stopped → spec.Live → Type 0
Runs before edits (Ok outcomes) after = (before.is_stale ≡ false)
    × (outcomes_view outcomes.items ≡ decisions before.schema before.tree edits) × (after ≡ after_edits edits before)
Runs before edits (Err stopped) after = Stops stopped.code stopped.done before edits after

-- E12: the store was lent to each edit that was decided and to the next one, at which memory ran out; or there was no room for what
-- comes of them, and it was lent to none. E13: to none.
abbrev pub StopsAfter : StopCode → ℕ → ℕ → ℕ → Type 0
StopsAfter E12 done before after = (after ≡ before + (done + 1)) ⊎ ((done ≡ 0) × (after ≡ before))
StopsAfter E13 done before after = after ≡ before

-- how often the store is lent where edits are run: to each once
abbrev pub Tries : {A : Type 0} → List text.Edit → Result (Vec Outcome A) Stopped → ℕ → ℕ → Type 0
Tries edits (Ok outcomes) before after = after ≡ before + length edits
Tries edits (Err stopped) before after = StopsAfter stopped.code stopped.done before after

-- ---- faults

-- the number of its faults, where it is known
abbrev pub known_count : spec.Live → Option ℕ
known_count live = if live.is_stale then None else Some (fault_count live)

abbrev pub ListsNot : spec.Live → ListFault → Type 0
ListsNot live lists.Stale = live.is_stale ≡ true
ListsNot live lists.Memory = live.is_stale ≡ false

-- the list of the definition, of a document that isn't stale
abbrev pub Lists : {A : Type 0} → spec.Live → Result (Vec Fault A) ListFault → Type 0
Lists live (Ok faults) = (live.is_stale ≡ false) × (views faults.items ≡ faults_in live)
Lists live (Err fault) = ListsNot live fault

-- a walk that gives the list of the definition, of a document that isn't stale
abbrev pub Walks : spec.Live → Option Walk → Type 0
Walks live (Some walk) = (live.is_stale ≡ false) × (left walk ≡ faults_in live)
Walks live None = live.is_stale ≡ true
