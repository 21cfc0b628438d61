-- What a live document keeps is the document that it stores, and what its store tells are the faults of that.
use Rattle.std.proofs.Common.{◌≡◌, ℕ, ◌+◌, ◌≤◌, Bool, true, false, List, length, Option, Some, None, Result, Ok, Err, refl, sym, ap, ◌∙◌, subst, arith}
use Rattle.std.specs.Prelude.{if◌then◌else◌, IfOk}
use Rattle.yspec.specs.Forest.{end, size}
use Rattle.yspec.specs.schema.Schema.{Schema}
use Rattle.yspec.specs.document.Document.{Tree}
use Rattle.yspec.specs.document.Fault.{Fault}
use Rattle.yspec.specs.document.Faults.{faults_of}
use Rattle.yspec.specs.document.Fitting.{Fits}
use Rattle.yspec.specs.document.Sorting.{IsSorted}
use Rattle.yspec.specs.edit.EditText.{Edit}
use Rattle.yspec.specs.edit.Editing.{EditRefusal, applied}
use Rattle.yspec.specs.edit.Live as spec
use Rattle.yspec.specs.edit.Live.{faults_in, made_anew, made_stale, opened}
use Rattle.yspec.proofs.DocumentProofs.SortingLemmas.{in_order}
use Rattle.yspec.proofs.EditProofs.AnswerLemmas.{If}
use Rattle.yspec.proofs.EditProofs.FittingEditLemmas.{edit_fits}
use Rattle.yschema_model.specs.View as schema_view
use Rattle.yschema_model.specs.declared.schema.Schema as rust
use Rattle.yschema_model.proofs.CallerLemmas.{numbered}
use Rattle.yinst_tree.specs.declared.fault.DocCode.{DocCode}
use Rattle.yinst_path.specs.declared.edit.EditCode.{EditCode}
use Rattle.yinst_path.specs.declared.edit.EditFault.{EditFault}
use Rattle.yinst_path.specs.declared.edit.EditFault.TheVariants.{Refused, Memory}
use Rattle.yspec_reach.specs.Reach.{reach}
use Rattle.yspec_fit.proofs.FitLemmas.{cases_of}
use Rattle.ylive_list.specs.Listed.{list_told}
use Rattle.ystore.specs.Store.{CountsOne, Stays, loans, node_count, reads, total_at}
use Rattle.ystore_rows.specs.declared.row.Row.TheVariants.{Top}
use Rattle.ystore.specs.declared.nodes.Nodes.{Nodes}
use Rattle.ystore_tree.specs.Copies.{listed_below}
use Rattle.ystore_tree.specs.Hanging.{Branches, Hangs, Keeps, tree_of}
use Rattle.ystore_tree.specs.Parts.{OnlyReads}
use Rattle.ystore_tree.proofs.CopyLemmas.{levels_within, listed}
use Rattle.ystore_tree.proofs.PartLemmas.{one_read}
use Rattle.ylive_marks.specs.Totals.{IsTree}
use Rattle.ylive_marks.proofs.AgreeLemmas.{entries_keys}
use Rattle.ylive_retell.proofs.PlanLemmas.{keeps_read}
use Rattle.ylive_retell.proofs.StillLemmas.{told_still}
use Rattle.ylive_list.specs.Telling.{Tells}
use Rattle.ylive.proofs.JoinedLemmas.{count_is, faults_is, tells_is}
use Rattle.ylive_edit.specs.Places.{Amends, HoldsSorted, HoldsTold, Shows}
use Rattle.ylive_edit.specs.Reads.{ReadsWithin}
use Rattle.ylive.specs.Kept.{AppliesIn, IsLive, Parts}
use Rattle.ylive.specs.View.{view}
use Rattle.ylive.specs.Answers.{Accepts, IsRefusal, RisesBy, answer_to, known_count}
use Rattle.ylive.specs.declared.outcome.Applied.{Applied}

-- ---- what is listed

abbrev pub document : Nodes → Tree
document nodes = listed_below (node_count nodes) nodes Top

listed_is : (nodes : Nodes) (f : Branches) → Hangs nodes Top f → size f ≤ node_count nodes → document nodes ≡ tree_of f
listed_is nodes f hangs within = let deep = levels_within f in listed nodes (node_count nodes) Top f hangs (omega (arith, deep, within))

all_within : (nodes : Nodes) (f : Branches) → Keeps nodes f Top end → size f ≤ node_count nodes
all_within nodes f keeps = let all = keeps.all in omega (arith, all)

document_shown : (nodes : Nodes) (t : Tree) → Shows nodes t → document nodes ≡ t
document_shown nodes t shows = listed_is nodes shows.branches shows.hangs shows.within ∙ shows.is_tree

document_told : (s : Schema) (nodes : Nodes) (t : Tree) → HoldsTold s nodes t → document nodes ≡ t
document_told s nodes t holds = listed_is nodes holds.branches holds.keeps.hangs (all_within nodes holds.branches holds.keeps) ∙ holds.is_tree

-- ---- what is kept

pub live_told : (s : Schema) (nodes : Nodes) (is_stale : Bool) (t : Tree) → HoldsTold s nodes t → Fits s t → IsLive s nodes is_stale
live_told s nodes is_stale t holds fits = record {
  branches = holds.branches;
  hangs = holds.keeps.hangs;
  within = all_within nodes holds.branches holds.keeps;
  fits = subst (Fits s) (sym holds.is_tree) fits;
  told = λ fresh. (holds.keeps, holds.told);
}

live_shown : (s : Schema) (nodes : Nodes) (t : Tree) → Shows nodes t → Fits s t → IsLive s nodes true
live_shown s nodes t shows fits = record {
  branches = shows.branches;
  hangs = shows.hangs;
  within = shows.within;
  fits = subst (Fits s) (sym shows.is_tree) fits;
  told = λ fresh. absurd cc;
}

pub live_stale : (s : Schema) (nodes : Nodes) (is_stale : Bool) → IsLive s nodes is_stale → IsLive s nodes true
live_stale s nodes is_stale live = record {
  branches = live.branches;
  hangs = live.hangs;
  within = live.within;
  fits = live.fits;
  told = λ fresh. absurd cc;
}

module _ (s : Schema) (nodes : Nodes) (is_stale : Bool) (live : IsLive s nodes is_stale) where
  document_kept : document nodes ≡ tree_of live.branches
  document_kept = listed_is nodes live.branches live.hangs live.within

  pub fits_kept : Fits s (document nodes)
  fits_kept = subst (Fits s) (sym document_kept) live.fits

  told_kept : is_stale ≡ false → HoldsTold s nodes (document nodes)
  told_kept fresh =
      record { branches = live.branches; is_tree = sym document_kept; keeps = (live.told fresh).0; told = (live.told fresh).1 }

module _ {X E : Type 0} (nodes shown : Nodes) (see : X → Tree) (same : shown ≡ nodes) where
  -- what is listed of a store that is shown
  pub copy_is : (schema : rust.Schema) (is_stale : Bool) (old : Parts) (r : Result X E) → record { schema = schema; nodes = nodes; is_stale = is_stale } ≡ old
      → IfOk r (λ x. see x ≡ document shown) → IfOk r (λ x. see x ≡ (view old).tree)
  copy_is schema is_stale old (Ok x) is copy = copy ∙ (ap document same ∙ ap (λ (p : Parts). document p.nodes) is)
  copy_is schema is_stale old (Err e) is copy = tt

  -- and it fits
  pub copy_fits : (schema : rust.Schema) (is_stale : Bool) (old : Parts) (r : Result X E) → record { schema = schema; nodes = nodes; is_stale = is_stale } ≡ old
      → IsLive (schema_view.view schema) nodes is_stale → IfOk r (λ x. see x ≡ document shown) → IfOk r (λ x. Fits (view old).schema (see x))
  copy_fits schema is_stale old (Ok x) is live copy =
      subst (λ (p : Parts). Fits (view p).schema (see x)) is
      (subst (Fits (schema_view.view schema)) (sym (copy ∙ ap document same)) (fits_kept (schema_view.view schema) nodes is_stale live))
  copy_fits schema is_stale old (Err e) is live copy = tt

holds_still : (s : Schema) (before after : Nodes) (t : Tree) → OnlyReads before after → HoldsTold s before t → HoldsTold s after t
holds_still s before after t only holds =
    record {
      branches = holds.branches;
      is_tree = holds.is_tree;
      keeps = keeps_read before after holds.branches Top end only holds.keeps;
      told = told_still before after only.held (entries_keys before after only.entries) s holds.branches holds.told;
    }

only_lent : (before lent : Nodes) → Stays before lent → OnlyReads before lent
only_lent before lent stays = record { held = stays.held; entries = stays.entries; node_count = stays.node_count }

-- a store that is lent holds what it held
pub holds_lent : (s : Schema) (nodes lent : Nodes) (is_stale : Bool) → Stays nodes lent → IsLive s nodes is_stale → is_stale ≡ false
    → (tree : Tree) × HoldsTold s lent tree × Fits s tree
holds_lent s nodes lent is_stale stays live fresh = (
  document nodes,
  holds_still s nodes lent (document nodes) (only_lent nodes lent stays) (told_kept s nodes is_stale live fresh),
  fits_kept s nodes is_stale live,
)

-- ---- opening

-- of a store made of the document
pub opened_is : (s : Schema) (nodes : Nodes) (t : Tree) → HoldsTold s nodes t → record { schema = s; tree = document nodes; is_stale = false } ≡ opened s t
opened_is s nodes t holds = ap (opened s) (document_told s nodes t holds)

module _ (schema : rust.Schema) (before after : Nodes) (is_stale : Bool) (old : Parts) (t : Tree) (is : record { schema = schema; nodes = before; is_stale = is_stale } ≡ old)
    (holds : HoldsTold (schema_view.view schema) after t) where
  pub reopened_is : view (record { schema = schema; nodes = after; is_stale = false }) ≡ opened (view old).schema t
  reopened_is = opened_is (schema_view.view schema) after t holds ∙ ap (λ (p : Parts). opened (schema_view.view p.schema) t) is

  pub anew_is : t ≡ (view old).tree → view (record { schema = schema; nodes = after; is_stale = false }) ≡ made_anew (view old)
  anew_is copy = reopened_is ∙ ap (opened (view old).schema) copy

  pub live_anew : Fits (view old).schema t → IsLive (schema_view.view schema) after false
  live_anew fits = live_told (schema_view.view schema) after false t holds (subst (λ (p : Parts). Fits (view p).schema t) (sym is) fits)

-- ---- what is told

tree_kept : (nodes : Nodes) (f : Branches) → Keeps nodes f Top end → IsTree nodes f
tree_kept nodes f keeps = record {
  hangs = keeps.hangs;
  once = λ number. let once = keeps.once number in omega (arith, once);
  within = all_within nodes f keeps;
}

module _ (schema : rust.Schema) (nodes : Nodes) (t : Tree) (holds : HoldsTold (schema_view.view schema) nodes t) (fits : Fits (schema_view.view schema) t) where
  abbrev s : Schema
  s = schema_view.view schema

  branches_fit : Fits s (tree_of holds.branches)
  branches_fit = subst (Fits s) (sym holds.is_tree) fits

  -- the total of the top is how many faults there are
  pub total_is : total_at nodes Top ≡ length (faults_of s t)
  total_is =
      count_is s nodes holds.branches (tree_kept nodes holds.branches holds.keeps) holds.told (numbered schema) (cases_of s schema.fit) branches_fit
      ∙ ap (λ (t : Tree). length (faults_of s t)) holds.is_tree

  all_are : list_told s nodes ≡ faults_of s t
  all_are =
      faults_is s nodes holds.branches (tree_kept nodes holds.branches holds.keeps) holds.told (numbered schema) (cases_of s schema.fit) branches_fit
      ∙ ap (faults_of s) holds.is_tree

-- the faults of a document that isn't stale
pub lists_all : (schema : rust.Schema) (nodes shown : Nodes) (is_stale : Bool) (old : Parts) (fs : List Fault)
    → record { schema = schema; nodes = nodes; is_stale = is_stale } ≡ old → shown ≡ nodes → IsLive (schema_view.view schema) nodes is_stale
    → is_stale ≡ false → fs ≡ list_told (schema_view.view schema) shown → ((view old).is_stale ≡ false) × (fs ≡ faults_in (view old))
lists_all schema nodes shown is_stale old fs is same live fresh told =
    let s = schema_view.view schema in
    let all : fs ≡ faults_of s (document nodes) = told
    ∙ (ap (list_told s) same ∙ all_are schema nodes (document nodes) (told_kept s nodes is_stale live fresh) (fits_kept s nodes is_stale live)) in
    subst (λ (p : Parts). ((view p).is_stale ≡ false) × (fs ≡ faults_in (view p))) is (fresh, all)

-- a walk over them
pub walks_all : (schema : rust.Schema) (nodes shown : Nodes) (is_stale : Bool) (old : Parts) (fs : List Fault)
    → record { schema = schema; nodes = nodes; is_stale = is_stale } ≡ old → shown ≡ nodes → IsLive (schema_view.view schema) nodes is_stale → is_stale ≡ false
    → ((f : Branches) → Hangs shown Top f → Tells (schema_view.view schema) shown f → Fits (schema_view.view schema) (tree_of f)
    → fs ≡ faults_of (schema_view.view schema) (tree_of f)) → ((view old).is_stale ≡ false) × (fs ≡ faults_in (view old))
walks_all schema nodes shown is_stale old fs is same live fresh walked =
    let s = schema_view.view schema in
    let f = live.branches in
    let kept = live.told fresh in
    let tells = tells_is s nodes f (tree_kept nodes f kept.0) kept.1 in
    let all : fs ≡ faults_of s (document nodes) = walked f (subst (λ (n : Nodes). Hangs n Top f) (sym same) kept.0.hangs) (subst (λ (n : Nodes). Tells s n f) (sym same) tells) live.fits
    ∙ ap (faults_of s) (sym (document_kept s nodes is_stale live)) in
    subst (λ (p : Parts). ((view p).is_stale ≡ false) × (fs ≡ faults_in (view p))) is (fresh, all)

-- and their number
pub known_is : (schema : rust.Schema) (nodes shown : Nodes) (is_stale : Bool) (old : Parts) (n : ℕ) → record { schema = schema; nodes = nodes; is_stale = is_stale } ≡ old
    → shown ≡ nodes → IsLive (schema_view.view schema) nodes is_stale → is_stale ≡ false → n ≡ total_at shown Top → Some n ≡ known_count (view old)
known_is schema nodes shown is_stale old n is same live fresh total =
    let s = schema_view.view schema in
    let count : n ≡ length (faults_of s (document nodes)) = total
    ∙ (ap (λ (n : Nodes). total_at n Top) same
    ∙ total_is schema nodes (document nodes) (told_kept s nodes is_stale live fresh) (fits_kept s nodes is_stale live)) in
    subst (λ (p : Parts). Some n ≡ known_count (view p)) is
    (ap (λ (k : ℕ). Some k) count ∙ sym (ap (λ (b : Bool). if b then None else Some (length (faults_of s (document nodes)))) fresh))

-- ---- an edit of a store

-- a store that is read tells what it told
pub holds_read : (s : Schema) (before after : Nodes) (t : Tree) → CountsOne before after → HoldsTold s before t → HoldsTold s after t
holds_read s before after t counts = holds_still s before after t (one_read before after counts)

-- of a document that fits the rows are in order
pub sorted_read : (s : Schema) (before after : Nodes) → CountsOne before after → ((tree : Tree) × HoldsTold s before tree × Fits s tree) → HoldsSorted s after
sorted_read s before after counts there =
    record { tree = there.0; holds = holds_read s before after there.0 counts there.1; sorted = in_order s there.0 there.2 }

changed_fits : (schema : rust.Schema) (t changed : Tree) (e : Edit) → Fits (schema_view.view schema) t → applied (schema_view.view schema) t e ≡ Ok changed
    → Fits (schema_view.view schema) changed
changed_fits schema t changed e fits is =
    let s = schema_view.view schema in
    subst (λ (r : Result Tree EditRefusal). If (Fits s) r) is (edit_fits s t e (numbered schema) fits)

-- an edit that isn't done
pub applies_not : (s : Schema) (first read after : Nodes) (t : Tree) (e : Edit) (fault : EditFault) → CountsOne first read → HoldsTold s first t → Fits s t
    → (HoldsTold s read t → IsSorted t → Amends {X = Unit {0}} s t (applied s t e) after (Err fault)) → AppliesIn s t e after (Err fault)
applies_not s first read after t e (Refused code doc) once holds fits amends = amends (holds_read s first read t once holds) (in_order s t fits)
applies_not s first read after t e Memory once holds fits amends = amends (holds_read s first read t once holds) (in_order s t fits)

-- the numbers of faults before it and after it
pub applies_in : (schema : rust.Schema) (first read amended last : Nodes) (t : Tree) (e : Edit) (counts : Applied)
    → CountsOne first read → CountsOne amended last → HoldsTold (schema_view.view schema) first t → Fits (schema_view.view schema) t
    → counts.before ≡ total_at first Top → counts.after ≡ total_at amended Top
    → (HoldsTold (schema_view.view schema) read t → IsSorted t
    → (changed : Tree) × (applied (schema_view.view schema) t e ≡ Ok changed) × HoldsTold (schema_view.view schema) amended changed)
    → AppliesIn (schema_view.view schema) t e last (Ok counts)
applies_in schema first read amended last t e counts once again holds fits before after amends =
    let s = schema_view.view schema in
    let done = amends (holds_read s first read t once holds) (in_order s t fits) in (
      done.0,
      done.1,
      holds_read s amended last done.0 again done.2,
      before ∙ total_is schema first t holds fits,
      after ∙ total_is schema amended done.0 done.2 (changed_fits schema t done.0 e fits done.1),
    )

-- ---- an edit of a live document

module _ (schema : rust.Schema) (before lent after : Nodes) (is_stale : Bool) (e : Edit) (stays : Stays before lent) (live : IsLive (schema_view.view schema) before is_stale)
    (fresh : is_stale ≡ false) where
  abbrev of : Schema
  of = schema_view.view schema

  -- what came of it
  abbrev pub Came : Result Applied EditFault → Type 0
  Came r = (tree : Tree) → HoldsTold of lent tree → Fits of tree → AppliesIn of tree e after r

  fits_before : Fits of (document before)
  fits_before = fits_kept of before is_stale live

  held_lent : HoldsTold of lent (document before)
  held_lent = holds_still of before lent (document before) (only_lent before lent stays) (told_kept of before is_stale live fresh)

  came_of : (r : Result Applied EditFault) → Came r → AppliesIn of (document before) e after r
  came_of r came =
      came (document before) held_lent fits_before

  pub live_accepted : (counts : Applied) → Came (Ok counts) → IsLive of after is_stale
  live_accepted counts came =
      let done = came_of (Ok counts) came in
      live_told of after is_stale done.0 done.2 (changed_fits schema (document before) done.0 e fits_before done.1)

  of_fault : (fault told : EditFault) → fault ≡ told → Came (Err fault) → AppliesIn of (document before) e after (Err told)
  of_fault fault told is came = came_of (Err told) (subst (λ (f : EditFault). Came (Err f)) is came)

  pub live_refused : (code : EditCode) (doc : Option DocCode) (fault : EditFault) → fault ≡ Refused code doc → Came (Err fault) → IsLive of after is_stale
  live_refused code doc fault is came = live_told of after is_stale (document before) (of_fault fault (Refused code doc) is came).1 fits_before

  pub live_memory : (fault : EditFault) → fault ≡ Memory → Came (Err fault) → IsLive of after true
  live_memory fault memory came = live_shown of after (document before) (of_fault fault Memory memory came) fits_before

  module _ (old : Parts) (is : record { schema = schema; nodes = before; is_stale = is_stale } ≡ old) where
    abbrev now : Bool → spec.Live
    now b = view (record { schema = schema; nodes = after; is_stale = b })

    pub accepts : (counts : Applied) → Came (Ok counts) → Accepts (view old) e counts (now is_stale)
    accepts counts came =
        let done = came_of (Ok counts) came in
        let left : document after ≡ done.0 = document_told of after done.0 done.2 in
        subst (λ (p : Parts). Accepts (view p) e counts (now is_stale)) is
        (record {
          fresh = fresh;
          answer = subst (λ (t : Tree). applied of (document before) e ≡ Ok t) (sym left) done.1;
          left = refl;
          count_before = done.3;
          count_after = done.4 ∙ ap (λ (t : Tree). length (faults_of of t)) (sym left);
        })

    pub refuses : (code : EditCode) (doc : Option DocCode) (fault : EditFault) → fault ≡ Refused code doc → Came (Err fault)
        → ((view old).is_stale ≡ false) × IsRefusal (Refused code doc) (answer_to e (view old)) × (now is_stale ≡ view old)
    refuses code doc fault refused came =
        let done = of_fault fault (Refused code doc) refused came in
        subst (λ (p : Parts). ((view p).is_stale ≡ false) × IsRefusal (Refused code doc) (answer_to e (view p)) × (now is_stale ≡ view p)) is
        (fresh, done.0, ap (λ (t : Tree). record { schema = of; tree = t; is_stale = is_stale }) (document_told of after (document before) done.1))

    pub wants_memory : (fault : EditFault) → fault ≡ Memory → Came (Err fault) → ((view old).is_stale ≡ false) × (now true ≡ made_stale (view old))
    wants_memory fault memory came =
        subst (λ (p : Parts). ((view p).is_stale ≡ false) × (now true ≡ made_stale (view p))) is
        (fresh, ap (λ (t : Tree). record { schema = of; tree = t; is_stale = true }) (document_shown after (document before) (of_fault fault Memory memory came)))

  -- what is read
  abbrev pub Reads : Result Applied EditFault → Type 0
  Reads r = (tree : Tree) → HoldsTold of lent tree → Fits of tree → ReadsWithin (reach of tree e) lent after r

  module _ (old : Parts) (is : record { schema = schema; nodes = before; is_stale = is_stale } ≡ old) (rises : reads before ≤ reads after) where
    few_of : reads after ≤ reads lent + reach of (document before) e → RisesBy (reach (view old).schema (view old).tree e) (reads old.nodes) (reads after)
    few_of few =
        subst (λ (p : Parts). RisesBy (reach (view p).schema (view p).tree e) (reads p.nodes) (reads after)) is
        (rises, subst (λ n. reads after ≤ n + reach of (document before) e) stays.reads few)

    pub few_accepted : (counts : Applied) → Reads (Ok counts) → RisesBy (reach (view old).schema (view old).tree e) (reads old.nodes) (reads after)
    few_accepted counts few = few_of (few (document before) held_lent fits_before)

    pub few_refused : (code : EditCode) (doc : Option DocCode) (fault : EditFault) → fault ≡ Refused code doc → Reads (Err fault)
        → RisesBy (reach (view old).schema (view old).tree e) (reads old.nodes) (reads after)
    few_refused code doc fault refused few =
        few_of (subst (λ (f : EditFault). Reads (Err f)) refused few (document before) held_lent fits_before)

pub never_fewer : (schema : rust.Schema) (before after : Nodes) (is_stale : Bool) (old : Parts) → record { schema = schema; nodes = before; is_stale = is_stale } ≡ old
    → reads before ≤ reads after → reads old.nodes ≤ reads after
never_fewer schema before after is_stale old is rises = subst (λ (p : Parts). reads p.nodes ≤ reads after) is rises

-- ---- how often the store was lent

pub tried : (schema : rust.Schema) (before : Nodes) (is_stale : Bool) (old : Parts) (after : ℕ) → record { schema = schema; nodes = before; is_stale = is_stale } ≡ old
    → after ≡ loans before + 1 → after ≡ loans old.nodes + 1
tried schema before is_stale old after is once = subst (λ (p : Parts). after ≡ loans p.nodes + 1) is once
