-- Loops over rows of stored nodes: what is kept of them, and what is told of them.
use Rattle.std.proofs.Common.{◌≡◌, ℕ, ◌+◌, ◌≤◌, ◌<◌, ◌++◌, false, cond, List, [], ◌∷◌, length, drop, get_or, Option, Some, None, refl, sym, ap, ◌∙◌, append_assoc}
use Rattle.std.proofs.lemmas.List.{at_drop_more, at_drop_all, append-nil}
use Rattle.yspec.specs.Forest.{end, node, join}
use Rattle.yspec.specs.schema.Schema.{Schema}
use Rattle.yspec.specs.document.Document as spec
use Rattle.yspec.specs.document.Document.{Tree, Step}
use Rattle.yspec.specs.document.Fault.{Fault}
use Rattle.yspec.specs.document.StateData.{configuration_tree, is_state, state_faults_in, state_told, step_behind}
use Rattle.yspec.proofs.ForestLemmas.{join_end}
use Rattle.yinst_tree.specs.View.{view, row_view}
use Rattle.yinst_tree.proofs.RowLemmas.{join_last}
use Rattle.yinst_tree.specs.declared.tree.Stored.{Stored}
use Rattle.ycheck_config.specs.Kept.{kept_first}

-- a row from a place on: the node there, and what follows
pub row_from : (row : List Stored) (i : ℕ) (x : Stored) → i < length row → x ≡ get_or row i x
    → row_view (drop i row) ≡ node (view x).0 (view x).1 (row_view (drop (i + 1) row))
row_from row i x within is =
    at_drop_more (λ ss. row_view ss) row i x within ∙ ap (λ (y : Stored). row_view (y ∷ drop (i + 1) row)) (sym is)

pub kept_on : (s : Schema) (row nodes more : List Stored) (i : ℕ) (x : Stored) (whole : Tree) → i < length row → x ≡ get_or row i x
    → ((rest : Tree) → join (row_view more) rest ≡ join (row_view nodes) (kept_first s (view x) rest))
    → join (row_view nodes) (configuration_tree s (row_view (drop i row))) ≡ whole
    → join (row_view more) (configuration_tree s (row_view (drop (i + 1) row))) ≡ whole
kept_on s row nodes more i x whole within is kept so =
    kept (configuration_tree s (row_view (drop (i + 1) row)))
    ∙ (sym (ap (λ (t : Tree). join (row_view nodes) (configuration_tree s t)) (row_from row i x within is)) ∙ so)

pub kept_all : (s : Schema) (row nodes : List Stored) (i : ℕ) (whole : Tree) → length row ≤ i
    → join (row_view nodes) (configuration_tree s (row_view (drop i row))) ≡ whole → row_view nodes ≡ whole
kept_all s row nodes i whole ended so =
    sym (join_end (row_view nodes)) ∙ (sym (at_drop_all (λ ss. join (row_view nodes) (configuration_tree s (row_view ss))) row i ended) ∙ so)

-- one more node that is kept, with what is kept below it
pub kept_pushed : (s : Schema) (nodes more : List Stored) (made : Stored) (l : spec.Stored) (below : Tree) → is_state s l.schema_number ≡ false
    → more ≡ nodes ++ made ∷ [] → view made ≡ (l, configuration_tree s below)
    → (rest : Tree) → join (row_view more) rest ≡ join (row_view nodes) (kept_first s (l, below) rest)
kept_pushed s nodes more made l below configured pushed is rest =
    ap (λ ss. join (row_view ss) rest) pushed
    ∙ (join_last nodes made l (configuration_tree s below) rest is
    ∙ ap (λ b. join (row_view nodes) (cond b rest (node l (configuration_tree s below) rest))) (sym configured))

-- ---- what is told

-- what is told of the first node of a row, given the last step to it, and the step to this node
abbrev pub told_first : Schema → List Step → Option Step → Step → spec.Stored × Tree → List Fault
told_first s place last step x = cond (is_state s x.0.schema_number) (state_told place last x.0.schema_number) (state_faults_in s (place ++ step ∷ []) None x.1)

first_told : (s : Schema) (place : List Step) (last : Option Step) (l : spec.Stored) (below after : Tree)
    → state_faults_in s place last (node l below after)
    ≡ told_first s place last (step_behind s last l.schema_number) (l, below) ++ state_faults_in s place (Some (step_behind s last l.schema_number)) after
unfolding state_faults_in
first_told s place last l below after = refl

nothing_told : (s : Schema) (place : List Step) (last : Option Step) → state_faults_in s place last end ≡ []
unfolding state_faults_in
nothing_told s place last = refl

pub told_on : (s : Schema) (place : List Step) (last : Option Step) (step : Step) (row : List Stored) (i : ℕ) (x : Stored) (found more whole : List Fault)
    → i < length row → x ≡ get_or row i x → step ≡ step_behind s last (view x).0.schema_number
    → more ≡ found ++ told_first s place last step (view x)
    → found ++ state_faults_in s place last (row_view (drop i row)) ≡ whole
    → more ++ state_faults_in s place (Some step) (row_view (drop (i + 1) row)) ≡ whole
told_on s place last step row i x found more whole within is behind added so =
    let rest = row_view (drop (i + 1) row) in
    let here = view x in
    ap (λ (fs : List Fault). fs ++ state_faults_in s place (Some step) rest) added
    ∙ (append_assoc found (told_first s place last step here) (state_faults_in s place (Some step) rest)
    ∙ (ap (λ (st : Step). found ++ (told_first s place last st here ++ state_faults_in s place (Some st) rest)) behind
    ∙ (sym (ap (λ (fs : List Fault). found ++ fs) (ap (λ (t : Tree). state_faults_in s place last t) (row_from row i x within is) ∙ first_told s place last here.0 here.1 rest)) ∙ so)))

pub told_all : (s : Schema) (place : List Step) (last : Option Step) (row : List Stored) (i : ℕ) (found whole : List Fault) → length row ≤ i
    → found ++ state_faults_in s place last (row_view (drop i row)) ≡ whole → found ≡ whole
told_all s place last row i found whole ended so =
    sym (append-nil found) ∙ (sym (ap (λ (fs : List Fault). found ++ fs) (nothing_told s place last))
    ∙ (sym (at_drop_all (λ ss. found ++ state_faults_in s place last (row_view ss)) row i ended) ∙ so))
