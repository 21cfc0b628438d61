-- The child at a place of a row, and what is left to list behind it.
use Rattle.std.proofs.Common.{◌≡◌, ℕ, zero, suc, ◌+◌, ◌<◌, ◌≤◌, Bool, true, false, cond, List, [], ◌∷◌, ◌++◌, map, length, drop, slice_get, Option, Some, None, sym, ap, ap₂, ◌∙◌, arith}
use Rattle.std.specs.Prelude.{◌==◌}
use Rattle.std.proofs.lemmas.Option.{none-some, same_Some}
use Rattle.yspec.specs.schema.Schema.{Schema}
use Rattle.yspec.specs.document.Fault.{Fault}
use Rattle.yspec.specs.document.Faults.{under}
use Rattle.yspec_play.specs.Absences.{Absent}
use Rattle.yspec_play.specs.Merging.{absence_fault, behind, merged_behind, position_behind, step_of, up_to}
use Rattle.ystore_rows.specs.Rows.{Child}
use Rattle.ystore.specs.Store.{children_at}
use Rattle.ystore.specs.declared.nodes.Nodes.{Nodes}
use Rattle.ystore_rows.specs.declared.row.Row.TheVariants.{Below}
use Rattle.ylive_list.specs.Listed.{child_told, children_told, told_below}
use Rattle.ylive_list.specs.Walked.{row_of, AwaitsChild}
use Rattle.ylive_list.specs.declared.findings.Findings.{Findings}
use Rattle.ylive_list.specs.declared.row_left.RowLeft.{RowLeft}
use Rattle.ylive_list.specs.Found.{Adds}
use Rattle.ylive_list.proofs.FoundLemmas.{Leaves, leaves_after}

drop_get : (cs : List Child) (k : ℕ) (c : Child) → slice_get cs k ≡ Some c → drop k cs ≡ c ∷ drop (suc k) cs
drop_get [] k c there = absurd (none-some c there)
drop_get (x ∷ cs) zero c there = ap (λ y. y ∷ cs) (same_Some x c there)
drop_get (x ∷ cs) (suc k) c there = drop_get cs k c there

pub left_from : (cs : List Child) (k : ℕ) (c : Child) → slice_get cs k ≡ Some c → drop k cs ≡ c ∷ drop (k + 1) cs
left_from cs k c there =
    let e : suc k ≡ k + 1 = omega arith in
    drop_get cs k c there ∙ ap (λ n. c ∷ drop n cs) e

pub one_there : (cs : List Child) (k : ℕ) → k < length cs → slice_get cs k ≡ None → ⊥
one_there [] k within none = omega (arith, within)
one_there (x ∷ cs) zero within none = none-some x (sym none)
one_there (x ∷ cs) (suc k) within none = one_there cs k (omega (arith, within)) none

pub awaits : (levels : ℕ) (nodes : Nodes) (r : RowLeft) (o : Option Child) → 0 < levels → r.passed < length (children_at nodes (row_of r.above))
    → o ≡ slice_get (children_at nodes (row_of r.above)) r.passed → AwaitsChild levels nodes r o
awaits levels nodes r None some within is = absurd (one_there (children_at nodes (row_of r.above)) r.passed within (sym is))
awaits levels nodes r (Some c) some within is = (some, left_from (children_at nodes (row_of r.above)) r.passed c (sym is))

pub position_grows : (last position number : ℕ) → position_behind last position number ≤ position + 1
position_grows last position number = by (number == last)
  where
    by : (b : Bool) → cond b (position + 1) 1 ≤ position + 1
    by true = omega arith
    by false = omega arith

-- what is told up to the child at a place and of it is listed
module _ (schema : Schema) (above : Option ℕ) (nodes : Nodes) (levels : ℕ) (cs : List Child) (k : ℕ) (c : Child) (there : slice_get cs k ≡ Some c) where
  abbrev told_of : ℕ → List Fault
  told_of n = map (under (step_of schema c.0.0 n)) (child_told schema nodes (told_below levels schema nodes (Below c.1)) c).faults

  abbrev told_behind : ℕ → List Absent → List Fault
  told_behind n r = merged_behind schema above c.0.0 n r (children_told levels schema nodes (drop (k + 1) cs))

  pub one_listed : (start before between after : Findings) (last position : ℕ) (absences rest : List Absent) (next : ℕ) (whole : List Fault)
      → Leaves start before (merged_behind schema above last position absences (children_told levels schema nodes (drop k cs))) whole
      → Adds before between (map (absence_fault schema above) (up_to c.0.0 absences)) → rest ≡ behind c.0.0 absences
      → next ≡ position_behind last position c.0.0
      → Adds between after (map (under (step_of schema c.0.0 next)) (child_told schema nodes (told_below levels schema nodes (Below c.1)) c).faults)
      → Leaves start after (merged_behind schema above c.0.0 next rest (children_told levels schema nodes (drop (k + 1) cs))) whole
  one_listed start before between after last position absences rest next whole so upto rest_is next_is one =
      let pos = position_behind last position c.0.0 in
      let left = behind c.0.0 absences in
      leaves_after start between after (told_of next) (told_behind next rest) (told_of pos ++ told_behind pos left) whole
      (ap₂ (λ n r. told_of n ++ told_behind n r) (sym next_is) (sym rest_is))
      (leaves_after start before between (map (absence_fault schema above) (up_to c.0.0 absences)) (told_of pos ++ told_behind pos left)
      (merged_behind schema above last position absences (children_told levels schema nodes (drop k cs))) whole
      (ap (λ row. merged_behind schema above last position absences (children_told levels schema nodes row)) (left_from cs k c there)) so upto)
      one
