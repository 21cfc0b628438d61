-- Values of edits, and documents that fit after them.
use Rattle.std.proofs.Common.{◌≡◌, ℕ, List, [], Option, Some, None, Result, Ok, Err, IfOk, refl, sym, ap, ◌∙◌, subst}
use Rattle.std.specs.Prelude.{option_map, option_and_then}
use Rattle.std.specs.Option.{option_map_or}
use Rattle.std.proofs.lemmas.Option.{same_Some}
use Rattle.serde_json.specs.Data.{Data}
use Rattle.yspec.specs.Forest.{Forest}
use Rattle.yspec.specs.schema.Schema.{Schema, SchemaNode, node_at, children_of}
use Rattle.yspec.specs.document.Reading.{Refusal, json_of, instance_visits, first_wrong, stored_node, stored_rows, members_of}
use Rattle.yspec.specs.edit.Editing.{EditRefusal, Branch, refused, value_refused, fitting_branch, branch, branch_at, branch_of}
use Rattle.yspec.specs.document.Document.{Tree}
use Rattle.yspec.proofs.EditProofs.AnswerLemmas.{If}
use Rattle.yspec.proofs.SchemaProofs.NumberLemmas.{number_at}
use Rattle.yinst_tree.specs.View.{Labelled, tree_view}
use Rattle.yinst_tree.specs.Told.{denoted_at, refused_at}
use Rattle.yspec.specs.Results.{Gives}
use Rattle.yinst_path.specs.Applying.{told_by}
use Rattle.yinst_tree.specs.declared.document.Tree as tree
use Rattle.yinst_path.specs.declared.edit.EditFault.{EditFault}

pub branch_of_value : (s : Schema) (n : ℕ) (bytes text : List ℕ) (d : Data) → bytes ≡ text → json_of bytes ≡ Some d → branch_of s n text ≡ branch_at s n d
branch_of_value s n bytes text d same is = ap (λ o. option_map_or (branch_at s n) o (refused 9)) (ap json_of (sym same) ∙ is)

-- what a value denotes at a node is the branch, where nothing is refused
pub branch_denoted : (s : Schema) (i : ℕ) (d : Data) (p : Labelled) → refused_at s i [] d ≡ None → Some p ≡ denoted_at s i d
    → branch_at s i d ≡ Ok (record { label = p.0; below = p.1 })
branch_denoted s i d p right is = by (node_at s i) refl right is
  where
    held : SchemaNode → Forest SchemaNode → Labelled
    held n f = (stored_node n d, stored_rows s (Some n.module_number) f (members_of d))

    made : SchemaNode → Forest SchemaNode → Option Refusal → Result Branch EditRefusal
    made n f wrong = option_map_or (λ r. value_refused r.code) wrong (Ok (record { label = (held n f).0; below = (held n f).1 }))

    by : (o : Option SchemaNode) → node_at s i ≡ o → option_and_then (λ n. first_wrong (instance_visits s n (children_of s i) [] d)) o ≡ None
        → Some p ≡ option_map (λ n. (stored_node n d, stored_rows s (Some n.module_number) (children_of s i) (members_of d))) o
        → option_map_or (λ n. fitting_branch s n d) o (refused 2) ≡ Ok (record { label = p.0; below = p.1 })
    by None e right is = absurd cc
    by (Some n) e right is =
        ap (λ k. made n (children_of s k) (first_wrong (instance_visits s n (children_of s k) [] d))) (number_at s.nodes i n e)
        ∙ (ap (made n (children_of s i)) right
        ∙ ap (λ (q : Labelled). Ok (record { label = q.0; below = q.1 })) (sym (same_Some p (held n (children_of s i)) is)))

-- the first refusal of a value is that of the edit
pub branch_refused : (s : Schema) (i : ℕ) (d : Data) (r : Refusal) → refused_at s i [] d ≡ Some r → branch_at s i d ≡ value_refused r.code
branch_refused s i d r is = by (node_at s i) refl is
  where
    by : (o : Option SchemaNode) → node_at s i ≡ o → option_and_then (λ n. first_wrong (instance_visits s n (children_of s i) [] d)) o ≡ Some r
        → option_map_or (λ n. fitting_branch s n d) o (refused 2) ≡ value_refused r.code
    by None e is = absurd cc
    by (Some n) e is =
        ap (λ k. option_map_or (λ r. value_refused r.code) (first_wrong (instance_visits s n (children_of s k) [] d)) (Ok (branch s n d))) (number_at s.nodes i n e)
        ∙ ap (λ o. option_map_or (λ r. value_refused r.code) o (Ok (branch s n d))) is

-- what holds of the definition's answer holds of what is given
pub if_given : (P : Tree → Type 0) (given : Result tree.Tree EditFault) (answer : Result Tree EditRefusal) → Gives tree_view told_by given answer
    → If P answer → IfOk given (λ t. P (tree_view t))
if_given P (Ok t) answer is holds = subst (λ (r : Result Tree EditRefusal). If P r) is holds
if_given P (Err f) answer is holds = tt
