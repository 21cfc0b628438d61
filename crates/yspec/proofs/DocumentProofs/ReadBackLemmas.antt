-- From bytes to bytes: what was written reads as what was written.
use Rattle.std.proofs.Common.{◌≡◌, ℕ, ◌+◌, ◌≤◌, List, [], Option, Some, None, Ok, Err, sym, ap, ap₂, ◌∙◌, subst, arith}
use Rattle.std.specs.Option.{option_map_or}
use Rattle.serde_json.specs.Data.{Data, no_members}
use Rattle.yspec.specs.Forest.{Forest, end, node, size}
use Rattle.yspec.specs.schema.Schema.{Schema, SchemaNode, data_row}
use Rattle.yspec.specs.document.Document.{Tree, Step, document_limit}
use Rattle.yspec.specs.document.Reading.{Refusal, visits, verdict, denoted, tree_or_refusal, json_of, document_of, stored_rows, member_visits}
use Rattle.yspec.specs.document.Fitting.{IsNumbered, LeafsAreBare, FitsBy}
use Rattle.yspec.specs.document.Writing.{row_members, RowDiffers, AllDiffer, NamesDiffer, HasForm, IsDocument, written_value}
use Rattle.yspec.proofs.DocumentProofs.DataRowLemmas.{rows_of_data}
use Rattle.yspec.proofs.DocumentProofs.DataRowWritingLemmas.{numbers_rise, AllHave, WhereData, each_of_data_row, each_weaker, members_of_data_row}
use Rattle.yspec.proofs.DocumentProofs.VisitLemmas.{meant_themselves}
use Rattle.yspec.proofs.DocumentProofs.AlongLemmas.{along_of}
use Rattle.yspec.proofs.DocumentProofs.WrittenRowLemmas.{absent_of_none, ComesBack, rows_back}
use Rattle.yspec.proofs.DocumentProofs.WrittenVisitLemmas.{AreFine, room_left, none_fine, IsRight, rows_fine}

module _ (s : Schema) where
  abbrev ReadsBack : SchemaNode → Forest SchemaNode → Type 0
  ReadsBack n below = ComesBack s n below × IsRight s n below

  row_back : (parent : Option ℕ) (f : Forest SchemaNode) (k : ℕ) → RowDiffers s parent (data_row f) → IsNumbered k f → AllHave (WhereData ReadsBack) f
      → (t : Tree) → FitsBy HasForm f 0 t → stored_rows s parent f (row_members s parent f t no_members) ≡ t
  row_back parent f k differ numbered all t fits =
      ap (stored_rows s parent f) (members_of_data_row s parent f t no_members)
      ∙ (rows_of_data s parent f (row_members s parent (data_row f) t no_members)
      ∙ rows_back s parent (data_row f) k (k + size f) t no_members differ (numbers_rise f k numbered)
      (each_weaker ReadsBack (ComesBack s) (data_row f) (λ n below both. both.0) (each_of_data_row ReadsBack f all)) (along_of HasForm f k t numbered fits)
      (absent_of_none s parent (data_row f)))

  row_right : (parent : Option ℕ) (f : Forest SchemaNode) (k : ℕ) → RowDiffers s parent (data_row f) → IsNumbered k f → AllHave (WhereData ReadsBack) f
      → (place : List Step) (t : Tree) → FitsBy HasForm f 0 t → AreFine (member_visits s parent f place (row_members s parent f t no_members)) (size t)
  row_right parent f k differ numbered all place t fits =
      subst (λ ms. AreFine (member_visits s parent f place ms) (size t)) (sym (members_of_data_row s parent f t no_members))
      (subst (AreFine (member_visits s parent f place (row_members s parent (data_row f) t no_members))) (omega arith)
      (rows_fine s parent f (data_row f) k (k + size f) t place no_members 0 (meant_themselves s parent (data_row f) differ) (numbers_rise f k numbered)
      (each_weaker ReadsBack (IsRight s) (data_row f) (λ n below both. both.1) (each_of_data_row ReadsBack f all)) (along_of HasForm f k t numbered fits)
      (none_fine s parent f place)))

  all_back : (f : Forest SchemaNode) (k : ℕ) → AllDiffer s f → LeafsAreBare f → IsNumbered k f → AllHave (WhereData ReadsBack) f
  all_back end k differ bare numbered = tt
  all_back (node n below after) k differ bare numbered =
      let inner = all_back below (k + 1) differ.1 bare.1 numbered.1 in (
        λ is.
            ((bare.0, row_back (Some n.module_number) below (k + 1) (differ.0 is) numbered.1 inner), row_right (Some n.module_number) below (k + 1) (differ.0 is) numbered.1 inner),
        inner,
        all_back after (k + 1 + size below) differ.2 bare.2 numbered.2,
      )

  found_tree : (d : Data) (t : Tree) → verdict s d ≡ None → denoted s d ≡ t → tree_or_refusal s d ≡ Ok t
  found_tree d t right is = ap₂ (λ (o : Option Refusal) (u : Tree). option_map_or Err o (Ok u)) right is

  value_read : (t : Tree) → IsNumbered 0 s.nodes → NamesDiffer s → LeafsAreBare s.nodes → IsDocument s t → size t ≤ document_limit → tree_or_refusal s (written_value s t) ≡ Ok t
  value_read t numbered differ bare fits few =
      let all = all_back s.nodes 0 differ.1 bare numbered in
      let fine = row_right None s.nodes 0 differ.0 numbered all [] t fits in
      let least = fine.1 in
      found_tree (written_value s t) t (room_left (visits s (written_value s t)) document_limit (fine.0, omega (arith, least, few)))
      (row_back None s.nodes 0 differ.0 numbered all t fits)

pub written_read : (s : Schema) (t : Tree) (bytes : List ℕ) → IsNumbered 0 s.nodes → NamesDiffer s → LeafsAreBare s.nodes → IsDocument s t → size t ≤ document_limit
    → json_of bytes ≡ Some (written_value s t) → document_of s bytes ≡ Ok t
unfolding document_of
written_read s t bytes numbered differ bare fits few json =
    ap (λ (o : Option Data). option_map_or (tree_or_refusal s) o (Err (record { code = 1; place = [] }))) json ∙ value_read s t numbered differ bare fits few
