-- What an answer unfolds to compute the definitions on a literal.
use Rattle.std.specs.Prelude.{⊤}
use Rattle.std.specs.Str.{chars, is_utf8}
use Rattle.std.specs.Str.Lossy.{utf8_valid_len}
use Rattle.std.specs.Fmt.{digits}
use Rattle.serde_json.proofs.OnLiterals.{serde_json_on_literals}
use Rattle.base64.proofs.OnLiterals.{base64_on_literals}
use Rattle.yspec_patterns.proofs.PatternLiterals.{patterns_on_literals}
use Rattle.yspec.specs.types.Types.{is_pattern, is_match}
use Rattle.yspec.specs.text.Token.{tokens_from, joined_breaks, trimmed_ends, stripped_starts, unescaped, bad_escape_line}
use Rattle.yspec.specs.text.Statement.{pieces, statements, module_of}
use Rattle.yspec.specs.text.Scanning.{pieces_from, wrong_escape, given_of}
use Rattle.yspec.specs.document.Reading.{member_visits, node_visits, item_visits, instance_visits, stored_rows, document_of}
use Rattle.yspec.specs.document.Writing.{row_members}
use Rattle.yspec.specs.document.Play.{items_in_play}
use Rattle.yspec.specs.edit.EditText.{cut_at, parts_at, path_of, edit_of}
use Rattle.yspec.specs.edit.Editing.{applied}
use Rattle.yspec.specs.document.Faults.{told_in, faults_of}
use Rattle.yspec.specs.document.StateData.{state_faults_in}
use Rattle.yspec.specs.linking.Arguments.{cut_at_dots}
use Rattle.yspec.specs.linking.StatementBreaks.{row_breaks, breaks_from}
use Rattle.yspec.specs.linking.Source.{kept, numbered, sources_from}
use Rattle.yspec.specs.linking.TypeStatements.{built_in_named, verdicts, restricted_in, matched_in}
use Rattle.yspec.specs.linking.Scopes.{placed}
use Rattle.yspec.specs.linking.Graph.{reached}
use Rattle.yspec.specs.linking.DerivedTypes.{known_within}
use Rattle.yspec.specs.linking.Planned.{planned, type_within, leads_to}
use Rattle.yspec.specs.linking.Compiling.{compiled}
use Rattle.yspec.specs.linking.Expansion.{laid, refined, replaced, stands_for, unfit_in, unfit_for}
use Rattle.yspec.specs.linking.Augments.{in_turn}
use Rattle.yspec.specs.linking.NodeCounts.{counted, counts_within}

unfoldable pub yspec_on_literals : ⊤
unfolding digits chars is_utf8 utf8_valid_len serde_json_on_literals base64_on_literals patterns_on_literals is_pattern is_match tokens_from joined_breaks trimmed_ends stripped_starts unescaped bad_escape_line pieces_from wrong_escape given_of pieces statements module_of member_visits node_visits item_visits instance_visits stored_rows document_of items_in_play told_in faults_of state_faults_in row_members cut_at parts_at path_of edit_of applied cut_at_dots row_breaks breaks_from kept numbered sources_from built_in_named verdicts planned type_within leads_to compiled placed reached restricted_in matched_in known_within laid refined replaced stands_for unfit_in unfit_for in_turn counted counts_within
yspec_on_literals = tt
