-- From bytes to what is told of them.
use Rattle.std.proofs.Common.{◌≡◌, ◌≤◌, ℕ, List, [], Option, Some, None, Result, Ok, Err, IfOk, sym, ap, ap₂, ◌∙◌, subst}
use Rattle.std.specs.Option.{option_map_or}
use Rattle.serde_json.specs.Data.{Data, object, Members}
use Rattle.yspec.specs.Forest.{size}
use Rattle.yspec.specs.schema.Schema.{Schema}
use Rattle.yspec.specs.document.Document.{Tree, Step, document_limit}
use Rattle.yspec.specs.document.Reading.{Refusal, member_visits, first_refusal, stored_rows, denoted, json_of, tree_or_refusal, document_of}
use Rattle.yspec.specs.document.Fitting.{IsNumbered, LeafsAreBare, Fits}
use Rattle.yspec.specs.document.Writing.{NamesDiffer, IsDocument}
use Rattle.yspec.proofs.DocumentProofs.FittingReadLemmas.{read_fits}
use Rattle.yspec.proofs.DocumentProofs.ReadWholeLemmas.{read_whole}
use Rattle.yspec.proofs.DocumentProofs.RightNodeLemmas.{read_within}
use Rattle.yinst_tree.specs.Told.{Tells, Walks, code_number, told_by}
use Rattle.yinst_tree.proofs.VisitLemmas.{judged}
use Rattle.yspec.specs.Results.{Fails, Gives}
use Rattle.yinst_tree.specs.View.{place_view, tree_view}
use Rattle.yinst_tree.specs.declared.document.Tree as tree
use Rattle.yinst_tree.specs.declared.fault.DocFault.{DocFault}
use Rattle.yinst_tree.specs.declared.fault.DocFault.TheVariants.{Refused, Memory}

pub of_json : (s : Schema) (bytes : List ℕ) (d : Data) → json_of bytes ≡ Some d → document_of s bytes ≡ tree_or_refusal s d
unfolding document_of
of_json s bytes d is = ap (λ (o : Option Data). option_map_or (tree_or_refusal s) o (Err (record { code = 1; place = [] }))) is

pub of_none : (s : Schema) (bytes : List ℕ) → json_of bytes ≡ None → document_of s bytes ≡ Err (record { code = 1; place = [] })
unfolding document_of
of_none s bytes is = ap (λ (o : Option Data). option_map_or (tree_or_refusal s) o (Err (record { code = 1; place = [] }))) is

-- the tree of an object whose members are right, within the limit of nodes
pub tree_right : (s : Schema) (d : Data) (ms : Members) (place : List Step) (tree : Tree) (left : Option ℕ) → d ≡ object ms → place ≡ []
    → Walks (Some document_limit) (member_visits s None s.nodes place ms) (Ok left) → tree ≡ stored_rows s None s.nodes ms → tree_or_refusal s d ≡ Ok tree
tree_right s d ms place tree left is top walked rows =
    ap (tree_or_refusal s) is ∙ ap₂ (λ (o : Option Refusal) (t : Tree). option_map_or Err o (Ok t))
    (ap (λ (p : List Step). first_refusal document_limit (member_visits s None s.nodes p ms)) (sym top)
    ∙ judged (Some document_limit) (member_visits s None s.nodes place ms) (Ok left) walked) (sym rows)

pub tree_wrong : (s : Schema) (d : Data) (ms : Members) (place : List Step) (f : DocFault) → d ≡ object ms → place ≡ []
    → Walks (Some document_limit) (member_visits s None s.nodes place ms) (Err f) → Fails (told_by f) (tree_or_refusal s d)
tree_wrong s d ms place (Refused code steps) is top walked =
    ap (tree_or_refusal s) is ∙ ap (λ (o : Option Refusal). option_map_or Err o (Ok (denoted s (object ms))))
    (ap (λ (p : List Step). first_refusal document_limit (member_visits s None s.nodes p ms)) (sym top)
    ∙ judged (Some document_limit) (member_visits s None s.nodes place ms) (Err (Refused code steps)) walked)
tree_wrong s d ms place Memory is top walked = tt

same_refusal : (a b : Refusal) → Some a ≡ Some b → a ≡ b
same_refusal a b h = cc

-- what is told is the refusal
pub fails_by : {Y : Type 0} (f : DocFault) (told : Option Refusal) (r : Refusal) (answer : Result Y Refusal) → Tells f told → told ≡ Some r → answer ≡ Err r → Fails (told_by f) answer
fails_by (Refused code place) told r answer tells is said =
    said ∙ ap Err (same_refusal r (record { code = code_number code; place = place_view place.items }) (sym is ∙ tells))
fails_by Memory told r answer tells is said = tt

pub gives_same : {X Y : Type 0} (see : X → Y) (given : Result X DocFault) (a b : Result Y Refusal) → a ≡ b → Gives see told_by given b → Gives see told_by given a
gives_same {X} {Y} see given a b is h = subst (λ (r : Result Y Refusal). Gives see told_by given r) (sym is) h

pub fits_if_read : (given : Result tree.Tree DocFault) (s : Schema) (bytes : List ℕ) → IsNumbered 0 s.nodes
    → Gives tree_view told_by given (document_of s bytes) → IfOk given (λ t. Fits s (tree_view t))
fits_if_read (Ok t) s bytes numbered is = read_fits s bytes (tree_view t) numbered is
fits_if_read (Err f) s bytes numbered is = tt

pub whole_if_read : (given : Result tree.Tree DocFault) (s : Schema) (bytes : List ℕ) → IsNumbered 0 s.nodes → NamesDiffer s → LeafsAreBare s.nodes
    → Gives tree_view told_by given (document_of s bytes) → IfOk given (λ t. IsDocument s (tree_view t))
whole_if_read (Ok t) s bytes numbered differ bare is = read_whole s bytes (tree_view t) numbered differ bare is
whole_if_read (Err f) s bytes numbered differ bare is = tt

pub within_if_read : (given : Result tree.Tree DocFault) (s : Schema) (bytes : List ℕ) → NamesDiffer s → LeafsAreBare s.nodes
    → Gives tree_view told_by given (document_of s bytes) → IfOk given (λ t. size (tree_view t) ≤ document_limit)
within_if_read (Ok t) s bytes differ bare is = read_within s bytes (tree_view t) differ bare is
within_if_read (Err f) s bytes differ bare is = tt
