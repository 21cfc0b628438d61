-- How an edit of a document in a store stays within so many reads.
use Rattle.std.proofs.Common.{◌≡◌, ℕ, ◌+◌, ◌*◌, ◌≤◌, Bool, false, List, [], ◌∷◌, refl, sym, ap, ◌∙◌, arith, subst}
use Rattle.std.specs.Prelude.{Result, Ok, Err, IfOk, IsErrAnd, OnOk, if◌then◌else◌, nat_lt}
use Rattle.yspec.specs.Forest.{end, node, levels, size}
use Rattle.yspec.specs.Results.{◌>>=◌}
use Rattle.yspec.specs.text.Text.{Text}
use Rattle.yspec.specs.schema.Schema.{Schema}
use Rattle.yspec.specs.document.Document.{Step, Tree, document_limit, instances_in}
use Rattle.yspec.specs.document.Fitting.{Fits, IsNumbered}
use Rattle.yspec.specs.edit.Edit.{edit_at}
use Rattle.yspec.specs.edit.Editing.{Branch, EditRefusal, Target, branch_of, is_there, last_meant, refused, within_limit}
use Rattle.yspec.proofs.DocumentProofs.HeldNodeLemmas.{schema_has_all}
use Rattle.yspec.proofs.EditProofs.AnswerLemmas.{If}
use Rattle.yspec.proofs.LinkingProofs.LinkedLemmas.{relabelled-size}
use Rattle.yspec_reach.specs.Parts.{Exchange, comes, gives_way, goes, stays, meant_alone}
use Rattle.yspec_reach.specs.Sizes.{part_size, weight}
use Rattle.yinst_path.specs.declared.edit.EditFault.{EditFault}
use Rattle.yinst_path.specs.declared.edit.EditFault.TheVariants.{Refused, Memory}
use Rattle.ystore.specs.Store.{reads}
use Rattle.ystore_rows.specs.declared.row.NodeId.{NodeId}
use Rattle.ystore.specs.declared.nodes.Nodes.{Nodes}
use Rattle.ystore_tree.specs.Growing.{Removes}
use Rattle.ystore_tree.specs.Hanging.{Numbered, Branches, stored_of, tree_of}
use Rattle.ystore_tree.specs.Ways.{Way, Goes, around}
use Rattle.ystore_tree.proofs.DocumentLemmas as document
use Rattle.ylive_retell.specs.Reads.{IsNarrow}
use Rattle.ylive_retell.proofs.BreadthLemmas.{fitting_levels}
use Rattle.ylive_retell.proofs.NarrowLemmas.{way_breadth}
use Rattle.ylive_edit.specs.Reads.{ReadsWithin, created_parts, exchange_reads, moved_parts, parts_reads, removed_parts, replaced_parts}
use Rattle.ylive_edit.proofs.PartLemmas.{within}

pub ok_then : {T E P Q : Type 0} (r : Result T E) → (P → Q) → OnOk r P → OnOk r Q
ok_then (Ok x) next so = next so
ok_then (Err e) next so = tt

pub if_ok : {T E : Type 0} (P : T → Type 0) (r : Result T E) → If P r → IfOk r P
if_ok P (Ok x) so = so
if_ok P (Err e) so = tt

-- nothing is read where nodes are given back
pub removed_reads : (ids : List NodeId) (before after : Nodes) → Removes ids before after → reads after ≡ reads before
removed_reads [] before after is = ap reads is
removed_reads (id ∷ ids) before after removes = removed_reads ids removes.0 after removes.2 ∙ removes.1.reads

-- ---- sums

-- as many from another store on, and as another number
pub spent_on : (first mid last k l : ℕ) → mid ≡ first → k ≡ l → last ≤ mid + k → last ≤ first + l
spent_on first mid last k l same is few = omega (arith, same, is, few)

pub spent_before : (first mid n k l : ℕ) → mid ≤ first + n → k ≤ l → mid + k ≤ first + (n + l)
spent_before first mid n k l some few = omega (arith, some, few)

pub spent_numbers : (first mid last n count weight k l : ℕ) → mid ≤ first + n → last ≤ mid + 4 * count → count ≤ weight → 4 * weight + k ≡ l → last + k ≤ first + (n + l)
spent_numbers first mid last n count weight k l some more light is = omega (arith, some, more, light, is)

pub spent_place : (first mid deep n k l : ℕ) → mid ≤ first + 2 * deep → n ≤ 4 → k ≡ l → mid + (n + k) ≤ first + (2 * deep + 4 + l)
spent_place first mid deep n k l way few is = omega (arith, way, few, is)

-- where two reads fewer led to it
pub spent_fewer : (first mid deep n k l : ℕ) → mid + 2 ≤ first + 2 * deep → n ≤ 5 → k ≡ l → mid + (n + k) ≤ first + (2 * deep + 4 + l)
spent_fewer first mid deep n k l way few is = omega (arith, way, few, is)

pub spent_refused : (first mid deep l : ℕ) → mid ≤ first + 2 * deep → mid ≤ first + (2 * deep + 4 + l)
spent_refused first mid deep l way = omega (arith, way)

-- ---- within a bound

pub memory_within : {X : Type 0} (r : Result X EditFault) (most : ℕ) (before after : Nodes) → IsErrAnd r (λ e. e ≡ Memory) → ReadsWithin most before after r
memory_within (Ok x) most before after is = absurd is
memory_within {X} (Err e) most before after is = subst (λ f. ReadsWithin {X = X} most before after (Err f)) (sym is) tt

pub refused_within : (X : Type 0) (fault : EditFault) (most : ℕ) (before after : Nodes) → reads after ≤ reads before + most → ReadsWithin {X = X} most before after (Err fault)
refused_within X (Refused code doc) most before after few = few
refused_within X Memory most before after few = tt

pub within_more : {X : Type 0} (r : Result X EditFault) (less most : ℕ) (first before after : Nodes) → reads before + less ≤ reads first + most
    → ReadsWithin less before after r → ReadsWithin most first after r
within_more (Ok x) less most first before after more few = omega (arith, more, few)
within_more (Err (Refused code doc)) less most first before after more few = omega (arith, more, few)
within_more (Err Memory) less most first before after more few = tt

-- ---- documents that fit

tree_levels : (f : Branches) → levels (tree_of f) ≡ levels f
tree_levels end = refl
tree_levels (node n below after) = let inner = tree_levels below in let rest = tree_levels after in omega (arith, inner, rest)

pub narrow_at : (s : Schema) (way : Way) (f g : Branches) (tree changed : Tree) → IsNumbered 0 s.nodes → tree_of (around way f) ≡ tree → tree_of (around way g) ≡ changed
    → Fits s tree → Fits s changed → IsNarrow s way f g
narrow_at s way f g tree changed numbered was now fits fits_then =
    let before = subst (Fits s) (sym was) fits in
    let after = subst (Fits s) (sym now) fits_then in
    record {
      deep = let low = fitting_levels (λ n value. Unit {0}) s.nodes 0 (tree_of (around way f)) before in let same = tree_levels (around way f) in omega (arith, low, same);
      deep_then = let low = fitting_levels (λ n value. Unit {0}) s.nodes 0 (tree_of (around way g)) after in let same = tree_levels (around way g) in omega (arith, low, same);
      narrow = way_breadth (λ n value. Unit {0}) s way f (schema_has_all s numbered) before;
    }

-- the document once the row at the end of a way is another
pub along_is : (steps : List Step) (way : Way) (to : Tree → Tree) (f g : Branches) (tree : Tree) → Goes steps way → tree_of (around way f) ≡ tree → to (tree_of f) ≡ tree_of g
    → tree_of (around way g) ≡ edit_at steps to tree
along_is steps way to f g tree led is changed = sym (document.along steps way to f g led changed) ∙ ap (edit_at steps to) is

pub fits_within : (s : Schema) (t : Tree) → IfOk (within_limit t) (Fits s) → size t ≤ document_limit → Fits s t
fits_within s t given few = subst (λ r. IfOk r (Fits s)) (within t few) given

-- a part weighs as much as it has nodes, at least
size_light : (s : Schema) (t : Tree) → size t ≤ part_size s t
size_light s end = omega arith
size_light s (node l below after) =
    let inner = size_light s below in
    let rest = size_light s after in
    let some : 1 ≤ weight s l = omega arith in
    omega (arith, inner, rest, some)

pub part_light : (s : Schema) (part : Branches) (old : Tree) → tree_of part ≡ old → size part ≤ part_size s old
part_light s part old is =
    let light = size_light s (tree_of part) in
    let same = relabelled-size stored_of part in
    let whole = ap (part_size s) is in
    omega (arith, light, same, whole)

-- ---- the parts of an edit

pub created_parts_are : (s : Schema) (text : Text) (t : Target) (b : Branch) → is_there t ≡ false → branch_of s t.last.schema_node.number text ≡ Ok b → created_parts s text t ≡ Ok (comes t b)
created_parts_are s text t b none value =
    ap (λ (there : Bool). if there then refused {A = Exchange} 8 else (branch_of s t.last.schema_node.number text >>= (λ (c : Branch). Ok (comes t c)))) none
    ∙ ap (λ (a : Result Branch EditRefusal). a >>= (λ (c : Branch). Ok (comes t c))) value

pub replaced_parts_are : (s : Schema) (text : Text) (t : Target) (step : Step) (b : Branch) → last_meant s t ≡ Ok step → branch_of s t.last.schema_node.number text ≡ Ok b
    → replaced_parts s text t ≡ Ok (gives_way t step b)
replaced_parts_are s text t step b meant value =
    ap (λ (a : Result Step EditRefusal). a >>= (λ (st : Step). branch_of s t.last.schema_node.number text >>= (λ (c : Branch). Ok (gives_way t st c)))) meant
    ∙ ap (λ (a : Result Branch EditRefusal). a >>= (λ (c : Branch). Ok (gives_way t step c))) value

pub removed_parts_are : (s : Schema) (t : Target) (step : Step) → last_meant s t ≡ Ok step → removed_parts s t ≡ Ok (goes t step)
removed_parts_are s t step meant = ap (λ (a : Result Step EditRefusal). a >>= (λ (st : Step). Ok (goes t st))) meant

pub moved_parts_are : (s : Schema) (position : ℕ) (t : Target) (step : Step) → last_meant s t ≡ Ok step
    → nat_lt (instances_in t.row t.last.schema_node.number) position ≡ false → moved_parts s position t ≡ Ok (stays t step position)
moved_parts_are s position t step meant is =
    ap (λ (a : Result Step EditRefusal). a >>= (λ (st : Step). if nat_lt (instances_in t.row t.last.schema_node.number) position then refused {A = Exchange} 5 else Ok (stays t st position))) meant
    ∙ ap (λ (past : Bool). if past then refused {A = Exchange} 5 else Ok (stays t step position)) is

more_of : (a b : ℕ) → b ≤ a + b
more_of a b = omega arith

pub exchange_within : (s : Schema) (tree : Tree) (x : Exchange) (parts : Result Exchange EditRefusal) → parts ≡ Ok x → exchange_reads s tree x ≤ parts_reads s tree parts
exchange_within s tree x parts is =
    subst (λ p. exchange_reads s tree x ≤ parts_reads s tree p) (sym is) (more_of (4 * part_size s x.old) (exchange_reads s tree x))
