-- Statements that are kept, one after another, as they come into the table.
use Rattle.std.proofs.Common.{◌≡◌, ℕ, suc, ◌+◌, ◌≤◌, ◌<◌, Bool, true, false, cond, ◌&&◌, List, [], ◌∷◌, ◌++◌, length, drop, get_or, Option, Some, None, refl, sym, ap, ap₂, ◌∙◌, append_assoc, arith, length-append}
use Rattle.std.specs.Prelude.{option_map}
use Rattle.std.proofs.lemmas.List.{append-nil, at_drop_all, at_drop_more}
use Rattle.yspec.specs.Forest.{Forest, node, end, size, join}
use Rattle.yspec.specs.text.Statement.{Statement}
use Rattle.yspec.specs.linking.Keyword.{Keyword}
use Rattle.yspec.specs.linking.Source as spec
use Rattle.yspec.specs.linking.Source.{first_with, found_with, is_source_of, kept_at, numbered}
use Rattle.yspec_wide.specs.Language.{Language}
use Rattle.yspec_wide.specs.Sources.{kept_in, kept_keyword_in, is_derived_type, may_restrict, restricts_below, module_kept, sources_in_from}
use Rattle.yspec.proofs.LinkingProofs.NumberedLemmas.{size-numbered}
use Rattle.ytext.specs.View.{view, row_view, modules_view}
use Rattle.ytext.specs.declared.statement.Stmt.{Stmt}
use Rattle.ytext.specs.declared.statement.Module.{Module}
use Rattle.ytext.proofs.ViewLemmas.{row_view_at}
use Rattle.ybase_preorder.specs.Layout.{Place, places, laid, opened, closed}
use Rattle.ybase_preorder.specs.View.{slots_in}
use Rattle.ybase_preorder.specs.declared.table.Table.{Table}
use Rattle.ybase_preorder.proofs.LayoutLemmas.{length-places, places-join, length-laid, length-seen, grown}
use Rattle.ylink_grammar.specs.declared.source.Source.{Source}
use Rattle.ylink_grammar.specs.SourceView.{source_view, seen_rows, listed}

pub kept-first : (l : Language) (may restricting : Bool) (s : Statement) (below after : Forest Statement)
    → kept_in l may restricting (node s below after) ≡ join (kept_in l may restricting (node s below end)) (kept_in l may restricting after)
unfolding kept_in
kept-first l may restricting s below after = by (kept_keyword_in l restricting s)
  where
    by : (k : Option Keyword) → kept_at k s (kept_in l may (restricts_below may k s) below) (kept_in l may restricting after)
        ≡ join (kept_at k s (kept_in l may (restricts_below may k s) below) end) (kept_in l may restricting after)
    by None = refl
    by (Some k) = refl

pub kept-none : (l : Language) (may restricting : Bool) (s : Statement) (below : Forest Statement) → kept_keyword_in l restricting s ≡ None
    → kept_in l may restricting (node s below end) ≡ end
unfolding kept_in
kept-none l may restricting s below none = ap (λ k. kept_at k s (kept_in l may (restricts_below may k s) below) end) none

pub kept-some : (l : Language) (may restricting : Bool) (s : Statement) (below : Forest Statement) (k : Keyword) → kept_keyword_in l restricting s ≡ Some k
    → kept_in l may restricting (node s below end) ≡ node (k, s) (kept_in l may (is_derived_type k s && may) below) end
unfolding kept_in
kept-some l may restricting s below k some = ap (λ k. kept_at k s (kept_in l may (restricts_below may k s) below) end) some

pub numbered-join : (refers : Bool) (h k : ℕ) (f g : Forest (Keyword × Statement)) → numbered refers h k (join f g) ≡ join (numbered refers h k f) (numbered refers h (k + size f) g)
unfolding numbered
numbered-join refers h k end g = ap (λ n. numbered refers h n g) (omega arith)
numbered-join refers h k (node (w, s) below after) g =
    let here : k + suc (size below) + size after ≡ k + suc (size below + size after) = omega arith in
    ap (λ rest. node (record { keyword = w; statement = s; number = k; home = h; may_refer = refers }) (numbered refers h (k + 1) below) rest)
    (numbered-join refers h (k + suc (size below)) after g ∙ ap (λ n. join (numbered refers h (k + suc (size below)) after) (numbered refers h n g)) here)

pub listed-join : (p : Option ℕ) (refers : Bool) (h k : ℕ) (f g : Forest (Keyword × Statement)) → listed p refers h k (join f g) ≡ listed p refers h k f ++ listed p refers h (k + size f) g
listed-join p refers h k f g =
    ap (places p k) (numbered-join refers h k f g) ∙ (places-join p k (numbered refers h k f) (numbered refers h (k + size f) g)
    ∙ ap (λ n. listed p refers h k f ++ places p (k + n) (numbered refers h (k + size f) g)) (size-numbered refers h k f))

pub listed-one : (p : Option ℕ) (refers : Bool) (h k : ℕ) (w : Keyword) (s : Statement) (below : Forest (Keyword × Statement))
    → listed p refers h k (node (w, s) below end)
    ≡ record { parent = p; label = record { keyword = w; statement = s; number = k; home = h; may_refer = refers }; below = size below } ∷ listed (Some k) refers h (k + 1) below
unfolding numbered
listed-one p refers h k w s below =
    ap (λ n. record { parent = p; label = record { keyword = w; statement = s; number = k; home = h; may_refer = refers }; below = n } ∷ (listed (Some k) refers h (k + 1) below ++ [])) (size-numbered refers h (k + 1) below)
    ∙ ap (λ rest. record { parent = p; label = record { keyword = w; statement = s; number = k; home = h; may_refer = refers }; below = size below } ∷ rest) (append-nil (listed (Some k) refers h (k + 1) below))

-- how many rows there are behind what is added
pub length_added : (old new : Table Source) (more : List (Place _)) → seen_rows new ≡ seen_rows old ++ more
    → length (slots_in new) ≡ length (slots_in old) + length more
length_added old new more added =
    let whole = ap length added ∙ length-append (seen_rows old) more in
    omega (arith, whole, length-seen source_view 0 (laid (slots_in new)), length-laid (slots_in new), length-seen source_view 0 (laid (slots_in old)), length-laid (slots_in old))

-- some are added, and others follow
pub then_others : (old new : Table Source) (p : Option ℕ) (refers : Bool) (h : ℕ) (f g : Forest (Keyword × Statement)) (whole : List (Place _))
    → seen_rows new ≡ seen_rows old ++ listed p refers h (length (slots_in old)) f
    → seen_rows old ++ listed p refers h (length (slots_in old)) (join f g) ≡ whole
    → seen_rows new ++ listed p refers h (length (slots_in new)) g ≡ whole
then_others old new p refers h f g whole added so =
    let count : length (slots_in new) ≡ length (slots_in old) + size f = length_added old new (listed p refers h (length (slots_in old)) f) added
    ∙ ap (λ n. length (slots_in old) + n) (length-places p (length (slots_in old)) (numbered refers h (length (slots_in old)) f) ∙ size-numbered refers h (length (slots_in old)) f) in
    ap₂ (λ a n. a ++ listed p refers h n g) added count
    ∙ (append_assoc (seen_rows old) (listed p refers h (length (slots_in old)) f) (listed p refers h (length (slots_in old) + size f) g)
    ∙ (ap (λ rest. seen_rows old ++ rest) (sym (listed-join p refers h (length (slots_in old)) f g)) ∙ so))

pub next_statement : (l : Language) (may restricting : Bool) (ss : List Stmt) (i : ℕ) (s : Stmt) (old new : Table Source) (p : Option ℕ) (h : ℕ) (whole : List (Place _))
    → i < length ss → s ≡ get_or ss i s
    → seen_rows new ≡ seen_rows old ++ listed p may h (length (slots_in old)) (kept_in l may restricting (node (view s).0 (view s).1 end))
    → seen_rows old ++ listed p may h (length (slots_in old)) (kept_in l may restricting (row_view (drop i ss))) ≡ whole
    → seen_rows new ++ listed p may h (length (slots_in new)) (kept_in l may restricting (row_view (drop (i + 1) ss))) ≡ whole
next_statement l may restricting ss i s old new p h whole within is added so =
    let kept = kept_in l may restricting in
    then_others old new p may h (kept (node (view s).0 (view s).1 end)) (kept (row_view (drop (i + 1) ss))) whole added
    (ap (λ f. seen_rows old ++ listed p may h (length (slots_in old)) f)
    (sym (ap kept (row_view_at ss i s within is) ∙ kept-first l may restricting (view s).0 (view s).1 (row_view (drop (i + 1) ss)))) ∙ so)

pub all_statements : (l : Language) (may restricting : Bool) (ss : List Stmt) (i : ℕ) (rows : Table Source) (p : Option ℕ) (h : ℕ) (whole : List (Place _)) → length ss ≤ i
    → seen_rows rows ++ listed p may h (length (slots_in rows)) (kept_in l may restricting (row_view (drop i ss))) ≡ whole → seen_rows rows ≡ whole
unfolding kept_in numbered
all_statements l may restricting ss i rows p h whole ended so =
    sym (append-nil (seen_rows rows))
    ∙ (ap (λ f. seen_rows rows ++ listed p may h (length (slots_in rows)) (kept_in l may restricting f)) (sym (at_drop_all row_view ss i ended)) ∙ so)

-- ---- modules

pub modules_view_at : (ms : List Module) (i : ℕ) (m : Module) → i < length ms → m ≡ get_or ms i m
    → modules_view (drop i ms) ≡ node (view m.top).0 (view m.top).1 (modules_view (drop (i + 1) ms))
modules_view_at ms i m within is =
    at_drop_more modules_view ms i m within ∙ ap (λ (x : Module). node (view x.top).0 (view x.top).1 (modules_view (drop (i + 1) ms))) (sym is)

pub next_module : (l : Language) (ms : List Module) (i : ℕ) (m : Module) (old new : Table Source) (whole : List (Place _))
    → i < length ms → m ≡ get_or ms i m
    → seen_rows new ≡ seen_rows old ++ listed None (may_restrict l (view m.top).1) i (length (slots_in old)) (module_kept l (view m.top).0 (view m.top).1)
    → seen_rows old ++ places None (length (slots_in old)) (sources_in_from l i (length (slots_in old)) (modules_view (drop i ms))) ≡ whole
    → seen_rows new ++ places None (length (slots_in new)) (sources_in_from l (i + 1) (length (slots_in new)) (modules_view (drop (i + 1) ms))) ≡ whole
unfolding sources_in_from
next_module l ms i m old new whole within is added so =
    let refers = may_restrict l (view m.top).1 in
    let row = module_kept l (view m.top).0 (view m.top).1 in
    let n = length (slots_in old) in
    let rest = modules_view (drop (i + 1) ms) in
    let count : length (slots_in new) ≡ n + size row = length_added old new (listed None refers i n row) added
    ∙ ap (λ k. n + k) (length-places None n (numbered refers i n row) ∙ size-numbered refers i n row) in
    let split : places None n (sources_in_from l i n (modules_view (drop i ms))) ≡ listed None refers i n row ++ places None (n + size row) (sources_in_from l (i + 1) (n + size row) rest) =
    ap (λ f. places None n (sources_in_from l i n f)) (modules_view_at ms i m within is)
    ∙ (places-join None n (numbered refers i n row) (sources_in_from l (i + 1) (n + size row) rest)
    ∙ ap (λ k. listed None refers i n row ++ places None (n + k) (sources_in_from l (i + 1) (n + size row) rest)) (size-numbered refers i n row)) in
    ap₂ (λ a k. a ++ places None k (sources_in_from l (i + 1) k rest)) added count
    ∙ (append_assoc (seen_rows old) (listed None refers i n row) (places None (n + size row) (sources_in_from l (i + 1) (n + size row) rest))
    ∙ (ap (λ ps. seen_rows old ++ ps) (sym split) ∙ so))

pub all_modules : (l : Language) (ms : List Module) (i : ℕ) (rows : Table Source) (whole : List (Place _)) → length ms ≤ i
    → seen_rows rows ++ places None (length (slots_in rows)) (sources_in_from l i (length (slots_in rows)) (modules_view (drop i ms))) ≡ whole → seen_rows rows ≡ whole
unfolding sources_in_from
all_modules l ms i rows whole ended so =
    sym (append-nil (seen_rows rows)) ∙ (ap (λ f. seen_rows rows ++ places None (length (slots_in rows)) (sources_in_from l i (length (slots_in rows)) f)) (sym (at_drop_all modules_view ms i ended)) ∙ so)

pub listed-none : (p : Option ℕ) (refers : Bool) (h k : ℕ) (f : Forest (Keyword × Statement)) → f ≡ end → listed p refers h k f ≡ []
unfolding numbered
listed-none p refers h k f none = ap (listed p refers h k) none

-- a statement is opened, all below it is added, and it is closed
pub added : (old mid full new : Table Source) (p : Option ℕ) (refers : Bool) (h : ℕ) (l : Source) (n : ℕ) (w : Keyword) (s : Statement) (f : Forest (Keyword × Statement))
    → laid (slots_in mid) ≡ laid (slots_in old) ++ opened p l ∷ [] → n ≡ length (slots_in old)
    → seen_rows full ≡ seen_rows mid ++ listed (Some n) refers h (length (slots_in mid)) f
    → laid (slots_in new) ≡ closed n (laid (slots_in full))
    → source_view (length (slots_in old)) l ≡ record { keyword = w; statement = s; number = length (slots_in old); home = h; may_refer = refers }
    → seen_rows new ≡ seen_rows old ++ listed p refers h (length (slots_in old)) (node (w, s) f end)
added old mid full new p refers h l n w s f mid_is n_is full_is new_is label_is =
    let k = length (slots_in old) in
    let label : spec.Source = record { keyword = w; statement = s; number = k; home = h; may_refer = refers } in
    let next : length (slots_in mid) ≡ k + 1 = sym (length-laid (slots_in mid)) ∙ (ap length mid_is ∙ (length-append (laid (slots_in old)) (opened p l ∷ []) ∙ omega (arith, length-laid (slots_in old)))) in
    grown source_view (slots_in old) (slots_in mid) (slots_in full) (slots_in new) p l n (numbered refers h (length (slots_in mid)) f) mid_is n_is full_is new_is
    ∙ ap (λ ps. seen_rows old ++ ps)
    (ap₂ (λ x m. record { parent = p; label = x; below = m } ∷ places (Some n) (n + 1) (numbered refers h (length (slots_in mid)) f)) label_is (size-numbered refers h (length (slots_in mid)) f)
    ∙ (ap₂ (λ m j. record { parent = p; label = label; below = size f } ∷ places (Some m) (m + 1) (numbered refers h j f)) n_is next
    ∙ sym (listed-one p refers h k w s f)))

-- the first of a row, without what stands below it
pub first_found : (k : Keyword) (f : Forest spec.Source) → option_map (λ s. s.0) (found_with k f) ≡ first_with k f
first_found k end = refl
first_found k (node s below after) = by (is_source_of k s) (first_found k after)
  where
    by : (b : Bool) → option_map (λ s. s.0) (found_with k after) ≡ first_with k after
        → option_map (λ s. s.0) (cond b (Some (s, below)) (found_with k after)) ≡ cond b (Some s) (first_with k after)
    by true h = refl
    by false h = h
