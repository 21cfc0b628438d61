use Rattle.std.proofs.Common.{◌≡◌, ℕ, zero, suc, ◌-◌, [], ◌++◌, List, Option, None, length, take, replicate, sym, ap, ap₂, ◌∙◌, arith}
use Rattle.std.proofs.lemmas.Simd.{splat_is_map}
use Rattle.yspec.specs.linking.Scopes.{statements_of}
use Rattle.ybase_preorder.specs.Layout.{forest_of}
use Rattle.ybase_preorder.specs.View.{slots_in}
use Rattle.ybase_preorder.proofs.RowLemmas.{size_forest}
use Rattle.ylink_grammar.specs.SourceView.{source_view}
use Rattle.ylink_grammar.specs.LinkView.{view}
use Rattle.ylink_names.proofs.NumberedLemmas.{length_placed}
use Rattle.ylink_names.proofs.definitions.nothing_of.Goals as goal

taken : (n m : ℕ) (xs : List (Option ℕ)) → xs ≡ [] → m ≡ 0 → take n xs ++ replicate (n - m) None ≡ replicate n None
taken zero m xs none counted = let nothing : 0 - m ≡ 0 = omega arith in ap (λ k. replicate k None) nothing
taken (suc n) m xs none counted =
    let all : suc n - m ≡ suc n = omega (arith, counted) in
    ap₂ (λ ys k. take (suc n) ys ++ replicate k None) none all

pub returns : goal.returns
returns c =
    let rows = slots_in c.args.sources.now.table in
    let n = length c.slots-count.result.now in
    let count : length (statements_of (view c.args.sources.now)) ≡ n =
    length_placed source_view [] 0 (forest_of rows) ∙ (size_forest rows ∙ ap length (sym c.slots-count.ensures)) in
    c.in_ok-resize.ensures.items
    ∙ (taken n _ c.in_ok-made.made.items c.in_ok-made.ensures.items c.in_ok-made.ensures.len
    ∙ splat_is_map (statements_of (view c.args.sources.now)) n None count)
