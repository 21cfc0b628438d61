use Rattle.std.proofs.Common.{ℕ, Result, length, map, subst, sym, rules}
use Rattle.std.specs.List.Sorted.{IsBinarySearchResult, IsSearchInRange}
use Rattle.std.proofs.lemmas.Fn.{always_returns_same}
use Rattle.ybase_index.specs.Names.{text_in}
use Rattle.ybase_index.specs.Sorted.{compared}
use Rattle.ybase_index.proofs.OrderLemmas.{found_at, none_found_at}
use Rattle.ybase_index.proofs.names.number_named.Goals as goal

pub returns-in-Ok : goal.returns-in-Ok
returns-in-Ok g c e =
    let text_at = text_in (map g.T.Named.text c.args.named.now) in
    let order = λ (number : ℕ). compared (text_at number) c.args.name.now in
    let names = c.args.ordered.now in
    let facts = c.binary_search_by.ensures in
    let placed = facts.position order (always_returns_same _ _ _ (λ a r q called. search rules)) in
    let place = c.in-Ok.place in
    let within = subst (λ (r : Result ℕ ℕ). IsSearchInRange r (length names)) c.in-Ok.is facts.bound in
    let equal = subst (λ (r : Result ℕ ℕ). IsBinarySearchResult order names r) c.in-Ok.is placed in
    sym (found_at text_at c.args.name.now names e place 0 within (equal 0))

pub returns-in-Err : goal.returns-in-Err
returns-in-Err g c e =
    let text_at = text_in (map g.T.Named.text c.args.named.now) in
    let order = λ (number : ℕ). compared (text_at number) c.args.name.now in
    let names = c.args.ordered.now in
    let placed = c.binary_search_by.ensures.position order (always_returns_same _ _ _ (λ a r q called. search rules)) in
    sym (none_found_at text_at c.args.name.now names e _ (subst (λ (r : Result ℕ ℕ). IsBinarySearchResult order names r) c.in-Err.is placed))
