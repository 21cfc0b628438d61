-- A statement's view, one level at a time.
use Rattle.std.proofs.Common.{◌≡◌, ℕ, ◌+◌, ◌<◌, List, length, get_or, drop, sym, ap, ◌∙◌, rules}
use Rattle.std.proofs.lemmas.List.{at_drop_more}
use Rattle.yspec.specs.Forest.{node}
use Rattle.ytext.specs.View.{view, row_view}
use Rattle.ytext.specs.declared.statement.Stmt.{Stmt, out-Stmt, the_lemmas}

-- what stands below a statement is the row of its substatements
pub row_of_substatements : (s : Stmt) → row_view (out-Stmt s).subs.items ≡ (view s).1
row_of_substatements s = search (rules, the_lemmas)

-- what is left of some statements is the one at hand, and then the others
pub row_view_at : (ss : List Stmt) (i : ℕ) (s : Stmt) → i < length ss → s ≡ get_or ss i s
    → row_view (drop i ss) ≡ node (view s).0 (view s).1 (row_view (drop (i + 1) ss))
row_view_at ss i s within is =
    at_drop_more row_view ss i s within ∙ ap (λ x. node (view x).0 (view x).1 (row_view (drop (i + 1) ss))) (sym is)
