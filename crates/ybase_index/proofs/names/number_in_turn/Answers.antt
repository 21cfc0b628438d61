use Rattle.std.proofs.Common.{◌≡◌, ℕ, List, Some, sym, subst, ◌∙◌}
use Rattle.ybase_index.specs.Names.{number_among}
use Rattle.ybase_index.specs.Sorted.{Stands}
use Rattle.ybase_index.proofs.SortedLemmas.{kept_among, stands_more}
use Rattle.ybase_index.proofs.names.number_in_turn.Goals as goal

pub returns-clause-stands : goal.returns-clause-stands
returns-clause-stands c text_at stands no_less own =
    subst (λ (ns : List ℕ). Stands text_at ns (c.args.text, c.args.node)) (sym c.in_ok-push.ensures.items)
    (stands_more text_at c.args.ordered.now.items c.args.last (c.args.text, c.args.node) stands no_less (sym c.eq.ensures ∙ c.if-eq.false) own)

pub returns-clause-kept : goal.returns-clause-kept
returns-clause-kept c text_at t number e =
    subst (λ (ns : List ℕ). number_among text_at ns t ≡ Some number) (sym c.in_ok-push.ensures.items)
    (kept_among text_at t number c.args.ordered.now.items c.args.node e)
