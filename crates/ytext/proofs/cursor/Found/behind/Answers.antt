use Rattle.std.proofs.Common.{ℕ, ◌-◌, ap, ◌∙◌}
use Rattle.ytext.specs.Left.{pieces_behind, pieces_after}
use Rattle.ytext.specs.declared.lexeme.Standing.{Standing}
use Rattle.ytext.proofs.cursor.Found.behind.Goals as goal

pub returns-clause-pieces : goal.returns-clause-pieces
returns-clause-pieces c =
    let f = c.args.self in
    c.moved_to.ensures.pieces
    ∙ ap (λ (n : ℕ). pieces_behind (f.end - n) c.standing_at.result) c.standing_at.ensures.at
    ∙ c.standing_at.ensures.pieces (f.end - f.cursor.at)
    ∙ ap (λ (s : Standing). pieces_after s (f.end - f.cursor.at) f.cursor) c.behind-standing.ensures
