use Rattle.std.proofs.Common.{OnOk, Bool, true, false, cond, [], ◌∷◌, subst, sym, eq-eqb}
use Rattle.std.proofs.lemmas.Bool.{ne_eqb}
use Rattle.yschema_model.specs.References.{HoldsMore}
use Rattle.yschema_model.proofs.ReferenceLemmas.{none_more}
use Rattle.yschema_model.proofs.references.References.add_where.Goals as goal

pub returns-then-count-eq0 : goal.returns-then-count-eq0
returns-then-count-eq0 c =
    subst (λ (b : Bool). HoldsMore c.args.self.now c.args.self.now c.args.id.0 (cond b [] (c.args.target.0 ∷ []))) (sym (eq-eqb c.args.count 0 c.if-count-eq0.true)) (none_more c.args.self.now c.args.id.0)

pub returns : goal.returns
returns c =
    subst (λ (b : Bool). OnOk c.add_once.result (HoldsMore c.args.self.now c.add_once.new.self c.args.id.0 (cond b [] (c.args.target.0 ∷ []))))
    (sym (ne_eqb c.args.count 0 c.if-count-eq0.false)) c.add_once.ensures
