use Rattle.std.proofs.Common.{◌≡◌, ◌==◌, ◌||◌, ◌<◌, ℕ, List, Bool, false, length, get_or, refl, sym, ap, ◌∙◌, subst, arith}
use Rattle.std.specs.List.{list_any}
use Rattle.std.specs.declared.alloc.Global.{Global}
use Rattle.std.specs.declared.vec.Vec.{Vec}
use Rattle.ybase_graph.specs.Search.{targets_of}
use Rattle.ybase_graph.proofs.EdgeLemmas.{targets_get}
use Rattle.ybase_graph.proofs.MarkLemmas.{next_marked, all_marked}
use Rattle.ybase_graph.proofs.derivations.Derivations.from.Goals as goal

pub loop-node-preserved : goal.loop-node-preserved
loop-node-preserved c =
    let d = c.args.self.now in
    let i = c.loop-node.node-index in
    let nodes = c.deref-node-items.ensures.value in
    let node = get_or c.deref-node-items.result.now i 0 in
    let inside : i < length d.order.items = subst (λ (x : List ℕ). i < length x) nodes c.loop-node-test.true in
    let is_node : node ≡ get_or d.order.items i 0 = ap (λ (x : List ℕ). get_or x i 0) nodes in
    let within : node < length d.rows.items = subst (λ n. n < length d.rows.items) (sym is_node) (d.within i 0 inside) in
    let targets : c.deref.result.now ≡ targets_of d.rows.items node =
    c.deref.ensures.value
    ∙ (ap (λ (row : Vec ℕ Global). row.items) c.index.ensures ∙ sym (targets_get d.rows.items node c.index.result.now within)) in
    let mark : c.leads_on.result ≡ list_any (λ n. n == c.args.base || get_or c.loop-node.marks.items n false) (targets_of d.rows.items node) =
    c.leads_on.ensures
    ∙ (ap (λ (marks : List Bool). list_any (λ n. n == c.args.base || get_or marks n false) c.deref.result.now) c.deref-in-loop-node.ensures.value
    ∙ ap (list_any (λ n. n == c.args.base || get_or c.loop-node.marks.items n false)) targets) in
    next_marked d c.args.base c.loop-node.marks.items _ i node c.leads_on.result inside is_node within mark refl c.loop-node.invariant

pub returns : goal.returns
returns c =
    let d = c.args.self.now in
    let count = ap length c.deref-node-items.ensures.value in
    let past = c.loop-node-test.false in
    all_marked d c.args.base c.loop-node.marks.items c.loop-node.node-index (omega (arith, count, past)) c.loop-node.invariant
