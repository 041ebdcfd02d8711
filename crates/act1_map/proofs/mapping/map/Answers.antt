use Rattle.std.proofs.Common.{List, length, sym, ap, subst, ◌∙◌, arith}
use Rattle.act1_blif.specs.declared.blif.Node.{Node}
use Rattle.act1_map.specs.declared.covers.Covered.{Covered}
use Rattle.act1_map.specs.CoverSteps.{AreCovered}
use Rattle.act1_map.proofs.LiveSignals.{marks_long}
use Rattle.act1_map.proofs.mapping.map.Goals as goal

pub tiles_of-requires-clause-few : goal.tiles_of-requires-clause-few
tiles_of-requires-clause-few c =
    let n = c.args.net.now in
    let whole = c.netlists_are_whole.ensures n.blif in
    let covered = subst (λ (cs : List Covered). AreCovered n.blif.nodes (length n.blif.nodes) cs) (sym c.deref.ensures.value)
    (subst (λ (ns : List Node). AreCovered ns (length ns) c.in_ok-covers.covers.items) c.as_slice.ensures c.in_ok-covers.ensures) in
    let long = marks_long n c.deref.result.now whole covered c.in_ok-live.live.items c.in_ok-live.ensures in
    let same = c.deref-3.ensures.len in
    let value = ap (λ (ms : List _). length ms) c.deref-3.ensures.value in
    let few = whole.few in omega arith

pub tiles_of-requires-clause-all : goal.tiles_of-requires-clause-all
tiles_of-requires-clause-all c =
    let n = c.args.net.now in
    let whole = c.netlists_are_whole.ensures n.blif in
    let covered = subst (λ (cs : List Covered). AreCovered n.blif.nodes (length n.blif.nodes) cs) (sym c.deref.ensures.value)
    (subst (λ (ns : List Node). AreCovered ns (length ns) c.in_ok-covers.covers.items) c.as_slice.ensures c.in_ok-covers.ensures) in
    let long = marks_long n c.deref.result.now whole covered c.in_ok-live.live.items c.in_ok-live.ensures in
    let value = ap (λ (ms : List _). length ms) c.deref-3.ensures.value in
    let covers = ap (λ (cs : List Covered). length cs) (c.deref-2.ensures.value ∙ sym c.deref.ensures.value) in
    let count = covered.count in
    let inputs = c.len.ensures in
    let latches = c.len-2.ensures in omega arith
