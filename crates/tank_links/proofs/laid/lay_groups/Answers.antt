-- `tank_links::laid::lay_groups` meets its contract. The invariant: the groups of the tanks passed are laid out. Assumes nothing.
use native.Mathlib.Omega.{arith}
use Rattle.tank_links.proofs.Laying.{laying_begun, laying_next, fits_here, next_fits, laid}
use Rattle.tank_links.proofs.laid.lay_groups.Goals as goal

pub loop-k-init : goal.loop-k-init
loop-k-init c = laying_begun

pub overflow_cast-groups : goal.overflow_cast-groups
overflow_cast-groups c =
    let a = c.args in
    let t = a.tanks.now in
    let e = c.chain_links.ensures in
    omega (arith, fits_here a.table.now e.into e.out t.inside c.requires.distinct c.requires.ends_inside.most c.loop-k.invariant)

pub write-middle-requires-clause-room : goal.write-middle-requires-clause-room
write-middle-requires-clause-room c =
    let a = c.args in
    let t = a.tanks.now in
    let e = c.chain_links.ensures in
    omega (arith, next_fits a.table.now e.into e.out t.inside c.requires.distinct c.requires.ends_inside.most c.loop-k.invariant c.loop-k-test.true)

pub overflow_cast-groups-in-loop-k : goal.overflow_cast-groups-in-loop-k
overflow_cast-groups-in-loop-k c =
    let a = c.args in
    let t = a.tanks.now in
    let e = c.chain_links.ensures in
    omega (arith, c.write-middle.ensures.value, next_fits a.table.now e.into e.out t.inside c.requires.distinct c.requires.ends_inside.most c.loop-k.invariant c.loop-k-test.true)

pub write-at-requires-clause-room : goal.write-at-requires-clause-room
write-at-requires-clause-room c =
    let a = c.args in
    let t = a.tanks.now in
    let e = c.chain_links.ensures in
    omega (arith, c.write-middle.ensures.value, next_fits a.table.now e.into e.out t.inside c.requires.distinct c.requires.ends_inside.most c.loop-k.invariant c.loop-k-test.true)

pub loop-k-preserved : goal.loop-k-preserved
loop-k-preserved c =
    let m = c.write-middle.ensures in
    let a = c.write-at.ensures in
    laying_next c.loop-k.invariant c.loop-k-test.true m.value m.links_after a.value a.links_after

pub overflow_cast-groups-2 : goal.overflow_cast-groups-2
overflow_cast-groups-2 c =
    let a = c.args in
    let t = a.tanks.now in
    let e = c.chain_links.ensures in
    omega (arith, fits_here a.table.now e.into e.out t.inside c.requires.distinct c.requires.ends_inside.most c.loop-k.invariant)

pub returns : goal.returns
returns c =
    let a = c.args in
    let t = a.tanks.now in
    let e = c.chain_links.ensures in
    let l = laid a.table.now e.into e.out t.inside c.requires.distinct c.requires.ends_inside.most c.loop-k.invariant c.loop-k-test.false in
    record { begins_after = l.0; middles_after = l.1; links_after = l.2 }
