-- `driver_io::run` meets its contract: a chunk moves the clock, or waits for what is then read. Assumes nothing.
use mathlib.Core.Path.{◌∙◌}
use mathlib.Core.Logic.{inl, inr, ⊎_elim}
use native.Mathlib.Omega.{arith}
use Rattle.driver_io.proofs.Shifting.{part_length}
use Rattle.driver_io.proofs.Running.{ran_by, wants_by, run_on, less_by}
use Rattle.driver_io.proofs.run.Goals as goal

pub overflow_add-held : goal.overflow_add-held
overflow_add-held g c =
    let v = c.loop-over.invariant.1 in
    let f = c.in_ok-held.ensures in
    omega (arith, (ran_by c.loop-over.invariant.0 c.advance-c.ensures).used, part_length c.refill.new.input c.in_ok-held.held.used c.in_ok-held.held.have f.used (omega (arith, f.have, c.refill.auto.input)), f.used, f.have, c.refill.auto.input, v.input, c, c)

pub loop-over-smaller : goal.loop-over-smaller
loop-over-smaller g c =
    let v = c.loop-over.invariant.1 in
    let f = c.in_ok-held.ensures in
    let n = part_length c.refill.new.input c.in_ok-held.held.used c.in_ok-held.held.have f.used (omega (arith, f.have, c.refill.auto.input)) in
    rw c.loop-over-test.true
    (less_by c.loop-over.invariant.0 c.advance-c.ensures c.loop-over.wants v.load (λ some. ⊎_elim (λ w. inl w) (λ k. inr (omega (arith, k, n))) (f.served some))
    (omega (arith, v.out, c.requires.in_bounds)))

pub loop-over-preserved : goal.loop-over-preserved
loop-over-preserved g c =
    let q = c.loop-over.invariant.0 in
    let v = c.loop-over.invariant.1 in
    let f = c.in_ok-held.ensures in
    let n = part_length c.refill.new.input c.in_ok-held.held.used c.in_ok-held.held.have f.used (omega (arith, f.have, c.refill.auto.input)) in (
      run_on q c.advance-c.ensures,
      record {
        used = omega (arith, (ran_by c.loop-over.invariant.0 c.advance-c.ensures).used, n, f.used);
        have = omega (arith, f.have, c.refill.auto.input);
        input = c.refill.auto.input ∙ v.input;
        out = c.advance-c.auto.out ∙ v.out;
        load = wants_by q c.advance-c.ensures;
      },
    )
