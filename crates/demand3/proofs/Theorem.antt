-- Demand 3, whole: of every accepted image and every list of calls from its start. Assumes nothing.
use mathlib.Core.Path.{◌≡◌}
use mathlib.Core.Bool.{true}
use mathlib.Core.List.{List}
use Prim.Native.Nat.{ℕ}
use Rattle.std.specs.Prelude.{None}
use Rattle.clock.proofs.Demand3 as clock
use Rattle.clock.specs.Machine.{final}
use Rattle.stops.specs.Tankless.{Foreseen}
use Rattle.stops.proofs.Exact.{exact}
use Rattle.model.specs.declared.project.Project.{Project}
use Rattle.tables.specs.Tables.{tables_ok}
use Rattle.tables.proofs.Fits.{tables_fit}
use Rattle.image.specs.Image.{decode}
use Rattle.image_accepted.proofs.Accepted.{accepted}
use Rattle.simulation.specs.Steps.{times_of, triggers_of}
use Rattle.simulation.proofs.Accepted.{accepted_times}
use Rattle.calls.specs.Calls.{start}
use Rattle.calls_sound.proofs.Theorem.{tables_of}
use Rattle.second_clock.proofs.Tankless.{tankless}
use Rattle.stops_ahead.specs.Foreseen.{stops_foreseen}
use Rattle.stops_ahead.proofs.Tables.{foreseen_tankless, foreseen_frequent}
use Rattle.list_words.specs.Calls.{Call}
use Rattle.demand3.specs.Machine.{machine, Demand3}
use Rattle.demand3.proofs.Lawful.{lawful, start_accepted, started}

-- where the stops are foreseen, no moment of the machine has a tank's time
foreseen : (p : Project) → stops_foreseen p ≡ true → Foreseen (machine p) (times_of p) (triggers_of p)
foreseen p e = record {
  times = foreseen_frequent p e;
  tankless = λ s k. tankless p (foreseen_tankless p e) (tables_fit p (tables_of p s k)) s;
}

-- of tables that number 10 is not given for
pub demand3_of_tables : (p : Project) → tables_ok p ≡ true → (calls : List Call) → Demand3 p calls (final (machine p) calls (start p).state)
demand3_of_tables p e calls =
    let ok = accepted_times p (tables_fit p e) in
    record {
      claim = clock.demand3 (machine p) (times_of p) (triggers_of p) ok (lawful p) (start p).state (started p e) calls;
      exact = λ f. exact (machine p) (times_of p) (triggers_of p) ok (lawful p) (foreseen p f) (start p).state (started p e) calls;
    }

-- the image is accepted, its project's start is, and the claim holds of any list from there
pub demand3 : (image : List ℕ) → (decode image).fault ≡ None → (calls : List Call)
    → ((start (decode image).project).number ≡ 0)
    × Demand3 (decode image).project calls (final (machine (decode image).project) calls (start (decode image).project).state)
demand3 image e calls =
    let p = (decode image).project in
    (start_accepted p (accepted image e), demand3_of_tables p (accepted image e) calls)
