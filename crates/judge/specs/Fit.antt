-- Needs no belief: what the judgement of a state means, as facts; the same bounds as in its tests, both ways (proofs/Fits.antt).
use Rattle.std.specs.Prelude.{ℕ, ◌^◌, ◌≤◌, ◌<◌}
use Rattle.number.specs.Bounds.{Within}
use Rattle.model.specs.Blank.{node_state_at, link_state_at}
use Rattle.model.specs.declared.project.Project.{Project}
use Rattle.model.specs.declared.state.LinkState.{LinkState}
use Rattle.model.specs.declared.state.NodeState.{NodeState}
use Rattle.model.specs.declared.state.State.{State}

pub record NodeStateFit (x : NodeState) : Type 0 where
  pub head : Within x.head (10 ^ 12)
  pub demand : Within x.demand (10 ^ 20)
  pub demand_flow : Within x.demand_flow (10 ^ 20)

pub record LinkStateFit (x : LinkState) : Type 0 where
  pub flow : Within x.flow (10 ^ 12)
  pub status : x.status ≤ 9
  pub setting : Within x.setting (10 ^ 6)

pub record StateFit (p : Project) (s : State) : Type 0 where
  pub instant : s.clock.instant ≤ p.options.duration
  pub count : s.clock.count ≤ s.clock.instant
  pub node : (i : ℕ) → i < p.counts.nodes → NodeStateFit (node_state_at s i)
  pub link : (i : ℕ) → i < p.counts.links → LinkStateFit (link_state_at s i)
