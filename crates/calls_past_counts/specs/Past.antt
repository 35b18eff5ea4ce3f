-- Entries past the counts are the same in two states.
use Rattle.std.specs.Prelude.{ℕ, ◌≤◌, ◌≡◌}
use Rattle.model.specs.Blank.{node_state_at, link_state_at}
use Rattle.model.specs.declared.project.Project.{Project}
use Rattle.model.specs.declared.state.State.{State}

pub record SamePast (p : Project) (s u : State) : Type 0 where
  pub node : (i : ℕ) → p.counts.nodes ≤ i → node_state_at u i ≡ node_state_at s i
  pub link : (i : ℕ) → p.counts.links ≤ i → link_state_at u i ≡ link_state_at s i
