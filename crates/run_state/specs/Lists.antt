-- Needs no belief: a state as lists of numbers, which is what the arrays of a run hold, and its clock.
use Rattle.std.specs.Prelude.{ℕ, ◌≡◌, List, map, Float}
use Rattle.clock.specs.declared.hand.Clock.{Clock}
use Rattle.model.specs.declared.state.LinkState.{LinkState}
use Rattle.model.specs.declared.state.NodeState.{NodeState}
use Rattle.model.specs.declared.state.State.{State}
use Rattle.run_state.specs.declared.Links.{Links}
use Rattle.run_state.specs.declared.Lists.{Lists}

-- ---- of the nodes
abbrev pub head_of : NodeState → Float
head_of x = x.head

abbrev pub demand_of : NodeState → Float
demand_of x = x.demand

abbrev pub demand_flow_of : NodeState → Float
demand_flow_of x = x.demand_flow

abbrev pub heads_of : State → List Float
heads_of s = map head_of s.nodes

abbrev pub demands_of : State → List Float
demands_of s = map demand_of s.nodes

abbrev pub demand_flows_of : State → List Float
demand_flows_of s = map demand_flow_of s.nodes

-- ---- of the links
abbrev pub flow_of : LinkState → Float
flow_of x = x.flow

abbrev pub status_of : LinkState → ℕ
status_of x = x.status

abbrev pub setting_of : LinkState → Float
setting_of x = x.setting

abbrev pub flows_of : State → List Float
flows_of s = map flow_of s.links

abbrev pub statuses_of : State → List ℕ
statuses_of s = map status_of s.links

abbrev pub settings_of : State → List Float
settings_of s = map setting_of s.links

-- the three arrays of the links
abbrev pub links_listed : List LinkState → Links
links_listed links = record { flows = map flow_of links; statuses = map status_of links; settings = map setting_of links }

abbrev pub links_of : State → Links
links_of s = links_listed s.links

-- ---- all of it
abbrev pub nodes_listed : List NodeState → Links → Clock → Lists
nodes_listed nodes links clock = record { heads = map head_of nodes; demands = map demand_of nodes; demand_flows = map demand_flow_of nodes; links = links; clock = clock }

abbrev pub lists_of : State → Lists
lists_of s = nodes_listed s.nodes (links_of s) s.clock

-- what the arrays of the nodes, and of the links, hold
pub record NodesHold (nodes : List NodeState) (heads demands flows : List Float) : Type 0 where
  pub head : map head_of nodes ≡ heads
  pub demand : map demand_of nodes ≡ demands
  pub demand_flow : map demand_flow_of nodes ≡ flows

pub record LinksHold (links : List LinkState) (flows : List Float) (statuses : List ℕ) (settings : List Float) : Type 0 where
  pub flow : map flow_of links ≡ flows
  pub status : map status_of links ≡ statuses
  pub setting : map setting_of links ≡ settings
