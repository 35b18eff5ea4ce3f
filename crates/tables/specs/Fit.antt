-- Needs no belief: what acceptance means, as facts for the layers above, shown of the tests once (proofs/Fits.antt): indices below the counts, times in
-- their ranges, numbers as bounds.
use Rattle.std.specs.Prelude.{None, Option, Some}
use Rattle.std.specs.Prelude.{ℕ, ◌*◌, ◌+◌, ◌^◌, ◌≤◌, ◌<◌, ◌≡◌, List, Float, get_or}
use Rattle.std.specs.Float.{nan}
use Rattle.number.specs.Bounds.{Within, Beyond}
use Rattle.tank.specs.Ranges.{TankRange}
use Rattle.model.specs.Blank.{node_at, link_at, control_at, premise_at}
use Rattle.model.specs.declared.control.Control.{Control}
use Rattle.model.specs.declared.control.ControlCondition.{ControlCondition}
use Rattle.model.specs.declared.control.ControlCondition.TheVariants as conditions
use Rattle.model.specs.declared.link.Link.{Link}
use Rattle.model.specs.declared.link.LinkType.{LinkType}
use Rattle.model.specs.declared.link.LinkType.TheVariants.{Pipe, Pump, Valve}
use Rattle.model.specs.declared.node.Demand.{Demand}
use Rattle.model.specs.declared.node.Demands.{Demands}
use Rattle.model.specs.declared.node.Demands.TheVariants.{NoDemand, One, Two, Three, Four}
use Rattle.model.specs.declared.node.NodeType.{NodeType}
use Rattle.model.specs.declared.node.NodeType.TheVariants.{Reservoir, Tank, Junction}
use Rattle.model.specs.declared.options.Options.{Options}
use Rattle.model.specs.declared.project.Project.{Project}
use Rattle.model.specs.declared.rule.ConditionValue.{ConditionValue}
use Rattle.model.specs.declared.rule.ConditionValue.TheVariants as values
use Rattle.model.specs.declared.rule.Premise.{Premise}
use Rattle.model.specs.declared.rule.RuleConditionTarget.{RuleConditionTarget}
use Rattle.model.specs.declared.rule.RuleConditionTarget.TheVariants as targets
use Rattle.tables.specs.Tables.{Few}

pub record OptionsFit (o : Options) : Type 0 where
  pub duration : o.duration ≤ 315360000
  pub hydraulic : o.hydraulic ≤ 315360000
  pub report : 0 < o.report
  pub report_most : o.report ≤ 315360000
  pub pattern : 0 < o.pattern
  pub pattern_most : o.pattern ≤ 315360000
  pub start : o.pattern_start ≤ 315360000
  pub clock : o.start_clock < 86400
  pub scale : Within o.demand_multiplier (10 ^ 6)

abbrev pub PatternIndexFit : ℕ → Option ℕ → Type 0
PatternIndexFit patterns None = Unit {0}
PatternIndexFit patterns (Some i) = i < patterns

pub record PatternFit (ms : List Float) (k n : ℕ) : Type 0 where
  pub some : 0 < n
  pub most : n ≤ 168
  pub each : (i : ℕ) → i < n → Within (get_or ms (k * 168 + i) nan) (10 ^ 6)

pub record DemandFit (patterns : ℕ) (d : Demand) : Type 0 where
  pub base : Within d.base (10 ^ 6)
  pub pattern : PatternIndexFit patterns d.pattern

abbrev pub DemandsFit : ℕ → Demands → Type 0
DemandsFit patterns NoDemand = Unit {0}
DemandsFit patterns (One a) = DemandFit patterns a
DemandsFit patterns (Two a b) = DemandFit patterns a × DemandFit patterns b
DemandsFit patterns (Three a b c) = DemandFit patterns a × DemandFit patterns b × DemandFit patterns c
DemandsFit patterns (Four a b c d) = DemandFit patterns a × DemandFit patterns b × DemandFit patterns c × DemandFit patterns d

abbrev pub NodeFit : ℕ → NodeType → Type 0
NodeFit patterns (Reservoir r) = Within r.elevation 100000 × PatternIndexFit patterns r.head_pattern
NodeFit patterns (Tank t) = TankRange t
NodeFit patterns (Junction j) = Within j.elevation 100000 × DemandsFit patterns j.demands

abbrev pub LinkTypeFit : LinkType → Type 0
LinkTypeFit (Pipe diameter) = Within diameter 10000 × Beyond diameter 1024
LinkTypeFit (Pump flow speed) = Within flow (10 ^ 6) × Within speed (10 ^ 6)
LinkTypeFit (Valve diameter setting) = Within diameter 10000 × Beyond diameter 1024 × Within setting (10 ^ 6)

pub record LinkFit (nodes : ℕ) (l : Link) : Type 0 where
  pub start : l.start < nodes
  pub end : l.end < nodes
  pub apart : l.start ≡ l.end → ⊥
  pub status : l.initial_status ≤ 9
  pub kind : LinkTypeFit l.kind

abbrev pub ConditionFit : ℕ → ControlCondition → Type 0
ConditionFit nodes (conditions.HighPressure n target) = (n < nodes) × Within target 100000
ConditionFit nodes (conditions.LowPressure n target) = (n < nodes) × Within target 100000
ConditionFit nodes (conditions.HighLevel n target) = (n < nodes) × Within target 100000
ConditionFit nodes (conditions.LowLevel n target) = (n < nodes) × Within target 100000
ConditionFit nodes (conditions.Time seconds) = seconds ≤ 315360000
ConditionFit nodes (conditions.ClockTime seconds) = seconds < 86400

abbrev pub StatusActionFit : Option ℕ → Type 0
StatusActionFit None = Unit {0}
StatusActionFit (Some s) = s ≤ 9

abbrev pub SettingActionFit : Option Float → Type 0
SettingActionFit None = Unit {0}
SettingActionFit (Some x) = Within x (10 ^ 6)

pub record ControlFit (nodes links : ℕ) (c : Control) : Type 0 where
  pub condition : ConditionFit nodes c.condition
  pub link : c.link < links
  pub status : StatusActionFit c.status
  pub setting : SettingActionFit c.setting

abbrev pub TargetFit : ℕ → ℕ → RuleConditionTarget → Type 0
TargetFit nodes links (targets.Node i a) = i < nodes
TargetFit nodes links (targets.Tank i a) = i < nodes
TargetFit nodes links (targets.Link i a) = i < links
TargetFit nodes links (targets.System a) = Unit {0}

abbrev pub ValueFit : ConditionValue → Type 0
ValueFit (values.Number x) = Within x (10 ^ 12)
ValueFit (values.Status s) = s ≤ 9
ValueFit (values.Time t) = t ≤ 315360000

pub record PremiseFit (nodes links : ℕ) (q : Premise) : Type 0 where
  pub target : TargetFit nodes links q.target
  pub value : ValueFit q.value

pub record TablesFit (p : Project) : Type 0 where
  pub few : Few p.counts
  pub options : OptionsFit p.options
  pub default : PatternIndexFit p.counts.patterns p.options.default_pattern
  pub pattern : (k : ℕ) → k < p.counts.patterns → PatternFit p.multipliers k (get_or p.lengths k 0)
  pub node : (i : ℕ) → i < p.counts.nodes → NodeFit p.counts.patterns (node_at p i).kind
  pub link : (i : ℕ) → i < p.counts.links → LinkFit p.counts.nodes (link_at p i)
  pub control : (i : ℕ) → i < p.counts.controls → ControlFit p.counts.nodes p.counts.links (control_at p i)
  pub premise : (i : ℕ) → i < p.counts.premises → PremiseFit p.counts.nodes p.counts.links (premise_at p i)
