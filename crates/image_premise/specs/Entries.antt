-- Document 01, "The project image": what a premise's payload says, and "Numbers by the place of the check": the first of 4, 5 and 6 that it breaks.
-- The tests of what it says are those of the tables (table_premise/specs); those that only the words can break stand here.
use Rattle.std.specs.Prelude.{ℕ, Bool, ◌&&◌, ◌||◌, cond, Result, Ok, List, leb, ltb, eqb}
use Rattle.number.specs.Words.{from_words}
use Rattle.number.specs.declared.compare.ComparisonOperator.{ComparisonOperator}
use Rattle.number.specs.declared.compare.ComparisonOperator.TheVariants.{Eq, Ne, Gt, Lt, Ge, Le}
use Rattle.model.specs.declared.project.Counts.{Counts}
use Rattle.model.specs.declared.rule.ConditionValue.{ConditionValue}
use Rattle.model.specs.declared.rule.ConditionValue.TheVariants as values
use Rattle.model.specs.declared.rule.LinkAttribute.{LinkAttribute}
use Rattle.model.specs.declared.rule.LinkAttribute.TheVariants as links
use Rattle.model.specs.declared.rule.NodeAttribute.{NodeAttribute}
use Rattle.model.specs.declared.rule.NodeAttribute.TheVariants as nodes
use Rattle.model.specs.declared.rule.Premise.{Premise}
use Rattle.model.specs.declared.rule.RuleConditionOperator.{RuleConditionOperator}
use Rattle.model.specs.declared.rule.RuleConditionOperator.TheVariants.{Or, And}
use Rattle.model.specs.declared.rule.RuleConditionTarget.{RuleConditionTarget}
use Rattle.model.specs.declared.rule.RuleConditionTarget.TheVariants as targets
use Rattle.model.specs.declared.rule.SystemAttribute.{SystemAttribute}
use Rattle.model.specs.declared.rule.SystemAttribute.TheVariants as systems
use Rattle.model.specs.declared.rule.TankAttribute.{TankAttribute}
use Rattle.model.specs.declared.rule.TankAttribute.TheVariants as tank_attributes
use Rattle.table_premise.specs.Records.{premise_ok, premise_indices_ok}
use Rattle.image_entry.specs.Words.{word}
use Rattle.image_entry.specs.Entries.{passed}
use Rattle.image_entry.specs.declared.entry.Entry.{Entry}
use Rattle.image_entry.specs.declared.entry.Entry.TheVariants as entries
use Rattle.image_entry.specs.declared.entry.Fault.{Fault}
use Rattle.image_entry.specs.declared.entry.Fault.TheVariants as faults

-- 8 premise: "operator (0 or, 1 and), attribute, index, comparison, value's sort (0 number, 1 status, 2 time), value"
unfoldable pub operator_of : ℕ → RuleConditionOperator
operator_of code = cond (eqb code 0) Or And

-- "Attributes 0 to 11: node, tank, link, system, each in its enum's order."
unfoldable pub node_attribute_of : ℕ → NodeAttribute
node_attribute_of code = cond (eqb code 0) nodes.Demand (cond (eqb code 1) nodes.Head nodes.Pressure)

unfoldable pub tank_attribute_of : ℕ → TankAttribute
tank_attribute_of code = cond (eqb code 3) tank_attributes.Level (cond (eqb code 4) tank_attributes.FillTime tank_attributes.DrainTime)

unfoldable pub link_attribute_of : ℕ → LinkAttribute
link_attribute_of code = cond (eqb code 6) links.Flow (cond (eqb code 7) links.Status links.Setting)

unfoldable pub system_attribute_of : ℕ → SystemAttribute
system_attribute_of code = cond (eqb code 9) systems.Demand (cond (eqb code 10) systems.Time systems.ClockTime)

unfoldable pub target_of : ℕ → ℕ → RuleConditionTarget
target_of code index =
    cond (leb code 2) (targets.Node index (node_attribute_of code))
    (cond (leb code 5) (targets.Tank index (tank_attribute_of code))
    (cond (leb code 8) (targets.Link index (link_attribute_of code)) (targets.System (system_attribute_of code))))

-- "Comparisons 0 to 5: Eq, Ne, Gt, Lt, Ge, Le."
unfoldable pub comparison_of : ℕ → ComparisonOperator
comparison_of code = cond (eqb code 0) Eq (cond (eqb code 1) Ne (cond (eqb code 2) Gt (cond (eqb code 3) Lt (cond (eqb code 4) Ge Le))))

unfoldable pub value_of : ℕ → ℕ → ℕ → ConditionValue
value_of sort lo hi = cond (eqb sort 0) (values.Number (from_words lo hi)) (cond (eqb sort 1) (values.Status lo) (values.Time lo))

unfoldable pub premise_of : List ℕ → Premise
premise_of p = record {
  operator = operator_of (word p 0);
  target = target_of (word p 1) (word p 2);
  comparison = comparison_of (word p 3);
  value = value_of (word p 4) (word p 5) (word p 6);
}

-- "Unused words are 0: a system index, a status's or time's high word."
unfoldable pub premise_words_ok : List ℕ → Bool
premise_words_ok p =
    leb (word p 0) 1 && leb (word p 1) 11 && leb (word p 3) 5 && leb (word p 4) 2
    && (leb (word p 1) 8 || eqb (word p 2) 0)
    && (eqb (word p 4) 0 || eqb (word p 6) 0)

unfoldable pub premise_entry : List ℕ → Counts → Result Entry Fault
premise_entry p c =
    passed (ltb c.premises 128) faults.Count
    (passed (premise_words_ok p && premise_ok (premise_of p)) faults.Word
    (passed (premise_indices_ok c.nodes c.links (premise_of p).target) faults.Index (Ok (entries.Premise (premise_of p)))))
