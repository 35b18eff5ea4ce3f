-- What a premise of the tables (kind 8) has to satisfy: number 5, by the record alone, and number 6, by what is declared.
-- What cannot be written in the tables is judged by the words of an image (image_premise/specs).
use Rattle.std.specs.Prelude.{ℕ, Bool, true, ltb}
use Rattle.model.specs.declared.rule.ConditionValue.{ConditionValue}
use Rattle.model.specs.declared.rule.ConditionValue.TheVariants as values
use Rattle.model.specs.declared.rule.Premise.{Premise}
use Rattle.model.specs.declared.rule.RuleConditionTarget.{RuleConditionTarget}
use Rattle.model.specs.declared.rule.RuleConditionTarget.TheVariants as targets
use Rattle.table_ranges.specs.Ranges.{time_ok, premise_number_ok, status_ok}

unfoldable pub value_ok : ConditionValue → Bool
value_ok (values.Number x) = premise_number_ok x
value_ok (values.Status s) = status_ok s
value_ok (values.Time t) = time_ok t

unfoldable pub premise_ok : Premise → Bool
premise_ok q = value_ok q.value

unfoldable pub premise_indices_ok : ℕ → ℕ → RuleConditionTarget → Bool
premise_indices_ok nodes links (targets.Node i a) = ltb i nodes
premise_indices_ok nodes links (targets.Tank i a) = ltb i nodes
premise_indices_ok nodes links (targets.Link i a) = ltb i links
premise_indices_ok nodes links (targets.System a) = true
