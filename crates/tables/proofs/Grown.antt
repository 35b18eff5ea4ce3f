-- What keeps holding as the tables are filled: an index test where a count grows, and a test over a table where an entry is added. Assumes nothing.
use Rattle.std.specs.Prelude.{None, Option, Some}
use mathlib.Core.Path.{◌≡◌, refl}
use mathlib.Core.Bool.{Bool, true, ◌&&◌}
use mathlib.Core.List.{List}
use Prim.Native.Nat.{ℕ, zero, suc, ◌+◌, ◌*◌, ◌≤◌, ◌<◌}
use native.Mathlib.Numerals.{add-one}
use native.Mathlib.Omega.{arith}
use lib.Dec.{leb, ltb}
use lib.Ieee.{Float, nan}
use lib.ListN.{length, get_or, set}
use lib.Seq.{get_or-set_same, get_or-set_other}
use borrow.Author.Tests.{ltb-true, lt-ltb}
use Rattle.model.specs.Loops.{all_below}
use Rattle.model.specs.declared.control.Control.{Control}
use Rattle.model.specs.declared.control.ControlCondition.{ControlCondition}
use Rattle.model.specs.declared.control.ControlCondition.TheVariants as conditions
use Rattle.model.specs.declared.link.Link.{Link}
use Rattle.model.specs.declared.node.Demand.{Demand}
use Rattle.model.specs.declared.node.Demands.{Demands}
use Rattle.model.specs.declared.node.Demands.TheVariants.{NoDemand, One, Two, Three, Four}
use Rattle.model.specs.declared.node.NodeType.{NodeType}
use Rattle.model.specs.declared.node.NodeType.TheVariants.{Reservoir, Tank, Junction}
use Rattle.model.specs.declared.rule.RuleConditionTarget.{RuleConditionTarget}
use Rattle.model.specs.declared.rule.RuleConditionTarget.TheVariants as targets
use Rattle.table_ranges.specs.Ranges.{pattern_index_ok}
use Rattle.table_node.specs.Records.{demand_index_ok, demands_indices_ok, node_indices_ok}
use Rattle.table_link.specs.Records.{link_indices_ok}
use Rattle.table_control.specs.Records.{condition_index_ok, control_indices_ok}
use Rattle.table_premise.specs.Records.{premise_indices_ok}
use Rattle.table_entry.specs.Fits.{multiplier_ok, multipliers_ok, pattern_ok}
use Rattle.table_entry.proofs.Tests.{and_grow}

-- ---- a count grows
pub below_grows : (i : ℕ) {m n : ℕ} → m ≤ n → ltb i m ≡ true → ltb i n ≡ true
below_grows i {m} {n} h e = lt-ltb i n (omega (arith, ltb-true i m e))

pub pattern_index_grows : (i : Option ℕ) {m n : ℕ} → m ≤ n → pattern_index_ok m i ≡ true → pattern_index_ok n i ≡ true
unfolding pattern_index_ok
pattern_index_grows None h e = refl
pattern_index_grows (Some i) h e = below_grows i h e

demand_index_grows : (d : Demand) {m n : ℕ} → m ≤ n → demand_index_ok m d ≡ true → demand_index_ok n d ≡ true
unfolding demand_index_ok
demand_index_grows d h e = pattern_index_grows d.pattern h e

demands_indices_grow : (d : Demands) {m n : ℕ} → m ≤ n → demands_indices_ok m d ≡ true → demands_indices_ok n d ≡ true
unfolding demands_indices_ok
demands_indices_grow NoDemand h e = refl
demands_indices_grow (One a) h e = demand_index_grows a h e
demands_indices_grow (Two a b) h e = and_grow (demand_index_grows a h) (demand_index_grows b h) e
demands_indices_grow (Three a b c) h e =
    and_grow (and_grow (demand_index_grows a h) (demand_index_grows b h)) (demand_index_grows c h) e
demands_indices_grow (Four a b c d) h e =
    and_grow (and_grow (and_grow (demand_index_grows a h) (demand_index_grows b h)) (demand_index_grows c h)) (demand_index_grows d h) e

pub node_indices_grow : (k : NodeType) {m n : ℕ} → m ≤ n → node_indices_ok m k ≡ true → node_indices_ok n k ≡ true
unfolding node_indices_ok
node_indices_grow (Reservoir r) h e = pattern_index_grows r.head_pattern h e
node_indices_grow (Tank t) h e = refl
node_indices_grow (Junction j) h e = demands_indices_grow j.demands h e

pub link_indices_grow : (l : Link) {m n : ℕ} → m ≤ n → link_indices_ok m l ≡ true → link_indices_ok n l ≡ true
unfolding link_indices_ok
link_indices_grow l h e = and_grow (below_grows l.start h) (below_grows l.end h) e

condition_index_grows : (c : ControlCondition) {m n : ℕ} → m ≤ n → condition_index_ok m c ≡ true → condition_index_ok n c ≡ true
unfolding condition_index_ok
condition_index_grows (conditions.HighPressure i target) h e = below_grows i h e
condition_index_grows (conditions.LowPressure i target) h e = below_grows i h e
condition_index_grows (conditions.HighLevel i target) h e = below_grows i h e
condition_index_grows (conditions.LowLevel i target) h e = below_grows i h e
condition_index_grows (conditions.Time seconds) h e = refl
condition_index_grows (conditions.ClockTime seconds) h e = refl

pub control_indices_grow : (c : Control) {m n k l : ℕ} → m ≤ n → k ≤ l → control_indices_ok m k c ≡ true → control_indices_ok n l c ≡ true
unfolding control_indices_ok
control_indices_grow c g h e = and_grow (condition_index_grows c.condition g) (below_grows c.link h) e

pub premise_indices_grow : (t : RuleConditionTarget) {m n k l : ℕ} → m ≤ n → k ≤ l → premise_indices_ok m k t ≡ true → premise_indices_ok n l t ≡ true
unfolding premise_indices_ok
premise_indices_grow (targets.Node i a) g h e = below_grows i g e
premise_indices_grow (targets.Tank i a) g h e = below_grows i g e
premise_indices_grow (targets.Link i a) g h e = below_grows i h e
premise_indices_grow (targets.System a) g h e = refl

-- ---- an entry is added
-- a test that follows from another at each index below n
pub all_below_grows : (n : ℕ) (s t : ℕ → Bool) → ((i : ℕ) → i < n → s i ≡ true → t i ≡ true) → all_below n s ≡ true → all_below n t ≡ true
unfolding all_below
all_below_grows zero s t f e = refl
all_below_grows (suc n) s t f e = and_grow (all_below_grows n s t (λ i l. f i (omega arith))) (f n (omega arith)) e

-- the first n entries of a table pass, and the one written at n does
pub all_below_set :
    {A : Type 0} (test : ℕ → A → Bool) (xs : List A) (n : ℕ) (x d : A) → n < length xs → all_below n (λ i. test i (get_or xs i d)) ≡ true → test n x ≡ true
    → all_below (n + 1) (λ i. test i (get_or (set xs n x) i d)) ≡ true
unfolding all_below
all_below_set test xs n x d h e f =
    let before : ℕ → Bool = λ i. test i (get_or xs i d) in
    let after : ℕ → Bool = λ i. test i (get_or (set xs n x) i d) in
    let old = all_below_grows n before after (λ i l g. rw (get_or-set_other xs n i x d (omega arith)) g) e in
    rw (add-one, old, get_or-set_same xs n x d h, f)

-- a pattern passes by its own multipliers alone
pub pattern_kept :
    (ms ns : List Float) (k n : ℕ) → ((i : ℕ) → i < n → get_or ns (k * 168 + i) nan ≡ get_or ms (k * 168 + i) nan) → pattern_ok ms k n ≡ true
    → pattern_ok ns k n ≡ true
unfolding pattern_ok multipliers_ok
pattern_kept ms ns k n h e =
    and_grow {a = leb 1 n && leb n 168} (λ f. f) (all_below_grows n (multiplier_ok ms k) (multiplier_ok ns k) (λ i l g. rw (h i l) g)) e
