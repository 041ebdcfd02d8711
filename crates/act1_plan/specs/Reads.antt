-- What the reader of plans answers.
use Rattle.std.specs.Prelude.{ℕ, ◌≡◌, List, Result, Ok, Err}
use Rattle.act1_base.specs.FirstFault.{IsFirstFaultyLine}
use Rattle.act1_plan.specs.Plans.{IsPlan}
use Rattle.act1_plan.specs.Texts.{plan_text}
use Rattle.act1_plan.specs.declared.fault.PlanFault.{PlanFault}
use Rattle.act1_plan.specs.declared.fault.PlanFault.TheVariants.{Line, Memory}
use Rattle.act1_plan.specs.declared.plan.Plan.{Plan}

-- the bytes are the text of this plan
abbrev pub IsTextOf : List ℕ → Plan → Type 0
IsTextOf bytes plan = IsPlan plan × (bytes ≡ plan_text plan)

-- the bytes are the text of some plan
abbrev pub IsPlanText : List ℕ → Type 0
IsPlanText bytes = (plan : Plan) × IsTextOf bytes plan

-- the plan whose text the bytes are, or their first faulty line; want of memory alone is free
abbrev pub PlanReads : List ℕ → Result Plan PlanFault → Type 0
PlanReads bytes (Ok plan) = IsTextOf bytes plan
PlanReads bytes (Err (Line number)) = IsFirstFaultyLine IsPlanText bytes number
PlanReads bytes (Err Memory) = Unit {0}

-- this plan is read, unless memory is short
abbrev pub IsReadAs : Plan → Result Plan PlanFault → Type 0
IsReadAs plan (Ok read) = read ≡ plan
IsReadAs plan (Err fault) = fault ≡ Memory

-- the text of a plan is read as that plan
abbrev pub ReadsAgain : List ℕ → Result Plan PlanFault → Type 0
ReadsAgain bytes result = (plan : Plan) → IsTextOf bytes plan → IsReadAs plan result
