-- The lines of a plan lead to its end, and lines that lead to an end are those of a plan.
use Rattle.std.proofs.Common.{ℕ, suc, ◌≡◌, ◌⊎◌, ◌+◌, ◌-◌, ◌<◌, ◌==◌, nat_lt, Bool, true, false, ◌&&◌, ◌||◌, IsTrue, List, [], ◌∷◌, ◌++◌, length, Option, Some, None, Result, Ok, refl, sym, ap, subst, ◌∙◌, inl, inr, append_assoc, append-nil, arith}
use Rattle.std.specs.Prelude.{slice_get}
use Rattle.std.proofs.lemmas.Bool.Decides.{nat_tests}
use Rattle.std.proofs.lemmas.List.{length-append, map-append}
use Rattle.act1_base.specs.Rising.{Rises}
use Rattle.act1_circuit.specs.declared.circuit.Output.{Output}
use Rattle.act1_circuit.specs.declared.circuit.Source.{Source}
use Rattle.act1_circuit.specs.declared.circuit.Spot.{Spot}
use Rattle.act1_circuit.specs.declared.circuit.Start.{Start}
use Rattle.act1_circuit.specs.Spots.{SpotIsBefore}
use Rattle.act1_table.specs.Formats.{IsFine, Leads, CanEnd}
use Rattle.act1_table.proofs.NumberLaws.{both, some_is}
use Rattle.act1_plan.specs.Lines.{plan_format, clock_lines, input_lines, output_lines, start_lines, module_lines, plan_lines}
use Rattle.act1_plan.specs.Order.{spot_is_before}
use Rattle.act1_plan.specs.Plans.{StartIsBefore}
use Rattle.act1_plan.specs.Steps.{Fault, if_so, empty_plan, with_clock, with_input, with_output, with_start, with_module, is_empty, has_none, comes_after, start_is_before, takes_start, takes_output, takes_input, takes_clock, takes, with_line, step, end, plan_steps}
use Rattle.act1_plan.specs.declared.plan.Plan.{Plan}
use Rattle.act1_plan.specs.declared.line.PlanLine.{PlanLine}
use Rattle.act1_plan.specs.declared.line.PlanLine.TheVariants as line
use Rattle.act1_plan.specs.declared.line.PlanState.{PlanState}
use Rattle.act1_plan.specs.declared.line.PlanState.TheVariants as state

two : (a b : Bool) → IsTrue a → IsTrue b → IsTrue (a && b)
two a b h k = rw h k

-- the tests are those of the orders

start_test : (a b : Start) → StartIsBefore a b → IsTrue (start_is_before a b)
start_test a b h = grind (arith, nat_tests)

test_start : (a b : Start) → IsTrue (start_is_before a b) → StartIsBefore a b
test_start a b h = grind (arith, nat_tests)

pub spot_test : (a b : Spot) → SpotIsBefore a b → IsTrue (spot_is_before a b)
spot_test a b (inl h) = grind (arith, nat_tests)
spot_test a b (inr h) = let e = h.0 in let k = h.1 in grind (arith, nat_tests)

spot_by : (less same low : Bool) (A B C : Type 0) → (IsTrue less → A) → (IsTrue same → B) → (IsTrue low → C) → IsTrue (less || (same && low)) → A ⊎ (B × C)
spot_by true same low A B C a b c h = inl (a refl)
spot_by false true true A B C a b c h = inr (b refl, c refl)
spot_by false true false A B C a b c h = cc
spot_by false false low A B C a b c h = cc

lt_of : (m n : ℕ) → IsTrue (nat_lt m n) → m < n
lt_of m n h = grind (arith, nat_tests)

eq_of : (m n : ℕ) → IsTrue (m == n) → m ≡ n
eq_of m n h = grind (arith, nat_tests)

pub test_spot : (a b : Spot) → IsTrue (spot_is_before a b) → SpotIsBefore a b
test_spot a b h =
    spot_by (nat_lt a.row b.row) (a.row == b.row) (nat_lt a.column b.column) (a.row < b.row) (a.row ≡ b.row) (a.column < b.column) (lt_of a.row b.row) (eq_of a.row b.row) (lt_of a.column b.column) h

module _ {A : Type 0} (IsBefore : A → A → Type 0) (before : A → A → Bool) where
  -- what stands behind some elements in a list that rises comes after them
  after_those : ((a b : A) → IsBefore a b → IsTrue (before a b)) → (xs : List A) (x : A) (ys : List A) → Rises IsBefore (xs ++ x ∷ ys) → IsTrue (comes_after before xs x)
  after_those test [] x ys h = refl
  after_those test (y ∷ []) x ys h = test y x h.0
  after_those test (y ∷ z ∷ xs) x ys h = after_those test (z ∷ xs) x ys h.1

  -- and a list goes on rising with what comes after it
  rises_more : ((a b : A) → IsTrue (before a b) → IsBefore a b) → (xs : List A) (x : A) → Rises IsBefore xs → IsTrue (comes_after before xs x) → Rises IsBefore (xs ++ x ∷ [])
  rises_more from [] x h k = tt
  rises_more from (y ∷ []) x h k = (from y x k, tt)
  rises_more from (y ∷ z ∷ xs) x h k = (h.0, rises_more from (z ∷ xs) x h.1 k)

  -- the last decides
  pub last_decides : (xs : List A) (x y : A) → slice_get xs (length xs - 1) ≡ Some y → comes_after before xs x ≡ before y x
  last_decides [] x y h = cc
  last_decides (z ∷ []) x y h = ap (λ (w : A). before w x) (some_is z y h)
  last_decides (z ∷ w ∷ xs) x y h =
      let e : length (z ∷ w ∷ xs) - 1 ≡ suc (length (w ∷ xs) - 1) = omega arith in
      last_decides (w ∷ xs) x y (ap (slice_get (z ∷ w ∷ xs)) (sym e) ∙ h)

  pub none_decides : (xs : List A) (x : A) → slice_get xs (length xs - 1) ≡ None → comes_after before xs x ≡ true
  none_decides [] x h = refl
  none_decides (z ∷ []) x h = cc
  none_decides (z ∷ w ∷ xs) x h =
      let e : length (z ∷ w ∷ xs) - 1 ≡ suc (length (w ∷ xs) - 1) = omega arith in
      none_decides (w ∷ xs) x (ap (slice_get (z ∷ w ∷ xs)) (sym e) ∙ h)

pub after_last_start : (starts : List Start) (s last : Start) → slice_get starts (length starts - 1) ≡ Some last → comes_after start_is_before starts s ≡ nat_lt last.module s.module
after_last_start starts s last h = last_decides StartIsBefore start_is_before starts s last h

pub after_no_start : (starts : List Start) (s : Start) → slice_get starts (length starts - 1) ≡ None → comes_after start_is_before starts s ≡ true
after_no_start starts s h = none_decides StartIsBefore start_is_before starts s h

pub after_last_spot : (spots : List Spot) (s last : Spot) → slice_get spots (length spots - 1) ≡ Some last → comes_after spot_is_before spots s ≡ spot_is_before last s
after_last_spot spots s last h = last_decides SpotIsBefore spot_is_before spots s last h

pub after_no_spot : (spots : List Spot) (s : Spot) → slice_get spots (length spots - 1) ≡ None → comes_after spot_is_before spots s ≡ true
after_no_spot spots s h = none_decides SpotIsBefore spot_is_before spots s h

-- the lines of a plan lead to its end

leads_on : (s t u : PlanState) (xs ys : List PlanLine) → Leads plan_format plan_steps s xs t → Leads plan_format plan_steps t ys u → Leads plan_format plan_steps s (xs ++ ys) u
leads_on s t u [] ys h k = subst (λ (v : PlanState). Leads plan_format plan_steps v ys u) (sym h) k
leads_on s t u (x ∷ xs) ys h k = (h.0, h.1, leads_on h.0 t u xs ys h.2 k)

taken : (test : Bool) (p : Plan) → IsTrue test → if_so test p ≡ Ok (state.Body p)
taken true p h = refl
taken false p h = cc

module _ (device : List ℕ) (k : ℕ) (clock : Option (List ℕ)) where
  -- a plan with these lists, behind whose line `k` came these lines
  abbrev body_at : List (List ℕ) → List Output → List Start → List Spot → List (List Source) → PlanState
  body_at inputs outputs starts spots modules =
      state.Body (record { device = device; k = k; placed = record { circuit = record { clock = clock; inputs = inputs; modules = modules; outputs = outputs; starts = starts }; spots = spots } })

  inputs_lead : (before names : List (List ℕ)) → Leads plan_format plan_steps (body_at before [] [] [] []) (input_lines names) (body_at (before ++ names) [] [] [] [])
  inputs_lead before [] = ap (λ (ns : List (List ℕ)). body_at ns [] [] [] []) (sym (append-nil before))
  inputs_lead before (name ∷ names) = (
    body_at (before ++ name ∷ []) [] [] [] [],
    refl,
    subst (λ (ns : List (List ℕ)). Leads plan_format plan_steps (body_at (before ++ name ∷ []) [] [] [] []) (input_lines names) (body_at ns [] [] [] [])) (append_assoc before (name ∷ []) names) (inputs_lead (before ++ name ∷ []) names),
  )

  module _ (inputs : List (List ℕ)) where
    outputs_lead : (before outputs : List Output) → Leads plan_format plan_steps (body_at inputs before [] [] []) (output_lines outputs) (body_at inputs (before ++ outputs) [] [] [])
    outputs_lead before [] = ap (λ (os : List Output). body_at inputs os [] [] []) (sym (append-nil before))
    outputs_lead before (o ∷ outputs) = (
      body_at inputs (before ++ o ∷ []) [] [] [],
      refl,
      subst (λ (os : List Output). Leads plan_format plan_steps (body_at inputs (before ++ o ∷ []) [] [] []) (output_lines outputs) (body_at inputs os [] [] [])) (append_assoc before (o ∷ []) outputs) (outputs_lead (before ++ o ∷ []) outputs),
    )

    module _ (outputs : List Output) where
      starts_lead : (before starts : List Start) → Rises StartIsBefore (before ++ starts) → Leads plan_format plan_steps (body_at inputs outputs before [] []) (start_lines starts) (body_at inputs outputs (before ++ starts) [] [])
      starts_lead before [] rise = ap (λ (ss : List Start). body_at inputs outputs ss [] []) (sym (append-nil before))
      starts_lead before (s ∷ starts) rise =
          let whole = append_assoc before (s ∷ []) starts in (
            body_at inputs outputs (before ++ s ∷ []) [] [],
            taken (comes_after start_is_before before s) _ (after_those StartIsBefore start_is_before start_test before s starts rise),
            subst (λ (ss : List Start). Leads plan_format plan_steps (body_at inputs outputs (before ++ s ∷ []) [] []) (start_lines starts) (body_at inputs outputs ss [] [])) whole (starts_lead (before ++ s ∷ []) starts (subst (Rises StartIsBefore) (sym whole) rise)),
          )

      module _ (starts : List Start) where
        modules_lead : (front : List Spot) (before : List (List Source)) (spots : List Spot) (modules : List (List Source)) → Rises SpotIsBefore (front ++ spots) → length spots ≡ length modules
            → Leads plan_format plan_steps (body_at inputs outputs starts front before) (module_lines spots modules) (body_at inputs outputs starts (front ++ spots) (before ++ modules))
        modules_lead front before [] [] rise e = λ i. body_at inputs outputs starts (sym (append-nil front) i) (sym (append-nil before) i)
        modules_lead front before [] (pins ∷ modules) rise e = absurd (omega (arith, e))
        modules_lead front before (spot ∷ spots) [] rise e = absurd (omega (arith, e))
        modules_lead front before (spot ∷ spots) (pins ∷ modules) rise e =
            let whole = append_assoc front (spot ∷ []) spots in
            let all = append_assoc before (pins ∷ []) modules in (
              body_at inputs outputs starts (front ++ spot ∷ []) (before ++ pins ∷ []),
              taken (comes_after spot_is_before front spot) _ (after_those SpotIsBefore spot_is_before spot_test front spot spots rise),
              subst (λ (ms : List (List Source)). Leads plan_format plan_steps (body_at inputs outputs starts (front ++ spot ∷ []) (before ++ pins ∷ [])) (module_lines spots modules) (body_at inputs outputs starts (front ++ spot ∷ spots) ms)) all
                  (subst (λ (ss : List Spot). Leads plan_format plan_steps (body_at inputs outputs starts (front ++ spot ∷ []) (before ++ pins ∷ [])) (module_lines spots modules) (body_at inputs outputs starts ss ((before ++ pins ∷ []) ++ modules))) whole
                  (modules_lead (front ++ spot ∷ []) (before ++ pins ∷ []) spots modules (subst (Rises SpotIsBefore) (sym whole) rise) (omega (arith, e)))),
            )

clock_leads : (device : List ℕ) (k : ℕ) (clock : Option (List ℕ)) → Leads plan_format plan_steps (body_at device k None [] [] [] [] []) (clock_lines clock) (body_at device k clock [] [] [] [] [])
clock_leads device k None = refl
clock_leads device k (Some name) = (body_at device k (Some name) [] [] [] [] [], refl, refl)

pub plan_leads : (p : Plan) → Rises StartIsBefore p.placed.circuit.starts → Rises SpotIsBefore p.placed.spots → length p.placed.spots ≡ length p.placed.circuit.modules
    → Leads plan_format plan_steps state.Start (plan_lines p) (state.Body p)
plan_leads p starts spots e =
    let c = p.placed.circuit in
    let at = body_at p.device p.k c.clock in
    let none = body_at p.device p.k None [] [] [] [] [] in
    let clock = clock_leads p.device p.k c.clock in
    let ins = inputs_lead p.device p.k c.clock [] c.inputs in
    let outs = outputs_lead p.device p.k c.clock c.inputs [] c.outputs in
    let held = starts_lead p.device p.k c.clock c.inputs c.outputs [] c.starts starts in
    let placed = modules_lead p.device p.k c.clock c.inputs c.outputs c.starts [] [] p.placed.spots c.modules spots e in (
      state.Device p.device,
      refl,
      (
        none,
        refl,
        leads_on none (at c.inputs c.outputs c.starts [] []) (state.Body p) (((clock_lines c.clock ++ input_lines c.inputs) ++ output_lines c.outputs) ++ start_lines c.starts) (module_lines p.placed.spots c.modules)
            (leads_on none (at c.inputs c.outputs [] [] []) (at c.inputs c.outputs c.starts [] []) ((clock_lines c.clock ++ input_lines c.inputs) ++ output_lines c.outputs) (start_lines c.starts)
            (leads_on none (at c.inputs [] [] [] []) (at c.inputs c.outputs [] [] []) (clock_lines c.clock ++ input_lines c.inputs) (output_lines c.outputs)
            (leads_on none (at [] [] [] [] []) (at c.inputs [] [] [] []) (clock_lines c.clock) (input_lines c.inputs) clock ins)
            outs)
            held)
            placed,
      ),
    )

-- lines that lead to a state are those that it says

-- what the lines keep of a plan
pub record IsGoodPlan (p : Plan) : Type 0 where
  pub starts_rise : Rises StartIsBefore p.placed.circuit.starts
  pub spots_rise : Rises SpotIsBefore p.placed.spots
  pub one_each : length p.placed.spots ≡ length p.placed.circuit.modules

abbrev pub IsGood : PlanState → Type 0
IsGood state.Start = Unit {0}
IsGood (state.Device name) = Unit {0}
IsGood (state.Body p) = IsGoodPlan p

abbrev pub said : PlanState → List PlanLine
said state.Start = []
said (state.Device name) = line.Device name ∷ []
said (state.Body p) = plan_lines p

-- what is said of the state after a line
abbrev pub IsNext : List PlanLine → PlanLine → PlanState → Type 0
IsNext before l t = IsGood t × (said t ≡ before ++ l ∷ [])

ok_is : (s t : PlanState) → let r : Result PlanState Fault = Ok s in r ≡ Ok t → s ≡ t
ok_is s t h = cc

passed : (test : Bool) (p : Plan) (t : PlanState) → if_so test p ≡ Ok t → IsTrue test × (state.Body p ≡ t)
passed true p t h = (refl, ok_is (state.Body p) t h)
passed false p t h = cc

one_more : {A : Type 0} (xs : List A) (x : A) → length (xs ++ x ∷ []) ≡ length xs + 1
one_more xs x = let long = length-append xs (x ∷ []) in omega arith

-- kinds of lines of which there are none

modules_none : (spots : List Spot) (modules : List (List Source)) → IsTrue (is_empty modules) → module_lines spots modules ≡ []
modules_none [] modules h = refl
modules_none (spot ∷ spots) [] h = refl
modules_none (spot ∷ spots) (pins ∷ modules) h = cc

starts_none : (starts : List Start) → IsTrue (is_empty starts) → start_lines starts ≡ []
starts_none [] h = refl
starts_none (s ∷ starts) h = cc

outputs_none : (outputs : List Output) → IsTrue (is_empty outputs) → output_lines outputs ≡ []
outputs_none [] h = refl
outputs_none (o ∷ outputs) h = cc

inputs_none : (inputs : List (List ℕ)) → IsTrue (is_empty inputs) → input_lines inputs ≡ []
inputs_none [] h = refl
inputs_none (name ∷ inputs) h = cc

clock_none : (clock : Option (List ℕ)) → IsTrue (has_none clock) → clock_lines clock ≡ []
clock_none None h = refl
clock_none (Some name) h = cc

-- what stands before nothing
before_none : (xs ys : List PlanLine) → ys ≡ [] → xs ++ ys ≡ xs
before_none xs ys e = ap (λ (zs : List PlanLine). xs ++ zs) e ∙ append-nil xs

-- one line more of a kind, before kinds of which there are none
kind_more : (front xs more tail : List PlanLine) (l : PlanLine) → more ≡ xs ++ l ∷ [] → tail ≡ [] → (front ++ more) ++ tail ≡ ((front ++ xs) ++ tail) ++ l ∷ []
kind_more front xs more tail l e none =
    before_none (front ++ more) tail none
    ∙ ap (λ (ls : List PlanLine). front ++ ls) e
    ∙ sym (append_assoc front xs (l ∷ []))
    ∙ ap (λ (ls : List PlanLine). ls ++ l ∷ []) (sym (before_none (front ++ xs) tail none))

-- the same before one kind more
behind_more : (front more tail : List PlanLine) (l : PlanLine) → more ≡ front ++ l ∷ [] → tail ≡ [] → more ++ tail ≡ (front ++ tail) ++ l ∷ []
behind_more front more tail l e none = kind_more [] front more tail l e none

module _ (p : Plan) (good : IsGoodPlan p) where
  abbrev head : List PlanLine → List PlanLine
  head lines = line.Device p.device ∷ line.K p.k ∷ lines

  abbrev clocks : List PlanLine
  clocks = clock_lines p.placed.circuit.clock

  abbrev ins : List PlanLine
  ins = input_lines p.placed.circuit.inputs

  abbrev outs : List PlanLine
  outs = output_lines p.placed.circuit.outputs

  abbrev helds : List PlanLine
  helds = start_lines p.placed.circuit.starts

  abbrev ats : List PlanLine
  ats = module_lines p.placed.spots p.placed.circuit.modules

  start_kept : (s : Start) → IsTrue (takes_start p.placed.circuit s) → IsNext (plan_lines p) (line.Start s) (state.Body (with_start p s))
  start_kept s h =
      let c = p.placed.circuit in
      let t = both (is_empty c.modules) (comes_after start_is_before c.starts s) h in (
        record { starts_rise = rises_more StartIsBefore start_is_before test_start c.starts s good.starts_rise t.1; spots_rise = good.spots_rise; one_each = good.one_each },
        ap head (kind_more ((clocks ++ ins) ++ outs) helds (start_lines (c.starts ++ s ∷ [])) ats (line.Start s) (map-append (λ (x : Start). line.Start x) c.starts (s ∷ [])) (modules_none p.placed.spots c.modules t.0)),
      )

  output_kept : (o : Output) → IsTrue (takes_output p.placed.circuit) → IsNext (plan_lines p) (line.Output o) (state.Body (with_output p o))
  output_kept o h =
      let c = p.placed.circuit in
      let t = both (is_empty c.modules) (is_empty c.starts) h in
      let some = kind_more (clocks ++ ins) outs (output_lines (c.outputs ++ o ∷ [])) helds (line.Output o) (map-append (λ (x : Output). line.Output x) c.outputs (o ∷ [])) (starts_none c.starts t.1) in (
        record { starts_rise = good.starts_rise; spots_rise = good.spots_rise; one_each = good.one_each },
        ap head (behind_more (((clocks ++ ins) ++ outs) ++ helds) (((clocks ++ ins) ++ output_lines (c.outputs ++ o ∷ [])) ++ helds) ats (line.Output o) some (modules_none p.placed.spots c.modules t.0)),
      )

  input_kept : (name : List ℕ) → IsTrue (takes_input p.placed.circuit) → IsNext (plan_lines p) (line.Input name) (state.Body (with_input p name))
  input_kept name h =
      let c = p.placed.circuit in
      let u = both (takes_output c) (is_empty c.outputs) h in
      let t = both (is_empty c.modules) (is_empty c.starts) u.0 in
      let some = kind_more clocks ins (input_lines (c.inputs ++ name ∷ [])) outs (line.Input name) (map-append (λ (x : List ℕ). line.Input x) c.inputs (name ∷ [])) (outputs_none c.outputs u.1) in
      let more = behind_more ((clocks ++ ins) ++ outs) ((clocks ++ input_lines (c.inputs ++ name ∷ [])) ++ outs) helds (line.Input name) some (starts_none c.starts t.1) in (
        record { starts_rise = good.starts_rise; spots_rise = good.spots_rise; one_each = good.one_each },
        ap head (behind_more (((clocks ++ ins) ++ outs) ++ helds) (((clocks ++ input_lines (c.inputs ++ name ∷ [])) ++ outs) ++ helds) ats (line.Input name) more (modules_none p.placed.spots c.modules t.0)),
      )

  clock_kept : (name : List ℕ) → IsTrue (takes_clock p.placed.circuit) → IsNext (plan_lines p) (line.Clock name) (state.Body (with_clock p name))
  clock_kept name h =
      let c = p.placed.circuit in
      let v = both (takes_input c) (is_empty c.inputs && has_none c.clock) h in
      let w = both (is_empty c.inputs) (has_none c.clock) v.1 in
      let u = both (takes_output c) (is_empty c.outputs) v.0 in
      let t = both (is_empty c.modules) (is_empty c.starts) u.0 in
      let l = line.Clock name in
      let one = behind_more clocks (l ∷ []) ins l (ap (λ (ls : List PlanLine). ls ++ l ∷ []) (sym (clock_none c.clock w.1))) (inputs_none c.inputs w.0) in
      let some = behind_more (clocks ++ ins) ((l ∷ []) ++ ins) outs l one (outputs_none c.outputs u.1) in
      let more = behind_more ((clocks ++ ins) ++ outs) (((l ∷ []) ++ ins) ++ outs) helds l some (starts_none c.starts t.1) in (
        record { starts_rise = good.starts_rise; spots_rise = good.spots_rise; one_each = good.one_each },
        ap head (behind_more (((clocks ++ ins) ++ outs) ++ helds) ((((l ∷ []) ++ ins) ++ outs) ++ helds) ats l more (modules_none p.placed.spots c.modules t.0)),
      )

  lines_more : (spots : List Spot) (modules : List (List Source)) (spot : Spot) (pins : List Source) → length spots ≡ length modules
      → module_lines (spots ++ spot ∷ []) (modules ++ pins ∷ []) ≡ module_lines spots modules ++ line.Module spot pins ∷ []
  lines_more [] [] spot pins e = refl
  lines_more [] (m ∷ modules) spot pins e = absurd (omega (arith, e))
  lines_more (s ∷ spots) [] spot pins e = absurd (omega (arith, e))
  lines_more (s ∷ spots) (m ∷ modules) spot pins e = ap (λ (ls : List PlanLine). line.Module s m ∷ ls) (lines_more spots modules spot pins (omega (arith, e)))

  module_kept : (spot : Spot) (pins : List Source) → IsTrue (comes_after spot_is_before p.placed.spots spot) → IsNext (plan_lines p) (line.Module spot pins) (state.Body (with_module p spot pins))
  module_kept spot pins h =
      let c = p.placed.circuit in
      let long = one_more p.placed.spots spot in
      let many = one_more c.modules pins in
      let same = good.one_each in
      let front = ((clocks ++ ins) ++ outs) ++ helds in (
        record { starts_rise = good.starts_rise; spots_rise = rises_more SpotIsBefore spot_is_before test_spot p.placed.spots spot good.spots_rise h; one_each = omega (arith, long, many, same) },
        ap head (ap (λ (ls : List PlanLine). front ++ ls) (lines_more p.placed.spots c.modules spot pins good.one_each) ∙ sym (append_assoc front ats (line.Module spot pins ∷ []))),
      )

  line_kept : (l : PlanLine) → IsTrue (takes p l) → IsNext (plan_lines p) l (state.Body (with_line p l))
  line_kept (line.Device name) h = cc
  line_kept (line.K k) h = cc
  line_kept (line.Clock name) h = clock_kept name h
  line_kept (line.Input name) h = input_kept name h
  line_kept (line.Output o) h = output_kept o h
  line_kept (line.Start s) h = start_kept s h
  line_kept (line.Module spot pins) h = module_kept spot pins h

pub kept : (s t : PlanState) (l : PlanLine) → IsGood s → step s l ≡ Ok t → IsNext (said s) l t
kept state.Start t (line.Device name) good h = subst (IsNext [] (line.Device name)) (ok_is (state.Device name) t h) (tt, refl)
kept (state.Device name) t (line.K k) good h =
    subst (IsNext (said (state.Device name)) (line.K k)) (ok_is (state.Body (empty_plan name k)) t h) (record { starts_rise = tt; spots_rise = tt; one_each = refl }, refl)
kept (state.Body p) t l good h = let r = passed (takes p l) (with_line p l) t h in subst (IsNext (plan_lines p) l) r.1 (line_kept p good l r.0)
kept s t l good h = cc

leads_said : (lines : List PlanLine) (s t : PlanState) → IsGood s → Leads plan_format plan_steps s lines t → IsGood t × (said t ≡ said s ++ lines)
leads_said [] s t good h = (subst IsGood h good, sym (ap said h) ∙ sym (append-nil (said s)))
leads_said (l ∷ lines) s t good h =
    let one = kept s h.0 l good h.1 in
    let rest = leads_said lines h.0 t one.0 h.2 in
    (rest.0, rest.1 ∙ ap (λ (ls : List PlanLine). ls ++ lines) one.1 ∙ append_assoc (said s) (l ∷ []) lines)

-- what a state is in which a text may end
record IsWhole (last ended : PlanState) : Type 0 where
  plan : Plan
  last_is : last ≡ state.Body plan
  ended_is : ended ≡ state.Body plan
  good : IsGoodPlan plan

whole_by : (last ended : PlanState) → IsGood last → end last ≡ Ok ended → IsWhole last ended
whole_by (state.Body p) ended good h = record { plan = p; last_is = refl; ended_is = sym (ok_is (state.Body p) ended h); good = good }
whole_by state.Start ended good h = cc
whole_by (state.Device name) ended good h = cc

-- lines that lead to an end are those of a plan
pub lines_are_plan : (lines : List PlanLine) (last ended : PlanState) → Leads plan_format plan_steps state.Start lines last → end last ≡ Ok ended → (p : Plan) × (ended ≡ state.Body p) × IsGoodPlan p × (lines ≡ plan_lines p)
lines_are_plan lines last ended leads ends =
    let r = leads_said lines state.Start last tt leads in
    let whole = whole_by last ended r.0 ends in
    (whole.plan, whole.ended_is, whole.good, sym r.1 ∙ ap said whole.last_is)

-- lines that are taken can be completed

and_then_end : (s next : PlanState) (l : PlanLine) → IsFine plan_format l → step s l ≡ Ok next → CanEnd plan_format plan_steps next → CanEnd plan_format plan_steps s
and_then_end s next l fine h c = record {
  more = l ∷ c.more;
  last = c.last;
  end = c.end;
  fine = (fine, c.fine);
  leads = (next, h, c.leads);
  ends = c.ends;
}

at_end : (p : Plan) → CanEnd plan_format plan_steps (state.Body p)
at_end p = record { more = []; last = state.Body p; end = state.Body p; fine = tt; leads = refl; ends = refl }

behind_device : (name : List ℕ) → CanEnd plan_format plan_steps (state.Device name)
behind_device name = and_then_end (state.Device name) (state.Body (empty_plan name 0)) (line.K 0) (tt, ((omega arith, tt), tt)) refl (at_end (empty_plan name 0))

-- a name
abbrev some_name : List ℕ
some_name = 97 ∷ []

pub can_end : (s : PlanState) → CanEnd plan_format plan_steps s
can_end state.Start = and_then_end state.Start (state.Device some_name) (line.Device some_name) (tt, (refl, tt)) refl (behind_device some_name)
can_end (state.Device name) = behind_device name
can_end (state.Body p) = at_end p
