-- The text of a plan is that of its lines, and it is written piece by piece.
use Rattle.std.proofs.Common.{ℕ, zero, suc, ◌≡◌, ◌+◌, ◌<◌, List, [], ◌∷◌, ◌++◌, length, map, get_or, drop, drop-cons, add-one, length-drop, ◌-◌, ◌≤◌, Option, Some, None, codes, refl, sym, ap, ◌∙◌, append_assoc, append-nil, arith}
use Rattle.std.specs.Prelude.{min}
use Rattle.std.specs.List.{AllByRecursion, flat_map}
use Rattle.std.proofs.lemmas.List.{map-append}
use Rattle.std.proofs.lemmas.List.Concat.{flat_map-append}
use Rattle.std.specs.Fmt.{decimal}
use Rattle.act1_base.specs.Words.{text_line, text_of_lines}
use Rattle.act1_base.proofs.TextGrows.{line_is}
use Rattle.act1_circuit.specs.SourceWords.{source_word}
use Rattle.act1_circuit.specs.declared.circuit.Circuit.{Circuit}
use Rattle.act1_circuit.specs.declared.circuit.Output.{Output}
use Rattle.act1_circuit.specs.declared.circuit.Source.{Source}
use Rattle.act1_circuit.specs.declared.circuit.Source.TheVariants as source
use Rattle.act1_circuit.specs.declared.circuit.Spot.{Spot}
use Rattle.act1_circuit.specs.declared.circuit.Start.{Start}
use Rattle.act1_table.specs.Formats.{own_words, text_of}
use Rattle.act1_table.specs.Forms.{spell, spell_fields}
use Rattle.act1_table.specs.Table.{nothing}
use Rattle.act1_plan.specs.Lines.{source_field, source_given, plan_format, clock_lines, input_lines, output_lines, start_lines, module_lines, plan_lines}
use Rattle.act1_plan.specs.Plans.{ArePins, IsPlan}
use Rattle.act1_plan.specs.Texts.{device_words, k_words, clock_words, input_words, output_words, start_words, module_words, modules_words, ports_words, spot_text, plan_words, plan_text}
use Rattle.act1_plan.specs.declared.plan.Plan.{Plan}
use Rattle.act1_plan.specs.declared.line.PlanLine.{PlanLine}
use Rattle.act1_plan.specs.declared.line.PlanLine.TheVariants as line
use Rattle.act1_plan.proofs.PlanLines.{sources}

abbrev own : PlanLine → List (List ℕ)
own l = own_words plan_format l

-- the words of each kind of line

source_spelled : (s : Source) → spell source_field (source_given s) ≡ source_word s
source_spelled source.Zero = refl
source_spelled source.One = refl
source_spelled source.Clock = refl
source_spelled (source.Input i) = ap (λ (bytes : List ℕ). codes "i" ++ bytes) (append-nil (decimal i))
source_spelled (source.Module m) = ap (λ (bytes : List ℕ). codes "m" ++ bytes) (append-nil (decimal m))

pins_spelled : (n : ℕ) (pins : List Source) → length pins ≡ n → spell_fields (sources n) nothing (map source_given pins) ≡ map source_word pins
pins_spelled zero [] e = refl
pins_spelled zero (p ∷ pins) e = absurd (omega (arith, e))
pins_spelled (suc n) [] e = absurd (omega (arith, e))
pins_spelled (suc n) (p ∷ pins) e = λ i. source_spelled p i ∷ pins_spelled n pins (omega (arith, e)) i

k_spelled : (k : ℕ) → own (line.K k) ≡ k_words k
k_spelled k = ap (λ (bytes : List ℕ). codes "k" ∷ bytes ∷ []) (append-nil (decimal k))

clock_spelled : (clock : Option (List ℕ)) → map own (clock_lines clock) ≡ clock_words clock
clock_spelled None = refl
clock_spelled (Some name) = refl

inputs_spelled : (names : List (List ℕ)) → map own (input_lines names) ≡ map input_words names
inputs_spelled [] = refl
inputs_spelled (name ∷ names) = ap (λ (ws : List (List (List ℕ))). input_words name ∷ ws) (inputs_spelled names)

outputs_spelled : (outputs : List Output) → map own (output_lines outputs) ≡ map output_words outputs
outputs_spelled [] = refl
outputs_spelled (o ∷ outputs) = λ i. (codes "out" ∷ source_spelled o.source i ∷ o.name ∷ []) ∷ outputs_spelled outputs i

starts_spelled : (starts : List Start) → map own (start_lines starts) ≡ map start_words starts
starts_spelled [] = refl
starts_spelled (s ∷ starts) = λ i. (codes "start" ∷ append-nil (decimal s.module) i ∷ append-nil (decimal s.init) i ∷ s.name ∷ []) ∷ starts_spelled starts i

modules_spelled : (spots : List Spot) (modules : List (List Source)) → AllByRecursion ArePins modules → map own (module_lines spots modules) ≡ modules_words spots modules
modules_spelled [] modules all = refl
modules_spelled (s ∷ spots) [] all = refl
modules_spelled (s ∷ spots) (pins ∷ modules) all =
    λ i. (codes "module" ∷ append-nil (decimal s.row) i ∷ append-nil (decimal s.column) i ∷ pins_spelled 8 pins all.0.0 i) ∷ modules_spelled spots modules all.1 i

ports_spelled : (c : Circuit) → map own (((clock_lines c.clock ++ input_lines c.inputs) ++ output_lines c.outputs) ++ start_lines c.starts) ≡ ports_words c
ports_spelled c =
    let clocks = clock_lines c.clock in
    let ins = input_lines c.inputs in
    let outs = output_lines c.outputs in
    map-append own ((clocks ++ ins) ++ outs) (start_lines c.starts)
    ∙ ap (λ (ws : List (List (List ℕ))). ws ++ map own (start_lines c.starts)) (map-append own (clocks ++ ins) outs ∙ ap (λ (ws : List (List (List ℕ))). ws ++ map own outs) (map-append own clocks ins))
    ∙ (λ i. ((clock_spelled c.clock i ++ inputs_spelled c.inputs i) ++ outputs_spelled c.outputs i) ++ starts_spelled c.starts i)

plan_spelled : (p : Plan) → IsPlan p → map own (plan_lines p) ≡ plan_words p
plan_spelled p is =
    let c = p.placed.circuit in
    let ports = ((clock_lines c.clock ++ input_lines c.inputs) ++ output_lines c.outputs) ++ start_lines c.starts in
    ap (λ (ws : List (List (List ℕ))). device_words p.device ∷ own (line.K p.k) ∷ ws) (map-append own ports (module_lines p.placed.spots c.modules))
    ∙ (λ i. device_words p.device ∷ k_spelled p.k i ∷ (ports_spelled c i ++ modules_spelled p.placed.spots c.modules is.modules i))

-- the text of a plan that a text can say is that of its lines
pub text_of_plan : (p : Plan) → IsPlan p → plan_text p ≡ text_of plan_format (plan_lines p)
unfolding plan_text
text_of_plan p is = ap text_of_lines (sym (plan_spelled p is))

-- the pieces that are written make the text

pub module_line : (before : List ℕ) (spot : Spot) (pins : List Source) → ((before ++ spot_text spot) ++ flat_map (λ w. 32 ∷ w) (map source_word pins)) ++ 10 ∷ [] ≡ before ++ text_line (module_words spot pins)
module_line before spot pins =
    let name = codes "module" in
    let row = 32 ∷ decimal spot.row in
    let column = 32 ∷ decimal spot.column in
    let rest = flat_map (λ w. 32 ∷ w) (map source_word pins) in
    ap (λ (bytes : List ℕ). bytes ++ 10 ∷ []) (
    append_assoc before (name ++ (row ++ column)) rest
    ∙ ap (λ (bytes : List ℕ). before ++ bytes) (append_assoc name (row ++ column) rest ∙ ap (λ (bytes : List ℕ). name ++ bytes) (append_assoc row column rest))
    ∙ sym (append_assoc before name (row ++ (column ++ rest))))
    ∙ line_is before name (decimal spot.row ∷ decimal spot.column ∷ map source_word pins)

-- the line of the module at a place, and those behind it
modules_at : (spots : List Spot) (modules : List (List Source)) (n : ℕ) (s : Spot) (pins : List Source) → n < length spots → n < length modules → s ≡ get_or spots n s → pins ≡ get_or modules n pins
    → modules_words (drop n spots) (drop n modules) ≡ module_words s pins ∷ modules_words (drop (n + 1) spots) (drop (n + 1) modules)
modules_at spots modules n s pins low low' s_is pins_is =
    (λ i. modules_words (drop-cons spots n s low i) (drop-cons modules n pins low' i))
    ∙ (λ i. module_words (sym s_is i) (sym pins_is i) ∷ modules_words (drop (sym (add-one n) i) spots) (drop (sym (add-one n) i) modules))

pub modules_more : (before text new : List ℕ) (spots : List Spot) (modules : List (List Source)) (n : ℕ) (s : Spot) (pins : List Source) → n < length spots → n < length modules → s ≡ get_or spots n s → pins ≡ get_or modules n pins
    → text ++ text_of_lines (modules_words (drop n spots) (drop n modules)) ≡ before → new ≡ text ++ text_line (module_words s pins) → new ++ text_of_lines (modules_words (drop (n + 1) spots) (drop (n + 1) modules)) ≡ before
modules_more before text new spots modules n s pins low low' s_is pins_is h e =
    let rest = text_of_lines (modules_words (drop (n + 1) spots) (drop (n + 1) modules)) in
    ap (λ (bytes : List ℕ). bytes ++ rest) e
    ∙ append_assoc text (text_line (module_words s pins)) rest
    ∙ ap (λ (bytes : List ℕ). text ++ bytes) (sym (ap text_of_lines (modules_at spots modules n s pins low low' s_is pins_is)))
    ∙ h

-- no module is left
modules_left : (spots : List Spot) (modules : List (List Source)) (n : ℕ) → min (length spots) (length modules) ≤ n → modules_words (drop n spots) (drop n modules) ≡ []
modules_left spots modules n h = by (drop n spots) (drop n modules) (length-drop n spots) (length-drop n modules)
  where
    by : (xs : List Spot) (ys : List (List Source)) → length xs ≡ length spots - n → length ys ≡ length modules - n → modules_words xs ys ≡ []
    by [] ys e f = refl
    by (x ∷ xs) [] e f = refl
    by (x ∷ xs) (y ∷ ys) e f = absurd (omega (arith, e, f, h))

pub modules_done : (before text : List ℕ) (spots : List Spot) (modules : List (List Source)) (n : ℕ) → min (length spots) (length modules) ≤ n
    → text ++ text_of_lines (modules_words (drop n spots) (drop n modules)) ≡ before → text ≡ before
modules_done before text spots modules n done h = sym (append-nil text) ∙ ap (λ (ls : List (List (List ℕ))). text ++ text_of_lines ls) (sym (modules_left spots modules n done)) ∙ h

texts : (a b : List (List (List ℕ))) → text_of_lines (a ++ b) ≡ text_of_lines a ++ text_of_lines b
texts a b = flat_map-append text_line a b

pub ports_written : (c : Circuit) (before clocks ins outs whole : List ℕ) (inputs : List (List ℕ)) (outputs : List Output) (starts : List Start)
    → clocks ≡ before ++ text_of_lines (clock_words c.clock) → inputs ≡ c.inputs → ins ≡ clocks ++ text_of_lines (map input_words inputs)
    → outputs ≡ c.outputs → outs ≡ ins ++ text_of_lines (map output_words outputs) → starts ≡ c.starts → whole ≡ outs ++ text_of_lines (map start_words starts)
    → whole ≡ before ++ text_of_lines (ports_words c)
ports_written c before clocks ins outs whole inputs outputs starts k i_is i o_is o s_is s =
    let first = clock_words c.clock in
    let second = map input_words c.inputs in
    let third = map output_words c.outputs in
    let fourth = map start_words c.starts in
    s ∙ (λ j. outs ++ text_of_lines (map start_words (s_is j)))
    ∙ ap (λ (bytes : List ℕ). bytes ++ text_of_lines fourth) (o ∙ (λ j. ins ++ text_of_lines (map output_words (o_is j)))
    ∙ ap (λ (bytes : List ℕ). bytes ++ text_of_lines third) (i ∙ (λ j. clocks ++ text_of_lines (map input_words (i_is j)))
    ∙ ap (λ (bytes : List ℕ). bytes ++ text_of_lines second) k))
    ∙ append_assoc ((before ++ text_of_lines first) ++ text_of_lines second) (text_of_lines third) (text_of_lines fourth)
    ∙ append_assoc (before ++ text_of_lines first) (text_of_lines second) (text_of_lines third ++ text_of_lines fourth)
    ∙ append_assoc before (text_of_lines first) (text_of_lines second ++ (text_of_lines third ++ text_of_lines fourth))
    ∙ ap (λ (bytes : List ℕ). before ++ bytes) (
    sym (texts ((first ++ second) ++ third) fourth ∙ ap (λ (bytes : List ℕ). bytes ++ text_of_lines fourth) (
    texts (first ++ second) third ∙ ap (λ (bytes : List ℕ). bytes ++ text_of_lines third) (texts first second))
    ∙ append_assoc (text_of_lines first ++ text_of_lines second) (text_of_lines third) (text_of_lines fourth)
    ∙ append_assoc (text_of_lines first) (text_of_lines second) (text_of_lines third ++ text_of_lines fourth)))

pub plan_written : (p : Plan) (start device k ports whole : List ℕ) (name : List ℕ) (spots : List Spot) (modules : List (List Source)) → start ≡ []
    → name ≡ p.device → device ≡ start ++ text_line (device_words name) → k ≡ device ++ text_line (k_words p.k) → ports ≡ k ++ text_of_lines (ports_words p.placed.circuit)
    → spots ≡ p.placed.spots → modules ≡ p.placed.circuit.modules → whole ≡ ports ++ text_of_lines (modules_words spots modules) → whole ≡ plan_text p
unfolding plan_text
plan_written p start device k ports whole name spots modules none n d kk q s_is m_is w =
    let c = p.placed.circuit in
    w ∙ (λ j. ports ++ text_of_lines (modules_words (s_is j) (m_is j)))
    ∙ ap (λ (bytes : List ℕ). bytes ++ text_of_lines (modules_words p.placed.spots c.modules)) (q ∙ ap (λ (bytes : List ℕ). bytes ++ text_of_lines (ports_words c)) (kk
    ∙ ap (λ (bytes : List ℕ). bytes ++ text_line (k_words p.k)) (d ∙ (λ j. none j ++ text_line (device_words (n j))))))
    ∙ append_assoc (text_line (device_words p.device) ++ text_line (k_words p.k)) (text_of_lines (ports_words c)) (text_of_lines (modules_words p.placed.spots c.modules))
    ∙ append_assoc (text_line (device_words p.device)) (text_line (k_words p.k)) (text_of_lines (ports_words c) ++ text_of_lines (modules_words p.placed.spots c.modules))
    ∙ ap (λ (bytes : List ℕ). text_line (device_words p.device) ++ (text_line (k_words p.k) ++ bytes)) (sym (texts (ports_words c) (modules_words p.placed.spots c.modules)))
