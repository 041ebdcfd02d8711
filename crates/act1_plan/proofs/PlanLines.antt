-- A line of a plan and the line of the table that says it belong to each other alone.
use Rattle.std.proofs.Common.{ℕ, suc, zero, ◌≡◌, length, List, [], ◌∷◌, map, Some, refl, sym, ap, subst, ◌∙◌, arith}
use Rattle.std.specs.Prelude.{slice_get}
use Rattle.std.specs.List.{AllByRecursion}
use Rattle.act1_base.specs.Capped.{at_most}
use Rattle.act1_base.proofs.NumberWords.{low_at_most}
use Rattle.act1_circuit.specs.declared.circuit.Source.{Source}
use Rattle.act1_circuit.specs.declared.circuit.Source.TheVariants as source
use Rattle.act1_table.specs.Formats.{IsLineFormat, IsFine}
use Rattle.act1_table.specs.Forms.{FitForms, FitFields, Fits}
use Rattle.act1_table.specs.Table.{Field, nothing}
use Rattle.act1_table.specs.Values.{fixed, number, number_at, given_or, way_said, numbers_said, name_at}
use Rattle.act1_table.specs.declared.forms.Given.{Given}
use Rattle.act1_table.specs.declared.forms.Given.TheVariants as given
use Rattle.act1_table.specs.declared.forms.LineGiven.{LineGiven}
use Rattle.act1_table.proofs.NumberLaws.{some_is}
use Rattle.act1_table.proofs.PlainLaws.{words_plain, field_fits}
use Rattle.act1_plan.specs.Lines.{source_field, device_form, k_form, clock_form, input_form, output_form, start_form, module_form, plan_table, source_given, given_of, source_said, line_of, plan_format}
use Rattle.act1_plan.specs.Plans.{IsSource}
use Rattle.act1_plan.specs.declared.line.PlanLine.{PlanLine}
use Rattle.act1_plan.specs.declared.line.PlanLine.TheVariants as line

-- a source and the word that says it

source_plain : (g : Given) → Fits source_field g → given.Way (way_said g) (numbers_said g) ≡ source_given (source_said g)
source_plain (given.Name name) h = absurd h
source_plain (given.Way zero []) h = refl
source_plain (given.Way zero (n ∷ ns)) h = absurd h
source_plain (given.Way (suc zero) []) h = refl
source_plain (given.Way (suc zero) (n ∷ ns)) h = absurd h
source_plain (given.Way (suc (suc zero)) []) h = refl
source_plain (given.Way (suc (suc zero)) (n ∷ ns)) h = absurd h
source_plain (given.Way (suc (suc (suc zero))) []) h = absurd h
source_plain (given.Way (suc (suc (suc zero))) (n ∷ [])) h = ap (λ (m : ℕ). given.Way 3 (m ∷ [])) (sym (low_at_most 65535 n h.0))
source_plain (given.Way (suc (suc (suc zero))) (n ∷ m ∷ ns)) h = absurd h.1
source_plain (given.Way (suc (suc (suc (suc zero)))) []) h = absurd h
source_plain (given.Way (suc (suc (suc (suc zero)))) (n ∷ [])) h = ap (λ (m : ℕ). given.Way 4 (m ∷ [])) (sym (low_at_most 65535 n h.0))
source_plain (given.Way (suc (suc (suc (suc zero)))) (n ∷ m ∷ ns)) h = absurd h.1
source_plain (given.Way (suc (suc (suc (suc (suc k))))) ns) h = absurd h

source_back : (s : Source) → Fits source_field (source_given s) → source_said (source_given s) ≡ s
source_back source.Zero h = refl
source_back source.One h = refl
source_back source.Clock h = refl
source_back (source.Input i) h = ap (λ (n : ℕ). source.Input n) (low_at_most 65535 i h.0)
source_back (source.Module m) h = ap (λ (n : ℕ). source.Module n) (low_at_most 65535 m h.0)

pub source_fits : (s : Source) → IsSource s → Fits source_field (source_given s)
source_fits source.Zero h = tt
source_fits source.One h = tt
source_fits source.Clock h = tt
source_fits (source.Input i) h = (h, tt)
source_fits (source.Module m) h = (h, tt)

pub source_is : (s : Source) → Fits source_field (source_given s) → IsSource s
source_is source.Zero h = tt
source_is source.One h = tt
source_is source.Clock h = tt
source_is (source.Input i) h = h.0
source_is (source.Module m) h = h.0

no_more : (s : Source) → Fits nothing (source_given s) → ⊥
no_more source.Zero h = h
no_more source.One h = h
no_more source.Clock h = h
no_more (source.Input i) h = h
no_more (source.Module m) h = h

-- so many fields of sources
abbrev pub sources : ℕ → List Field
sources zero = []
sources (suc n) = source_field ∷ sources n

pub pins_fit : (n : ℕ) (pins : List Source) → length pins ≡ n → AllByRecursion IsSource pins → FitFields (sources n) nothing (map source_given pins)
pins_fit zero [] e all = tt
pins_fit zero (p ∷ pins) e all = absurd (omega (arith, e))
pins_fit (suc n) [] e all = absurd (omega (arith, e))
pins_fit (suc n) (p ∷ pins) e all = (source_fits p all.0, pins_fit n pins (omega (arith, e)) all.1)

pub pins_are : (n : ℕ) (pins : List Source) → FitFields (sources n) nothing (map source_given pins) → (length pins ≡ n) × AllByRecursion IsSource pins
pins_are zero [] h = (refl, tt)
pins_are zero (p ∷ pins) h = absurd (no_more p h.0)
pins_are (suc n) [] h = absurd h
pins_are (suc n) (p ∷ pins) h = let r = pins_are n pins h.1 in let long = r.0 in (omega (arith, long), (source_is p h.0, r.1))

-- what a line of the table says

abbrev line_at : ℕ → List Given → LineGiven
line_at k words = record { form = k; words = words }

abbrev at : List Given → ℕ → Given
at words i = given_or (slice_get words i)

-- the word at a place of a form with a source there
source_at_plain : (fields : List Field) (words : List Given) (i : ℕ) → FitFields fields nothing words → slice_get fields i ≡ Some source_field
    → given.Way (way_said (at words i)) (numbers_said (at words i)) ≡ source_given (source_said (at words i))
source_at_plain fields words i fit e = source_plain (at words i) (field_fits fields nothing words i source_field fit e)

output_plain : (words : List Given) → FitFields output_form.fields nothing words → words ≡ fixed ∷ source_given (source_said (at words 1)) ∷ given.Name (name_at words 2) ∷ []
output_plain words fit =
    let p = source_at_plain output_form.fields words 1 fit refl in
    words_plain output_form words fit ∙ (λ i. fixed ∷ p i ∷ given.Name (name_at words 2) ∷ [])

module_plain : (words : List Given) → FitFields module_form.fields nothing words → words ≡ fixed ∷ number (at_most 255 (number_at words 1)) ∷ number (at_most 255 (number_at words 2)) ∷ source_given (source_said (at words 3)) ∷ source_given (source_said (at words 4)) ∷ source_given (source_said (at words 5)) ∷ source_given (source_said (at words 6)) ∷ source_given (source_said (at words 7)) ∷ source_given (source_said (at words 8)) ∷ source_given (source_said (at words 9)) ∷ source_given (source_said (at words 10)) ∷ []
module_plain words fit =
    let a = source_at_plain module_form.fields words 3 fit refl in
    let b = source_at_plain module_form.fields words 4 fit refl in
    let c = source_at_plain module_form.fields words 5 fit refl in
    let d = source_at_plain module_form.fields words 6 fit refl in
    let e = source_at_plain module_form.fields words 7 fit refl in
    let f = source_at_plain module_form.fields words 8 fit refl in
    let g = source_at_plain module_form.fields words 9 fit refl in
    let h = source_at_plain module_form.fields words 10 fit refl in
    words_plain module_form words fit ∙ (λ i. fixed ∷ number (at_most 255 (number_at words 1)) ∷ number (at_most 255 (number_at words 2)) ∷ a i ∷ b i ∷ c i ∷ d i ∷ e i ∷ f i ∷ g i ∷ h i ∷ [])

only_at : (k : ℕ) (words : List Given) (l : PlanLine) → FitForms plan_table k words → line_of (line_at k words) ≡ Some l → line_at k words ≡ given_of l
only_at zero words l fit h = subst (λ (x : PlanLine). line_at 0 words ≡ given_of x) (some_is _ l h) (ap (line_at 0) (words_plain device_form words fit))
only_at (suc zero) words l fit h = subst (λ (x : PlanLine). line_at 1 words ≡ given_of x) (some_is _ l h) (ap (line_at 1) (words_plain k_form words fit))
only_at (suc (suc zero)) words l fit h = subst (λ (x : PlanLine). line_at 2 words ≡ given_of x) (some_is _ l h) (ap (line_at 2) (words_plain clock_form words fit))
only_at (suc (suc (suc zero))) words l fit h = subst (λ (x : PlanLine). line_at 3 words ≡ given_of x) (some_is _ l h) (ap (line_at 3) (words_plain input_form words fit))
only_at (suc (suc (suc (suc zero)))) words l fit h = subst (λ (x : PlanLine). line_at 4 words ≡ given_of x) (some_is _ l h) (ap (line_at 4) (output_plain words fit))
only_at (suc (suc (suc (suc (suc zero))))) words l fit h = subst (λ (x : PlanLine). line_at 5 words ≡ given_of x) (some_is _ l h) (ap (line_at 5) (words_plain start_form words fit))
only_at (suc (suc (suc (suc (suc (suc zero)))))) words l fit h = subst (λ (x : PlanLine). line_at 6 words ≡ given_of x) (some_is _ l h) (ap (line_at 6) (module_plain words fit))
only_at (suc (suc (suc (suc (suc (suc (suc k))))))) words l fit h = absurd fit

back : (l : PlanLine) → IsFine plan_format l → line_of (given_of l) ≡ Some l
back (line.Device name) h = refl
back (line.K k) h = ap (λ (n : ℕ). Some (line.K n)) (low_at_most 255 k h.1.0.0)
back (line.Clock name) h = refl
back (line.Input name) h = refl
back (line.Output o) h = ap (λ (s : Source). Some (line.Output (record { name = o.name; source = s }))) (source_back o.source h.1.0)
back (line.Start s) h =
    let m = low_at_most 65535 s.module h.1.0.0 in
    let init = low_at_most 3 s.init h.1.1.0.0 in
    λ i. Some (line.Start (record { «module» = m i; init = init i; name = s.name }))
back (line.Module spot []) h = absurd h.1.1.1
back (line.Module spot (a ∷ [])) h = absurd h.1.1.1.1
back (line.Module spot (a ∷ b ∷ [])) h = absurd h.1.1.1.1.1
back (line.Module spot (a ∷ b ∷ c ∷ [])) h = absurd h.1.1.1.1.1.1
back (line.Module spot (a ∷ b ∷ c ∷ d ∷ [])) h = absurd h.1.1.1.1.1.1.1
back (line.Module spot (a ∷ b ∷ c ∷ d ∷ e ∷ [])) h = absurd h.1.1.1.1.1.1.1.1
back (line.Module spot (a ∷ b ∷ c ∷ d ∷ e ∷ f ∷ [])) h = absurd h.1.1.1.1.1.1.1.1.1
back (line.Module spot (a ∷ b ∷ c ∷ d ∷ e ∷ f ∷ g ∷ [])) h = absurd h.1.1.1.1.1.1.1.1.1.1
back (line.Module spot (a ∷ b ∷ c ∷ d ∷ e ∷ f ∷ g ∷ h ∷ [])) fit =
    let row = low_at_most 255 spot.row fit.1.0.0 in
    let column = low_at_most 255 spot.column fit.1.1.0.0 in
    let a_is = source_back a fit.1.1.1.0 in
    let b_is = source_back b fit.1.1.1.1.0 in
    let c_is = source_back c fit.1.1.1.1.1.0 in
    let d_is = source_back d fit.1.1.1.1.1.1.0 in
    let e_is = source_back e fit.1.1.1.1.1.1.1.0 in
    let f_is = source_back f fit.1.1.1.1.1.1.1.1.0 in
    let g_is = source_back g fit.1.1.1.1.1.1.1.1.1.0 in
    let h_is = source_back h fit.1.1.1.1.1.1.1.1.1.1.0 in
    λ i. Some (line.Module (record { row = row i; column = column i }) (a_is i ∷ b_is i ∷ c_is i ∷ d_is i ∷ e_is i ∷ f_is i ∷ g_is i ∷ h_is i ∷ []))
back (line.Module spot (a ∷ b ∷ c ∷ d ∷ e ∷ f ∷ g ∷ h ∷ x ∷ xs)) fit = absurd (no_more x fit.1.1.1.1.1.1.1.1.1.1.1.0)

pub plan_lines_are : IsLineFormat plan_format
plan_lines_are = record { clear = refl; back = back; only = λ given l fit h. only_at given.form given.words l fit h }
