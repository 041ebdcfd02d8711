-- A line of a job and the line of the table that says it belong to each other alone.
use Rattle.std.proofs.Common.{ℕ, suc, zero, ◌≡◌, ◌+◌, ◌<◌, length, get_or, take, List, [], ◌∷◌, ◌++◌, map, Some, refl, sym, ap, subst, ◌∙◌, arith}
use Rattle.std.specs.Prelude.{slice_get}
use Rattle.std.proofs.lemmas.List.{map_more}
use Rattle.act1_base.specs.Capped.{at_most}
use Rattle.act1_base.proofs.NumberWords.{low_at_most}
use Rattle.act1_table.specs.Formats.{IsLineFormat, IsFine}
use Rattle.act1_table.specs.Forms.{FitForms}
use Rattle.act1_table.specs.Values.{fixed, given_or, number_up_to}
use Rattle.act1_table.specs.declared.forms.Given.{Given}
use Rattle.act1_table.specs.declared.forms.LineGiven.{LineGiven}
use Rattle.act1_table.proofs.NumberLaws.{some_is}
use Rattle.act1_table.proofs.PlainLaws.{words_plain, rest_numbers, numbers_back}
use Rattle.act1_job.specs.Lines.{header_form, columns_form, k_form, budget_form, track_form, connection_form, end_form, job_table, given_of, line_of, small_at, job_format}
use Rattle.act1_job.specs.declared.line.JobLine.{JobLine}
use Rattle.act1_job.specs.declared.line.JobLine.TheVariants as line

abbrev line_at : ℕ → List Given → LineGiven
line_at k words = record { form = k; words = words }

only_at : (k : ℕ) (words : List Given) (l : JobLine) → FitForms job_table k words → line_of (line_at k words) ≡ Some l → line_at k words ≡ given_of l
only_at zero words l fit h = subst (λ (x : JobLine). line_at 0 words ≡ given_of x) (some_is _ l h) (ap (line_at 0) (words_plain header_form words fit))
only_at (suc zero) words l fit h = subst (λ (x : JobLine). line_at 1 words ≡ given_of x) (some_is _ l h) (ap (line_at 1) (words_plain columns_form words fit))
only_at (suc (suc zero)) words l fit h = subst (λ (x : JobLine). line_at 2 words ≡ given_of x) (some_is _ l h) (ap (line_at 2) (words_plain k_form words fit))
only_at (suc (suc (suc zero))) words l fit h = subst (λ (x : JobLine). line_at 3 words ≡ given_of x) (some_is _ l h) (ap (line_at 3) (words_plain budget_form words fit))
only_at (suc (suc (suc (suc zero)))) [] l fit h = absurd fit
only_at (suc (suc (suc (suc zero)))) (first ∷ words) l fit h =
    subst (λ (x : JobLine). line_at 4 (first ∷ words) ≡ given_of x) (some_is _ l h) (
    ap (line_at 4) (words_plain track_form (first ∷ words) fit) ∙ ap (λ (xs : List Given). line_at 4 (fixed ∷ xs)) (rest_numbers 64 words fit.1))
only_at (suc (suc (suc (suc (suc zero))))) words l fit h = subst (λ (x : JobLine). line_at 5 words ≡ given_of x) (some_is _ l h) (ap (line_at 5) (words_plain connection_form words fit))
only_at (suc (suc (suc (suc (suc (suc zero)))))) words l fit h = subst (λ (x : JobLine). line_at 6 words ≡ given_of x) (some_is _ l h) (ap (line_at 6) (words_plain end_form words fit))
only_at (suc (suc (suc (suc (suc (suc (suc k))))))) words l fit h = absurd fit

back : (l : JobLine) → IsFine job_format l → line_of (given_of l) ≡ Some l
back line.Header h = refl
back (line.Columns n) h = ap (λ (m : ℕ). Some (line.Columns m)) (low_at_most 64 n h.1.0.0)
back (line.K n) h = ap (λ (m : ℕ). Some (line.K m)) (low_at_most 64 n h.1.0.0)
back (line.Budget n) h = ap (λ (m : ℕ). Some (line.Budget m)) (low_at_most 1000000000000 n h.1.0.0)
back (line.Track breaks) h = ap (λ (ns : List ℕ). Some (line.Track ns)) (numbers_back 64 breaks h.1)
back (line.Connection c) h =
    ap (λ (n : ℕ). Some (line.Connection (record { left = n; right = at_most 64 c.right }))) (low_at_most 64 c.left h.1.0.0)
    ∙ ap (λ (n : ℕ). Some (line.Connection (record { left = c.left; right = n }))) (low_at_most 64 c.right h.1.1.0.0)
back line.End h = refl

pub job_lines_are : IsLineFormat job_format
job_lines_are = record { clear = refl; back = back; only = λ given l fit h. only_at given.form given.words l fit h }

-- the numbers of the words, one more

said_at : (words : List Given) (i : ℕ) → i < length words → given_or (slice_get words i) ≡ get_or words i fixed
said_at [] i h = absurd (omega arith)
said_at (w ∷ words) zero h = refl
said_at (w ∷ words) (suc i) h = said_at words i (omega arith)

pub breaks_more : (before : List ℕ) (words : List Given) (i : ℕ) → i < length words → before ≡ map (number_up_to 64) (take i words) → before ++ small_at words i ∷ [] ≡ map (number_up_to 64) (take (i + 1) words)
breaks_more before words i h e =
    ap (λ (xs : List ℕ). xs ++ small_at words i ∷ []) e
    ∙ ap (λ (g : Given). map (number_up_to 64) (take i words) ++ number_up_to 64 g ∷ []) (said_at words i h)
    ∙ sym (map_more (number_up_to 64) words i fixed h)
