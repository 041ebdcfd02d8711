-- The texts of logs are those that the lines of steps make, and they are read line by line.
use Rattle.std.proofs.Common.{ℕ, zero, suc, ◌≡◌, ◌<◌, ◌+◌, ◌^◌, Some, IsTrue, Bool, true, false, ◌&&◌, cond, List, [], ◌∷◌, ◌++◌, length, Result, Ok, Err, refl, sym, ap, subst, ◌∙◌, append_assoc, append-nil, arith}
use Rattle.std.specs.List.{AllByRecursion}
use Rattle.std.proofs.lemmas.Bool.Decides.{nat_tests}
use Rattle.std.proofs.lemmas.List.{length-append}
use Rattle.act1_base.specs.FirstFault.{IsFormatOf}
use Rattle.act1_base.specs.Texts.{reading}
use Rattle.act1_base.specs.declared.texts.TextFault.{TextFault}
use Rattle.act1_channel.specs.declared.problem.Log.{Log}
use Rattle.act1_channel.specs.declared.problem.Step.{Step}
use Rattle.act1_table.specs.Formats.{IsLineFormat, IsFine, IsLinesTo, Leads, OwesTexts, text_of}
use Rattle.act1_table.specs.Forms.{FitForms}
use Rattle.act1_table.specs.declared.forms.Given.{Given}
use Rattle.act1_table.specs.declared.forms.LineGiven.{LineGiven}
use Rattle.act1_table.proofs.ExactLaws.{plain_exact}
use Rattle.act1_table.proofs.FormatLaws.{is_format, lines_are_read, read_is_lines}
use Rattle.act1_table.proofs.NumberLaws.{both}
use Rattle.act1_logtext.specs.Logs.{Fault, log_table, step_said, log_format, log_text, AreSteps, has_room, add_step, log_steps, log_rules}
use Rattle.act1_logtext.specs.Reads.{IsTextOfLog, IsLogText}
use Rattle.act1_logtext.specs.StepLines.{has_hint, step_line}
use Rattle.act1_logtext.proofs.SameLogs.{same_log}
use Rattle.act1_logtext.proofs.StepWords.{step_only, step_back, step_fits, step_is, has_hint_by}

abbrev line_at : ℕ → List Given → LineGiven
line_at form words = record { form = form; words = words }

only_at : (k : ℕ) (words : List Given) (s : Step) → FitForms log_table k words → step_said (line_at k words) ≡ Some s → line_at k words ≡ step_line 0 s
only_at zero words s fit h = ap (line_at 0) (step_only words s fit h)
only_at (suc k) words s fit h = absurd fit

log_lines_are : IsLineFormat log_format
log_lines_are = record { clear = refl; back = λ s fit. step_back s fit; only = λ given s fit h. only_at given.form given.words s fit h }

-- the steps of a log are taken one after the other

abbrev pub AreFew : List Step → Type 0
AreFew steps = length steps < 2 ^ 32

pub room : (steps : List Step) → length steps < 4294967295 → IsTrue (has_room steps)
room steps low = grind (arith, nat_tests)

pub one_more_few : (steps : List Step) (s : Step) → IsTrue (has_room steps) → AreFew (steps ++ s ∷ [])
one_more_few steps s h =
    let low : length steps < 4294967295 = grind (arith, nat_tests) in
    let long = length-append steps (s ∷ []) in
    omega arith

-- few steps are few behind none
pub first_few : (steps : List Step) → AreFew steps → 0 + length steps < 2 ^ 32
first_few steps few = omega arith

-- there is room for each of some steps behind others
pub next_few : (before : List Step) (s : Step) (steps : List Step) → length before + length (s ∷ steps) < 2 ^ 32 → (length before < 4294967295) × (length (before ++ s ∷ []) + length steps < 2 ^ 32)
next_few before s steps few = let long = length-append before (s ∷ []) in (omega arith, omega arith)

pub added : (steps : List Step) (s : Step) → IsTrue (has_hint s) → IsTrue (has_room steps) → add_step steps s ≡ Ok (steps ++ s ∷ [])
added steps s h k = rw (h, k) refl

steps_lead : (before steps : List Step) → AreSteps steps → length before + length steps < 2 ^ 32 → Leads log_format log_steps before steps (before ++ steps)
steps_lead before [] fine few = sym (append-nil before)
steps_lead before (s ∷ steps) fine few =
    let next = next_few before s steps few in (
      before ++ s ∷ [],
      added before s (has_hint_by s fine.0) (room before next.0),
      subst (Leads log_format log_steps (before ++ s ∷ []) steps) (append_assoc before (s ∷ []) steps) (steps_lead (before ++ s ∷ []) steps fine.1 next.1),
    )

steps_fine : (steps : List Step) → AreSteps steps → AllByRecursion (IsFine log_format) steps
steps_fine [] fine = tt
steps_fine (s ∷ steps) fine = (step_fits s fine.0, steps_fine steps fine.1)

-- and steps that are taken are those of a log

pub ok_is : {A B : Type 0} (a b : A) → let r : Result A B = Ok a in r ≡ Ok b → a ≡ b
ok_is a b h = cc

added_by : (test : Bool) (more t : List Step) → let none : Result (List Step) Fault = Err tt in cond test (Ok more) none ≡ Ok t → IsTrue test × (more ≡ t)
added_by true more t h = (refl, ok_is more t h)
added_by false more t h = cc

-- what is known of a step that was added
pub record IsAdded (steps : List Step) (s : Step) (t : List Step) : Type 0 where
  pub hint : IsTrue (has_hint s)
  pub few : AreFew (steps ++ s ∷ [])
  pub is : steps ++ s ∷ [] ≡ t

pub added_is : (steps : List Step) (s : Step) (t : List Step) → add_step steps s ≡ Ok t → IsAdded steps s t
added_is steps s t h =
    let r = added_by (has_hint s && has_room steps) (steps ++ s ∷ []) t h in
    let p = both (has_hint s) (has_room steps) r.0 in
    record { hint = p.0; few = one_more_few steps s p.1; is = r.1 }

-- what is known of steps that lead from some to others
record AreTaken (before steps after : List Step) : Type 0 where
  fine : AreSteps steps
  few : AreFew after
  is : before ++ steps ≡ after

leads_are : (before steps after : List Step) → AreFew before → AllByRecursion (IsFine log_format) steps → Leads log_format log_steps before steps after → AreTaken before steps after
leads_are before [] after few fine leads = record { fine = tt; few = subst AreFew leads few; is = append-nil before ∙ leads }
leads_are before (s ∷ steps) after few fine leads =
    let one = added_is before s leads.0 leads.1 in
    let rest = leads_are leads.0 steps after (subst AreFew one.is one.few) fine.1 leads.2 in
    record {
      fine = (step_is s fine.0 one.hint, rest.fine);
      few = rest.few;
      is = sym (append_assoc before (s ∷ []) steps) ∙ ap (λ (xs : List Step). xs ++ steps) one.is ∙ rest.is;
    }

text_lines : (bytes : List ℕ) (log : Log) → IsTextOfLog bytes log → IsLinesTo log_format log_steps bytes log.steps
unfolding log_text
text_lines bytes log is = record { lines = log.steps; last = log.steps; fine = steps_fine log.steps is.0; leads = steps_lead [] log.steps is.0 (first_few log.steps log.few); ends = refl; text = is.1 }

-- the steps that are read are those of a log whose text the bytes are
record AreOf (bytes : List ℕ) (steps : List Step) : Type 0 where
  fine : AreSteps steps
  few : AreFew steps
  text : bytes ≡ log_text steps

lines_text : (bytes : List ℕ) (steps : List Step) → IsLinesTo log_format log_steps bytes steps → AreOf bytes steps
unfolding log_text
lines_text bytes steps lines =
    let r = leads_are [] lines.lines lines.last (omega arith) lines.fine lines.leads in
    subst (AreOf bytes) (ok_is lines.last steps lines.ends)
    (record { fine = subst AreSteps r.is r.fine; few = r.few; text = lines.text ∙ ap (text_of log_format) r.is })

owes : OwesTexts log_format log_steps IsLogText
owes = record {
  own = log_lines_are;
  exact = λ s t l fine h. plain_exact log_table (step_line 0 l) refl;
  spelled = λ bytes is. (is.0.steps, text_lines bytes is.0 is.1);
  said = λ bytes steps lines. let r = lines_text bytes steps lines in (record { steps = steps; few = r.few }, (r.fine, r.text));
  completes = λ lines s fine leads. record { more = []; last = s; end = s; fine = tt; leads = refl; ends = refl };
}

-- the rules are those of the texts of logs
pub log_rules_are : IsFormatOf log_rules IsLogText
log_rules_are = is_format log_format log_steps IsLogText owes

-- what is read is the steps of a log whose text the bytes are
steps_read : (bytes : List ℕ) (steps : List Step) → reading log_rules bytes ≡ Ok steps → AreOf bytes steps
steps_read bytes steps h = lines_text bytes steps (read_is_lines log_format log_lines_are log_steps owes.exact bytes steps h)

-- and the text of a log is read as its steps
text_read : (bytes : List ℕ) (log : Log) → IsTextOfLog bytes log → reading log_rules bytes ≡ Ok log.steps
text_read bytes log is = lines_are_read log_format log_lines_are log_steps bytes log.steps (text_lines bytes log is)

-- the text of a log has no faulty line
pub never_refused : (bytes : List ℕ) (fault : TextFault Fault) (log : Log) → reading log_rules bytes ≡ Err fault → IsTextOfLog bytes log → ⊥
never_refused bytes fault log h is = let read = text_read bytes log is in cc

pub read_few : (bytes : List ℕ) (steps : List Step) → reading log_rules bytes ≡ Ok steps → AreFew steps
read_few bytes steps h = (steps_read bytes steps h).few

pub first_read : (bytes : List ℕ) (steps : List Step) (log : Log) → reading log_rules bytes ≡ Ok steps → log.steps ≡ steps → IsTextOfLog bytes log
first_read bytes steps log h is = let r = subst (AreOf bytes) (sym is) (steps_read bytes steps h) in (r.fine, r.text)

pub again_read : (bytes : List ℕ) (steps : List Step) (log other : Log) → reading log_rules bytes ≡ Ok steps → log.steps ≡ steps → IsTextOfLog bytes other → log ≡ other
again_read bytes steps log other h is text = same_log log other (is ∙ ok_is steps other.steps (sym h ∙ text_read bytes other text))
