-- The texts of answers are those that the lines of answers make, and they are read line by line.
use Rattle.std.proofs.Common.{ℕ, zero, suc, ◌≡◌, ◌<◌, ◌≤◌, ◌+◌, ◌^◌, length, IsTrue, List, [], ◌∷◌, ◌++◌, map, Option, Some, None, Result, Ok, Err, refl, sym, ap, subst, ◌∙◌, append_assoc, append-nil, arith}
use Rattle.std.specs.List.{AllByRecursion}
use Rattle.std.proofs.lemmas.List.{map-append}
use Rattle.act1_base.specs.FirstFault.{IsFormatOf}
use Rattle.act1_base.specs.Texts.{reading}
use Rattle.act1_base.specs.declared.texts.TextFault.{TextFault}
use Rattle.act1_base.proofs.NumberWords.{low_at_most}
use Rattle.act1_channel.specs.declared.problem.Step.{Step}
use Rattle.act1_table.specs.Formats.{IsLineFormat, IsFine, IsLinesTo, Leads, CanEnd, OwesTexts, text_of}
use Rattle.act1_table.specs.Forms.{Fits, FitForms}
use Rattle.act1_table.specs.Reads.{and_then}
use Rattle.act1_table.specs.Table.{up_to}
use Rattle.act1_table.specs.Values.{first, numbers_said, fixed, number, number_at}
use Rattle.act1_table.specs.declared.forms.Given.{Given}
use Rattle.act1_table.specs.declared.forms.Given.TheVariants as given
use Rattle.act1_table.specs.declared.forms.LineGiven.{LineGiven}
use Rattle.act1_table.proofs.ExactLaws.{plain_exact}
use Rattle.act1_table.proofs.FormatLaws.{is_format, lines_are_read, read_is_lines}
use Rattle.act1_table.proofs.NumberLaws.{some_is}
use Rattle.act1_table.proofs.PlainLaws.{words_plain, field_fits}
use Rattle.act1_logtext.specs.Answers.{header_form, assigned_form, take_form, refuted_form, spent_form, end_form, answer_table, given_of, line_of, answer_format, body_lines, draft_of, draft_lines, draft_text, AreTracks, IsAnswer}
use Rattle.act1_logtext.specs.AnswerSteps.{header_step, with_track, as_refuted, with_step, body_step, step, end, answer_steps, answer_rules, IsFew}
use Rattle.act1_logtext.specs.Logs.{Fault, AreSteps, add_step}
use Rattle.act1_logtext.specs.Reads.{IsTextOfAnswer, IsAnswerText}
use Rattle.act1_logtext.specs.StepLines.{has_hint, step_of, IsStep}
use Rattle.act1_logtext.specs.declared.answer.Answer.{Answer}
use Rattle.act1_logtext.specs.declared.answer.Answer.TheVariants as answer
use Rattle.act1_logtext.specs.declared.draft.Draft.{Draft}
use Rattle.act1_logtext.specs.declared.draft.Draft.TheVariants as draft
use Rattle.act1_logtext.specs.declared.draft.AnswerLine.{AnswerLine}
use Rattle.act1_logtext.specs.declared.draft.AnswerLine.TheVariants as line
use Rattle.act1_logtext.specs.declared.draft.AnswerState.{AnswerState}
use Rattle.act1_logtext.specs.declared.draft.AnswerState.TheVariants as state
use Rattle.act1_logtext.proofs.LogTexts.{ok_is, AreFew, room, first_few, next_few, added, added_is}
use Rattle.act1_logtext.proofs.SameLogs.{same_answer}
use Rattle.act1_logtext.proofs.StepWords.{FitsStep, step_only, step_back, step_fits, step_is, has_hint_by}

-- a line and the line of the table that says it belong to each other alone

abbrev line_at : ℕ → List Given → LineGiven
line_at k words = record { form = k; words = words }

step_by : (words : List Given) (l : AnswerLine) (found : Option Step) → FitsStep words → step_of words ≡ found → and_then found (λ (s : Step). Some (line.Step s)) ≡ Some l → line_at 4 words ≡ given_of l
step_by words l None fit e h = cc
step_by words l (Some s) fit e h = subst (λ (x : AnswerLine). line_at 4 words ≡ given_of x) (some_is (line.Step s) l h) (ap (line_at 4) (step_only words s fit e))

small : (g : Given) → Fits (up_to 18446744073709551615) g → first (numbers_said g) ≤ 18446744073709551615
small (given.Name name) h = absurd h
small (given.Way zero []) h = absurd h
small (given.Way zero (n ∷ [])) h = h.0
small (given.Way zero (n ∷ m ∷ ns)) h = absurd h.1
small (given.Way (suc k) ns) h = absurd h

spent_plain : (words : List Given) → FitForms answer_table 5 words → words ≡ fixed ∷ number (number_at words 1) ∷ []
spent_plain words fit =
    words_plain spent_form words fit
    ∙ ap (λ (n : ℕ). fixed ∷ number n ∷ []) (low_at_most 18446744073709551615 (number_at words 1) (small _ (field_fits spent_form.fields spent_form.rest words 1 (up_to 18446744073709551615) fit refl)))

only_at : (k : ℕ) (words : List Given) (l : AnswerLine) → FitForms answer_table k words → line_of (line_at k words) ≡ Some l → line_at k words ≡ given_of l
only_at zero words l fit h = subst (λ (x : AnswerLine). line_at 0 words ≡ given_of x) (some_is _ l h) (ap (line_at 0) (words_plain header_form words fit))
only_at (suc zero) words l fit h = subst (λ (x : AnswerLine). line_at 1 words ≡ given_of x) (some_is _ l h) (ap (line_at 1) (words_plain assigned_form words fit))
only_at (suc (suc zero)) words l fit h = subst (λ (x : AnswerLine). line_at 2 words ≡ given_of x) (some_is _ l h) (ap (line_at 2) (words_plain take_form words fit))
only_at (suc (suc (suc zero))) words l fit h = subst (λ (x : AnswerLine). line_at 3 words ≡ given_of x) (some_is _ l h) (ap (line_at 3) (words_plain refuted_form words fit))
only_at (suc (suc (suc (suc zero)))) words l fit h = step_by words l (step_of words) fit refl h
only_at (suc (suc (suc (suc (suc zero))))) words l fit h = subst (λ (x : AnswerLine). line_at 5 words ≡ given_of x) (some_is _ l h) (ap (line_at 5) (spent_plain words fit))
only_at (suc (suc (suc (suc (suc (suc zero)))))) words l fit h = subst (λ (x : AnswerLine). line_at 6 words ≡ given_of x) (some_is _ l h) (ap (line_at 6) (words_plain end_form words fit))
only_at (suc (suc (suc (suc (suc (suc (suc k))))))) words l fit h = absurd fit

back : (l : AnswerLine) → IsFine answer_format l → line_of (given_of l) ≡ Some l
back line.Header h = refl
back line.Assigned h = refl
back (line.Take track) h = ap (λ (n : ℕ). Some (line.Take n)) (low_at_most 65535 track h.1.0.0)
back line.Refuted h = refl
back (line.Step s) h = ap (λ (found : Option Step). and_then found (λ (x : Step). Some (line.Step x))) (step_back s h)
back (line.Spent conflicts) h = refl
back line.End h = refl

answer_lines_are : IsLineFormat answer_format
answer_lines_are = record { clear = refl; back = back; only = λ given l fit h. only_at given.form given.words l fit h }

-- the lines of an answer lead to its end

abbrev Lead : AnswerState → List AnswerLine → AnswerState → Type 0
Lead s lines t = Leads answer_format answer_steps s lines t

leads_on : (s t u : AnswerState) (xs ys : List AnswerLine) → Lead s xs t → Lead t ys u → Lead s (xs ++ ys) u
leads_on s t u [] ys h k = subst (λ (v : AnswerState). Lead v ys u) (sym h) k
leads_on s t u (x ∷ xs) ys h k = (h.0, h.1, leads_on h.0 t u xs ys h.2 k)

abbrev take_lines : List ℕ → List AnswerLine
take_lines tracks = map (λ (track : ℕ). line.Take track) tracks

abbrev step_lines : List Step → List AnswerLine
step_lines steps = map (λ (s : Step). line.Step s) steps

abbrev assigned : List ℕ → AnswerState
assigned tracks = state.Body (draft.Assigned tracks)

abbrev refuted : List Step → AnswerState
refuted steps = state.Body (draft.Refuted steps)

tracks_lead : (before tracks : List ℕ) → Lead (assigned before) (take_lines tracks) (assigned (before ++ tracks))
tracks_lead before [] = ap assigned (sym (append-nil before))
tracks_lead before (track ∷ tracks) = (
  assigned (before ++ track ∷ []),
  refl,
  subst (λ (ts : List ℕ). Lead (assigned (before ++ track ∷ [])) (take_lines tracks) (assigned ts)) (append_assoc before (track ∷ []) tracks) (tracks_lead (before ++ track ∷ []) tracks),
)

steps_lead : (before steps : List Step) → AreSteps steps → length before + length steps < 2 ^ 32 → Lead (refuted before) (step_lines steps) (refuted (before ++ steps))
steps_lead before [] fine few = ap refuted (sym (append-nil before))
steps_lead before (s ∷ steps) fine few =
    let next = next_few before s steps few in (
      refuted (before ++ s ∷ []),
      ap as_refuted (added before s (has_hint_by s fine.0) (room before next.0)),
      subst (λ (ss : List Step). Lead (refuted (before ++ s ∷ [])) (step_lines steps) (refuted ss)) (append_assoc before (s ∷ []) steps) (steps_lead (before ++ s ∷ []) steps fine.1 next.1),
    )

-- a draft is an answer: all its numbers fit, and its steps are those of a log
abbrev IsDraft : Draft → Type 0
IsDraft (draft.Assigned tracks) = AreTracks tracks
IsDraft (draft.Refuted steps) = AreSteps steps × AreFew steps
IsDraft (draft.Spent conflicts) = conflicts ≤ 18446744073709551615

body_lead : (d : Draft) → IsDraft d → Lead state.Header (body_lines d) (state.Body d)
body_lead (draft.Assigned tracks) fine = (assigned [], refl, tracks_lead [] tracks)
body_lead (draft.Refuted steps) fine = (refuted [], refl, steps_lead [] steps fine.0 (first_few steps fine.1))
body_lead (draft.Spent conflicts) fine = (state.Body (draft.Spent conflicts), refl, refl)

draft_leads : (d : Draft) → IsDraft d → Lead state.Start (draft_lines d) (state.End d)
draft_leads d fine = (state.Header, refl, leads_on state.Header (state.Body d) (state.End d) (body_lines d) (line.End ∷ []) (body_lead d fine) (state.End d, refl, refl))

-- and they are fine

abbrev AreFine : List AnswerLine → Type 0
AreFine lines = AllByRecursion (IsFine answer_format) lines

fine_append : (xs ys : List AnswerLine) → AreFine xs → AreFine ys → AreFine (xs ++ ys)
fine_append [] ys h k = k
fine_append (x ∷ xs) ys h k = (h.0, fine_append xs ys h.1 k)

tracks_fine : (tracks : List ℕ) → AreTracks tracks → AreFine (take_lines tracks)
tracks_fine [] fine = tt
tracks_fine (track ∷ tracks) fine = ((tt, ((fine.0, tt), tt)), tracks_fine tracks fine.1)

steps_fine : (steps : List Step) → AreSteps steps → AreFine (step_lines steps)
steps_fine [] fine = tt
steps_fine (s ∷ steps) fine = (step_fits s fine.0, steps_fine steps fine.1)

body_fine : (d : Draft) → IsDraft d → AreFine (body_lines d)
body_fine (draft.Assigned tracks) fine = ((tt, tt), tracks_fine tracks fine)
body_fine (draft.Refuted steps) fine = ((tt, tt), steps_fine steps fine.0)
body_fine (draft.Spent conflicts) fine = ((tt, ((fine, tt), tt)), tt)

draft_fine : (d : Draft) → IsDraft d → AreFine (draft_lines d)
draft_fine d fine = ((tt, (tt, (tt, tt))), fine_append (body_lines d) (line.End ∷ []) (body_fine d fine) ((tt, tt), tt))

-- lines that lead to a state are those that it says

abbrev IsGood : AnswerState → Type 0
IsGood state.Start = Unit {0}
IsGood state.Header = Unit {0}
IsGood (state.Body d) = IsDraft d
IsGood (state.End d) = IsDraft d

abbrev said : AnswerState → List AnswerLine
said state.Start = []
said state.Header = line.Header ∷ []
said (state.Body d) = line.Header ∷ body_lines d
said (state.End d) = draft_lines d

-- what is said of the state after a line
abbrev IsNext : List AnswerLine → AnswerLine → AnswerState → Type 0
IsNext before l t = IsGood t × (said t ≡ before ++ l ∷ [])

header_kept : (l : AnswerLine) (t : AnswerState) → IsFine answer_format l → header_step l ≡ Ok t → IsNext (said state.Header) l t
header_kept line.Assigned t fine h = subst (IsNext (said state.Header) line.Assigned) (ok_is (assigned []) t h) (tt, refl)
header_kept line.Refuted t fine h = subst (IsNext (said state.Header) line.Refuted) (ok_is (refuted []) t h) ((tt, omega arith), refl)
header_kept (line.Spent n) t fine h = subst (IsNext (said state.Header) (line.Spent n)) (ok_is (state.Body (draft.Spent n)) t h) (fine.1.0.0, refl)
header_kept line.Header t fine h = cc
header_kept (line.Take track) t fine h = cc
header_kept (line.Step s) t fine h = cc
header_kept line.End t fine h = cc

all_more : {A : Type 0} (P : A → Type 0) (xs : List A) (x : A) → AllByRecursion P xs → P x → AllByRecursion P (xs ++ x ∷ [])
all_more P [] x h k = (k, tt)
all_more P (y ∷ xs) x h k = (h.0, all_more P xs x h.1 k)

track_kept : (d : Draft) (track : ℕ) (t : AnswerState) → IsDraft d → track ≤ 65535 → with_track d track ≡ Ok t → IsNext (said (state.Body d)) (line.Take track) t
track_kept (draft.Assigned tracks) track t good low h =
    subst (IsNext (said (assigned tracks)) (line.Take track)) (ok_is (assigned (tracks ++ track ∷ [])) t h) (
      all_more (λ (n : ℕ). n ≤ 65535) tracks track good low,
      ap (λ (ls : List AnswerLine). line.Header ∷ line.Assigned ∷ ls) (map-append (λ (n : ℕ). line.Take n) tracks (track ∷ [])),
    )
track_kept (draft.Refuted steps) track t good low h = cc
track_kept (draft.Spent n) track t good low h = cc

-- what is known of a step that was added
record IsAddedTo (steps : List Step) (s : Step) (t : AnswerState) : Type 0 where
  hint : IsTrue (has_hint s)
  few : AreFew (steps ++ s ∷ [])
  is : refuted (steps ++ s ∷ []) ≡ t

passed : (steps : List Step) (s : Step) (t : AnswerState) (found : Result (List Step) Fault) → add_step steps s ≡ found → as_refuted found ≡ Ok t → IsAddedTo steps s t
passed steps s t (Ok more) e h =
    let a = added_is steps s more e in
    record { hint = a.hint; few = a.few; is = ap refuted a.is ∙ ok_is (refuted more) t h }
passed steps s t (Err fault) e h = cc

step_kept : (d : Draft) (s : Step) (t : AnswerState) → IsDraft d → IsFine answer_format (line.Step s) → with_step d s ≡ Ok t → IsNext (said (state.Body d)) (line.Step s) t
step_kept (draft.Refuted steps) s t good fine h =
    let p = passed steps s t (add_step steps s) refl h in
    subst (IsNext (said (refuted steps)) (line.Step s)) p.is (
      (all_more IsStep steps s good.0 (step_is s fine p.hint), p.few),
      ap (λ (ls : List AnswerLine). line.Header ∷ line.Refuted ∷ ls) (map-append (λ (x : Step). line.Step x) steps (s ∷ [])),
    )
step_kept (draft.Assigned tracks) s t good fine h = cc
step_kept (draft.Spent n) s t good fine h = cc

body_kept : (d : Draft) (l : AnswerLine) (t : AnswerState) → IsDraft d → IsFine answer_format l → body_step d l ≡ Ok t → IsNext (said (state.Body d)) l t
body_kept d (line.Take track) t good fine h = track_kept d track t good fine.1.0.0 h
body_kept d (line.Step s) t good fine h = step_kept d s t good fine h
body_kept d line.End t good fine h = subst (IsNext (said (state.Body d)) line.End) (ok_is (state.End d) t h) (good, refl)
body_kept d line.Header t good fine h = cc
body_kept d line.Assigned t good fine h = cc
body_kept d line.Refuted t good fine h = cc
body_kept d (line.Spent n) t good fine h = cc

kept : (s t : AnswerState) (l : AnswerLine) → IsGood s → IsFine answer_format l → step s l ≡ Ok t → IsNext (said s) l t
kept state.Start t line.Header good fine h = subst (IsNext [] line.Header) (ok_is state.Header t h) (tt, refl)
kept state.Header t l good fine h = header_kept l t fine h
kept (state.Body d) t l good fine h = body_kept d l t good fine h
kept s t l good fine h = cc

leads_said : (lines : List AnswerLine) (s t : AnswerState) → IsGood s → AreFine lines → Lead s lines t → IsGood t × (said t ≡ said s ++ lines)
leads_said [] s t good fine h = (subst IsGood h good, sym (ap said h) ∙ sym (append-nil (said s)))
leads_said (l ∷ lines) s t good fine h =
    let one = kept s h.0 l good fine.0 h.1 in
    let rest = leads_said lines h.0 t one.0 fine.1 h.2 in
    (rest.0, rest.1 ∙ ap (λ (ls : List AnswerLine). ls ++ lines) one.1 ∙ append_assoc (said s) (l ∷ []) lines)

-- the bytes are the text of this draft, which is an answer
abbrev IsTextOfDraft : List ℕ → Draft → Type 0
IsTextOfDraft bytes d = IsDraft d × (bytes ≡ draft_text d)

-- the draft whose text the bytes are that are read to a state
pub record IsOf (bytes : List ℕ) (ended : AnswerState) : Type 0 where
  pub draft : Draft
  pub ended_is : ended ≡ state.End draft
  pub text : IsTextOfDraft bytes draft

text_lines : (bytes : List ℕ) (d : Draft) → IsTextOfDraft bytes d → IsLinesTo answer_format answer_steps bytes (state.End d)
unfolding draft_text
text_lines bytes d is = record { lines = draft_lines d; last = state.End d; fine = draft_fine d is.0; leads = draft_leads d is.0; ends = refl; text = is.1 }

text_by : (bytes : List ℕ) (lines : List AnswerLine) (last ended : AnswerState) → IsGood last → said last ≡ lines → end last ≡ Ok ended → bytes ≡ text_of answer_format lines → IsOf bytes ended
unfolding draft_text
text_by bytes lines (state.End d) ended good same ends text = record { draft = d; ended_is = sym (ok_is (state.End d) ended ends); text = (good, text ∙ ap (text_of answer_format) (sym same)) }
text_by bytes lines state.Start ended good same ends text = cc
text_by bytes lines state.Header ended good same ends text = cc
text_by bytes lines (state.Body d) ended good same ends text = cc

lines_text : (bytes : List ℕ) (ended : AnswerState) → IsLinesTo answer_format answer_steps bytes ended → IsOf bytes ended
lines_text bytes ended lines =
    let r = leads_said lines.lines state.Start lines.last tt lines.fine lines.leads in
    text_by bytes lines.lines lines.last ended r.0 r.1 lines.ends lines.text

-- an answer and what its lines say

to_draft : (a : Answer) → IsAnswer a → IsDraft (draft_of a)
to_draft (answer.Assigned tracks) is = is
to_draft (answer.Refuted log) is = (is, log.few)
to_draft (answer.Spent n) is = is

from_draft : (a : Answer) → IsDraft (draft_of a) → IsAnswer a
from_draft (answer.Assigned tracks) is = is
from_draft (answer.Refuted log) is = is.0
from_draft (answer.Spent n) is = is

-- the answer that a draft is
answer_by : (bytes : List ℕ) (d : Draft) → IsTextOfDraft bytes d → IsAnswerText bytes
answer_by bytes (draft.Assigned tracks) is = (answer.Assigned tracks, is)
answer_by bytes (draft.Refuted steps) is = (answer.Refuted (record { steps = steps; few = is.0.1 }), (is.0.0, is.1))
answer_by bytes (draft.Spent n) is = (answer.Spent n, is)

-- lines that are taken can be completed
can_end : (s : AnswerState) → CanEnd answer_format answer_steps s
can_end state.Start = record {
  more = draft_lines (draft.Spent 0);
  last = state.End (draft.Spent 0);
  end = state.End (draft.Spent 0);
  fine = draft_fine (draft.Spent 0) (omega arith);
  leads = draft_leads (draft.Spent 0) (omega arith);
  ends = refl;
}
can_end state.Header = record {
  more = line.Assigned ∷ line.End ∷ [];
  last = state.End (draft.Assigned []);
  end = state.End (draft.Assigned []);
  fine = ((tt, tt), ((tt, tt), tt));
  leads = (assigned [], refl, (state.End (draft.Assigned []), refl, refl));
  ends = refl;
}
can_end (state.Body d) = record { more = line.End ∷ []; last = state.End d; end = state.End d; fine = ((tt, tt), tt); leads = (state.End d, refl, refl); ends = refl }
can_end (state.End d) = record { more = []; last = state.End d; end = state.End d; fine = tt; leads = refl; ends = refl }

owes : OwesTexts answer_format answer_steps IsAnswerText
owes = record {
  own = answer_lines_are;
  exact = λ s t l fine h. plain_exact answer_table (given_of l) refl;
  spelled = λ bytes is. (state.End (draft_of is.0), text_lines bytes (draft_of is.0) (to_draft is.0 is.1.0, is.1.1));
  said = λ bytes ended lines. let r = lines_text bytes ended lines in answer_by bytes r.draft r.text;
  completes = λ lines s fine leads. can_end s;
}

-- the rules are those of the texts of answers
pub answer_rules_are : IsFormatOf answer_rules IsAnswerText
answer_rules_are = is_format answer_format answer_steps IsAnswerText owes

-- what is read is the answer whose text the bytes are
pub read_of : (bytes : List ℕ) (s : AnswerState) → reading answer_rules bytes ≡ Ok s → IsOf bytes s
read_of bytes s h = lines_text bytes s (read_is_lines answer_format answer_lines_are answer_steps owes.exact bytes s h)

text_read : (bytes : List ℕ) (d : Draft) → IsTextOfDraft bytes d → reading answer_rules bytes ≡ Ok (state.End d)
text_read bytes d is = lines_are_read answer_format answer_lines_are answer_steps bytes (state.End d) (text_lines bytes d is)

same_draft : (a b : Draft) → state.End a ≡ state.End b → a ≡ b
same_draft a b h = cc

few_by : (d : Draft) → IsDraft d → IsFew d
few_by (draft.Assigned tracks) is = tt
few_by (draft.Refuted steps) is = is.1
few_by (draft.Spent n) is = tt

pub read_few : (bytes : List ℕ) (s : AnswerState) (d : Draft) → reading answer_rules bytes ≡ Ok s → s ≡ state.End d → IsFew d
read_few bytes s d h is = let r = read_of bytes s h in subst IsFew (same_draft r.draft d (sym r.ended_is ∙ is)) (few_by r.draft r.text.0)

pub first_read : (bytes : List ℕ) (s : AnswerState) (d : Draft) (a : Answer) → reading answer_rules bytes ≡ Ok s → s ≡ state.End d → draft_of a ≡ d → IsTextOfAnswer bytes a
first_read bytes s d a h is of =
    let r = read_of bytes s h in
    let text = subst (IsTextOfDraft bytes) (same_draft r.draft d (sym r.ended_is ∙ is) ∙ sym of) r.text in
    (from_draft a text.0, text.1)

pub again_read : (bytes : List ℕ) (s : AnswerState) (d : Draft) (a other : Answer) → reading answer_rules bytes ≡ Ok s → s ≡ state.End d → draft_of a ≡ d → IsTextOfAnswer bytes other → a ≡ other
again_read bytes s d a other h is of text =
    same_answer a other (of ∙ same_draft d (draft_of other) (sym is ∙ ok_is s (state.End (draft_of other)) (sym h ∙ text_read bytes (draft_of other) (to_draft other text.0, text.1))))

-- the text of an answer has no faulty line
pub never_refused : (bytes : List ℕ) (fault : TextFault Fault) (a : Answer) → reading answer_rules bytes ≡ Err fault → IsTextOfAnswer bytes a → ⊥
never_refused bytes fault a h text = let read = text_read bytes (draft_of a) (to_draft a text.0, text.1) in cc
