-- The text of an answer, piece by piece.
use Rattle.std.proofs.Common.{ℕ, ◌≡◌, List, [], ◌∷◌, ◌++◌, map, refl, sym, ap, ◌∙◌, append_assoc, append-nil}
use Rattle.std.proofs.lemmas.List.{map-append}
use Rattle.std.proofs.lemmas.List.Concat.{flat_map-append}
use Rattle.act1_base.specs.Words.{text_line, text_of_lines}
use Rattle.act1_channel.specs.declared.problem.Step.{Step}
use Rattle.act1_table.specs.Formats.{own_words}
use Rattle.act1_table.specs.Forms.{line_words}
use Rattle.act1_table.specs.Table.{Form}
use Rattle.act1_logtext.specs.Answers.{answer_table, given_of, answer_format, draft_of, body_lines, draft_text, answer_text}
use Rattle.act1_logtext.specs.Logs.{log_table, log_text}
use Rattle.act1_logtext.specs.WriteSteps.{step_line_words, take_words, body_words}
use Rattle.act1_logtext.specs.declared.answer.Answer.{Answer}
use Rattle.act1_logtext.specs.declared.answer.Answer.TheVariants as answer
use Rattle.act1_logtext.specs.declared.draft.AnswerLine.{AnswerLine}
use Rattle.act1_logtext.specs.declared.draft.AnswerLine.TheVariants as line

pub log_written : (start text : List ℕ) (table : List Form) (some steps : List Step) → start ≡ [] → table ≡ log_table → some ≡ steps
    → text ≡ start ++ text_of_lines (map (step_line_words table 0) some) → text ≡ log_text steps
unfolding log_text
log_written start text table some steps none of same is =
    is ∙ ap (λ (bytes : List ℕ). bytes ++ text_of_lines (map (step_line_words table 0) some)) none
    ∙ ap (λ (forms : List Form). text_of_lines (map (step_line_words forms 0) some)) of
    ∙ ap (λ (ss : List Step). text_of_lines (map (step_line_words log_table 0) ss)) same

abbrev own : AnswerLine → List (List ℕ)
own l = own_words answer_format l

tracks_words : (tracks : List ℕ) → map own (map (λ (track : ℕ). line.Take track) tracks) ≡ map take_words tracks
tracks_words [] = refl
tracks_words (track ∷ tracks) = ap (λ (ws : List (List (List ℕ))). take_words track ∷ ws) (tracks_words tracks)

steps_words : (steps : List Step) → map own (map (λ (s : Step). line.Step s) steps) ≡ map (step_line_words answer_table 4) steps
steps_words [] = refl
steps_words (s ∷ steps) = ap (λ (ws : List (List (List ℕ))). step_line_words answer_table 4 s ∷ ws) (steps_words steps)

lines_words : (a : Answer) → map own (body_lines (draft_of a)) ≡ body_words a
lines_words (answer.Assigned tracks) = ap (λ (ws : List (List (List ℕ))). line_words answer_table (given_of line.Assigned) ∷ ws) (tracks_words tracks)
lines_words (answer.Refuted log) = ap (λ (ws : List (List (List ℕ))). line_words answer_table (given_of line.Refuted) ∷ ws) (steps_words log.steps)
lines_words (answer.Spent conflicts) = refl

abbrev head : List (List ℕ)
head = line_words answer_table (given_of line.Header)

abbrev last : List (List ℕ)
last = line_words answer_table (given_of line.End)

texts : (h e : List (List ℕ)) (body : List (List (List ℕ))) → text_of_lines (h ∷ (body ++ e ∷ [])) ≡ (text_line h ++ text_of_lines body) ++ text_line e
texts h e body =
    ap (λ (bytes : List ℕ). text_line h ++ bytes) (flat_map-append text_line body (e ∷ []) ∙ ap (λ (bytes : List ℕ). text_of_lines body ++ bytes) (append-nil (text_line e)))
    ∙ sym (append_assoc (text_line h) (text_of_lines body) (text_line e))

text_is : (a : Answer) → answer_text a ≡ (text_line head ++ text_of_lines (body_words a)) ++ text_line last
unfolding draft_text
text_is a =
    ap (λ (ws : List (List (List ℕ))). text_of_lines (head ∷ ws)) (map-append own (body_lines (draft_of a)) (line.End ∷ []) ∙ ap (λ (ws : List (List (List ℕ))). ws ++ last ∷ []) (lines_words a))
    ∙ texts head last (body_words a)

pub answer_written : (a : Answer) (start first body whole : List ℕ) → start ≡ [] → first ≡ start ++ text_line head → body ≡ first ++ text_of_lines (body_words a) → whole ≡ body ++ text_line last → whole ≡ answer_text a
answer_written a start first body whole none f b w =
    w ∙ ap (λ (bytes : List ℕ). bytes ++ text_line last) (b ∙ ap (λ (bytes : List ℕ). bytes ++ text_of_lines (body_words a)) (f ∙ ap (λ (bytes : List ℕ). bytes ++ text_line head) none))
    ∙ sym (text_is a)
