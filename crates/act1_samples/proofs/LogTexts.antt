-- Worked examples of logs and of answers, and their texts.
use Rattle.std.proofs.Common.{ℕ, ◌≡◌, true, List, [], ◌∷◌, refl}
use Rattle.std.specs.Prelude.{codes, Result, Ok, Err}
use Rattle.std.specs.Fmt.{digits}
use Rattle.act1_base.specs.Texts.{reading}
use Rattle.act1_base.specs.declared.texts.TextFault.{TextFault}
use Rattle.act1_channel.specs.Assignment.{choice_at}
use Rattle.act1_channel.specs.declared.problem.Hint.TheVariants as hint
use Rattle.act1_channel.specs.declared.problem.Step.{Step}
use Rattle.act1_logtext.specs.AnswerSteps.{answer_rules}
use Rattle.act1_logtext.specs.Answers.{draft_text}
use Rattle.act1_logtext.specs.Logs.{Fault, log_rules, log_text}
use Rattle.act1_logtext.specs.declared.draft.AnswerState.{AnswerState}
use Rattle.act1_logtext.specs.declared.draft.AnswerState.TheVariants.{End}
use Rattle.act1_logtext.specs.declared.draft.Draft.{Draft}
use Rattle.act1_logtext.specs.declared.draft.Draft.TheVariants as answer

-- what is read of the text of a log: its steps, or the number of the first faulty line
abbrev Reads : List ℕ → List Step → Type 0
Reads bytes steps = reading log_rules bytes ≡ Ok steps

abbrev FaultsAt : List ℕ → ℕ → Type 0
FaultsAt bytes n = reading log_rules bytes ≡ Err (record { line = n; kind = tt })

-- the refutation of a channel with two tracks and three connections that clash
abbrev first : Step
first = record { choices = choice_at 0 0 ∷ []; hints = hint.Clash 0 1 0 ∷ hint.Clash 0 2 0 ∷ hint.AtLeast 1 ∷ hint.Clash 1 2 1 ∷ hint.AtLeast 2 ∷ [] }

abbrev second : Step
second = record {
  choices = [];
  hints = hint.Step 0 ∷ hint.AtLeast 0 ∷ hint.Clash 0 1 1 ∷ hint.Clash 0 2 1 ∷ hint.AtLeast 1 ∷ hint.Clash 1 2 0 ∷ hint.AtLeast 2 ∷ [];
}

unroutable_text : log_text (first ∷ second ∷ []) ≡ codes "step 0@0 : x0,1@0 x0,2@0 a1 x1,2@1 a2\nstep : s0 a0 x0,1@1 x0,2@1 a1 x1,2@0 a2\n"
unfolding log_text digits
unroutable_text = refl

unroutable_read : Reads (codes "step 0@0 : x0,1@0 x0,2@0 a1 x1,2@1 a2\nstep : s0 a0 x0,1@1 x0,2@1 a1 x1,2@0 a2\n") (first ∷ second ∷ [])
unroutable_read = refl

-- no steps
none : Reads [] []
none = refl

-- the greatest numbers, and one more
greatest : Reads (codes "step 65535@255 : a65535 x65535,65535@255 s4294967295\n") (record { choices = choice_at 65535 255 ∷ []; hints = hint.AtLeast 65535 ∷ hint.Clash 65535 65535 255 ∷ hint.Step 4294967295 ∷ [] } ∷ [])
greatest = refl

past_connection : FaultsAt (codes "step 65536@0 : a0\n") 1
past_connection = refl

past_track : FaultsAt (codes "step 0@300 : a0\n") 1
past_track = refl

past_clash : FaultsAt (codes "step : x0,1@256\n") 1
past_clash = refl

past_step : FaultsAt (codes "step : s4294967296\n") 1
past_step = refl

-- no hint, no colon, two colons, words on the other side of it, and a line without its line feed
no_hint : FaultsAt (codes "step : a0\nstep 0@0 :\n") 2
no_hint = refl

no_colon : FaultsAt (codes "step 0@0 a0\n") 1
no_colon = refl

two_colons : FaultsAt (codes "step : a0 : a0\n") 1
two_colons = refl

choice_behind : FaultsAt (codes "step : 0@0 a0\n") 1
choice_behind = refl

hint_before : FaultsAt (codes "step a0 : a0\n") 1
hint_before = refl

without_line_feed : FaultsAt (codes "step : a0") 1
without_line_feed = refl

-- what is read of the text of an answer: what it says, or the number of the first faulty line
abbrev Says : List ℕ → Draft → Type 0
Says bytes said = reading answer_rules bytes ≡ Ok (End said)

abbrev IsRefusedAt : List ℕ → ℕ → Type 0
IsRefusedAt bytes n = reading answer_rules bytes ≡ Err (record { line = n; kind = tt })

assigned_text : draft_text (answer.Assigned (0 ∷ 12 ∷ [])) ≡ codes "act1 answer 1\nassigned\ntake 0\ntake 12\nend\n"
unfolding draft_text digits
assigned_text = refl

refuted_text : draft_text (answer.Refuted (record { choices = []; hints = hint.AtLeast 0 ∷ [] } ∷ [])) ≡ codes "act1 answer 1\nrefuted\nstep : a0\nend\n"
unfolding draft_text digits
refuted_text = refl

spent_text : draft_text (answer.Spent 1) ≡ codes "act1 answer 1\nspent 1\nend\n"
unfolding draft_text digits
spent_text = refl

assigned : Says (codes "act1 answer 1\nassigned\ntake 0\ntake 65535\nend\n") (answer.Assigned (0 ∷ 65535 ∷ []))
assigned = refl

no_tracks : Says (codes "act1 answer 1\nassigned\nend\n") (answer.Assigned [])
no_tracks = refl

refuted : Says (codes "act1 answer 1\nrefuted\nstep : a0\nend\n") (answer.Refuted (record { choices = []; hints = hint.AtLeast 0 ∷ [] } ∷ []))
refuted = refl

no_steps : Says (codes "act1 answer 1\nrefuted\nend\n") (answer.Refuted [])
no_steps = refl

spent : Says (codes "act1 answer 1\nspent 0\nend\n") (answer.Spent 0)
spent = refl

-- cut texts, texts that go on, and lines of another answer
nothing : IsRefusedAt [] 1
nothing = refl

cut : IsRefusedAt (codes "act1 answer 1\nspent 1\n") 3
cut = refl

goes_on : IsRefusedAt (codes "act1 answer 1\nspent 1\nend\n\n") 4
goes_on = refl

other_line : IsRefusedAt (codes "act1 answer 1\nassigned\nstep : a0\nend\n") 3
other_line = refl

past_take : IsRefusedAt (codes "act1 answer 1\nassigned\ntake 65536\n") 3
past_take = refl

past_spent : IsRefusedAt (codes "act1 answer 1\nspent 18446744073709551616\n") 2
past_spent = refl
