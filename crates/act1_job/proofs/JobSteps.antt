-- The lines of a job lead to its end, and lines that lead to an end are those of a job.
use Rattle.std.proofs.Common.{ℕ, ◌≡◌, ◌≤◌, ◌<◌, ◌+◌, nat_le, nat_lt, Bool, true, false, ◌&&◌, IsTrue, List, [], ◌∷◌, ◌++◌, length, map, Result, Ok, refl, sym, ap, subst, ◌∙◌, append_assoc, append-nil, arith}
use Rattle.std.specs.List.{list_all}
use Rattle.std.proofs.lemmas.Bool.Decides.{nat_tests}
use Rattle.std.proofs.lemmas.List.{length-append, map-append}
use Rattle.act1_base.specs.Rising.{is_rising}
use Rattle.act1_channel.specs.Ranges.{is_within, is_track, is_connection, is_problem}
use Rattle.act1_channel.specs.declared.problem.Connection.{Connection}
use Rattle.act1_table.specs.Formats.{IsFine, Leads, CanEnd}
use Rattle.act1_table.proofs.NumberLaws.{both}
use Rattle.act1_job.specs.Jobs.{breaks_rise, are_breaks, is_budget, is_draft}
use Rattle.act1_job.specs.Lines.{job_format, body_lines, draft_lines}
use Rattle.act1_job.specs.Steps.{Fault, if_so, is_empty, empty_draft, with_track, with_connection, takes_track, takes_connection, body_step, step, end, job_steps}
use Rattle.act1_job.specs.declared.draft.Draft.{Draft}
use Rattle.act1_job.specs.declared.line.JobLine.{JobLine}
use Rattle.act1_job.specs.declared.line.JobLine.TheVariants as line
use Rattle.act1_job.specs.declared.line.JobState.{JobState}
use Rattle.act1_job.specs.declared.line.JobState.TheVariants as state

-- what a job keeps, part by part
pub record IsFit (d : Draft) : Type 0 where
  pub columns : IsTrue (is_within 2 64 d.columns)
  pub k : IsTrue (is_within 1 64 d.k)
  pub budget : IsTrue (is_budget d.budget)
  pub few_tracks : length d.tracks ≤ 64
  pub tracks : IsTrue (list_all (are_breaks d.columns) d.tracks)
  pub few : length d.connections ≤ 8192
  pub connections : IsTrue (list_all (is_connection d.columns) d.connections)
  pub some : 0 < length d.connections → 0 < length d.tracks

within_by : (low high n : ℕ) → low ≤ n → n ≤ high → IsTrue (is_within low high n)
within_by low high n h k = grind (arith, nat_tests)

within_low : (low high n : ℕ) → IsTrue (is_within low high n) → low ≤ n
within_low low high n h = grind (arith, nat_tests)

pub within_high : (low high n : ℕ) → IsTrue (is_within low high n) → n ≤ high
within_high low high n h = grind (arith, nat_tests)

le_test : (n most : ℕ) → n ≤ most → IsTrue (nat_le n most)
le_test n most h = grind (arith, nat_tests)

pub test_le : (n most : ℕ) → IsTrue (nat_le n most) → n ≤ most
test_le n most h = grind (arith, nat_tests)

lt_test : (n most : ℕ) → n < most → IsTrue (nat_lt n most)
lt_test n most h = grind (arith, nat_tests)

pub test_lt : (n most : ℕ) → IsTrue (nat_lt n most) → n < most
test_lt n most h = grind (arith, nat_tests)

all_of : (a b c d e f : Bool) → IsTrue a → IsTrue b → IsTrue c → IsTrue d → IsTrue e → IsTrue f → IsTrue (a && b && c && d && e && f)
all_of a b c d e f ha hb hc hd he hf = rw (ha, hb, hc, hd, he) hf

pub two : (a b : Bool) → IsTrue a → IsTrue b → IsTrue (a && b)
two a b h k = rw h k

-- the breaks of a track rise from 1 on, each below the columns

abbrev is_inside : ℕ → ℕ → Bool
is_inside columns b = nat_le 1 b && nat_lt b columns

rise_on : (columns before : ℕ) (breaks : List ℕ) → IsTrue (breaks_rise columns before breaks) → IsTrue (is_rising breaks) × IsTrue (list_all (is_inside columns) breaks)
rise_on columns before [] h = (refl, refl)
rise_on columns before (b ∷ []) h =
    let p = both (nat_lt before b) (nat_lt b columns) (both (nat_lt before b && nat_lt b columns) true h).0 in
    let low = test_lt before b p.0 in
    (refl, two (is_inside columns b) true (two (nat_le 1 b) (nat_lt b columns) (le_test 1 b (omega arith)) p.1) refl)
rise_on columns before (b ∷ c ∷ breaks) h =
    let outer = both (nat_lt before b && nat_lt b columns) (breaks_rise columns b (c ∷ breaks)) h in
    let p = both (nat_lt before b) (nat_lt b columns) outer.0 in
    let low = test_lt before b p.0 in
    let rest = rise_on columns b (c ∷ breaks) outer.1 in
    let next = both (nat_lt b c) (nat_lt c columns) (both (nat_lt b c && nat_lt c columns) (breaks_rise columns c breaks) outer.1).0 in (
      two (nat_lt b c) (is_rising (c ∷ breaks)) next.0 rest.0,
      two (is_inside columns b) (list_all (is_inside columns) (c ∷ breaks)) (two (nat_le 1 b) (nat_lt b columns) (le_test 1 b (omega arith)) p.1) rest.1,
    )

rise_from : (columns before b : ℕ) (breaks : List ℕ) → before < b → IsTrue (is_rising (b ∷ breaks)) → IsTrue (list_all (is_inside columns) (b ∷ breaks)) → IsTrue (breaks_rise columns before (b ∷ breaks))
rise_from columns before b [] low rise all =
    let below = (both (nat_le 1 b) (nat_lt b columns) (both (is_inside columns b) true all).0).1 in
    two (nat_lt before b && nat_lt b columns) true (two (nat_lt before b) (nat_lt b columns) (lt_test before b low) below) refl
rise_from columns before b (c ∷ breaks) low rise all =
    let inside = both (is_inside columns b) (list_all (is_inside columns) (c ∷ breaks)) all in
    let below = (both (nat_le 1 b) (nat_lt b columns) inside.0).1 in
    let next = both (nat_lt b c) (is_rising (c ∷ breaks)) rise in
    two (nat_lt before b && nat_lt b columns) (breaks_rise columns b (c ∷ breaks)) (two (nat_lt before b) (nat_lt b columns) (lt_test before b low) below)
    (rise_from columns b c breaks (test_lt b c next.0) next.1 inside.1)

track_by : (columns : ℕ) (breaks : List ℕ) → IsTrue (are_breaks columns breaks) → IsTrue (is_track columns breaks)
track_by columns breaks h = let r = rise_on columns 0 breaks h in two (is_rising breaks) (list_all (is_inside columns) breaks) r.0 r.1

by_track : (columns : ℕ) (breaks : List ℕ) → IsTrue (is_track columns breaks) → IsTrue (are_breaks columns breaks)
by_track columns [] h = refl
by_track columns (b ∷ breaks) h =
    let p = both (is_rising (b ∷ breaks)) (list_all (is_inside columns) (b ∷ breaks)) h in
    let low = test_le 1 b (both (nat_le 1 b) (nat_lt b columns) (both (is_inside columns b) (list_all (is_inside columns) breaks) p.1).0).0 in
    rise_from columns 0 b breaks (omega arith) p.0 p.1

all_by : {A : Type 0} (f g : A → Bool) (xs : List A) → ((x : A) → IsTrue (f x) → IsTrue (g x)) → IsTrue (list_all f xs) → IsTrue (list_all g xs)
all_by f g [] each h = refl
all_by f g (x ∷ xs) each h = let p = both (f x) (list_all f xs) h in two (g x) (list_all g xs) (each x p.0) (all_by f g xs each p.1)

-- a draft with a track is a job

pub fit_is_problem : (d : Draft) → IsFit d → 0 < length d.tracks → IsTrue (is_problem d.columns d.k d.tracks d.connections)
unfolding is_problem
fit_is_problem d fit some =
    let few = fit.few_tracks in
    all_of (is_within 2 64 d.columns) (is_within 1 64 d.k) (is_within 1 64 (length d.tracks)) (nat_le (length d.connections) 8192) (list_all (is_track d.columns) d.tracks) (list_all (is_connection d.columns) d.connections)
    fit.columns fit.k (within_by 1 64 (length d.tracks) (omega arith) few) (le_test (length d.connections) 8192 fit.few)
    (all_by (are_breaks d.columns) (is_track d.columns) d.tracks (track_by d.columns) fit.tracks) fit.connections

pub fit_is_draft : (d : Draft) → IsFit d → 0 < length d.tracks → IsTrue (is_draft d)
fit_is_draft d fit some = two (is_problem d.columns d.k d.tracks d.connections) (is_budget d.budget) (fit_is_problem d fit some) fit.budget

problem_is_fit : (d : Draft) → IsTrue (is_problem d.columns d.k d.tracks d.connections) → IsTrue (is_budget d.budget) → IsFit d × (0 < length d.tracks)
unfolding is_problem
problem_is_fit d h budget =
    let columns = is_within 2 64 d.columns in
    let k = is_within 1 64 d.k in
    let many = is_within 1 64 (length d.tracks) in
    let few = nat_le (length d.connections) 8192 in
    let tracks = list_all (is_track d.columns) d.tracks in
    let outer = both (columns && k && many && few && tracks) (list_all (is_connection d.columns) d.connections) h in
    let w = both (columns && k && many && few) tracks outer.0 in
    let x = both (columns && k && many) few w.0 in
    let y = both (columns && k) many x.0 in
    let z = both columns k y.0 in
    let some : 0 < length d.tracks = let low = within_low 1 64 (length d.tracks) y.1 in omega arith in (
      record {
        columns = z.0;
        k = z.1;
        budget = budget;
        few_tracks = within_high 1 64 (length d.tracks) y.1;
        tracks = all_by (is_track d.columns) (are_breaks d.columns) d.tracks (by_track d.columns) w.1;
        few = test_le (length d.connections) 8192 x.1;
        connections = outer.1;
        some = λ any. some;
      },
      some,
    )

pub draft_is_fit : (d : Draft) → IsTrue (is_draft d) → IsFit d × (0 < length d.tracks)
draft_is_fit d h = let p = both (is_problem d.columns d.k d.tracks d.connections) (is_budget d.budget) h in problem_is_fit d p.0 p.1

-- the lines of a job lead to its end

leads_on : (s t u : JobState) (xs ys : List JobLine) → Leads job_format job_steps s xs t → Leads job_format job_steps t ys u → Leads job_format job_steps s (xs ++ ys) u
leads_on s t u [] ys h k = subst (λ (v : JobState). Leads job_format job_steps v ys u) (sym h) k
leads_on s t u (x ∷ xs) ys h k = (h.0, h.1, leads_on h.0 t u xs ys h.2 k)

-- a job with these tracks and connections
abbrev draft_at : ℕ → ℕ → ℕ → List (List ℕ) → List Connection → Draft
draft_at columns k budget tracks connections = record { columns = columns; k = k; budget = budget; tracks = tracks; connections = connections }

abbrev pub track_lines : List (List ℕ) → List JobLine
track_lines tracks = map (λ (breaks : List ℕ). line.Track breaks) tracks

abbrev pub connection_lines : List Connection → List JobLine
connection_lines connections = map (λ (connection : Connection). line.Connection connection) connections

taken : (test : Bool) (s : JobState) → IsTrue test → if_so test s ≡ Ok s
taken true s h = refl
taken false s h = cc

module _ (columns k budget : ℕ) where
  tracks_lead : (before tracks : List (List ℕ)) → IsTrue (list_all (are_breaks columns) tracks) → length before + length tracks ≤ 64
      → Leads job_format job_steps (state.Body (draft_at columns k budget before [])) (track_lines tracks) (state.Body (draft_at columns k budget (before ++ tracks) []))
  tracks_lead before [] fine few = ap (λ (ts : List (List ℕ)). state.Body (draft_at columns k budget ts [])) (sym (append-nil before))
  tracks_lead before (breaks ∷ tracks) fine few =
      let p = both (are_breaks columns breaks) (list_all (are_breaks columns) tracks) fine in
      let room = lt_test (length before) 64 (omega arith) in
      let long = length-append before (breaks ∷ []) in
      let rest = tracks_lead (before ++ breaks ∷ []) tracks p.1 (omega arith) in (
        state.Body (draft_at columns k budget (before ++ breaks ∷ []) []),
        taken (nat_lt (length before) 64 && are_breaks columns breaks) _ (two (nat_lt (length before) 64) (are_breaks columns breaks) room p.0),
        subst (λ (ts : List (List ℕ)). Leads job_format job_steps (state.Body (draft_at columns k budget (before ++ breaks ∷ []) [])) (track_lines tracks) (state.Body (draft_at columns k budget ts []))) (append_assoc before (breaks ∷ []) tracks) rest,
      )

  connections_lead : (tracks : List (List ℕ)) (before connections : List Connection) → 0 < length tracks → IsTrue (list_all (is_connection columns) connections) → length before + length connections ≤ 8192
      → Leads job_format job_steps (state.Body (draft_at columns k budget tracks before)) (connection_lines connections) (state.Body (draft_at columns k budget tracks (before ++ connections)))
  connections_lead tracks before [] some fine few = ap (λ (cs : List Connection). state.Body (draft_at columns k budget tracks cs)) (sym (append-nil before))
  connections_lead tracks before (c ∷ connections) some fine few =
      let p = both (is_connection columns c) (list_all (is_connection columns) connections) fine in
      let room = lt_test (length before) 8192 (omega arith) in
      let long = length-append before (c ∷ []) in
      let rest = connections_lead tracks (before ++ c ∷ []) connections some p.1 (omega arith) in (
        state.Body (draft_at columns k budget tracks (before ++ c ∷ [])),
        taken _ _ (two (nat_lt 0 (length tracks)) (nat_lt (length before) 8192 && is_connection columns c) (lt_test 0 (length tracks) some) (two (nat_lt (length before) 8192) (is_connection columns c) room p.0)),
        subst (λ (cs : List Connection). Leads job_format job_steps (state.Body (draft_at columns k budget tracks (before ++ c ∷ []))) (connection_lines connections) (state.Body (draft_at columns k budget tracks cs))) (append_assoc before (c ∷ []) connections) rest,
      )

pub draft_leads : (d : Draft) → IsTrue (is_draft d) → Leads job_format job_steps state.Start (draft_lines d) (state.End d)
draft_leads d h =
    let both = draft_is_fit d h in
    let fit = both.0 in
    let some = both.1 in
    let few_tracks = fit.few_tracks in
    let few = fit.few in
    let body = state.Body (draft_at d.columns d.k d.budget [] []) in
    let tracks = tracks_lead d.columns d.k d.budget [] d.tracks fit.tracks (omega arith) in
    let connections = connections_lead d.columns d.k d.budget d.tracks [] d.connections some fit.connections (omega arith) in
    leads_on state.Start (state.Body d) (state.End d) (body_lines d) (line.End ∷ []) (
      state.Header,
      refl,
      (
        state.Columns d.columns,
        taken (is_within 2 64 d.columns) _ fit.columns,
        (
          state.K d.columns d.k,
          taken (is_within 1 64 d.k) _ fit.k,
          (
            body,
            taken (is_budget d.budget) _ fit.budget,
            leads_on body (state.Body (draft_at d.columns d.k d.budget d.tracks [])) (state.Body d) (track_lines d.tracks) (connection_lines d.connections) tracks connections,
          ),
        ),
      ),
    )
    (state.End d, taken (nat_lt 0 (length d.tracks)) (state.End d) (lt_test 0 (length d.tracks) some), refl)

-- lines that lead to a state are those that it says

abbrev pub IsGood : JobState → Type 0
IsGood state.Start = Unit {0}
IsGood state.Header = Unit {0}
IsGood (state.Columns columns) = IsTrue (is_within 2 64 columns)
IsGood (state.K columns k) = IsTrue (is_within 2 64 columns) × IsTrue (is_within 1 64 k)
IsGood (state.Body d) = IsFit d
IsGood (state.End d) = IsTrue (is_draft d)

abbrev said : JobState → List JobLine
said state.Start = []
said state.Header = line.Header ∷ []
said (state.Columns columns) = line.Header ∷ line.Columns columns ∷ []
said (state.K columns k) = line.Header ∷ line.Columns columns ∷ line.K k ∷ []
said (state.Body d) = body_lines d
said (state.End d) = draft_lines d

-- what is said of the state after a line
abbrev IsNext : List JobLine → JobLine → JobState → Type 0
IsNext before l t = IsGood t × (said t ≡ before ++ l ∷ [])

ok_is : (s t : JobState) → let r : Result JobState Fault = Ok s in r ≡ Ok t → s ≡ t
ok_is s t h = cc

passed : (test : Bool) (s t : JobState) → if_so test s ≡ Ok t → IsTrue test × (s ≡ t)
passed true s t h = (refl, ok_is s t h)
passed false s t h = cc

none_of : {A : Type 0} (xs : List A) → IsTrue (is_empty xs) → xs ≡ []
none_of [] h = refl
none_of (x ∷ xs) h = cc

all_more : {A : Type 0} (test : A → Bool) (xs : List A) (x : A) → IsTrue (list_all test xs) → IsTrue (test x) → IsTrue (list_all test (xs ++ x ∷ []))
all_more test [] x h k = two (test x) true k refl
all_more test (y ∷ xs) x h k = let p = both (test y) (list_all test xs) h in two (test y) (list_all test (xs ++ x ∷ [])) p.0 (all_more test xs x p.1 k)

one_more : {A : Type 0} (xs : List A) (x : A) → length (xs ++ x ∷ []) ≡ length xs + 1
one_more xs x = let long = length-append xs (x ∷ []) in omega arith

tracks_said : (tracks : List (List ℕ)) (breaks : List ℕ) (connections : List Connection) → connections ≡ []
    → track_lines (tracks ++ breaks ∷ []) ++ connection_lines connections ≡ (track_lines tracks ++ connection_lines connections) ++ line.Track breaks ∷ []
tracks_said tracks breaks connections none =
    let f : List ℕ → JobLine = λ b. line.Track b in
    ap (λ (cs : List Connection). track_lines (tracks ++ breaks ∷ []) ++ connection_lines cs) none
    ∙ append-nil (track_lines (tracks ++ breaks ∷ []))
    ∙ map-append f tracks (breaks ∷ [])
    ∙ ap (λ (ls : List JobLine). ls ++ line.Track breaks ∷ []) (sym (append-nil (track_lines tracks)))
    ∙ ap (λ (cs : List Connection). (track_lines tracks ++ connection_lines cs) ++ line.Track breaks ∷ []) (sym none)

connections_said : (front : List JobLine) (connections : List Connection) (c : Connection) → front ++ connection_lines (connections ++ c ∷ []) ≡ (front ++ connection_lines connections) ++ line.Connection c ∷ []
connections_said front connections c =
    let f : Connection → JobLine = λ x. line.Connection x in
    ap (λ (ls : List JobLine). front ++ ls) (map-append f connections (c ∷ [])) ∙ sym (append_assoc front (connection_lines connections) (line.Connection c ∷ []))

-- the lines up to the budget, and those behind it
abbrev behind_head : Draft → List JobLine → List JobLine
behind_head d lines = line.Header ∷ line.Columns d.columns ∷ line.K d.k ∷ line.Budget d.budget ∷ lines

track_kept : (d : Draft) (breaks : List ℕ) → IsFit d → IsTrue (takes_track d breaks) → IsNext (body_lines d) (line.Track breaks) (state.Body (with_track d breaks))
track_kept d breaks fit h =
    let outer = both (is_empty d.connections) (nat_lt (length d.tracks) 64 && are_breaks d.columns breaks) h in
    let inner = both (nat_lt (length d.tracks) 64) (are_breaks d.columns breaks) outer.1 in
    let room = test_lt (length d.tracks) 64 inner.0 in
    let long = one_more d.tracks breaks in (
      record {
        columns = fit.columns;
        k = fit.k;
        budget = fit.budget;
        few_tracks = omega arith;
        tracks = all_more (are_breaks d.columns) d.tracks breaks fit.tracks inner.1;
        few = fit.few;
        connections = fit.connections;
        some = λ any. omega (arith, long);
      },
      ap (behind_head d) (tracks_said d.tracks breaks d.connections (none_of d.connections outer.0)),
    )

connection_kept : (d : Draft) (c : Connection) → IsFit d → IsTrue (takes_connection d c) → IsNext (body_lines d) (line.Connection c) (state.Body (with_connection d c))
connection_kept d c fit h =
    let outer = both (nat_lt 0 (length d.tracks)) (nat_lt (length d.connections) 8192 && is_connection d.columns c) h in
    let inner = both (nat_lt (length d.connections) 8192) (is_connection d.columns c) outer.1 in
    let room = test_lt (length d.connections) 8192 inner.0 in
    let long = one_more d.connections c in (
      record {
        columns = fit.columns;
        k = fit.k;
        budget = fit.budget;
        few_tracks = fit.few_tracks;
        tracks = fit.tracks;
        few = omega arith;
        connections = all_more (is_connection d.columns) d.connections c fit.connections inner.1;
        some = λ any. test_lt 0 (length d.tracks) outer.0;
      },
      ap (behind_head d) (connections_said (track_lines d.tracks) d.connections c),
    )

body_kept : (d : Draft) (l : JobLine) (t : JobState) → IsFit d → body_step d l ≡ Ok t → IsNext (body_lines d) l t
body_kept d (line.Track breaks) t fit h =
    let p = passed (takes_track d breaks) (state.Body (with_track d breaks)) t h in
    subst (IsNext (body_lines d) (line.Track breaks)) p.1 (track_kept d breaks fit p.0)
body_kept d (line.Connection c) t fit h =
    let p = passed (takes_connection d c) (state.Body (with_connection d c)) t h in
    subst (IsNext (body_lines d) (line.Connection c)) p.1 (connection_kept d c fit p.0)
body_kept d line.End t fit h =
    let p = passed (nat_lt 0 (length d.tracks)) (state.End d) t h in
    subst (IsNext (body_lines d) line.End) p.1 (fit_is_draft d fit (test_lt 0 (length d.tracks) p.0), refl)
body_kept d line.Header t fit h = cc
body_kept d (line.Columns n) t fit h = cc
body_kept d (line.K n) t fit h = cc
body_kept d (line.Budget n) t fit h = cc

empty_fit : (columns k budget : ℕ) → IsTrue (is_within 2 64 columns) → IsTrue (is_within 1 64 k) → IsTrue (is_budget budget) → IsFit (empty_draft columns k budget)
empty_fit columns k budget a b c = record { columns = a; k = b; budget = c; few_tracks = omega arith; tracks = refl; few = omega arith; connections = refl; some = λ any. any }

kept : (s t : JobState) (l : JobLine) → IsGood s → step s l ≡ Ok t → IsNext (said s) l t
kept state.Start t line.Header good h = subst (IsNext [] line.Header) (ok_is state.Header t h) (tt, refl)
kept state.Header t (line.Columns columns) good h =
    let p = passed (is_within 2 64 columns) (state.Columns columns) t h in
    subst (IsNext (said state.Header) (line.Columns columns)) p.1 (p.0, refl)
kept (state.Columns columns) t (line.K k) good h =
    let p = passed (is_within 1 64 k) (state.K columns k) t h in
    subst (IsNext (said (state.Columns columns)) (line.K k)) p.1 ((good, p.0), refl)
kept (state.K columns k) t (line.Budget budget) good h =
    let p = passed (is_budget budget) (state.Body (empty_draft columns k budget)) t h in
    subst (IsNext (said (state.K columns k)) (line.Budget budget)) p.1 (empty_fit columns k budget good.0 good.1 p.0, refl)
kept (state.Body d) t l good h = body_kept d l t good h
kept s t l good h = cc

leads_said : (lines : List JobLine) (s t : JobState) → IsGood s → Leads job_format job_steps s lines t → IsGood t × (said t ≡ said s ++ lines)
leads_said [] s t good h = (subst IsGood h good, sym (ap said h) ∙ sym (append-nil (said s)))
leads_said (l ∷ lines) s t good h =
    let one = kept s h.0 l good h.1 in
    let rest = leads_said lines h.0 t one.0 h.2 in
    (rest.0, rest.1 ∙ ap (λ (ls : List JobLine). ls ++ lines) one.1 ∙ append_assoc (said s) (l ∷ []) lines)

-- what a state is in which a text may end
pub record IsWhole (last ended : JobState) : Type 0 where
  pub draft : Draft
  pub last_is : last ≡ state.End draft
  pub ended_is : ended ≡ state.End draft
  pub good : IsTrue (is_draft draft)

whole_by : (last ended : JobState) → IsGood last → end last ≡ Ok ended → IsWhole last ended
whole_by (state.End d) ended good h = record { draft = d; last_is = refl; ended_is = sym (ok_is (state.End d) ended h); good = good }
whole_by state.Start ended good h = cc
whole_by state.Header ended good h = cc
whole_by (state.Columns c) ended good h = cc
whole_by (state.K c k) ended good h = cc
whole_by (state.Body d) ended good h = cc

-- lines that lead to an end are those of a job
pub lines_are_draft : (lines : List JobLine) (last ended : JobState) → Leads job_format job_steps state.Start lines last → end last ≡ Ok ended → (d : Draft) × (ended ≡ state.End d) × IsTrue (is_draft d) × (lines ≡ draft_lines d)
lines_are_draft lines last ended leads ends =
    let r = leads_said lines state.Start last tt leads in
    let whole = whole_by last ended r.0 ends in
    (whole.draft, whole.ended_is, whole.good, sym r.1 ∙ ap said whole.last_is)

-- lines that are taken can be completed

pub good_after : (lines : List JobLine) (s : JobState) → Leads job_format job_steps state.Start lines s → IsGood s
good_after lines s leads = (leads_said lines state.Start s tt leads).0

and_then_end : (s next : JobState) (l : JobLine) → IsFine job_format l → step s l ≡ Ok next → CanEnd job_format job_steps next → CanEnd job_format job_steps s
and_then_end s next l fine h c = record {
  more = l ∷ c.more;
  last = c.last;
  end = c.end;
  fine = (fine, c.fine);
  leads = (next, h, c.leads);
  ends = c.ends;
}

at_end : (d : Draft) → CanEnd job_format job_steps (state.End d)
at_end d = record { more = []; last = state.End d; end = state.End d; fine = tt; leads = refl; ends = refl }

behind_track : (d : Draft) → 0 < length d.tracks → CanEnd job_format job_steps (state.Body d)
behind_track d some = and_then_end (state.Body d) (state.End d) line.End (tt, tt) (taken _ (state.End d) (lt_test 0 (length d.tracks) some)) (at_end d)

without_tracks : (columns k budget : ℕ) → CanEnd job_format job_steps (state.Body (draft_at columns k budget [] []))
without_tracks columns k budget =
    and_then_end (state.Body (draft_at columns k budget [] [])) (state.Body (draft_at columns k budget ([] ∷ []) [])) (line.Track []) (tt, tt) refl
    (behind_track (draft_at columns k budget ([] ∷ []) []) (omega arith))

in_body : (columns k budget : ℕ) (tracks : List (List ℕ)) (connections : List Connection) → (0 < length connections → 0 < length tracks) → CanEnd job_format job_steps (state.Body (draft_at columns k budget tracks connections))
in_body columns k budget (breaks ∷ tracks) connections some = behind_track (draft_at columns k budget (breaks ∷ tracks) connections) (omega arith)
in_body columns k budget [] [] some = without_tracks columns k budget
in_body columns k budget [] (c ∷ connections) some = let no = some (omega arith) in absurd (omega arith)

behind_k : (columns k : ℕ) → CanEnd job_format job_steps (state.K columns k)
behind_k columns k = and_then_end (state.K columns k) (state.Body (empty_draft columns k 1)) (line.Budget 1) (tt, ((omega arith, tt), tt)) refl (without_tracks columns k 1)

behind_columns : (columns : ℕ) → CanEnd job_format job_steps (state.Columns columns)
behind_columns columns = and_then_end (state.Columns columns) (state.K columns 1) (line.K 1) (tt, ((omega arith, tt), tt)) refl (behind_k columns 1)

behind_header : CanEnd job_format job_steps state.Header
behind_header = and_then_end state.Header (state.Columns 2) (line.Columns 2) (tt, ((omega arith, tt), tt)) refl (behind_columns 2)

pub can_end : (s : JobState) → IsGood s → CanEnd job_format job_steps s
can_end state.Start good = and_then_end state.Start state.Header line.Header (tt, (tt, (tt, tt))) refl behind_header
can_end state.Header good = behind_header
can_end (state.Columns columns) good = behind_columns columns
can_end (state.K columns k) good = behind_k columns k
can_end (state.Body d) good = in_body d.columns d.k d.budget d.tracks d.connections good.some
can_end (state.End d) good = at_end d
