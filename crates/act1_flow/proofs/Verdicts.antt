-- What the verdicts of the channels say of a routed plan.
use Rattle.std.proofs.Common.{ℕ, zero, suc, ◌≡◌, ◌⊎◌, ◌<◌, ◌≤◌, ◌+◌, List, [], ◌∷◌, ◌++◌, length, map, Some, inl, inr, sym, ap, subst, ◌∙◌, refl, arith, slice_get, append-nil}
use Rattle.std.specs.Prelude.{slice_index_or, Result, Ok, Err, IfOk, IfErr}
use Rattle.std.specs.Iterator.{Yields}
use Rattle.std.specs.Vec.Iter.{into_iter_items, into_iter_steps}
use Rattle.std.specs.declared.vec.IntoIter.{IntoIter}
use Rattle.std.proofs.lemmas.List.{length-map, length-append}
use Rattle.std.proofs.lemmas.Option.{slice_get-get_or}
use Rattle.act1_base.proofs.ListGets.{one_at, get_cases, get_in, get_map, get_mapped, get_within}
use Rattle.act1_net.proofs.Chosen.{get_before, get_behind}
use Rattle.act1_outside.specs.Outside.{Bench}
use Rattle.act1_outside.specs.declared.helpers.Entry.{Entry}
use Rattle.act1_channel.specs.declared.problem.Log.{Log}
use Rattle.act1_channel.specs.declared.problem.Problem.{Problem}
use Rattle.act1_search.specs.declared.verdict.Verdict.{Verdict}
use Rattle.act1_search.specs.declared.verdict.Verdict.TheVariants.{Assigned, Refuted}
use Rattle.act1_search.specs.declared.verdict.SearchStop.TheVariants as search
use Rattle.act1_search.specs.Answers.{IsAnswer}
use Rattle.act1_search.specs.Exact.{AssignmentsFit}
use Rattle.act1_device.specs.declared.device.Device.{Device}
use Rattle.act1_device.specs.Laws.{IsSmall}
use Rattle.act1_plan.specs.declared.plan.Plan.{Plan}
use Rattle.act1_groute.specs.Routes.{routes, IsProblemOf}
use Rattle.act1_groute.specs.declared.wiring.Wiring.{Wiring}
use Rattle.act1_farm.specs.declared.outcome.FarmStop.{FarmStop}
use Rattle.act1_farm.specs.declared.outcome.FarmStop.TheVariants as farm
use Rattle.act1_farm.specs.declared.outcome.Outcome.{Outcome}
use Rattle.act1_farm.specs.declared.outcome.Tally.{Tally}
use Rattle.act1_farm.specs.Jobs.{BeganStory}
use Rattle.act1_farm.specs.Story.{IsStory, asked_for, jobs_of}
use Rattle.act1_farm.specs.Usable.{Decides}
use Rattle.act1_farm.specs.Verdicts as is_assigned
use Rattle.act1_farm.specs.Verdicts.{AreVerdicts, Gives, IsRefuted, IsSpent, IsVerdict, NoneCame, Stops, WereAsked}
use Rattle.act1_flow.specs.declared.answer.Settings.{Settings}
use Rattle.act1_flow.specs.declared.assigning.ChannelStop.{ChannelStop}
use Rattle.act1_flow.specs.declared.assigning.ChannelStop.TheVariants as channel_stop
use Rattle.act1_flow.specs.declared.assigning.Tracked.{Tracked}
use Rattle.act1_flow.specs.Flow.{AreAssignedBefore, AreAssignedTo, AreProblemsOf, IsAsking, IsAssigned, IsDecided, IsProblemAt}
use Rattle.act1_flow.specs.Helping.{Helping, helping_of}
use Rattle.act1_flow.specs.Steps.{AreFirstProblems, AreTracksOf, ChannelCalls, ChannelsWereAsked, EndsAt, EndsRefuted, IsChannelStop, IsFirstStop, IsSpentStop, IsStopOf, IsTracked}
use Rattle.act1_flow.proofs.Assigned.{routed_channels}

-- what the iterator of a vector has given is a front of its elements
pub taken_front : {X A : Type 0} (s : IntoIter X A) (xs : List X) (t : IntoIter X A) → Yields into_iter_steps s xs t → into_iter_items s ≡ xs ++ into_iter_items t
taken_front s [] t y = ap into_iter_items y
taken_front s (x ∷ xs) t y = y.1.0 ∙ ap (λ ys. x ∷ ys) (taken_front y.0 xs t y.2)

-- one channel more has its problem
pub one_problem : (dev : Device) (plan : Plan) (channels : List (List Wiring)) (channel : ℕ) (problems : List Problem) (p : Problem) → AreFirstProblems dev plan channels channel problems
    → IsProblemAt dev plan channels channel p → AreFirstProblems dev plan channels (channel + 1) (problems ++ p ∷ [])
one_problem dev plan channels channel problems p are at = record {
  long = length-append problems (p ∷ []) ∙ ap (λ (n : ℕ). n + 1) are.long;
  each = λ h q there. by h q (get_cases problems p q h there);
}
  where
    by : (h : ℕ) (q : Problem) → (slice_get problems h ≡ Some q) ⊎ ((h ≡ length problems) × (p ≡ q)) → IsProblemAt dev plan channels h q
    by h q (inl e) = are.each h q e
    by h q (inr (e, same)) = subst (λ (r : Problem). IsProblemAt dev plan channels h r) same (subst (λ (n : ℕ). IsProblemAt dev plan channels n p) (sym (e ∙ are.long)) at)

-- the channel of a routed plan has the problem that is made of its connections
pub problem_at : (dev : Device) (plan : Plan) (channels : List (List Wiring)) (channel : ℕ) (p : Problem) → routes dev plan ≡ Ok channels → channel ≤ dev.rows
    → IsProblemOf dev plan.k channel (slice_index_or channels channel []) p → IsProblemAt dev plan channels channel p
problem_at dev plan channels channel p routed low is =
    let within : channel < length channels = omega (arith, routed_channels dev plan channels routed) in
    record { wirings = slice_index_or channels channel []; at = slice_get-get_or channels channel [] within; is = is }

-- the problems of all channels
pub all_problems : (dev : Device) (plan : Plan) (channels : List (List Wiring)) (count : ℕ) (problems : List Problem) → routes dev plan ≡ Ok channels → count ≡ dev.rows + 1 → AreFirstProblems dev plan channels count problems
    → AreProblemsOf dev plan channels problems
all_problems dev plan channels count problems routed all are = record { long = are.long ∙ all ∙ sym (routed_channels dev plan channels routed); each = are.each }

-- they are few
pub all_few : (dev : Device) (plan : Plan) (channels : List (List Wiring)) (problems : List Problem) → IsSmall dev → routes dev plan ≡ Ok channels → AreProblemsOf dev plan channels problems → length problems ≤ 33
all_few dev plan channels problems small routed are = let rows = small.rows in omega (arith, rows, are.long, routed_channels dev plan channels routed)

-- no more channels are decided than there are problems
pub few_verdicts : (problems : List Problem) (budget : ℕ) (s : List Entry) (answers : List Verdict) → AreVerdicts problems (IsVerdict problems budget s) answers → length answers ≤ length problems
few_verdicts problems budget s [] are = omega arith
few_verdicts problems budget s (v ∷ answers) are =
    let (last, at) = get_in (v ∷ answers) (length answers) (omega arith) in
    let is = are.each (length answers) last at in
    let low = get_within problems (length answers) is.p is.there in
    omega (arith, low)

-- the channel that ends the verdicts is one of them
pub ends_within : (verdicts : List Verdict) (channel : ℕ) (log : Log) → EndsAt verdicts channel log → channel < length verdicts
ends_within verdicts channel log (tracks, rest, here, are) =
    omega (arith, here, ap (λ (vs : List Verdict). length vs) are, length-append (map Assigned tracks) (Refuted log ∷ rest), length-map tracks Assigned)

module _ (dev : Device) (plan : Plan) (channels : List (List Wiring)) (settings : Settings) (program : List ℕ) (before after : Bench) (routed : routes dev plan ≡ Ok channels) (problems : List Problem) (are : AreProblemsOf dev plan channels problems) where
  abbrev helping : Helping
  helping = helping_of program before after

  abbrev asking_of : (s : List Entry) (tally : Tally) → WereAsked program problems settings.budget settings.jobs before after s tally → IsAsking dev plan settings helping tally
  asking_of s tally asked = record { channels = channels; routed = routed; problems = problems; are = are; story = s; asked = asked }

  -- the verdicts of all channels, where they are assignments
  tracks_decided : (s : List Entry) (answers : List Verdict) (tracks : List (List ℕ)) → AreVerdicts problems (IsVerdict problems settings.budget s) answers → map Assigned tracks ≡ answers
      → AreAssignedTo problems s settings.budget (dev.rows + 1) tracks
  tracks_decided s answers tracks verdicts same = record { long = sym (length-map tracks Assigned) ∙ ap (λ (vs : List Verdict). length vs) same ∙ whole verdicts.all ∙ are.long ∙ routed_channels dev plan channels routed; each = each }
    where
      never : (c : ℕ) (v : Verdict) → slice_get (map Assigned tracks) c ≡ Some v → IsRefuted v → ⊥
      never c v at refuted = let (t, there, is) = get_mapped Assigned tracks c v at in subst IsRefuted (sym is) refuted

      whole : (length answers ≡ length problems) ⊎ ((c : ℕ) × (v : Verdict) × (slice_get answers c ≡ Some v) × IsRefuted v) → length answers ≡ length problems
      whole (inl e) = e
      whole (inr (c, v, at, refuted)) = absurd (never c v (ap (λ (vs : List Verdict). slice_get vs c) same ∙ at) refuted)

      each : (h : ℕ) (assigned : List ℕ) → slice_get tracks h ≡ Some assigned → (p : Problem) × (slice_get problems h ≡ Some p) × IsDecided problems s settings.budget h p (Ok (Assigned assigned))
      each h assigned there =
          let is = verdicts.each h (Assigned assigned) (ap (λ (vs : List Verdict). slice_get vs h) (sym same) ∙ get_map Assigned tracks h assigned there) in
          (is.p, is.there, is.from)

  pub is_tracked : (outcome : Outcome) (t : Tracked) → Gives program problems settings.budget settings.jobs before after outcome → AreTracksOf outcome t → IsTracked dev plan settings helping t
  is_tracked outcome t gives made = record {
    asking = asking_of gives.s t.tally (subst (WereAsked program problems settings.budget settings.jobs before after gives.s) (sym made.tally) gives.asked);
    decided = tracks_decided gives.s outcome.answers t.tracks gives.verdicts made.tracks;
  }

  -- the channel that ends the verdicts
  pub is_refuted : (outcome : Outcome) (why : ChannelStop) → Gives program problems settings.budget settings.jobs before after outcome → EndsRefuted problems outcome why → IsChannelStop dev plan settings helping why
  is_refuted outcome (channel_stop.Spent channel conflicts tracks connections tally) gives h = absurd h
  is_refuted outcome channel_stop.Memory gives h = tt
  is_refuted outcome (channel_stop.Refuted channel connections log tally) gives ((tracks, rest, here, are_answers), (p, at, count), same) = (
    p,
    record {
      asking = asking_of gives.s tally (subst (WereAsked program problems settings.budget settings.jobs before after gives.s) (sym same) gives.asked);
      before = before_it;
      at = at;
      is = subst (λ (q : Problem). IsDecided problems gives.s settings.budget channel q (Ok (Refuted log))) (one_at problems channel last.p p last.there at) last.from;
    },
    count,
  )
    where
      many : length (map Assigned tracks) ≡ channel
      many = length-map tracks Assigned ∙ sym here

      last : IsVerdict problems settings.budget gives.s channel (Refuted log)
      last = gives.verdicts.each channel (Refuted log) (ap (λ (vs : List Verdict). slice_get vs channel) are_answers ∙ get_behind (map Assigned tracks) (Refuted log ∷ rest) 0 channel (omega (arith, many)))

      before_it : AreAssignedBefore problems gives.s settings.budget channel
      before_it h low =
          let (assigned, there) = get_in tracks h (omega (arith, low, here)) in
          let is = gives.verdicts.each h (Assigned assigned)
          (ap (λ (vs : List Verdict). slice_get vs h) are_answers ∙ get_before (map Assigned tracks) (Refuted log ∷ rest) h (omega (arith, low, many)) ∙ get_map Assigned tracks h assigned there) in
          record { problem = is.p; tracks = assigned; at = is.there; decided = is.from }

  -- what comes of the tracks or of the channel that has none
  pub ok_tracked : (outcome : Outcome) → Gives program problems settings.budget settings.jobs before after outcome → (r : Result Tracked ChannelStop) → IfOk r (AreTracksOf outcome) → IfOk r (IsTracked dev plan settings helping)
  ok_tracked outcome gives (Ok t) made = is_tracked outcome t gives made
  ok_tracked outcome gives (Err why) made = tt

  pub err_tracked : (outcome : Outcome) → Gives program problems settings.budget settings.jobs before after outcome → (r : Result Tracked ChannelStop) → IfErr r (EndsRefuted problems outcome) → IfErr r (IsChannelStop dev plan settings helping)
  err_tracked outcome gives (Ok t) h = tt
  err_tracked outcome gives (Err why) h = is_refuted outcome why gives h

  -- the channel at which the verdicts stop
  assigned_by : (s : List Entry) (h : ℕ) (v : Verdict) → IsVerdict problems settings.budget s h v → (IsRefuted v → ⊥) → IsAssigned problems s settings.budget h
  assigned_by s h (Assigned tracks) is not = record { problem = is.p; tracks = tracks; at = is.there; decided = is.from }
  assigned_by s h (Refuted log) is not = absurd (not tt)

  pub is_spent : (stop : FarmStop) (why : ChannelStop) → Stops program problems settings.budget settings.jobs before after stop → IsSpentStop problems stop why → IsChannelStop dev plan settings helping why
  is_spent (farm.Spent channel conflicts tally) (channel_stop.Refuted same connections log counts) h k = absurd k
  is_spent (farm.Spent channel conflicts tally) channel_stop.Memory h k = absurd k
  is_spent farm.Memory (channel_stop.Refuted channel connections log tally) h k = absurd k
  is_spent farm.Memory (channel_stop.Spent channel conflicts tracks connections tally) h k = absurd k
  is_spent farm.Memory channel_stop.Memory h k = tt
  is_spent (farm.Spent channel conflicts tally) (channel_stop.Spent same number tracks connections counts) (s, asked, spent) (e, f, g, p, at, tracks_are, count) = (
    p,
    subst (λ (n : ℕ). First n number counts) (sym e) (subst (λ (m : ℕ). First channel m counts) (sym f) (subst (First channel conflicts) (sym g) first)),
    tracks_are,
    count,
  )
    where
      First : ℕ → ℕ → Tally → Type 0
      First n m t = IsFirstStop dev plan settings helping n p (Err (search.Spent m)) t

      before_it : AreAssignedBefore problems s settings.budget channel
      before_it h low = let (v, is, assigned) = spent.before h low in assigned_by s h v is (not_refuted v assigned)
        where
          not_refuted : (v : Verdict) → is_assigned.IsAssigned v → IsRefuted v → ⊥
          not_refuted (Assigned tracks) a r = r
          not_refuted (Refuted log) a r = a

      first : First channel conflicts tally
      first = record {
        asking = asking_of s tally asked;
        before = before_it;
        at = at;
        is = (
          subst (λ (q : Problem). NoneCame problems s channel q) (one_at problems channel spent.p p spent.there at) spent.none,
          subst (λ (q : Problem). IsAnswer q settings.budget (Err (search.Spent conflicts))) (one_at problems channel spent.p p spent.there at) spent.answer,
        );
      }

  -- the channel at which the verdicts stop is one of the problems
  pub stops_within : (stop : FarmStop) → Stops program problems settings.budget settings.jobs before after stop → IsStopOf problems stop
  stops_within (farm.Spent channel conflicts tally) (s, asked, spent) = get_within problems channel spent.p spent.there
  stops_within farm.Memory h = tt

  -- what was called
  by_jobs : (jobs : ℕ) → (jobs ≡ 0) ⊎ (0 < jobs)
  by_jobs zero = inl refl
  by_jobs (suc jobs) = inr (omega arith)

  whole_story : (s : List Entry) (tally : Tally) → WereAsked program problems settings.budget settings.jobs before after s tally → 0 < settings.jobs → ChannelsWereAsked dev plan channels settings helping
  whole_story s tally asked some = record {
    problems = problems;
    are = are;
    began = record { s = s; rest = []; story = subst (IsStory program (jobs_of settings.budget (asked_for problems)) settings.jobs) (sym (append-nil s)) (asked.story some); told = asked.told };
  }

  pub calls_given : (outcome : Outcome) → Gives program problems settings.budget settings.jobs before after outcome → (settings.jobs ≡ 0 → after ≡ before) → ChannelCalls dev plan channels settings helping
  calls_given outcome gives none = record { calls = by (by_jobs settings.jobs); none = none }
    where
      by : (settings.jobs ≡ 0) ⊎ (0 < settings.jobs) → (after ≡ before) ⊎ ChannelsWereAsked dev plan channels settings helping
      by (inl e) = inl (none e)
      by (inr some) = inr (whole_story gives.s outcome.tally gives.asked some)

  pub calls_stopped : (stop : FarmStop) → Stops program problems settings.budget settings.jobs before after stop → (settings.jobs ≡ 0 → after ≡ before) → ChannelCalls dev plan channels settings helping
  calls_stopped stop h none = record { calls = by stop h (by_jobs settings.jobs); none = none }
    where
      by : (stop : FarmStop) → Stops program problems settings.budget settings.jobs before after stop → (settings.jobs ≡ 0) ⊎ (0 < settings.jobs) → (after ≡ before) ⊎ ChannelsWereAsked dev plan channels settings helping
      by (farm.Spent channel conflicts tally) h (inl e) = inl (none e)
      by farm.Memory h (inl e) = inl (none e)
      by (farm.Spent channel conflicts tally) (s, asked, spent) (inr some) = inr (whole_story s tally asked some)
      by farm.Memory began (inr some) = inr (record { problems = problems; are = are; began = began some })
