-- The loop that finds the channels with connections.
use Rattle.std.proofs.Common.{ℕ, suc, zero, ◌≡◌, ◌<◌, ◌≤◌, ◌+◌, ◌⊎◌, inl, inr, Bool, true, false, List, [], ◌∷◌, ◌++◌, length, take, Some, refl, sym, ap, subst, ◌∙◌, arith, add-one}
use Rattle.std.specs.Prelude.{slice_get}
use Rattle.std.proofs.lemmas.List.{length-append}
use Rattle.std.proofs.lemmas.Bool.{true≢false}
use Rattle.act1_base.proofs.ListGets.{get_cases}
use Rattle.act1_channel.specs.declared.problem.Problem.{Problem}
use Rattle.act1_farm.specs.Story.{has_connections, asked_for}
use Rattle.act1_farm.specs.Steps.{AreChannels}
use Rattle.act1_farm.specs.Deciding.{AreChannelsUpTo}
use Rattle.act1_farm.proofs.ChannelVerdicts.{place_at, places_more}

pub no_channels : (problems : List Problem) → AreChannelsUpTo problems 0 []
no_channels problems = record { each = none problems; there = λ i c h. cc; within = λ i c h. cc }
  where
    none : (ps : List Problem) → 0 ≡ length (asked_for (take 0 ps))
    none [] = refl
    none (q ∷ ps) = refl

take_all : (problems : List Problem) (n : ℕ) → n ≡ length problems → take n problems ≡ problems
take_all [] zero e = refl
take_all [] (suc n) e = absurd (omega (arith, e))
take_all (p ∷ ps) zero e = absurd (omega (arith, e))
take_all (p ∷ ps) (suc n) e = ap (λ (l : List Problem). p ∷ l) (take_all ps n (omega (arith, e)))

pub all_channels : (problems : List Problem) (n : ℕ) (channels : List ℕ) → n ≡ length problems → AreChannelsUpTo problems n channels → AreChannels problems channels
all_channels problems n channels e a = record { each = a.each ∙ ap (λ (ps : List Problem). length (asked_for ps)) (take_all problems n e); there = a.there; within = λ i c h. let l = a.within i c h in omega (arith, e) }

module _ (problems : List Problem) (n : ℕ) (channels : List ℕ) (a : AreChannelsUpTo problems n channels) (p : Problem) (at : slice_get problems n ≡ Some p) where
  pub channel_more : has_connections p ≡ true → AreChannelsUpTo problems (n + 1) (channels ++ n ∷ [])
  channel_more has = record {
    each = (let more = places_more problems n p 1 at (λ t. refl) (λ f. absurd (true≢false (sym has ∙ f))) in let l = length-append channels (n ∷ []) in let e = a.each in rw add-one (omega arith));
    there = λ i c h. by i c (get_cases channels n c i h);
    within = λ i c h. low i c (get_cases channels n c i h);
  }
    where
      by : (i c : ℕ) → (slice_get channels i ≡ Some c) ⊎ ((i ≡ length channels) × (n ≡ c)) → slice_get problems c ≡ slice_get (asked_for problems) i
      by i c (inl h) = a.there i c h
      by i c (inr h) = ap (λ (k : ℕ). slice_get problems k) (sym h.1) ∙ at ∙ sym (ap (λ (k : ℕ). slice_get (asked_for problems) k) (h.0 ∙ a.each) ∙ place_at problems n p at has)

      low : (i c : ℕ) → (slice_get channels i ≡ Some c) ⊎ ((i ≡ length channels) × (n ≡ c)) → c < n + 1
      low i c (inl h) = let l = a.within i c h in omega arith
      low i c (inr h) = let e = h.1 in omega arith

  pub channel_skipped : has_connections p ≡ false → AreChannelsUpTo problems (n + 1) channels
  channel_skipped none = record {
    each = (let more = places_more problems n p 0 at (λ t. absurd (true≢false (sym t ∙ none))) (λ f. refl) in let e = a.each in rw add-one (omega arith));
    there = a.there;
    within = λ i c h. let l = a.within i c h in omega arith;
  }

  pub channel_either : (b : Bool) → has_connections p ≡ b → (new : List ℕ) → (has_connections p ≡ true → new ≡ channels ++ n ∷ []) → (has_connections p ≡ false → new ≡ channels) → AreChannelsUpTo problems (n + 1) new
  channel_either true e new one none = subst (λ (l : List ℕ). AreChannelsUpTo problems (n + 1) l) (sym (one e)) (channel_more e)
  channel_either false e new one none = subst (λ (l : List ℕ). AreChannelsUpTo problems (n + 1) l) (sym (none e)) (channel_skipped e)

pub fewer_asked : (problems : List Problem) → length (asked_for problems) ≤ length problems
fewer_asked [] = omega arith
fewer_asked (p ∷ ps) = by (fewer_asked ps) (has_connections p) refl
  where
    by : length (asked_for ps) ≤ length ps → (b : Bool) → has_connections p ≡ b → length (asked_for (p ∷ ps)) ≤ length (p ∷ ps)
    by h true e = rw e (omega arith)
    by h false e = rw e (omega arith)

pub few_channels : (problems : List Problem) (channels : List ℕ) → AreChannels problems channels → length problems ≤ 65535 → length channels ≤ 65535
few_channels problems channels a few = let f = fewer_asked problems in let e = a.each in omega arith
