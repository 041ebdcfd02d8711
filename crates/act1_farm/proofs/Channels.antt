-- What is asked for as one number has one channel.
use Rattle.std.proofs.Common.{ℕ, suc, zero, ◌≡◌, ◌<◌, ◌≤◌, ◌⊎◌, inl, inr, Bool, true, false, List, [], ◌∷◌, length, take, refl, sym, ◌∙◌, arith}
use Rattle.std.proofs.lemmas.Bool.{cases_lt, true≢false}
use Rattle.act1_channel.specs.declared.problem.Problem.{Problem}
use Rattle.act1_farm.specs.Story.{has_connections, asked_for}
use Rattle.act1_farm.specs.Events.{IsChannelOf}
use Rattle.act1_farm.proofs.ChannelVerdicts.{places_more}

grows : (problems : List Problem) (c d : ℕ) → c ≤ d → length (asked_for (take c problems)) ≤ length (asked_for (take d problems))
grows [] zero d l = omega arith
grows [] (suc c) zero l = absurd (omega arith)
grows [] (suc c) (suc d) l = omega arith
grows (q ∷ ps) zero d l = omega arith
grows (q ∷ ps) (suc c) zero l = absurd (omega arith)
grows (q ∷ ps) (suc c) (suc d) l = by (grows ps c d (omega arith)) (has_connections q) refl
  where
    by : length (asked_for (take c ps)) ≤ length (asked_for (take d ps)) → (b : Bool) → has_connections q ≡ b → length (asked_for (take (suc c) (q ∷ ps))) ≤ length (asked_for (take (suc d) (q ∷ ps)))
    by h true e = rw e (omega arith)
    by h false e = rw e h

later_is_more : (problems : List Problem) (i c d : ℕ) (p q : Problem) → IsChannelOf problems i c p → IsChannelOf problems i d q → c < d → ⊥
later_is_more problems i c d p q a b l =
    let has : has_connections p ≡ true = a.asked in
    let more = places_more problems c p 1 a.there (λ t. refl) (λ f. absurd (true≢false (sym has ∙ f))) in
    let up = grows problems (suc c) d (omega arith) in
    let x = a.place in
    let y = b.place in
    absurd (omega arith)

pub one_channel : (problems : List Problem) (i c d : ℕ) (p q : Problem) → IsChannelOf problems i c p → IsChannelOf problems i d q → c ≡ d
one_channel problems i c d p q a b = by (cases_lt c d) (cases_lt d c)
  where
    by : (c < d) ⊎ (d ≤ c) → (d < c) ⊎ (c ≤ d) → c ≡ d
    by (inl l) m = absurd (later_is_more problems i c d p q a b l)
    by (inr l) (inl m) = absurd (later_is_more problems i d c q p b a m)
    by (inr l) (inr m) = omega arith
