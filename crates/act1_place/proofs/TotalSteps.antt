-- The sum over all nets, net by net.
use Rattle.std.proofs.Common.{ℕ, ◌≡◌, ◌+◌, ◌<◌, List, [], ◌∷◌, ◌++◌, length, take, get_or, sym, ap, ◌∙◌, arith}
use Rattle.std.specs.Prelude.{sum_by}
use Rattle.std.proofs.lemmas.List.{take_more}
use Rattle.std.proofs.lemmas.List.Sums.{sum_by-append, sum_by-cons}
use Rattle.act1_circuit.specs.declared.circuit.Spot.{Spot}
use Rattle.act1_place.specs.declared.net.Joins.{Joins}
use Rattle.act1_place.specs.Kept.{net_sum, kept_total}

-- one net more
pub total_next : (nets : List Joins) (spots : List Spot) (i total hp : ℕ) (net : Joins) → i < length nets → net ≡ get_or nets i net → hp ≡ net_sum spots net → total ≡ kept_total (take i nets) spots
    → total + hp ≡ kept_total (take (i + 1) nets) spots
total_next nets spots i total hp net low is h e =
    let f : Joins → ℕ = net_sum spots in
    let more : take (i + 1) nets ≡ take i nets ++ net ∷ [] = take_more nets i net low ∙ ap (λ (x : Joins). take i nets ++ x ∷ []) (sym is) in
    let sum : sum_by f (take (i + 1) nets) ≡ sum_by f (take i nets) + sum_by f (net ∷ []) = ap (sum_by f) more ∙ sum_by-append f (take i nets) (net ∷ []) in
    omega (arith, e, sum, sum_by-cons f net [], h)
