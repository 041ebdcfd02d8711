-- Forks that were seen, with each fork its parts: as many as there are of a diagram, or more.
use Rattle.std.proofs.Common.{ℕ, ◌≡◌, ◌<◌, ◌≤◌, ◌⊎◌, List, [], length, sym, ◌∙◌, inl, inr, arith, subst}
use Rattle.std.specs.Prelude.{slice_get, Some, Contains}
use Rattle.act1_dd.specs.declared.refs.Ref.{Ref}
use Rattle.act1_dd.specs.declared.refs.Ref.TheVariants.{Node}
use Rattle.act1_dd.specs.declared.refs.Branch.{Branch}
use Rattle.act1_dd.specs.Forks.{HasMoreForks}
use Rattle.act1_dd.specs.Diagram.{value_at, IsRef, IsReduced, Keeps}
use Rattle.act1_dd.specs.Steps.{with_found, AreSeen, IsListed}
use Rattle.act1_base.proofs.ListGets.{one_at, get_in, get_within, contains_at, place_of}
use Rattle.act1_dd.proofs.ForkCounts.{at_most}
use Rattle.act1_dd.proofs.Walks.{IsShown, IsWith, is_with, still_listed}

-- nothing was seen
pub none_seen : (forks : List Branch) → AreSeen forks []
none_seen forks = record { within = λ k c. absurd (omega (arith, c.1)); closed = λ k b c at. absurd (omega (arith, c.1)) }

-- what was seen stays so where forks are added
pub still_seen : (old new : List Branch) → Keeps old new → (found : List ℕ) → AreSeen old found → AreSeen new found
still_seen old new keeps found s = record {
  within = λ k c. keeps.refs (Node k) (s.within k c);
  closed = λ k b c at. by k b c at (get_in old k (s.within k c));
}
  where
    by : (k : ℕ) (b : Branch) → Contains found k → slice_get new k ≡ Some b → (d : Branch) × (slice_get old k ≡ Some d) → IsListed found b.low × IsListed found b.high
    by k b c at (d, there) = subst (λ (e : Branch). IsListed found e.low × IsListed found e.high) (one_at new k d b (keeps.branches k d there) at) (s.closed k d c there)

-- each listed number is one of a fork
abbrev pub AreWithin : List Branch → List ℕ → Type 0
AreWithin forks found = (i k : ℕ) → slice_get found i ≡ Some k → k < length forks

pub within_seen : (forks : List Branch) (found : List ℕ) → AreSeen forks found → AreWithin forks found
within_seen forks found s = λ i k at. s.within k (contains_at found i k at)

pub within_more : (forks : List Branch) (found : List ℕ) (r : Ref) → IsRef forks r → AreWithin forks found → AreWithin forks (with_found found r)
within_more forks found r ref within = λ i k at. by i k ((is_with found r).cases i k at)
  where
    by : (i k : ℕ) → (slice_get found i ≡ Some k) ⊎ ((i ≡ length found) × (r ≡ Node k) × (Contains found k → ⊥)) → k < length forks
    by i k (inl old) = within i k old
    by i k (inr (last, is, fresh)) = subst (λ (s : Ref). IsRef forks s) is ref

-- a walk begins behind what was seen
pub seeing_begins : (forks : List Branch) (f : Ref) (found : List ℕ) → AreSeen forks found → IsShown forks f (with_found found f) (length found)
seeing_begins forks f found s = record { begun = with_f.listed; few = with_f.longer; shown = λ i k b low at there. shown i k b at there (get_in found i low) }
  where
    with_f : IsWith found f (with_found found f)
    with_f = is_with found f

    shown : (i k : ℕ) (b : Branch) → slice_get (with_found found f) i ≡ Some k → slice_get forks k ≡ Some b → (j : ℕ) × (slice_get found i ≡ Some j) → IsListed (with_found found f) b.low × IsListed (with_found found f) b.high
    shown i k b at there (j, was) =
        let parts = s.closed k b (contains_at found i k (was ∙ sym (with_f.kept i j was) ∙ at)) there in
        (still_listed found (with_found found f) f with_f b.low parts.0, still_listed found (with_found found f) f with_f b.high parts.1)

-- a walk that has ended has seen all
pub all_seen : (forks : List Branch) (f : Ref) (found : List ℕ) (next : ℕ) → IsShown forks f found next → AreWithin forks found → length found ≤ next → AreSeen forks found
all_seen forks f found next w within ended = record {
  within = λ k c. let p = place_of found k c in within p.0 k p.1;
  closed = λ k b c at. let p = place_of found k c in let low = get_within found p.0 k p.1 in w.shown p.0 k b (omega arith) p.1 at;
}

-- and where that is within the limit, the diagram is
pub seen_is_few : (forks : List Branch) → IsReduced forks → (f : Ref) (found : List ℕ) → IsRef forks f → AreSeen forks found → IsListed found f → (limit : ℕ) → length found ≤ limit → HasMoreForks (value_at forks f) limit → ⊥
seen_is_few forks h f found ref s begun limit few = at_most forks h f found s.closed ref begun limit few
