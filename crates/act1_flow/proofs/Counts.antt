-- The net that is mapped, and its least count.
use Rattle.std.proofs.Common.{ℕ, ◌≡◌, ◌≤◌, ◌<◌, ◌+◌, ◌*◌, min, Bool, true, List, [], Option, Some, inr, refl, sym, ap, subst, ◌∙◌, length, arith, slice_get, append-nil}
use Rattle.std.specs.Prelude.{replicate}
use Rattle.std.proofs.lemmas.List.{length-replicate}
use Rattle.std.proofs.lemmas.Nat.{mul-le}
use Rattle.act1_device.specs.declared.device.Device.{Device}
use Rattle.act1_device.specs.Laws.{IsSmall}
use Rattle.act1_blif.specs.declared.blif.Blif.{Blif}
use Rattle.act1_blif.specs.Need.{need}
use Rattle.act1_base.proofs.ListGets.{get_map, get_within}
use Rattle.act1_net.specs.declared.net.Net.{Net}
use Rattle.act1_net.specs.declared.net.NetTerm.{NetTerm}
use Rattle.act1_net.specs.declared.net.NetTerm.TheVariants as term
use Rattle.act1_net.specs.Net.{IsCleanOf, IsPlainOf, place_in}
use Rattle.act1_net.proofs.Chosen.{place_first}
use Rattle.act1_map.specs.Least.{IsLeast}
use Rattle.act1_flow.specs.Realizes.{IsFew}
use Rattle.act1_flow.specs.declared.mapping.Counted.{Counted}
use Rattle.act1_flow.specs.Flow.{IsFull}
use Rattle.act1_flow.specs.Steps.{IsCounted}

-- where all are kept each keeps its place
place_all : (n k : ℕ) → k < n → place_in (replicate n true) k ≡ k
place_all n k low = ap (λ (marks : List Bool). place_in marks k) (sym (append-nil (replicate n true))) ∙ place_first n [] k low

-- so many modules are few where the count of the netlist is no less
pub few_by : (b : Blif) (count whole : ℕ) → IsLeast b whole → whole ≤ need b → count ≤ whole → IsFew b count
few_by b count whole is needed low = record { least = whole; is = is; few = low; needed = needed }

pub cleaned_counted : (b : Blif) (kept : List Bool) (net : Net) (count whole : ℕ) → IsCleanOf b kept net → IsLeast net.blif count → IsLeast b whole → whole ≤ need b → count ≤ whole
    → IsCounted b (record { net = net; count = count })
cleaned_counted b kept net count whole clean least is needed low = record { kept = kept; is = clean.is_net; own = record { inputs = clean.own_inputs; latches = clean.own_latches }; least = least; few = few_by b count whole is needed low }

pub whole_counted : (b : Blif) (net : Net) (whole : ℕ) → IsPlainOf b net → IsLeast b whole → whole ≤ need b → IsCounted b (record { net = net; count = whole })
whole_counted b net whole plain is needed = record {
  kept = replicate (length b.latches) true;
  is = plain.is_net;
  own = record { inputs = λ o i e low. same o i e; latches = λ o k e all. plain_latch o k e (get_within (replicate (length b.latches) true) k true all) };
  least = subst (λ (x : Blif). IsLeast x whole) (sym plain.blif) is;
  few = few_by b whole whole is needed (omega arith);
}
  where
    same : (o s : ℕ) → slice_get b.outputs o ≡ Some s → slice_get net.outputs o ≡ Some (term.Signal s)
    same o s e = ap (λ (terms : List NetTerm). slice_get terms o) plain.outputs ∙ get_map term.Signal b.outputs o s e

    plain_latch : (o k : ℕ) → slice_get b.outputs o ≡ Some (length b.inputs + k) → k < length (replicate (length b.latches) true) → slice_get net.outputs o ≡ Some (term.Signal (length b.inputs + place_in (replicate (length b.latches) true) k))
    plain_latch o k e low =
        same o (length b.inputs + k) e ∙ ap (λ (n : ℕ). let t : Option NetTerm = Some (term.Signal (length b.inputs + n)) in t) (sym (place_all (length b.latches) k (omega (arith, low, length-replicate (length b.latches) true))))

-- a count that no circuit can number is more than any device has sites
pub too_many : (dev : Device) (b : Blif) (counted : Counted) → IsSmall dev → IsCounted b counted → 65535 < counted.count → IsFull dev b (min counted.count 4294967295) (dev.rows * dev.columns)
too_many dev b counted small is more =
    let sites = mul-le dev.rows dev.columns 32 64 small.rows small.columns in
    let low : dev.rows * dev.columns ≤ 2048 = omega (arith, sites) in
    record { count = counted.count; few = is.few; of = inr (more, is.kept, counted.net, is.is, is.least); needed_is = refl; have_is = refl; more = omega (arith, low, more) }
