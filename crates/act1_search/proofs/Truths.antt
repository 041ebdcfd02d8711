-- The fact about a choice among entries, where it was found.
use Rattle.std.proofs.Common.{suc, ◌≡◌, ◌≢◌, ◌⊎◌, is_some, true≢false, Bool, false, true, Option, Some, None, List, [], ◌∷◌, refl, sym, ◌∙◌, inl, inr}
use Rattle.std.proofs.lemmas.Option.{none-some}
use Rattle.act1_base.proofs.ListGets.{some_is}
use Rattle.act1_channel.proofs.Facts.{same_choice, fact_from}
use Rattle.act1_channel.proofs.Truths.{truth_first, truth_later, truth_nothing}
pub use Rattle.act1_channel.proofs.Truths.{found_truth, truth_none, truth_other, truth_own}
use Rattle.act1_channel.specs.declared.problem.Choice.{Choice}
use Rattle.act1_channel.specs.declared.trail.Entry.{Entry}
use Rattle.act1_channel.specs.Found.{truth_in, fact_of}
use Rattle.act1_search.specs.Trail.{HasFound}

-- a fact about a choice was found
pub truth_found : (xs : List Entry) (c : Choice) (b : Bool) → truth_in xs c ≡ Some b → HasFound xs (record { choice = c; truth = b })
truth_found [] c b h = absurd (none-some b (sym (truth_nothing c) ∙ h))
truth_found (x ∷ xs) c b h = from (λ k. truth_found xs c b k) (same_choice x.choice c)
  where
    from : (truth_in xs c ≡ Some b → HasFound xs (record { choice = c; truth = b })) → (x.choice ≡ c) ⊎ (x.choice ≢ c) → HasFound (x ∷ xs) (record { choice = c; truth = b })
    from rest (inl same) = (0, x, refl, fact_from (fact_of x) (record { choice = c; truth = b }) same (some_is x.truth b (sym (truth_first x xs c same) ∙ h)))
    from rest (inr apart) = let r = rest (sym (truth_later x xs c apart) ∙ h) in (suc r.0, r.1, r.2, r.3)

pub none_of : (o : Option Bool) → is_some o ≡ false → o ≡ None
none_of None e = refl
none_of (Some b) e = absurd (true≢false e)

pub some_of : (o : Option Bool) → is_some o ≡ true → (b : Bool) × (o ≡ Some b)
some_of None e = absurd (true≢false (sym e))
some_of (Some b) e = (b, refl)
