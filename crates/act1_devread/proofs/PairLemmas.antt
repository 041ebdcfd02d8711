-- Pairs are lists of two.
use Rattle.std.proofs.Common.{◌≡◌, ◌≢◌, List, [], ◌∷◌, length, Some, None, refl}
use Rattle.toml.specs.declared.value.Value.{Value}
use Rattle.toml.specs.Data.{Data, array, integer, string, float, boolean, datetime, table, as_array}
use Rattle.toml.specs.View.{items_view}
use Rattle.act1_devread.specs.Document.{pair_items, pair_of}

no_pair_items : (vs : List Value) → length vs ≢ 2 → pair_items (items_view vs) ≡ None
no_pair_items [] h = refl
no_pair_items (v ∷ []) h = refl
no_pair_items (v ∷ w ∷ []) h = absurd (h refl)
no_pair_items (v ∷ w ∷ x ∷ vs) h = refl

pub no_pair : (d : Data) (vs : List Value) → as_array d ≡ Some (items_view vs) → length vs ≢ 2 → None ≡ pair_of d
no_pair (array ds) vs is h = let same : ds ≡ items_view vs = cc in rw (same, no_pair_items vs h)
no_pair (string s) vs is h = refl
no_pair (integer s) vs is h = refl
no_pair (float s) vs is h = refl
no_pair (boolean s) vs is h = refl
no_pair (datetime s) vs is h = refl
no_pair (table s) vs is h = refl
