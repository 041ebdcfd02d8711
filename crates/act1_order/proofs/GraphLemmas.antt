-- The reads of a vertex.
use Rattle.std.proofs.Common.{ℕ, ◌≡◌, ◌<◌, List, [], length, get_or, Some, sym, ap, subst, ◌∙◌}
use Rattle.std.specs.Prelude.{slice_get, slice_index_or, All}
use Rattle.std.proofs.lemmas.Option.{get_or_from_slice_get, slice_get-get_or}
use Rattle.act1_order.specs.Order.{AreReads}
use Rattle.act1_base.proofs.ListGets.{contains_at, get_read}

-- the reads of a vertex, as they are read from the graph
pub own_reads : (reads : List (List ℕ)) (v i : ℕ) (x y : List ℕ) → i ≡ v → v < length reads → x ≡ get_or reads i x → y ≡ x → slice_index_or reads v [] ≡ y
own_reads reads v i x y e low is same =
    get_or_from_slice_get reads v x [] (get_read reads v x low (is ∙ ap (λ (k : ℕ). get_or reads k x) e)) ∙ sym same

pub reads_inside : (reads : List (List ℕ)) → AreReads reads → (v k w : ℕ) → slice_get (slice_index_or reads v []) k ≡ Some w → w < length reads
reads_inside reads inside v k w is = inside v w (contains_at (slice_index_or reads v []) k w is)

pub all_inside : (reads : List (List ℕ)) → AreReads reads → (v : ℕ) (own : List ℕ) → own ≡ slice_index_or reads v [] → All (λ w. w < length reads) own
all_inside reads inside v own e = λ k d low.
    let there = slice_get-get_or own k d low in
    reads_inside reads inside v k (get_or own k d) (subst (λ (xs : List ℕ). slice_get xs k ≡ Some (get_or own k d)) e there)
